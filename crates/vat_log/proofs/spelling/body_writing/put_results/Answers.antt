use Rattle.std.proofs.Common.{◌<◌, ◌^◌, length, All}
use Rattle.std.specs.Int.{w32}
use Rattle.vat_log.specs.Log.{written_version}
use Rattle.vat_log.specs.Spelling.{number_bytes, answered_bytes}
use Rattle.vat_log.proofs.Loop.{All-more, spelled_more}
use Rattle.vat_log.proofs.spelling.body_writing.put_results.Goals as goal

pub loop-answered-preserved : goal.loop-answered-preserved
loop-answered-preserved c = record {
  so_far = spelled_more (answered_bytes written_version) c.args.results.now c.loop-answered.answered-index c.answered-item.result c.args.out.now.items (number_bytes w32 (length c.args.results.now)) c.loop-answered.out.items c.put_answered.new.out.items c.loop-answered-test.true c.answered-item.is c.loop-answered.invariant.so_far c.in_ok-put_answered.ensures.ok;
  wide = All-more (λ answered. (answered.0 < 2 ^ 64) × All (λ field. field < 2 ^ 16) answered.1) c.args.results.now c.loop-answered.answered-index c.answered-item.result c.loop-answered-test.true c.answered-item.is c.loop-answered.invariant.wide c.in_ok-put_answered.ensures.wide;
}
