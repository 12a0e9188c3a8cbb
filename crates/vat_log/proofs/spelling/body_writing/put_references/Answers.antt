use Rattle.std.proofs.Common.{length}
use Rattle.std.specs.Int.{w32, w64}
use Rattle.vat_log.specs.Spelling.{number_bytes}
use Rattle.vat_log.proofs.Loop.{spelled_next}
use Rattle.vat_log.proofs.spelling.body_writing.put_references.Goals as goal

pub loop-reference-preserved : goal.loop-reference-preserved
loop-reference-preserved c =
    spelled_next (number_bytes w64) c.args.references.now c.loop-reference.reference-index c.args.out.now.items (number_bytes w32 (length c.args.references.now)) c.loop-reference.out.items
    c.put_u64.new.out.items c.loop-reference-test.true c.loop-reference.invariant c.in_ok-put_u64.ensures
