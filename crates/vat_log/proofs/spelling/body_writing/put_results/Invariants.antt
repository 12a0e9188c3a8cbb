use Rattle.std.proofs.Common.{◌≡◌, ◌++◌, ◌<◌, ◌^◌, length, take, All}
use Rattle.std.specs.Int.{w32}
use Rattle.std.specs.List.{flat_map}
use Rattle.vat_log.specs.Log.{written_version}
use Rattle.vat_log.specs.Spelling.{number_bytes, answered_bytes}
use Rattle.vat_log.proofs.spelling.body_writing.put_results.Given as goal

abbrev pub invariant-loop-answered : goal.invariant-loop-answered
invariant-loop-answered l = record {
  so_far : l.out.items ≡ l.fn.out.items ++ (number_bytes w32 (length l.results) ++ flat_map (answered_bytes written_version) (take l.answered-index l.results));
  wide : All (λ answered. (answered.0 < 2 ^ 64) × All (λ field. field < 2 ^ 16) answered.1) (take l.answered-index l.results);
}
