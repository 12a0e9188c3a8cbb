use Rattle.std.proofs.Common.{◌≡◌, ℕ, drop}
use Rattle.std.specs.Prelude.{◌||◌, is_some}
use Rattle.merge_order.specs.Fits.{part_of}
use Rattle.merge_order.specs.Waits.{is_ready}
use Rattle.merge_order.proofs.order_progress.Progress.vats.Given as goal

abbrev pub invariant-loop-cursor : goal.invariant-loop-cursor
invariant-loop-cursor l = (vat : ℕ) → is_some (part_of vat l.self) ≡ (is_ready l.ready vat || is_some (part_of vat (drop l.cursor-index l.self)))
