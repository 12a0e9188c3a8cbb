use Rattle.std.proofs.Common.{◌≡◌, ℕ, take}
use Rattle.std.specs.Prelude.{◌==◌, ◌||◌}
use Rattle.std.specs.List.{list_any}
use Rattle.merge_order.specs.Waits.{is_ready}
use Rattle.merge_order.proofs.ready_vats.ReadyVats.add_all.Given as goal

abbrev pub invariant-loop-vat : goal.invariant-loop-vat
invariant-loop-vat l = (vat : ℕ) → is_ready l.self vat ≡ (is_ready l.fn.self vat || list_any (λ other. other == vat) (take l.vat-index l.vats))
