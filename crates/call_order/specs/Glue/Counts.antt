-- For the code's contracts, and no part of the meaning: the table of how many records each vat took.
use Rattle.std.specs.BTreeMap.{get}
use Rattle.std.specs.Ordering.{nat_cmp}
use Rattle.std.specs.Prelude.{◌==◌, ℕ, count_by, unwrap_or}
use Rattle.call_order.specs.declared.taken_counts.TakenCounts.{TakenCounts}
use Rattle.turn_taking.specs.Turns.{Turns}

-- how many records a vat took, by the table
abbrev pub taken_count : TakenCounts → ℕ → ℕ
taken_count counts v = unwrap_or (get nat_cmp counts.vats v) 0

-- how many of these turns are a vat's
abbrev pub turns_counted : ℕ → Turns → ℕ
turns_counted v turns = count_by (λ turn. turn.0 == v) turns
