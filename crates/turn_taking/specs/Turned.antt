-- The turns of a case, while an order fits and once none does.
use Rattle.std.specs.Prelude.{ℕ, Bool, true, ◌∷◌, if◌then◌else◌}
use Rattle.vat_log.specs.declared.body.Body.{Body}
use Rattle.turn_taking.specs.Turns.{Turns, may_follow}

-- the turns that were taken in order, all turns, and whether no order fits any more, so that the rest is taken as it comes
pub record Taken : Type 0 where
  pub in_order : Turns
  pub all : Turns
  pub is_stuck : Bool

-- with one more turn
abbrev pub with_turn : ℕ × Body → Taken → Taken
with_turn turn taken = record {
  in_order = if taken.is_stuck then taken.in_order else turn ∷ taken.in_order;
  all = turn ∷ taken.all;
  is_stuck = taken.is_stuck;
}

-- no order fits from here on
abbrev pub given_up : Taken → Taken
given_up taken = record taken { is_stuck = true }

-- a record may come next of a vat: any, once no order fits
abbrev pub may_be_next : Taken → ℕ → Body → Bool
may_be_next taken v body = if taken.is_stuck then true else may_follow taken.in_order v body
