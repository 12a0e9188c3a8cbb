-- A case while the records of its logs are taken.
use Rattle.std.specs.Prelude.{ℕ, List, ◌∷◌, Bool, true, false, count_by, if◌then◌else◌}
use Rattle.vat_log.specs.declared.body.Body.{Body}
use Rattle.vat_log.specs.declared.body.Body.TheVariants.{Deliver}
use Rattle.turn_taking.specs.Turns.{Turns}
use Rattle.case_book.specs.declared.link.Link.{Link}
use Rattle.turn_taking.specs.Turned as pass

-- the links of a case, the turns that were taken in order, all turns, and whether no order fits any more, so that the rest is
-- taken as it comes
pub record Taken : Type 0 where
  pub links : List Link
  pub in_order : Turns
  pub all : Turns
  pub is_stuck : Bool

-- its turns alone
abbrev pub turned : Taken → pass.Taken
turned taken = record { in_order = taken.in_order; all = taken.all; is_stuck = taken.is_stuck }

-- with one more turn, in order unless no order fits
abbrev pub case_with_turn : ℕ × Body → Taken → Taken
case_with_turn turn taken = record taken {
  in_order = if taken.is_stuck then taken.in_order else turn ∷ taken.in_order;
  all = turn ∷ taken.all;
}

-- a record delivers a call
abbrev pub passes_delivery : Body → Bool
passes_delivery (Deliver call object) = true
passes_delivery _ = false

-- how many turns have a record that passes a test
abbrev pub count_turns : (Body → Bool) → Turns → ℕ
count_turns test turns = count_by (λ turn. test turn.1) turns
