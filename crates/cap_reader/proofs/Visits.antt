-- A visit of a struct: what it answers and what it costs.
use Rattle.std.proofs.Common.{◌≡◌, ℕ, zero, suc, ◌+◌, ◌-◌, ◌<◌, ◌≤◌, true, false, List, Some, Ok, Err, refl, arith}
use Rattle.std.specs.Prelude.{max, nat_lt}
use Rattle.std.proofs.lemmas.Bool.{lt-ltb, le-ltb}
use Rattle.cap_reader.specs.declared.place.StructAt.{StructAt}
use Rattle.cap_reader.specs.declared.read_error.ReadError.TheVariants.{TooDeep, TooMuch}
use Rattle.cap_reader.specs.Tree.{structure_at}
use Rattle.cap_reader.specs.Reading.{run, pay_for, structure_in, cost_of}
use Rattle.cap_reader.specs.Places.{sections_at}

pub visit_deep : (depth words segment start data_words pointer_count : ℕ) → depth ≡ 0 → (segments : List (List ℕ))
    → run (structure_in (structure_at depth segments segment start data_words pointer_count)) words ≡ (Err TooDeep, words)
unfolding structure_at pay_for
visit_deep zero words segment start data_words pointer_count e segments = refl
visit_deep (suc depth) words segment start data_words pointer_count e segments = absurd (omega arith)

pub visit_refused : (depth words cost segment start data_words pointer_count : ℕ) → 0 < depth → cost ≡ cost_of (data_words + pointer_count) → words < cost → (segments : List (List ℕ))
    → run (structure_in (structure_at depth segments segment start data_words pointer_count)) words ≡ (Err TooMuch, words)
unfolding structure_at pay_for
visit_refused zero words cost segment start data_words pointer_count some e lt segments = absurd (omega arith)
visit_refused (suc depth) words cost segment start data_words pointer_count some e lt segments =
    let test : nat_lt words (max (data_words + pointer_count) 1) ≡ true = rw (← e) (lt-ltb words cost lt) in rw test refl

pub visit_paid : (depth words cost : ℕ) (place : StructAt) → 0 < depth → place.below ≡ depth - 1 → cost ≡ cost_of (place.data_words + place.pointer_count) → cost ≤ words → (segments : List (List ℕ))
    → run (structure_in (structure_at depth segments place.segment place.start place.data_words place.pointer_count)) words ≡ (Ok (Some (sections_at segments place)), words - cost)
unfolding structure_at pay_for
visit_paid zero words cost place some below e le segments = absurd (omega arith)
visit_paid (suc depth) words cost place some below e le segments =
    let test : nat_lt words (max (place.data_words + place.pointer_count) 1) ≡ false = rw (← e) (le-ltb words cost le) in
    let here : place.below ≡ depth = omega arith in
    rw (test, ← e, here) refl
