-- Turns only grow.
use Rattle.std.proofs.Common.{◌≡◌, ℕ, refl, sym, ◌∙◌, subst, List, [], ◌∷◌, ◌++◌, Option, Some, None, ap, Bool, true, false, if◌then◌else◌}
use Rattle.std.specs.Prelude.{unwrap_or, IsSome}
use Rattle.std.specs.Option.{option_or}
use Rattle.vat_view.specs.Types.{DecodedRecord, Fulfil, Break, View, Object, Promise, FieldOf, Import}
use Rattle.decoded_records.specs.Views.{view_of_reference}
use Rattle.std.proofs.lemmas.Bool.{false≢true, eqb-true}
use Rattle.decoded_records.specs.Past.{Past, last_answer}
use Rattle.vat_view.specs.Laws.{EachAfter}
use Rattle.vat_view.specs.Walks.{Next, turns, stops, stays, turn, next, TurnsOnce, Leads, here, onward, LeadsByTurns, turned, IsEnd, is_promise}

turns_not_stays : {b : View} → turns b ≡ stays → ⊥
turns_not_stays e = cc

stops_not_stays : stops ≡ stays → ⊥
stops_not_stays e = cc

turns_same : {b c : View} → turns b ≡ turns c → b ≡ c
turns_same e = cc

-- a record that turned the view would find that it stays
unturned : (now before : Option Next) (n : Next) → (IsSome now → unwrap_or before stays ≡ stays) → unwrap_or before stays ≡ n → (n ≡ stays → ⊥) →
    unwrap_or (option_or now before) stays ≡ n
unturned None before n once e moved = e
unturned (Some x) before n once e moved = absurd (moved (sym e ∙ once refl))

pub goes_on : (later : List DecodedRecord) (past : Past) (a : View) (n : Next) → EachAfter TurnsOnce later past → next past a ≡ n → (n ≡ stays → ⊥) → next (later ++ past) a ≡ n
goes_on [] past a n once e moved = e
goes_on (x ∷ later) past a n once e moved =
    unturned (turn a (later ++ past) x) (last_answer (turn a) (later ++ past)) n (once.0 a) (goes_on later past a n once.1 e moved) moved

pub turned_on : (later : List DecodedRecord) (past : Past) (a b : View) → EachAfter TurnsOnce later past → next past a ≡ turns b → next (later ++ past) a ≡ turns b
turned_on later past a b once e = goes_on later past a (turns b) once e turns_not_stays

pub stopped_on : (later : List DecodedRecord) (past : Past) (a : View) → EachAfter TurnsOnce later past → next past a ≡ stops → next (later ++ past) a ≡ stops
stopped_on later past a once e = goes_on later past a stops once e stops_not_stays

pub leads_on : (later : List DecodedRecord) (past : Past) (a b : View) → EachAfter TurnsOnce later past → Leads past a b → Leads (later ++ past) a b
leads_on later past a b once here = here
leads_on later past a c once (onward {b = b} e rest) = onward (turned_on later past a b once e) (leads_on later past b c once rest)

pub by_turns_on : (later : List DecodedRecord) (past : Past) (a b : View) → EachAfter TurnsOnce later past → LeadsByTurns past a b → LeadsByTurns (later ++ past) a b
by_turns_on later past a c once (turned {b = b} e rest) = turned (turned_on later past a b once e) (leads_on later past b c once rest)

pub object_stays : (past : Past) (object : ℕ) → next past (Object object) ≡ stays
object_stays [] object = refl
object_stays (e ∷ before) object = object_stays before object

-- two walks from one view that go on nowhere end in one
one_last : (past : Past) (a b c : View) → Leads past a b → next past b ≡ stays → Leads past a c → next past c ≡ stays → b ≡ c
one_last past a b c here last here also = refl
one_last past a b c here last (onward e rest) also = absurd (turns_not_stays (sym e ∙ last))
one_last past a b c (onward e rest) last here also = absurd (turns_not_stays (sym e ∙ also))
one_last past a b c (onward {b = m} e rest) last (onward {b = n} f others) also =
    one_last past m b c rest last (subst (λ x. Leads past x c) (sym (turns_same (sym e ∙ f))) others) also

pub one_end : (past : Past) (a b c : View) → IsEnd past a b → IsEnd past a c → b ≡ c
one_end past a b c first second = one_last past a b c first.led first.last second.led second.last

-- ---- a promise that had neither is kept or broken once

some_of : (x : Next) (b : Bool) → IsSome (if b then Some x else None) → b ≡ true
some_of x true h = refl
some_of x false h = absurd (false≢true h)

module _ (before : Past) (r p : ℕ) (stands : view_of_reference before r ≡ Some (Promise p)) (unkept : next before (Promise p) ≡ stays) where
  promise_stays : (q : ℕ) → is_promise q (view_of_reference before r) ≡ true → next before (Promise q) ≡ stays
  promise_stays q h = subst (λ x. next before (Promise x) ≡ stays) (eqb-true p q (sym (ap (λ o. is_promise q o) stands) ∙ h)) unkept

  pub fulfil_once : (to : ℕ) → TurnsOnce before (Fulfil r to)
  fulfil_once to (Object object) h = absurd (false≢true h)
  fulfil_once to (Promise q) h = promise_stays q (some_of _ (is_promise q (view_of_reference before r)) h)
  fulfil_once to (FieldOf call path) h = absurd (false≢true h)
  fulfil_once to (Import i place) h = absurd (false≢true h)

  pub break_once : TurnsOnce before (Break r)
  break_once (Object object) h = absurd (false≢true h)
  break_once (Promise q) h = promise_stays q (some_of _ (is_promise q (view_of_reference before r)) h)
  break_once (FieldOf call path) h = absurd (false≢true h)
  break_once (Import i place) h = absurd (false≢true h)
