-- Each call is delivered where it was to go.
use Rattle.std.proofs.Common.{◌≡◌, ◌≤◌, refl, ap, ℕ, suc, List, [], ◌∷◌, true, false, Option, Some, None, if◌then◌else◌, IsSomeAnd, is_some, arith}
use Rattle.std.specs.List.{list_any}
use Rattle.std.specs.Option.{option_or}
use Rattle.std.proofs.lemmas.Bool.{false_from_ne_true, or_from, or_parts}
use Rattle.run_model.specs.Types.{Name, Cap, Object, Message, Boot, Call, Step, Host, Deliver, Send, Receive}
use Rattle.run_model.proofs.Meeting.{leads_meet, meets_through, meets_object}
use Rattle.run_model.proofs.Turning.{clash, same_to_itself}
use Rattle.run_model.proofs.Once.{once, begun_once}
use Rattle.run_model.proofs.Goals.{Reaches, IsGoal, begun_at, goes_to_goal, sent_on, all_go}
use Rattle.run_model.proofs.Places.{place, delivered_fresh, this_call}
use Rattle.run_model.specs.Leads.{Leads}
use Rattle.run_model.specs.Legal.{IsLegal, begins_call}
use Rattle.run_model.specs.Links.{IsLinked}
use Rattle.run_model.specs.Places.{Asked, asked_by_parts, brings_it, asked_after, at_vat}
use Rattle.run_model.specs.Right.{CarriesMethod, ReachesObject, request_in_make}
use Rattle.run_model.specs.Steps.{EachStep, PastSteps, count_steps, is_same_call, last_step_answer}

begun_by : (c : Name) (s : Step) (o : Option Asked) → request_in_make c s ≡ o → is_some o ≡ true → begins_call c s ≡ true
begun_by c s (Some a) e f = begun_at s c a e
begun_by c s None e f = absurd (clash f refl)

none_made : (c : Name) (before : PastSteps) → list_any (begins_call c) before ≡ false → list_any (λ s. is_some (request_in_make c s)) before ≡ false
none_made c [] e = refl
none_made c (s ∷ before) e =
    let parts = or_parts (begins_call c s) (list_any (begins_call c) before) e in
    or_from (is_some (request_in_make c s)) (list_any (λ t. is_some (request_in_make c t)) before)
    (false_from_ne_true (is_some (request_in_make c s)) (λ f. clash (begun_by c s (request_in_make c s) refl f) parts.0)) (none_made c before parts.1)

made_fresh : (c : Name) (before : PastSteps) → EachStep IsLegal before → EachStep (λ b s. is_some (request_in_make c s) ≡ true → list_any (λ t. is_some (request_in_make c t)) b ≡ false) before
made_fresh c [] legal = tt
made_fresh c (s ∷ before) legal = ((λ e. none_made c before (begun_once c before s legal.0 (begun_by c s (request_in_make c s) refl e))), made_fresh c before legal.1)

some_made : (c : Name) (s : Step) (before : PastSteps) (P : Asked → Type 0) (o : Option Asked) → (IsSomeAnd (last_step_answer (request_in_make c) before) P → 1 ≤ count_steps (λ t. is_some (request_in_make c t)) before) →
    IsSomeAnd (option_or o (last_step_answer (request_in_make c) before)) P → 1 ≤ (if is_some o then suc (count_steps (λ t. is_some (request_in_make c t)) before) else count_steps (λ t. is_some (request_in_make c t)) before)
some_made c s before P None rest h = rest h
some_made c s before P (Some a) rest h = omega arith

made_some : (c : Name) (before : PastSteps) (P : Asked → Type 0) → IsSomeAnd (last_step_answer (request_in_make c) before) P → 1 ≤ count_steps (λ t. is_some (request_in_make c t)) before
made_some c [] P h = absurd h
made_some c (s ∷ before) P h = some_made c s before P (request_in_make c s) (made_some c before P) h

onto : (before : PastSteps) → EachStep IsLegal before → (a : Asked) (v object : ℕ) (o : Option Asked) → Leads before a.goal (Object v object) → IsSomeAnd o (Reaches before a) →
    IsSomeAnd o (λ m. Leads before m.goal (Object v object))
onto before legal a v object None l h = h
onto before legal a v object (Some m) l h =
    meets_object before m.goal v object (meets_through before legal m.goal a.goal (Object v object) h.0 (leads_meet before a.goal (Object v object) l))

by_method : (before : PastSteps) (target : Cap) (i j : ℕ) (o : Option Asked) → IsSomeAnd o (Reaches before (asked_by_parts target i j)) → IsSomeAnd o (λ m. (i ≡ m.interface) × (j ≡ m.method))
by_method before target i j None h = h
by_method before target i j (Some m) h = (h.1, h.2)

delivers_there : (before : PastSteps) (v : ℕ) (c : Name) (object : ℕ) (o : Option Asked) → EachStep IsLegal before → EachStep IsLinked before → at_vat before c v ≡ o →
    IsSomeAnd o (λ a. Leads before a.goal (Object v object)) → (count_steps (λ s. is_some (request_in_make c s)) before ≡ 1) × IsSomeAnd (last_step_answer (request_in_make c) before) (λ m. Leads before m.goal (Object v object))
delivers_there before v c object None legal linked e h = absurd h
delivers_there before v c object (Some a) legal linked e h =
    let goal : IsGoal before c a = goes_to_goal before legal linked c v a e in
    let most : count_steps (λ s. is_some (request_in_make c s)) before ≤ 1 = once (λ s. is_some (request_in_make c s)) before (made_fresh c before legal) in
    let least : 1 ≤ count_steps (λ s. is_some (request_in_make c s)) before = made_some c before (Reaches before a) goal in
    (omega (arith, most, least), onto before legal a v object (last_step_answer (request_in_make c) before) h goal)

carries : (before : PastSteps) (v k : ℕ) (m : Message) → EachStep IsLegal before → EachStep IsLinked before → IsLegal before (Send v k m) → CarriesMethod before m
carries before v k (Call c target i j caps) legal linked sent =
    by_method before target i j (last_step_answer (request_in_make c) before) (sent_on before legal c v target i j (at_vat before c v) refl (all_go before legal linked).0 sent.1)
carries before v k (Boot c) legal linked sent = tt
carries before v k _ legal linked sent = tt

brings_method : (before : PastSteps) (v k : ℕ) (m : Message) (bound : List Cap) → EachStep IsLegal (Receive v k m bound ∷ before) → EachStep IsLinked (Receive v k m bound ∷ before) → CarriesMethod before m
brings_method before v k (Call c target i j caps) bound legal linked =
    by_method (Receive v k (Call c target i j caps) bound ∷ before) target i j (last_step_answer (request_in_make c) before)
    (goes_to_goal (Receive v k (Call c target i j caps) bound ∷ before) legal linked c v (asked_by_parts target i j)
    (ap (λ m. asked_after m (at_vat before c v)) (this_call v (is_same_call c c) (brings_it (asked_by_parts target i j)) (same_to_itself c))))
brings_method before v k (Boot c) bound legal linked = tt
brings_method before v k _ bound legal linked = tt

reaches_at : (before : PastSteps) (s : Step) → EachStep IsLegal (s ∷ before) → EachStep IsLinked (s ∷ before) → ReachesObject before s
reaches_at before (Deliver v c o) legal linked =
    let r = delivers_there before v c o (at_vat before c v) legal.1 linked.1 refl legal.0.1 in
    (r.0, r.1, delivered_fresh (Deliver v c o) before c legal.0 (λ d. place before d legal.1 linked.1) (same_to_itself c))
reaches_at before (Send v k m) legal linked = carries before v k m legal.1 linked.1 legal.0
reaches_at before (Receive v k m bound) legal linked = brings_method before v k m bound legal linked
reaches_at before (Host v o) legal linked = tt
reaches_at before _ legal linked = tt

pub each_reaches_object : (before : PastSteps) → EachStep IsLegal before → EachStep IsLinked before → EachStep ReachesObject before
each_reaches_object [] legal linked = tt
each_reaches_object (s ∷ before) legal linked = (reaches_at before s legal linked, each_reaches_object before legal.1 linked.1)
