-- Where two views are one in a log, their names are one in the run; where one became the other, so did its name.
use Rattle.std.proofs.Common.{◌≡◌, refl, sym, ◌∙◌, ap, ap₂, subst, ℕ, suc, ◌<◌, ◌==◌, List, [], ◌∷◌, ◌++◌, length, Bool, true, false, ◌&&◌, ◌||◌, Option, Some, None, if◌then◌else◌, option_and_then, arith, eqb-true, length-append, ◌⊎◌, inl, inr}
use Rattle.std.specs.Prelude.{filter, unwrap_or}
use Rattle.std.specs.List.{AllByRecursion, list_any}
use Rattle.std.specs.Option.{option_or}
use Rattle.std.proofs.lemmas.Bool.{and_parts, cases_Bool}
use Rattle.decoded_records.specs.Past.{Past, Each, id, last_answer}
use Rattle.decoded_records.specs.Bindings.{Refers}
use Rattle.decoded_records.specs.Lives.{Birth, birth, begins, is_in_life}
use Rattle.vat_view.specs.Walks.{Next, turns, stays, next, turn, resolves, began_at, Leads, here, onward, AreOne, Became}
use Rattle.vat_view.proofs.Viewed.{begins_parts}
use Rattle.decoded_records.specs.declared.table_key.TableKey.{TableKey}
use Rattle.call_trace.specs.Types.{Resolve, DecodedRecord, Wire, View, Object, Promise, FieldOf, Import, Name, Cap, Step}
use Rattle.call_trace.specs.Naming.{naming, cap_at, cap_named, message_at, message_of_step}
use Rattle.call_trace.specs.Part.{Says, PairsOff}
use Rattle.call_trace.specs.Tells.{Tells, TurnsNames}
use Rattle.call_trace.specs.Within.{IsWithin, HasNameAfter}
use Rattle.call_trace.proofs.Naming.{cap_keeps}
use Rattle.call_trace.proofs.Carried.{paired_at, pairs_as_long, each_after}
use Rattle.call_trace.proofs.Tells.{own_promise, of_call, of_import}
use Rattle.vat_rules.specs.Ways.{AreOneThere, BecameThere}
use Rattle.run_model.specs.Legal.{IsLegal, caps_brought, hands, is_passed_back}
use Rattle.run_model.specs.Legal.{Became as RunBecame}
use Rattle.run_model.specs.Links.{IsLinked}
use Rattle.run_model.specs.Leads.{MakesTurn, Meets}
use Rattle.run_model.specs.Leads.{LeadsByTurns as RunLeadsByTurns}
use Rattle.run_model.specs.Leads.{here as stay}
use Rattle.run_model.specs.Steps.{OneOf, PastSteps, is_same_call, vat_of}
use Rattle.run_model.specs.Steps.{EachStep}
use Rattle.run_model.proofs.Meeting.{meets_itself, meets_back, meets_through, became_meets, became_later, leads_on_became}
use Rattle.run_model.proofs.Once.{names_same, or_either}
use Rattle.run_model.proofs.Sending.{received_leads, received_taken, resolved_leads, fields_turn}
use Rattle.run_model.specs.declared.cap.Cap.TheVariants as cap
use Rattle.run_model.specs.declared.message.Message.TheVariants as message
use Rattle.run_model.specs.declared.step.Step.TheVariants as step

-- ---- the record that turned a view

abbrev IsTurnedAt : View → View → Past → Type 0
IsTurnedAt a b es = (later : List DecodedRecord) × (e : DecodedRecord) × (before : Past) × (es ≡ later ++ e ∷ before) × (turn a before e ≡ Some (turns b))

turned_at : (a b : View) (es : Past) → last_answer (turn a) es ≡ Some (turns b) → IsTurnedAt a b es
turned_at a b [] h = absurd (let no : ⊥ = cc in no)
turned_at a b (e ∷ before) h = at (turn a before e) refl h (turned_at a b before)
  where
    at : (o : Option Next) → turn a before e ≡ o → option_or o (last_answer (turn a) before) ≡ Some (turns b) → (last_answer (turn a) before ≡ Some (turns b) → IsTurnedAt a b before) → IsTurnedAt a b (e ∷ before)
    at None n h rest = let r = rest h in (e ∷ r.0, r.1, r.2, ap (λ l. e ∷ l) r.3, r.4)
    at (Some x) n h rest = ([], e, before, refl, n ∙ h)

next_is : (a b : View) (es : Past) → next es a ≡ turns b → IsTurnedAt a b es
next_is a b es h = turned_at a b es (at (last_answer (turn a) es) h)
  where
    at : (o : Option Next) → unwrap_or o stays ≡ turns b → o ≡ Some (turns b)
    at (Some n) h = ap (λ n. Some n) h
    at None h = absurd (let no : ⊥ = cc in no)

-- ---- an import's name stands since its message

pub message_back : (i : ℕ) (added steps : List Step) → i < length steps → message_at i (added ++ steps) ≡ message_at i steps
message_back i [] steps lt = refl
message_back i (s ∷ added) steps lt = elim (cases_Bool (length (added ++ steps) == i)) [
  | inl same ↦ absurd (let e = eqb-true (length (added ++ steps)) i same in omega (arith, e, length-append added steps, lt))
  | inr other ↦ ap (λ b. if b then message_of_step s else message_at i (added ++ steps)) other ∙ message_back i added steps lt
]

born_before : (i : TableKey) (past : Past) (b : Birth) → last_answer (begins i) past ≡ Some b → length b.from.before < length past
born_before i [] b h = absurd (let no : ⊥ = cc in no)
born_before i (e ∷ before) b h = at (begins i before e) refl h (born_before i before b)
  where
    at : (o : Option Birth) → begins i before e ≡ o → option_or o (last_answer (begins i) before) ≡ Some b → (last_answer (begins i) before ≡ Some b → length b.from.before < length before) → length b.from.before < suc (length before)
    at None n h rest = let lt = rest h in omega (arith, lt)
    at (Some x) n h rest =
        let same : x ≡ b = cc in
        let parts = begins_parts i before e b (n ∙ ap (λ x. Some x) same) in
        let len = ap (λ b. length b.from.before) parts.2 in
        omega (arith, len)

began_before : (i place : ℕ) (j : TableKey) (past : Past) → began_at i place (birth j past) ≡ true → i < length past
began_before i place j past h = at (birth j past) refl h
  where
    alive : (c : Bool) (o : Option Birth) (b : Birth) → (if c then o else None) ≡ Some b → o ≡ Some b
    alive true o b h = h
    alive false o b h = absurd (let no : ⊥ = cc in no)

    first : (b c : Bool) → (b && c) ≡ true → b ≡ true
    first true c h = refl
    first false c h = h

    at : (o : Option Birth) → birth j past ≡ o → began_at i place o ≡ true → i < length past
    at None born h = absurd (let no : ⊥ = cc in no)
    at (Some b) born h =
        let number : length b.from.before ≡ i = eqb-true (length b.from.before) i (first _ _ h) in
        let lt = born_before j past b (alive (is_in_life j past) (last_answer (begins j) past) b born) in
        omega (arith, number, lt)

import_before : (i place : ℕ) (before : Past) (e : DecodedRecord) (n : Next) → resolves i place before e ≡ Some n → i < length before
import_before i place before (Wire false k c rs (Resolve m resolution)) n h = began_before i place (id k false m) before (chosen (began_at i place (birth (id k false m) before)) _ h)
  where
    chosen : (b : Bool) (o : Option Next) → (if b then o else None) ≡ Some n → b ≡ true
    chosen true o h = refl
    chosen false o h = absurd (let no : ⊥ = cc in no)
import_before i place before e n h = absurd (let no : ⊥ = cc in no)

-- ---- a vat's step stands in the run

abbrev pub StandsIn : List Step → Step → Type 0
StandsIn before s = (later earlier : List Step) × (before ≡ later ++ s ∷ earlier)

pub heads : {x y : Step} {xs ys : List Step} → (x ∷ xs) ≡ (y ∷ ys) → x ≡ y
heads e = cc

pub tails : {x y : Step} {xs ys : List Step} → (x ∷ xs) ≡ (y ∷ ys) → xs ≡ ys
tails e = cc

pub stands_in : (p : Step → Bool) (before added rest : List Step) (s : Step) → filter p before ≡ added ++ s ∷ rest → StandsIn before s
stands_in p [] [] rest s h = absurd (let no : ⊥ = cc in no)
stands_in p [] (y ∷ added) rest s h = absurd (let no : ⊥ = cc in no)
stands_in p (x ∷ before) added rest s h = elim (cases_Bool (p x)) [
  | inl kept ↦ at added (sym (ap (λ b. if b then x ∷ filter p before else filter p before) kept) ∙ h) (λ added. stands_in p before added rest s)
  | inr other ↦ later (stands_in p before added rest s (sym (ap (λ b. if b then x ∷ filter p before else filter p before) other) ∙ h))
]
  where
    later : StandsIn before s → StandsIn (x ∷ before) s
    later r = (x ∷ r.0, r.1, ap (λ l. x ∷ l) r.2)

    at : (added : List Step) → x ∷ filter p before ≡ added ++ s ∷ rest → ((added : List Step) → filter p before ≡ added ++ s ∷ rest → StandsIn before s) → StandsIn (x ∷ before) s
    at [] h rest_is = ([], before, ap (λ y. y ∷ before) (heads h))
    at (y ∷ added) h rest_is = later (rest_is added (tails h))

pub each_earlier : (P : List Step → Step → Type 0) (later rest : List Step) → EachStep P (later ++ rest) → EachStep P rest
each_earlier P [] rest h = h
each_earlier P (s ∷ later) rest h = each_earlier P later rest h.1

-- what is so of each result of a Return is so of the two that one of them is
pub one_so : (R : Cap → Cap → Type 0) (c : Name) (x y : Cap) (results : List (List ℕ × Cap)) → OneOf (λ result. (x ≡ cap.Field c result.0) × (y ≡ result.1)) results →
    AllByRecursion (λ result. R (cap.Field c result.0) result.1) results → R x y
one_so R c x y (r ∷ rs) (inl h) all = subst (λ x. R x y) (sym h.0) (subst (λ y. R (cap.Field c r.0) y) (sym h.1) all.0)
one_so R c x y (r ∷ rs) (inr h) all = one_so R c x y rs h all.1
one_so R c x y [] h all = absurd h

-- a field of a call whose results are taken: of another's, or of its own, which was passed back
taken_became : (before : List Step) (c by : Name) (path : List ℕ) → (list_any (hands c by) before || (is_same_call c by && is_passed_back c before)) ≡ true → RunBecame before (cap.Field c path) (cap.Field by path)
taken_became before c by path h = elim (or_either (list_any (hands c by) before) (is_same_call c by && is_passed_back c before) h) [
  | inl handed ↦ leads_on_became before (cap.Field c path) (cap.Field by path) (cap.Field by path, fields_turn before c by path handed, stay)
  | inr back ↦
      let parts = and_parts (is_same_call c by) (is_passed_back c before) back in
      (subst (Meets before (cap.Field c path)) (ap (λ d. cap.Field d path) (names_same c by parts.0)) (meets_itself before (cap.Field c path)), inr parts.1)
]

told_became : (earlier : List Step) (x y : Cap) (s : Step) → EachStep IsLegal earlier → IsLinked earlier s → Tells x y s → RunBecame earlier x y
told_became earlier x y (step.Receive v k (message.Return c results caps) bound) legal linked tells = one_so (RunBecame earlier) c x y results tells (received_leads earlier legal v k c results caps bound linked)
told_became earlier x y (step.Receive v k (message.Taken c by) bound) legal linked tells =
    subst (λ x. RunBecame earlier x y) (sym tells.1)
    (subst (λ y. RunBecame earlier (cap.Field c tells.0) y) (sym tells.2) (taken_became earlier c by tells.0 (received_taken earlier legal v k c by bound linked)))
told_became earlier x y (step.Receive v k (message.Resolve promise to) bound) legal linked tells =
    subst (λ x. RunBecame earlier x y) (sym tells.0) (subst (λ y. RunBecame earlier promise y) (sym tells.1) (resolved_leads earlier legal v k promise to bound linked))
told_became earlier x y s legal linked tells = absurd tells

-- the caps that a step of a run turns or tells of are so related, where caps by turns are, where what a step tells is, and where
-- what is so stays so
module _ (P : PastSteps → Step → Type 0) (R : PastSteps → Cap → Cap → Type 0) (by_turns : (before : PastSteps) (a b : Cap) → RunLeadsByTurns before a b → R before a b)
    (lasts : (later earlier : PastSteps) (a b : Cap) → R earlier a b → R (later ++ earlier) a b)
    (told : (earlier : PastSteps) (x y : Cap) (s : Step) → EachStep P earlier → IsLinked earlier s → Tells x y s → R earlier x y) where
  pub step_so : (before : List Step) (x y : Cap) (s : Step) → EachStep P before → EachStep IsLinked before → StandsIn before s → MakesTurn x y s ⊎ Tells x y s → R before x y
  step_so before x y s each linked at says =
      let each_then = each_earlier P at.0 (s ∷ at.1) (subst (EachStep P) at.2 each) in
      let linked_then = each_earlier IsLinked at.0 (s ∷ at.1) (subst (EachStep IsLinked) at.2 linked) in
      subst (λ l. R l x y) (sym at.2) (lasts at.0 (s ∷ at.1) x y (elim says [
        | inl made ↦ by_turns (s ∷ at.1) x y (y, inl made, stay)
        | inr tells ↦ lasts (s ∷ []) at.1 x y (told at.1 x y s each_then.1 linked_then.0 tells)
      ]))

-- ---- together

told_at : (v : ℕ) (es past : Past) (e : DecodedRecord) (added earlier : List Step) (s : Step) (a b : View) (x : Cap) → Says v past earlier e s → length past ≡ length earlier → turn a past e ≡ Some (turns b) →
    cap_named v es (added ++ s ∷ earlier) a ≡ Some x → TurnsNames (naming v (e ∷ past) (s ∷ earlier)) a b s
told_at v es past e added earlier s (Object object) b x says len h named = absurd (let no : ⊥ = cc in no)
told_at v es past e added earlier s (Promise p) b x says len h named = own_promise v p past earlier e s b says h
told_at v es past e added earlier s (FieldOf call path) b x says len h named = of_call v call path past earlier e s b says h
told_at v es past e added earlier s (Import i place) b x says len h named =
    let lt = import_before i place past e (turns b) h in
    let same = message_back i added (s ∷ earlier) (omega (arith, lt, len)) in
    of_import v i place past earlier e s b x says h (ap (λ o. option_and_then (λ m. cap_at place (caps_brought m)) o) (sym same) ∙ named)

pub same_cap : (o : Option Cap) (x y : Cap) → o ≡ Some x → o ≡ Some y → x ≡ y
same_cap o x y p q = let same : ◌≡◌ {A = Option Cap} (Some x) (Some y) = sym p ∙ q in cc

module _ (v : ℕ) (later past : Past) (e : DecodedRecord) (added earlier : List Step) (s : Step) (as_long : length later ≡ length added) (paired : PairsOff v (e ∷ past) (s ∷ earlier)) (refers : Each Refers (later ++ e ∷ past)) where
  name_grows : (view : View) (c : Cap) → cap_named v (e ∷ past) (s ∷ earlier) view ≡ Some c → cap_named v (later ++ e ∷ past) (added ++ s ∷ earlier) view ≡ Some c
  name_grows view c h = cap_keeps v later (e ∷ past) added (s ∷ earlier) as_long (each_after later (e ∷ past) refers) view c h

  turned_then : (R : Cap → Cap → Type 0) → ((x y : Cap) → MakesTurn x y s ⊎ Tells x y s → R x y) → (a b : View) (x : Cap) → turn a past e ≡ Some (turns b) →
      cap_named v (later ++ e ∷ past) (added ++ s ∷ earlier) a ≡ Some x → HasNameAfter (naming v (later ++ e ∷ past) (added ++ s ∷ earlier)) R x b
  turned_then R so a b x h named =
      let t = told_at v (later ++ e ∷ past) past e added earlier s a b x paired.0 (pairs_as_long v past earlier paired.1) h named in
      let same = same_cap (cap_named v (later ++ e ∷ past) (added ++ s ∷ earlier) a) t.from x (name_grows a t.from t.from_named) named in
      (t.to, name_grows b t.to t.to_named, subst (λ x. R x t.to) same (so t.from t.to t.turned))

-- where a view turned to another, their names are related as are all caps that a step of the run turns or tells of
pub turned_so : (v : ℕ) (es : Past) (steps before : List Step) → IsWithin v es steps before → (R : Cap → Cap → Type 0) → ((x y : Cap) (s : Step) → StandsIn before s → MakesTurn x y s ⊎ Tells x y s → R x y) →
    (a b : View) (x : Cap) → next es a ≡ turns b → cap_named v es steps a ≡ Some x → HasNameAfter (naming v es steps) R x b
turned_so v es steps before w R so a b x h named =
    let t = next_is a b es h in
    let pair = paired_at v t.0 t.1 t.2 steps (subst (λ es. PairsOff v es steps) t.3 w.paired) in
    let at = stands_in (λ s. vat_of s == v) before pair.added pair.earlier pair.step (w.own ∙ pair.whole) in
    subst (λ es. HasNameAfter (naming v es steps) R x b) (sym t.3)
    (subst (λ steps. HasNameAfter (naming v (t.0 ++ t.1 ∷ t.2) steps) R x b) (sym pair.whole)
    (turned_then v t.0 t.2 t.1 pair.added pair.earlier pair.step pair.as_long pair.paired (subst (Each Refers) t.3 w.refers) R (λ x y says. so x y pair.step at says) a b x t.4
    (sym (ap₂ (λ es steps. cap_named v es steps a) t.3 pair.whole) ∙ named)))

pub turned_became : (v : ℕ) (es : Past) (steps before : List Step) → IsWithin v es steps before → (a b : View) (x : Cap) → next es a ≡ turns b → cap_named v es steps a ≡ Some x →
    HasNameAfter (naming v es steps) (RunBecame before) x b
turned_became v es steps before w a b x h named =
    turned_so v es steps before w (RunBecame before) (λ x y s at says. step_so IsLegal RunBecame leads_on_became became_later told_became before x y s w.legal w.linked at says) a b x h named

-- the names of views that lead to each other are one
pub all_meet : (v : ℕ) (es : Past) (steps before : List Step) → IsWithin v es steps before → (a b : View) (x : Cap) → Leads es a b → cap_named v es steps a ≡ Some x → HasNameAfter (naming v es steps) (Meets before) x b
all_meet v es steps before w a b x here named = (x, named, meets_itself before x)
all_meet v es steps before w a c x (onward {b = b} h rest) named =
    let one = turned_became v es steps before w a b x h named in
    let more = all_meet v es steps before w b c one.0 rest one.1 in
    (more.0, more.1, meets_through before w.legal x one.0 more.0 (became_meets before x one.0 one.2) more.2)

-- so are those of views that are one
pub ones_meet : (v : ℕ) (es : Past) (steps before : List Step) → IsWithin v es steps before → (a b : View) (x y : Cap) → AreOne es a b → cap_named v es steps a ≡ Some x → cap_named v es steps b ≡ Some y → Meets before x y
ones_meet v es steps before w a b x y one named other =
    let p = all_meet v es steps before w a one.0 x one.1 named in
    let q = all_meet v es steps before w b one.0 y one.2 other in
    let same = same_cap (cap_named v es steps one.0) q.0 p.0 q.1 p.1 in
    meets_through before w.legal x p.0 y p.2 (meets_back before y p.0 (subst (Meets before y) same q.2))

-- a view that became another: its name became the other's
pub names_became : (v : ℕ) (es : Past) (steps before : List Step) → IsWithin v es steps before → (a b : View) (x y : Cap) → Became es a b → cap_named v es steps a ≡ Some x → cap_named v es steps b ≡ Some y → RunBecame before x y
names_became v es steps before w a b x y became named other =
    (ones_meet v es steps before w a b x y became.2 named other, (turned_became v es steps before w a became.0 x became.1 named).2.1)

-- where views that may be missing are so related, their names are
abbrev pub NamesFollow : (View → Option Cap) → (Option View → Option View → Type 0) → (Cap → Cap → Type 0) → Type 0
NamesFollow names S R = (from to : Option View) (x y : Cap) → option_and_then names from ≡ Some x → option_and_then names to ≡ Some y → S from to → R x y

module _ (v : ℕ) (es : Past) (steps before : List Step) (w : IsWithin v es steps before) where
  pub ones_meet_there : NamesFollow (cap_named v es steps) (AreOneThere es) (Meets before)
  ones_meet_there None to x y named other one = absurd one
  ones_meet_there (Some a) None x y named other one = absurd one
  ones_meet_there (Some a) (Some b) x y named other one = ones_meet v es steps before w a b x y one named other

  pub became_there : NamesFollow (cap_named v es steps) (BecameThere es) (RunBecame before)
  became_there None to x y named other became = absurd became
  became_there (Some a) None x y named other became = absurd became
  became_there (Some a) (Some b) x y named other became = names_became v es steps before w a b x y became named other
