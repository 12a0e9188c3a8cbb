-- Where the steps of a row that an order takes of findings' logs are as is asked, they are the findings' run.
use Rattle.std.proofs.Common.{◌≡◌, refl, sym, ◌∙◌, ap, subst, ℕ, suc, ◌==◌, List, [], ◌∷◌, ◌++◌, length, map, reverse, Bool, true, false, ◌&&◌, ◌||◌, Option, Some, None, if◌then◌else◌, option_and_then, option_map, slice_get, IsSomeAnd, arith}
use Rattle.std.specs.Prelude.{Contains, IsTrue, IsSome, unwrap_or}
use Rattle.std.specs.List.{cons_option, list_any, AllByRecursion}
use Rattle.std.proofs.lemmas.List.{reverse-append, reverse-reverse}
use Rattle.std.proofs.lemmas.Option.{slice_get_within}
use Rattle.agree.specs.Points.{GoesOn}
use Rattle.agree.proofs.Points.{before_it, each_so}
use Rattle.vat_log.specs.declared.body.Body.{Body}
use Rattle.merge_order.specs.Fits.{Part, may_come, may_come_from, may_come_behind, part_of}
use Rattle.vat_rules.specs.Audit.{Found}
use Rattle.vat_rules.specs.Judged.{IsGood}
use Rattle.vat_rules.specs.Ways.{LeadsTo}
use Rattle.vat_rules.specs.declared.rule.Rule.TheVariants as rule
use Rattle.decoded_records.specs.Lives.{Birth, birth, began_promised}
use Rattle.decoded_records.specs.Loopbacks.{loopback_of}
use Rattle.decoded_records.specs.Past.{Past, Point, Each, id}
use Rattle.decoded_records.specs.Views.{view_of_target}
use Rattle.call_trace.specs.Findings.{logs_of, AreTrue, MayBeNamed}
use Rattle.call_trace.specs.InLife.{ResolvesLiving, EchoesWaiting, UsesLives}
use Rattle.call_trace.specs.Named.{past_of, AreParts, IsRunOf}
use Rattle.call_trace.specs.Part.{PairsOff, IsPart}
use Rattle.call_trace.specs.Running.{IsNamedRow}
use Rattle.call_trace.specs.Taking.{finding_of, record_in, next_record, taken_by, row_of}
use Rattle.call_trace.specs.Taking.{steps_counted_by as turns_of}
use Rattle.call_trace.specs.Types.{Receiver, Resolve, Disembargo, DecodedRecord, Wire, View, Step}
use Rattle.call_trace.proofs.Fitting.{parts_after, part_after, fits_all}
use Rattle.call_trace.proofs.Points.{taken_balanced}
use Rattle.call_trace.proofs.Reading.{each_good, reads_record}
use Rattle.call_trace.proofs.Sharing.{found_in, part_found, all_good, whole_log}
use Rattle.run_model.specs.Legal.{IsLegal, HasUsed}
use Rattle.run_model.specs.Links.{IsLinked}
use Rattle.run_model.specs.Right.{ReachesObject}
use Rattle.run_model.specs.Steps.{vat_of, steps_of}
use Rattle.run_model.specs.Steps.{EachStep}
use Rattle.run_model.proofs.Reaching.{each_reaches_object}

-- ---- lists

all_with : {A : Type 0} (P : A → Type 0) (xs ys : List A) → AllByRecursion P xs → AllByRecursion P ys → AllByRecursion P (xs ++ ys)
all_with P [] ys h g = g
all_with P (x ∷ xs) ys h g = (h.0, all_with P xs ys h.1 g)

pub all_turned : {A : Type 0} (P : A → Type 0) (xs : List A) → AllByRecursion P xs → AllByRecursion P (reverse xs)
all_turned P [] h = tt
all_turned P (x ∷ xs) h = subst (AllByRecursion P) (sym (reverse-append (x ∷ []) xs)) (all_with P (reverse xs) (x ∷ []) (all_turned P xs h.1) (h.0, tt))

all_of_mapped : {A B : Type 0} (f : A → B) (P : B → Type 0) (xs : List A) → AllByRecursion P (map f xs) → AllByRecursion (λ x. P (f x)) xs
all_of_mapped f P [] h = tt
all_of_mapped f P (x ∷ xs) h = (h.0, all_of_mapped f P xs h.1)

map_with : {A B : Type 0} (f : A → B) (xs ys : List A) → map f (xs ++ ys) ≡ map f xs ++ map f ys
map_with f [] ys = refl
map_with f (x ∷ xs) ys = ap (λ l. f x ∷ l) (map_with f xs ys)

pub map_turned : {A B : Type 0} (f : A → B) (xs : List A) → map f (reverse xs) ≡ reverse (map f xs)
map_turned f [] = refl
map_turned f (x ∷ xs) =
    ap (map f) (reverse-append (x ∷ []) xs) ∙ map_with f (reverse xs) (x ∷ []) ∙ ap (λ l. l ++ f x ∷ []) (map_turned f xs) ∙ sym (reverse-append (f x ∷ []) (map f xs))

each_finding : (P : Found → Type 0) (findings : List Found) → ((f : Found) → Contains findings f → P f) → AllByRecursion P findings
each_finding P [] h = tt
each_finding P (g ∷ gs) h = (h g (0, omega arith, refl), each_finding P gs (λ f there. h f (suc there.0, omega (arith, there.1), there.2)))

-- ---- a good record uses lives

first_true : (a b : Bool) → (a && b) ≡ true → a ≡ true
first_true true b h = refl
first_true false b h = h

promised : (o : Option Birth) (c : Bool) → (unwrap_or (option_map began_promised o) false && c) ≡ true → IsSomeAnd o (λ b. IsTrue (began_promised b))
promised (Some b) c h = first_true (began_promised b) c h
promised None c h = absurd (let no : ⊥ = cc in no)

resolves_living : (before : Past) (e : DecodedRecord) → IsGood before e → ResolvesLiving before e
resolves_living before (Wire true k c rs (Resolve n resolution)) good = promised (birth (id k true n) before) _ (good rule.Resolve).0
resolves_living before e good = tt

waits : (past : Past) (o : Option Point) (to : Option View) → LeadsTo past (option_and_then (λ p. view_of_target p.before p.event) o) to → IsSome o
waits past (Some p) to h = refl
waits past None to h = absurd h

echoes_waiting : (before : Past) (e : DecodedRecord) → IsGood before e → EchoesWaiting before e
echoes_waiting before (Wire true k c rs (Disembargo n Receiver target)) good = waits before (loopback_of (id k false n) before) _ (good rule.Emb).0
echoes_waiting before (Wire false k c rs (Disembargo n Receiver target)) good = good rule.Emb
echoes_waiting before e good = tt

uses_lives : (before : Past) (e : DecodedRecord) → IsGood before e → UsesLives before e
uses_lives before e good = record {
  numbers = good rule.XUse;
  questions = good rule.QUse;
  openings = good rule.QNew;
  resolves = resolves_living before e good;
  echoes = echoes_waiting before e good;
}

-- ---- each step of the order takes a record

abbrev IsAny : List Found → ℕ → Type 0
IsAny findings v = IsTrue (list_any (λ f. f.log.vat == v) findings)

is_any : (v : ℕ) (findings : List Found) (f : Found) → finding_of v findings ≡ Some f → IsAny findings v
is_any v [] f h = absurd (let no : ⊥ = cc in no)
is_any v (g ∷ gs) f h = at (g.log.vat == v) h (is_any v gs f)
  where
    at : (b : Bool) → (if b then Some g else finding_of v gs) ≡ Some f → (finding_of v gs ≡ Some f → IsAny gs v) → (b || list_any (λ f. f.log.vat == v) gs) ≡ true
    at true h rest = refl
    at false h rest = rest h

follows_some : (v : ℕ) (parts : List Part) (own : Part) (o : Option Body) → may_come_behind v parts own o ≡ true → (b : Body) × (o ≡ Some b)
follows_some v parts own None h = absurd (let no : ⊥ = cc in no)
follows_some v parts own (Some b) h = (b, refl)

comes_some : (v : ℕ) (steps : List ℕ) (parts : List Part) (o : Option Found) → may_come_from v parts (option_map (λ f. part_after steps f.log) o) ≡ true →
    (f : Found) × (o ≡ Some f) × ((b : Body) × (slice_get f.log.records (turns_of f.log.vat steps) ≡ Some b))
comes_some v steps parts None h = absurd (let no : ⊥ = cc in no)
comes_some v steps parts (Some f) h = (f, refl, follows_some v parts (part_after steps f.log) (slice_get f.log.records (turns_of f.log.vat steps)) h)

comes_from : (v : ℕ) (parts : List Part) → may_come parts v ≡ true → may_come_from v parts (part_of v parts) ≡ true
unfolding may_come
comes_from v parts h = h

module _ (findings : List Found) (order : List ℕ) (true_all : AreTrue findings) (asked : MayBeNamed findings order) where
  abbrev Takes : ℕ → List ℕ → Type 0
  Takes v before = (f : Found) × (e : DecodedRecord) × (finding_of v findings ≡ Some f) × (next_record findings before v ≡ Some e)

  takes : (v : ℕ) (before : List ℕ) → GoesOn (reverse order) (v ∷ before) → Takes v before
  takes v before there =
      let parts = parts_after (logs_of findings) before in
      let comes = comes_from v parts ((fits_all (logs_of findings) order asked.fits).come before v there) in
      let found = comes_some v before parts (finding_of v findings) (sym (ap (λ o. may_come_from v parts o) (part_found v before findings)) ∙ comes) in
      let f = found.0 in
      let at = found_in v findings f found.1 in
      let r = all_good findings order true_all asked f at.1 (turns_of f.log.vat before) (slice_get_within f.log.records (turns_of f.log.vat before) found.2.0 found.2.1) in (
        f,
        r.event,
        found.1,
        ap (λ o. option_and_then (λ g. record_in g (turns_of v before)) o) found.1 ∙ ap (λ u. record_in f (turns_of u before)) (sym at.0) ∙ reads_record f (turns_of f.log.vat before) r,
      )

  pub vats_taken : (steps : List ℕ) → GoesOn (reverse order) steps → map (λ r. r.0) (taken_by findings steps) ≡ steps
  vats_taken [] there = refl
  vats_taken (v ∷ before) there =
      let t = takes v before there in
      ap (λ o. map (λ r. r.0) (cons_option (option_map (λ e. (v, e)) o) (taken_by findings before))) t.3
      ∙ ap (λ l. v ∷ l) (vats_taken before (before_it (reverse order) v before there))

  all_any : (steps : List ℕ) → GoesOn (reverse order) steps → AllByRecursion (IsAny findings) steps
  all_any [] there = tt
  all_any (v ∷ before) there = let t = takes v before there in (is_any v findings t.0 t.2, all_any before (before_it (reverse order) v before there))

  -- ---- together

  module _ (before : List Step) (named : IsNamedRow (row_of findings order) before) where
    vats : map vat_of before ≡ reverse order
    vats = named.by_row ∙ vats_taken (reverse order) ([], refl)

    back : reverse (reverse before) ≡ before
    back = reverse-reverse before

    is_part : (f : Found) → Contains findings f → IsPart (reverse before) f.log.vat (past_of f)
    is_part f there =
        subst (λ l. PairsOff f.log.vat (past_of f) (steps_of f.log.vat l)) (sym back)
        (subst (λ es. PairsOff f.log.vat es (steps_of f.log.vat before)) (whole_log findings order true_all asked f there) (named.paired f.log.vat))

    are_parts : AreParts (reverse before) findings
    are_parts = record {
      parts = each_finding (λ f. IsPart (reverse before) f.log.vat (past_of f)) findings is_part;
      no_others = all_turned (λ s. IsAny findings (vat_of s)) before
          (all_of_mapped vat_of (IsAny findings) before (subst (AllByRecursion (IsAny findings)) (sym vats) (all_any (reverse order) ([], refl))));
    }

    uses_all : (f : Found) → Contains findings f → Each UsesLives (past_of f)
    uses_all f there = each_so IsGood UsesLives uses_lives (past_of f) (each_good f (all_good findings order true_all asked f there) (length f.log.records) (omega arith))

    all_used : (steps : List Step) → EachStep IsLegal steps → EachStep HasUsed steps
    all_used [] legal = tt
    all_used (s ∷ steps) legal = (legal.0.0, all_used steps legal.1)

    pub is_run : IsRunOf findings order (reverse before)
    is_run = record {
      by_order = map_turned vat_of before ∙ ap reverse vats ∙ reverse-reverse order;
      parts = are_parts;
      legal = subst (EachStep IsLegal) (sym back) named.legal;
      linked = subst (EachStep IsLinked) (sym back) named.linked;
      reached = subst (EachStep ReachesObject) (sym back) (each_reaches_object before named.legal named.linked);
      connected = subst (EachStep HasUsed) (sym back) (all_used before named.legal);
      lives = each_finding (λ f. Each UsesLives (past_of f)) findings uses_all;
      balanced = taken_balanced findings order true_all asked;
    }
