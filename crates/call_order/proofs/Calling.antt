-- The names of a vat's calls, as its records go on.
use Rattle.std.proofs.Common.{◌≡◌, inl, inr, refl, sym, ◌∙◌, ap, ap₂, subst, ℕ, ◌==◌, List, [], ◌∷◌, Bool, true, false, not, ◌&&◌, ◌||◌, Option, Some, None, if◌then◌else◌, is_some, eqb-true}
use Rattle.std.specs.Prelude.{unwrap_or}
use Rattle.std.specs.List.{list_all}
use Rattle.std.specs.Option.{option_or}
use Rattle.std.proofs.lemmas.Bool.{cases_Bool, eq-eqb, and_parts, or_left, or_right, not-true, false≢true}
use Rattle.call_trace.specs.Naming.{names_call, call_named}
use Rattle.call_trace.specs.Types.{Bootstrap, Call, DecodedRecord, Make, Deliver, Wire, Name, Step}
use Rattle.run_model.proofs.Once.{or_either}
use Rattle.run_model.specs.Steps.{call}
use Rattle.vat_rules.proofs.Judging.{good_sound}
use Rattle.vat_rules.proofs.Once.{passed_or, clash}
use Rattle.vat_rules.specs.Judged.{IsGood}
use Rattle.vat_rules.specs.Types.{Later}
use Rattle.vat_rules.specs.declared.rule.Rule.TheVariants as rule
use Rattle.vat_view.proofs.Unbound.{unknown, IsUnknown}
use Rattle.decoded_records.specs.Bindings.{Refers, contains, is_bound_call, new_calls}
use Rattle.decoded_records.specs.Calls.{brings, takes, moves, delivers, boots, has_passed, is_at_vat, is_served}
use Rattle.decoded_records.specs.Past.{Past, Each, last_answer}
use Rattle.vat_view.specs.Sound.{IsSound}
use Rattle.decoded_records.specs.Views.{view_of_reference, view_of_target}
use Rattle.decoded_records.specs.declared.request.Request.{Request}
use Rattle.call_order.specs.Glue.Names.{name_come, name_in, IsCome, IsLeft, AreNamed}
use Rattle.call_order.specs.declared.names_of_calls.Names.{Names}

-- ---- a record that doesn't bind a call neither names it nor brings it

or_false : (a b : Bool) → (a || b) ≡ false → (a ≡ false) × (b ≡ false)
or_false true b h = absurd (false≢true (sym h))
or_false false b h = (refl, h)

other_if : {A : Type 0} (b : Bool) (o : Option A) → (b || false) ≡ false → (if b then o else None) ≡ None
other_if true o h = absurd (false≢true (sym h))
other_if false o h = refl

pub unnamed : (v d : ℕ) (e : DecodedRecord) (s : Step) → contains d (new_calls e) ≡ false → names_call v d e s ≡ None
unnamed v d (Make c r interface method) s h = other_if (c == d) _ h
unnamed v d (Wire true k c rs (Bootstrap q)) s h = other_if (c == d) _ h
unnamed v d (Wire false k c rs (Bootstrap q)) s h = other_if (c == d) _ h
unnamed v d (Wire false k c rs (Call head target params)) s h = other_if (c == d) _ h
unnamed v d e s h = refl

unbrought : (d : ℕ) (es : Past) (e : DecodedRecord) → contains d (new_calls e) ≡ false → brings d es e ≡ None
unbrought d es (Make c r interface method) h = other_if (c == d) _ h
unbrought d es (Wire false k c rs (Call head target params)) h = other_if (c == d) _ h
unbrought d es e h = refl

was_here : (c : ℕ) (es : Past) (e : DecodedRecord) → brings c es e ≡ None → is_at_vat c (e ∷ es) ≡ true → (takes c es e ≡ false) × (is_at_vat c es ≡ true)
was_here c es e none h = at (takes c es e) refl (sym (ap (λ o. unwrap_or (option_or (if is_some o then Some true else if takes c es e then Some false else None) (last_answer (moves c) es)) false) none) ∙ h)
  where
    at : (b : Bool) → takes c es e ≡ b → unwrap_or (option_or (if b then Some false else None) (last_answer (moves c) es)) false ≡ true → (takes c es e ≡ false) × (is_at_vat c es ≡ true)
    at true taken h = absurd (false≢true h)
    at false left h = (left, h)

-- ---- a call that is served isn't at the vat

sound : (past : Past) → Each IsGood past → Each IsSound past
sound [] good = tt
sound (e ∷ before) good = (good_sound Later before e good.0, sound before good.1)

nowhere : (past : Past) → Each IsGood past → (c : ℕ) → is_bound_call past c ≡ false → IsUnknown c past
nowhere past good c unbound = unknown past (sound past good) c unbound

absent : (past : Past) → Each IsGood past → (c : ℕ) → is_bound_call past c ≡ false → is_at_vat c past ≡ false
absent past good c unbound = ap (λ o. unwrap_or o false) (nowhere past good c unbound).moved

unserved : (past : Past) → Each IsGood past → (c : ℕ) → is_bound_call past c ≡ false → is_served c past ≡ false
unserved past good c unbound = let n = nowhere past good c unbound in ap (λ b. b || has_passed (boots c) past) n.delivered ∙ n.booted

-- what a record binds wasn't bound
pub fresh : (c d : ℕ) (es : Past) (e : DecodedRecord) → Refers es e → new_calls e ≡ c ∷ [] → (c == d) ≡ true → is_bound_call es d ≡ false
fresh c d es e refers binds same =
    let unused = subst (λ l. list_all (λ x. not (is_bound_call es x)) l ≡ true) binds refers.unused_call in
    subst (λ x. is_bound_call es x ≡ false) (eqb-true c d same) (not-true (is_bound_call es c) (and_parts (not (is_bound_call es c)) true unused).0)

delivering : (c : ℕ) (es : Past) (e : DecodedRecord) → delivers c es e ≡ true → takes c es e ≡ true
delivering c es (Deliver d object) h = h
delivering c es e h = absurd (false≢true h)

booting : (c : ℕ) (es : Past) (e : DecodedRecord) → Refers es e → boots c es e ≡ true → is_bound_call es c ≡ false
booting c es (Wire false k d rs (Bootstrap q)) refers h = fresh d c es (Wire false k d rs (Bootstrap q)) refers refl h
booting c es e refers h = absurd (false≢true h)

some_if : {A : Type 0} (b : Bool) (x : A) → is_some (if b then Some x else None) ≡ true → b ≡ true
some_if true x h = refl
some_if false x h = h

-- what makes or receives a call doesn't serve it, and the call is new
bringing : (c : ℕ) (es : Past) (e : DecodedRecord) → Refers es e → is_some (brings c es e) ≡ true → (is_bound_call es c ≡ false) × (delivers c es e ≡ false) × (boots c es e ≡ false)
bringing c es (Make d r interface method) refers h =
    let asked : Request = record { goal = view_of_reference es r; interface = interface; method = method } in
    (fresh d c es (Make d r interface method) refers refl (some_if (d == c) asked h), refl, refl)
bringing c es (Wire false k d rs (Call head target params)) refers h =
    let e = Wire false k d rs (Call head target params) in
    let asked : Request = record { goal = view_of_target es e; interface = head.interface; method = head.method } in
    (fresh d c es e refers refl (some_if (d == c) asked h), refl, refl)
bringing c es e refers h = absurd (false≢true h)

none_of : {A : Type 0} (o : Option A) → is_some o ≡ false → o ≡ None
none_of None h = refl
none_of (Some x) h = absurd (false≢true (sym h))

pub served_away : (c : ℕ) (past : Past) → Each IsGood past → is_served c past ≡ true → is_at_vat c past ≡ true → ⊥
served_away c [] good served here = false≢true served
served_away c (e ∷ es) good served here = elim (cases_Bool (is_some (brings c es e))) [
  | inl come ↦
      let b = bringing c es e (good.0 rule.Ref) come in
      let gone = unserved es good.1 c b.0 in
      elim (or_either (has_passed (delivers c) (e ∷ es)) (has_passed (boots c) (e ∷ es)) served) [
        | inl delivered ↦ elim (passed_or (delivers c) es e delivered) [
          | inl now ↦ clash now b.1
          | inr before ↦ clash (or_left (has_passed (delivers c) es) (has_passed (boots c) es) before) gone
        ]
        | inr booted ↦ elim (passed_or (boots c) es e booted) [
          | inl now ↦ clash now b.2
          | inr before ↦ clash (or_right (has_passed (delivers c) es) (has_passed (boots c) es) before) gone
        ]
      ]
  | inr none ↦
      let w = was_here c es e (none_of (brings c es e) none) here in
      elim (or_either (has_passed (delivers c) (e ∷ es)) (has_passed (boots c) (e ∷ es)) served) [
        | inl delivered ↦ elim (passed_or (delivers c) es e delivered) [
          | inl now ↦ clash (delivering c es e now) w.0
          | inr before ↦ served_away c es good.1 (or_left (has_passed (delivers c) es) (has_passed (boots c) es) before) w.1
        ]
        | inr booted ↦ elim (passed_or (boots c) es e booted) [
          | inl now ↦ clash w.1 (absent es good.1 c (booting c es e (good.0 rule.Ref) now))
          | inr before ↦ served_away c es good.1 (or_right (has_passed (delivers c) es) (has_passed (boots c) es) before) w.1
        ]
      ]
]

-- ---- the names, one record more

module _ (v : ℕ) (es : Past) (own : List Step) (e : DecodedRecord) (s : Step) (old new : Names) (refers : Refers es e) (kept : AreNamed v es own old) where
  stays : (d : ℕ) → contains d (new_calls e) ≡ false → name_come new v d ≡ name_come old v d → is_at_vat d (e ∷ es) ≡ true → call_named v (e ∷ es) (s ∷ own) d ≡ Some (name_in new v d)
  stays d unbinds same here =
      let w = was_here d es e (unbrought d es e unbinds) here in
      ap (λ o. option_or o (call_named v es own d)) (unnamed v d e s unbinds) ∙ kept.here d w.1 ∙ ap (λ o. Some (unwrap_or o (call v d))) (sym same)

  was_unbound : (d : ℕ) → is_bound_call (e ∷ es) d ≡ false → name_come old v d ≡ None
  was_unbound d h = kept.unbound d (or_false (contains d (new_calls e)) (is_bound_call es d) h).1

  -- it binds no call, and none leaves
  pub named_same : new ≡ old → new_calls e ≡ [] → AreNamed v (e ∷ es) (s ∷ own) new
  named_same same binds = record {
    here = λ d h. stays d (ap (contains d) binds) (ap (λ n. name_come n v d) same) h;
    unbound = λ d h. ap (λ n. name_come n v d) same ∙ was_unbound d h;
  }

  -- it makes a call
  pub named_made : (c : ℕ) → new ≡ old → new_calls e ≡ c ∷ [] → ((d : ℕ) → (c == d) ≡ true → names_call v d e s ≡ Some (call v d)) → AreNamed v (e ∷ es) (s ∷ own) new
  named_made c same binds names = record {
    here = λ d h. elim (cases_Bool (c == d)) [
      | inl here ↦
          ap (λ o. option_or o (call_named v es own d)) (names d here)
          ∙ ap (λ o. Some (unwrap_or o (call v d))) (sym (ap (λ n. name_come n v d) same ∙ kept.unbound d (fresh c d es e refers binds here)))
      | inr there ↦ stays d (ap (contains d) binds ∙ ap (λ b. b || false) there) (ap (λ n. name_come n v d) same) h
    ];
    unbound = λ d h. ap (λ n. name_come n v d) same ∙ was_unbound d h;
  }

  -- a call leaves
  pub named_left : (c : ℕ) → IsLeft v c old new → ((d : ℕ) → (c == d) ≡ true → is_at_vat d (e ∷ es) ≡ true → call_named v (e ∷ es) (s ∷ own) d ≡ Some (call v d)) →
      ((d : ℕ) → (c == d) ≡ false → contains d (new_calls e) ≡ false) → AreNamed v (e ∷ es) (s ∷ own) new
  named_left c left names binds =
      let at : (d : ℕ) (b : Bool) → (c == d) ≡ b → name_come new v d ≡ (if b then None else name_come old v d) =
      λ d b h. left v d ∙ ap₂ (λ x y. if x && y then None else name_come old v d) (eq-eqb v v refl) h in
      record {
        here = λ d h. elim (cases_Bool (c == d)) [
          | inl here ↦ names d here h ∙ ap (λ o. Some (unwrap_or o (call v d))) (sym (at d true here))
          | inr there ↦ stays d (binds d there) (at d false there) h
        ];
        unbound = λ d h. elim (cases_Bool (c == d)) [
          | inl here ↦ at d true here
          | inr there ↦ at d false there ∙ was_unbound d h
        ];
      }

  -- a call comes
  pub named_come : (c : ℕ) (name : Name) → IsCome v c name old new → new_calls e ≡ c ∷ [] → ((d : ℕ) → (c == d) ≡ true → call_named v (e ∷ es) (s ∷ own) d ≡ Some name) → AreNamed v (e ∷ es) (s ∷ own) new
  named_come c name come binds names =
      let at : (d : ℕ) (b : Bool) → (c == d) ≡ b → name_come new v d ≡ (if b then Some name else name_come old v d) =
      λ d b h. come v d ∙ ap₂ (λ x y. if x && y then Some name else name_come old v d) (eq-eqb v v refl) h in
      record {
        here = λ d h. elim (cases_Bool (c == d)) [
          | inl here ↦ names d here ∙ ap (λ o. Some (unwrap_or o (call v d))) (sym (at d true here))
          | inr there ↦ stays d (ap (contains d) binds ∙ ap (λ b. b || false) there) (at d false there) h
        ];
        unbound = λ d h.
            let parts = or_false (contains d (new_calls e)) (is_bound_call es d) h in
            at d false (or_false (c == d) false (sym (ap (contains d) binds) ∙ parts.0)).0 ∙ kept.unbound d parts.1;
      }

-- the names of another vat's calls
pub named_beside : (w : ℕ) (es : Past) (own : List Step) (old new : Names) → ((d : ℕ) → name_come new w d ≡ name_come old w d) → AreNamed w es own old → AreNamed w es own new
named_beside w es own old new same kept = record {
  here = λ d h. kept.here d h ∙ ap (λ o. Some (unwrap_or o (call w d))) (sym (same d));
  unbound = λ d h. same d ∙ kept.unbound d h;
}
