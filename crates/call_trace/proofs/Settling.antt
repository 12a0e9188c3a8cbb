-- A call is answered or faulted once, at the vat at which it arrived or where it is.
use Rattle.std.proofs.Common.{◌≡◌, ◌≤◌, refl, sym, ◌∙◌, ap, subst, append_assoc, ℕ, suc, ◌==◌, List, [], ◌∷◌, ◌++◌, Bool, true, false, not, ◌||◌, ◌&&◌, Option, Some, None, if◌then◌else◌, is_some, IsSome, option_and_then, arith, eqb-true, ◌⊎◌, inl, inr}
use Rattle.std.specs.Prelude.{⊤, map, filter}
use Rattle.std.specs.List.{list_any}
use Rattle.std.specs.Option.{option_or}
use Rattle.std.specs.Str.{bytes_eq as same_path}
use Rattle.std.proofs.lemmas.Bool.{eq-eqb, cases_Bool, and_from, and_parts, or_left, or_right, or_from, or_parts, false_from_ne_true, false≢true}
use Rattle.vat_rules.specs.Judged.{IsGood}
use Rattle.vat_rules.specs.OfCalls.{MayAnswer}
use Rattle.vat_rules.specs.OfCalls.{distinct_paths as are_distinct}
use Rattle.vat_rules.specs.declared.rule.Rule.TheVariants as rule
use Rattle.decoded_records.specs.Past.{Past, Point, Each, point, last_where}
use Rattle.decoded_records.specs.Bindings.{Refers}
use Rattle.decoded_records.specs.Calls.{boots, has_passed, is_at_vat, is_served, is_settled, delivers as delivers_call, settles as settles_call}
use Rattle.call_trace.specs.Types.{Bootstrap, Call, DecodedRecord, Host, Vow, Fulfil, Break, Make, Field, Deliver, Answer, AnswerBy, Fault, Wire, Name, Cap, Message, Step}
use Rattle.call_trace.specs.Naming.{Naming, naming, names_call, call_named, message_of_step}
use Rattle.call_trace.specs.Said.{all_there}
use Rattle.call_trace.specs.Part.{reference_named, result_named, Says, PairsOff}
use Rattle.call_trace.specs.Within.{IsWithin}
use Rattle.call_trace.proofs.AsSent.{read, says_read}
use Rattle.call_trace.proofs.Naming.{mapped_is, call_keeps}
use Rattle.call_trace.proofs.Placing.{is_here, step_back}
use Rattle.call_trace.proofs.Making.{form, boot_said, only, some_in_run}
use Rattle.run_model.specs.Has.{call_in_message, comes_to}
use Rattle.run_model.specs.Legal.{IsLegal, MayCome, arrives, has_distinct_paths, answers_or_faults}
use Rattle.run_model.specs.Links.{IsLinked}
use Rattle.run_model.specs.Places.{at_vat}
use Rattle.run_model.specs.Steps.{call, count_steps, is_same_call, vat_of}
use Rattle.run_model.specs.Steps.{EachStep}
use Rattle.run_model.proofs.Alone.{unsettled_here}
use Rattle.run_model.proofs.Arriving.{arrives_at_one, arrives_once, booted_unsettled}
use Rattle.run_model.proofs.Once.{names_same, none_of, or_either}
use Rattle.run_model.proofs.Places.{fresh_there, place}
use Rattle.run_model.proofs.Growing.{passes_later}
use Rattle.run_model.proofs.Spent.{arrived_spent, settles_spends, some_here, spends}
use Rattle.run_model.proofs.Turning.{clash, same_to_itself}
use Rattle.run_model.specs.declared.message.Message.TheVariants as message
use Rattle.run_model.specs.declared.step.Step.TheVariants as step

-- ---- in a run, a call is settled after it arrived, and where it did

-- a call that arrived is at no vat
gone : (before : List Step) → EachStep IsLegal before → EachStep IsLinked before → (c : Name) (v w : ℕ) → list_any (arrives c v) before ≡ true → IsSome (at_vat before c w) → ⊥
gone before legal linked c v w there here =
    clash (arrived_spent before linked c v there) (fresh_there (λ a. ⊤) before c w (place before c legal linked) (some_here (at_vat before c w) here))

-- one that arrives now wasn't settled
new_unsettled : (s : Step) (past : List Step) → EachStep IsLegal (s ∷ past) → EachStep IsLinked (s ∷ past) → (c : Name) (v : ℕ) → arrives c v s ≡ true → list_any (answers_or_faults c) past ≡ false
new_unsettled (step.Deliver u d o) past legal linked c v e =
    subst (λ x. list_any (answers_or_faults x) past ≡ false) (names_same d c (and_parts (u == v) (is_same_call d c) e).1)
    (none_of (answers_or_faults d) (spends d) (settles_spends d) past (fresh_there _ past d u (place past d legal.1 linked.1) legal.0.1))
new_unsettled (step.Receive u k (message.Boot d) bound) past legal linked c v e =
    subst (λ x. list_any (answers_or_faults x) past ≡ false) (names_same d c (and_parts (u == v) (is_same_call d c) e).1) (booted_unsettled past legal.1 linked.1 d u k bound linked.0)
new_unsettled (step.Receive u k m bound) past legal linked c v e = absurd (false≢true e)
new_unsettled s past legal linked c v e = absurd (false≢true e)

arriving_settles : (s : Step) (c : Name) (v : ℕ) → arrives c v s ≡ true → answers_or_faults c s ≡ false
arriving_settles (step.Deliver u d o) c v e = refl
arriving_settles (step.Receive u k m bound) c v e = refl
arriving_settles s c v e = absurd (false≢true e)

settled_there : (s : Step) (past : List Step) → EachStep IsLegal (s ∷ past) → EachStep IsLinked (s ∷ past) → (c : Name) (v : ℕ) → list_any (arrives c v) past ≡ true → answers_or_faults c s ≡ true → (vat_of s == v) ≡ true
settled_there (step.Answer w d results) past legal linked c v there e =
    let same = names_same d c e in
    eq-eqb w v (arrives_at_one past legal.1 linked.1 c w v (subst (λ x. list_any (arrives x w) past ≡ true) same legal.0.1.0) there)
settled_there (step.AnswerBy w d by) past legal linked c v there e =
    let same = names_same d c e in
    eq-eqb w v (arrives_at_one past legal.1 linked.1 c w v (subst (λ x. list_any (arrives x w) past ≡ true) same legal.0.1.0) there)
settled_there (step.Fault w d) past legal linked c v there e =
    let same = names_same d c e in
    elim (or_either (list_any (arrives d w) past) (is_some (at_vat past d w)) legal.0.1.0) [
      | inl arrived ↦ eq-eqb w v (arrives_at_one past legal.1 linked.1 c w v (subst (λ x. list_any (arrives x w) past ≡ true) same arrived) there)
      | inr here ↦ absurd (gone past legal.1 linked.1 c v w there (subst (λ x. IsSome (at_vat past x w)) same here))
    ]
settled_there s past legal linked c v there e = absurd (false≢true e)

-- where none of its vat's steps settles a call that arrived there, no step does
settled_own : (before : List Step) → EachStep IsLegal before → EachStep IsLinked before → (c : Name) (v : ℕ) → list_any (arrives c v) before ≡ true → list_any (answers_or_faults c) (filter (λ s. vat_of s == v) before) ≡ false →
    list_any (answers_or_faults c) before ≡ false
settled_own [] legal linked c v there none = refl
settled_own (s ∷ past) legal linked c v there none = elim (or_either (arrives c v s) (list_any (arrives c v) past) there) [
  | inl now ↦ or_from (answers_or_faults c s) (list_any (answers_or_faults c) past) (arriving_settles s c v now) (new_unsettled s past legal linked c v now)
  | inr before ↦ elim (cases_Bool (vat_of s == v)) [
    | inl own ↦
        let parts = or_parts (answers_or_faults c s) _ (sym (ap (λ b. list_any (answers_or_faults c) (if b then s ∷ filter (λ s. vat_of s == v) past else filter (λ s. vat_of s == v) past)) own) ∙ none) in
        or_from (answers_or_faults c s) (list_any (answers_or_faults c) past) parts.0 (settled_own past legal.1 linked.1 c v before parts.1)
    | inr other ↦
        or_from (answers_or_faults c s) (list_any (answers_or_faults c) past) (false_from_ne_true (answers_or_faults c s) (λ e. false≢true (sym other ∙ settled_there s past legal linked c v before e)))
        (settled_own past legal.1 linked.1 c v before
        (sym (ap (λ b. list_any (answers_or_faults c) (if b then s ∷ filter (λ s. vat_of s == v) past else filter (λ s. vat_of s == v) past)) other) ∙ none))
  ]
]

-- nor was it at a vat where it was settled
settled_gone : (c : Name) (v w : ℕ) (s : Step) (earlier later : List Step) → EachStep IsLegal (later ++ s ∷ earlier) → EachStep IsLinked (later ++ s ∷ earlier) → list_any (arrives c v) (later ++ s ∷ earlier) ≡ true →
    answers_or_faults c s ≡ true → IsSome (at_vat earlier c w) → ⊥
settled_gone c v w s earlier [] legal linked there e here = elim (or_either (arrives c v s) (list_any (arrives c v) earlier) there) [
  | inl now ↦ clash e (arriving_settles s c v now)
  | inr before ↦ gone earlier legal.1 linked.1 c v w before here
]
settled_gone c v w s earlier (x ∷ later) legal linked there e here = elim (or_either (arrives c v x) (list_any (arrives c v) (later ++ s ∷ earlier)) there) [
  | inl now ↦ clash (passes_later (answers_or_faults c) later (s ∷ earlier) (or_left (answers_or_faults c s) (list_any (answers_or_faults c) earlier) e)) (new_unsettled x (later ++ s ∷ earlier) legal linked c v now)
  | inr before ↦ settled_gone c v w s earlier later legal.1 linked.1 before e here
]

count_kept : (p test : Step → Bool) (before : List Step) → count_steps test (filter p before) ≤ count_steps test before
count_kept p test [] = omega arith
count_kept p test (s ∷ before) = at (p s) (count_kept p test before)
  where
    more : (b : Bool) (m n : ℕ) → m ≤ n → m ≤ (if b then suc n else n)
    more true m n h = omega (arith, h)
    more false m n h = h

    both : (b : Bool) (m n : ℕ) → m ≤ n → (if b then suc m else m) ≤ (if b then suc n else n)
    both true m n h = omega (arith, h)
    both false m n h = h

    at : (x : Bool) → count_steps test (filter p before) ≤ count_steps test before → count_steps test (if x then s ∷ filter p before else filter p before) ≤ (if test s then suc (count_steps test before) else count_steps test before)
    at true h = both (test s) _ _ h
    at false h = more (test s) _ _ h

none_counted : (test : Step → Bool) (before : List Step) → count_steps test before ≤ 0 → list_any test before ≡ false
none_counted test [] h = refl
none_counted test (s ∷ before) h = at (test s) h (none_counted test before)
  where
    at : (b : Bool) → (if b then suc (count_steps test before) else count_steps test before) ≤ 0 → (count_steps test before ≤ 0 → list_any test before ≡ false) → (b || list_any test before) ≡ false
    at true h rest = absurd (omega (arith, h))
    at false h rest = rest h

-- ---- in a log, calls that are served

-- a record serves a call: it delivers it, or receives its Bootstrap
abbrev serves : ℕ → DecodedRecord → Bool
serves c (Deliver d object) = d == c
serves c (Wire false k d rs (Bootstrap q)) = d == c
serves c _ = false

passed_now : (b : Bool) (x : Point) (o : Option Point) → is_some (if b then Some x else o) ≡ true → (b ≡ true) ⊎ (is_some o ≡ true)
passed_now true x o h = inl refl
passed_now false x o h = inr h

passed_before : (b : Bool) (x : Point) (o : Option Point) → is_some o ≡ true → is_some (if b then Some x else o) ≡ true
passed_before true x o h = refl
passed_before false x o h = h

not_passed : (b : Bool) (x : Point) (o : Option Point) → is_some (if b then Some x else o) ≡ false → (b ≡ false) × (is_some o ≡ false)
not_passed true x o h = absurd (let no : ⊥ = cc in no)
not_passed false x o h = (refl, h)

delivers_serves : (c : ℕ) (es : Past) (e : DecodedRecord) → delivers_call c es e ≡ true → serves c e ≡ true
delivers_serves c es (Deliver d object) h = h
delivers_serves c es e h = absurd (let no : ⊥ = cc in no)

boots_serves : (c : ℕ) (es : Past) (e : DecodedRecord) → boots c es e ≡ true → serves c e ≡ true
boots_serves c es (Wire false k d rs (Bootstrap q)) h = h
boots_serves c es e h = absurd (let no : ⊥ = cc in no)

served_now : (c : ℕ) (es : Past) (e : DecodedRecord) → is_served c (e ∷ es) ≡ true → (serves c e ≡ true) ⊎ (is_served c es ≡ true)
served_now c es e h = elim (or_either (has_passed (delivers_call c) (e ∷ es)) (has_passed (boots c) (e ∷ es)) h) [
  | inl delivered ↦ elim (passed_now (delivers_call c es e) (point es e) (last_where (delivers_call c) es) delivered) [
    | inl now ↦ inl (delivers_serves c es e now)
    | inr before ↦ inr (or_left (has_passed (delivers_call c) es) (has_passed (boots c) es) before)
  ]
  | inr booted ↦ elim (passed_now (boots c es e) (point es e) (last_where (boots c) es) booted) [
    | inl now ↦ inl (boots_serves c es e now)
    | inr before ↦ inr (or_right (has_passed (delivers_call c) es) (has_passed (boots c) es) before)
  ]
]

served_later : (c : ℕ) (es : Past) (e : DecodedRecord) → is_served c es ≡ true → is_served c (e ∷ es) ≡ true
served_later c es e h = elim (or_either (has_passed (delivers_call c) es) (has_passed (boots c) es) h) [
  | inl delivered ↦ or_left (has_passed (delivers_call c) (e ∷ es)) (has_passed (boots c) (e ∷ es)) (passed_before (delivers_call c es e) (point es e) (last_where (delivers_call c) es) delivered)
  | inr booted ↦ or_right (has_passed (delivers_call c) (e ∷ es)) (has_passed (boots c) (e ∷ es)) (passed_before (boots c es e) (point es e) (last_where (boots c) es) booted)
]

one_served : (c d : ℕ) (e : DecodedRecord) → serves c e ≡ true → serves d e ≡ true → c ≡ d
one_served c d (Deliver n object) h g = sym (eqb-true n c h) ∙ eqb-true n d g
one_served c d (Wire false k n rs (Bootstrap q)) h g = sym (eqb-true n c h) ∙ eqb-true n d g
one_served c d e h g = absurd (let no : ⊥ = cc in no)

read_boot : (es : Past) (k d : ℕ) (rs : List ℕ) (q : ℕ) (m : Message) → read es (Wire false k d rs (Bootstrap q)) m ≡ m
read_boot es k d rs q (message.Return c results caps) = refl
read_boot es k d rs q (message.Resolve promise c) = refl
read_boot es k d rs q (message.Broken promise) = refl
read_boot es k d rs q m = refl

-- names that a log gives, and that are kept
module _ (v : ℕ) (final : ℕ → Option Name) where
  abbrev Grows : Past → List Step → Type 0
  Grows es steps = (c : ℕ) (name : Name) → call_named v es steps c ≡ Some name → final c ≡ Some name

  grows_back : (es : Past) (steps : List Step) (e : DecodedRecord) (s : Step) → Refers es e → Grows (e ∷ es) (s ∷ steps) → Grows es steps
  grows_back es steps e s refers grows c name h = grows c name (call_keeps v (e ∷ []) es (s ∷ []) steps refl (refers, tt) c name h)

  named_so : (c d : ℕ) (name other : Name) → final c ≡ Some name → final d ≡ Some other → (d == c) ≡ true → other ≡ name
  named_so c d name other is there same = only other name (sym there ∙ ap final (eqb-true d c same) ∙ is)

  -- what serves a call is a step by which it arrives
  served_said : (es : Past) (steps : List Step) (e : DecodedRecord) (s : Step) → Says v es steps e s → Grows (e ∷ es) (s ∷ steps) → (c : ℕ) (name : Name) → final c ≡ Some name → serves c e ≡ true → arrives name v s ≡ true
  served_said es steps (Deliver d object) s says grows c name is h =
      let f = form v es steps (Deliver d object) s says in
      let same = named_so c d name f.0 is (grows d f.0 f.1) h in
      subst (λ s. arrives name v s ≡ true) f.2 (and_from (v == v) (is_same_call f.0 name) (eq-eqb v v refl) (subst (λ n. is_same_call f.0 n ≡ true) same (same_to_itself f.0)))
  served_said es steps (Wire false k d rs (Bootstrap q)) s says grows c name is h =
      let boot = mapped_is message.Boot (call_named v (Wire false k d rs (Bootstrap q) ∷ es) (s ∷ steps) d) (read es (Wire false k d rs (Bootstrap q)) says.message) (says_read says refl) in
      let same = named_so c d name boot.0 is (grows d boot.0 boot.1) h in
      let came : message.Boot boot.0 ≡ says.message = boot.2 ∙ read_boot es k d rs q says.message in
      subst (λ s. arrives name v s ≡ true) (ap (λ m. step.Receive v k m says.bound) came ∙ sym says.step)
      (and_from (v == v) (is_same_call boot.0 name) (eq-eqb v v refl) (subst (λ n. is_same_call boot.0 n ≡ true) same (same_to_itself boot.0)))
  served_said es steps e s says grows c name is h = absurd (let no : ⊥ = cc in no)

  served_arrives : (es : Past) (steps : List Step) → PairsOff v es steps → Each Refers es → Grows es steps → (c : ℕ) (name : Name) → final c ≡ Some name → is_served c es ≡ true → list_any (arrives name v) steps ≡ true
  served_arrives [] steps part refers grows c name is h = absurd (let no : ⊥ = cc in no)
  served_arrives (e ∷ es) [] part refers grows c name is h = absurd part
  served_arrives (e ∷ es) (s ∷ steps) part refers grows c name is h = elim (served_now c es e h) [
    | inl now ↦ or_left (arrives name v s) (list_any (arrives name v) steps) (served_said es steps e s part.0 grows c name is now)
    | inr before ↦ or_right (arrives name v s) (list_any (arrives name v) steps) (served_arrives es steps part.1 refers.1 (grows_back es steps e s refers.0 grows) c name is before)
  ]

  -- two calls of one name that are served are one
  served_here : (es : Past) (steps : List Step) (e : DecodedRecord) → PairsOff v es steps → Each Refers es → Grows es steps → (c : ℕ) (name : Name) → final c ≡ Some name → list_any (arrives name v) steps ≡ false → is_served c (e ∷ es) ≡ true → serves c e ≡ true
  served_here es steps e part refers grows c name is none h = elim (served_now c es e h) [
    | inl now ↦ now
    | inr before ↦ absurd (clash (served_arrives es steps part refers grows c name is before) none)
  ]

  served_there : (es : Past) (steps : List Step) (e : DecodedRecord) (s : Step) → Says v es steps e s → Grows (e ∷ es) (s ∷ steps) → (c : ℕ) (name : Name) → final c ≡ Some name → arrives name v s ≡ false → is_served c (e ∷ es) ≡ true → is_served c es ≡ true
  served_there es steps e s says grows c name is none h = elim (served_now c es e h) [
    | inl now ↦ absurd (clash (served_said es steps e s says grows c name is now) none)
    | inr before ↦ before
  ]

  same_served : (es : Past) (steps : List Step) → PairsOff v es steps → Each Refers es → Grows es steps → (c d : ℕ) (name : Name) → final c ≡ Some name → final d ≡ Some name → count_steps (arrives name v) steps ≤ 1 →
      is_served c es ≡ true → is_served d es ≡ true → c ≡ d
  same_served [] steps part refers grows c d name is so few h g = absurd (let no : ⊥ = cc in no)
  same_served (e ∷ es) [] part refers grows c d name is so few h g = absurd part
  same_served (e ∷ es) (s ∷ steps) part refers grows c d name is so few h g =
      let back = grows_back es steps e s refers.0 grows in
      elim (cases_Bool (arrives name v s)) [
        | inl now ↦
            let counted : suc (count_steps (arrives name v) steps) ≤ 1 = subst (λ b. (if b then suc (count_steps (arrives name v) steps) else count_steps (arrives name v) steps) ≤ 1) now few in
            let none = none_counted (arrives name v) steps (omega (arith, counted)) in
            one_served c d e (served_here es steps e part.1 refers.1 back c name is none h) (served_here es steps e part.1 refers.1 back d name so none g)
        | inr other ↦
            same_served es steps part.1 refers.1 back c d name is so (subst (λ b. (if b then suc (count_steps (arrives name v) steps) else count_steps (arrives name v) steps) ≤ 1) other few)
            (served_there es steps e s part.0 grows c name is other h) (served_there es steps e s part.0 grows d name so other g)
      ]

-- ---- in a log, calls that are settled

-- no step of these settles a call of this name that is at this vat
abbrev SettlesGone : Name → ℕ → List Step → Type 0
SettlesGone name v before = (later : List Step) (s : Step) (earlier : List Step) → before ≡ later ++ s ∷ earlier → answers_or_faults name s ≡ true → IsSome (at_vat earlier name v) → ⊥

earlier_gone : (name : Name) (v : ℕ) (before later : List Step) (s : Step) (earlier : List Step) → before ≡ later ++ s ∷ earlier → SettlesGone name v before → SettlesGone name v earlier
earlier_gone name v before later s earlier whole all more x rest is = all (later ++ s ∷ more) x rest (whole ∙ ap (λ l. later ++ s ∷ l) is ∙ sym (append_assoc later (s ∷ more) (x ∷ rest)))

module _ (v : ℕ) (final : ℕ → Option Name) (c : ℕ) (name : Name) where
  -- only this call of the name is served
  abbrev IsSole : Past → Type 0
  IsSole es = (d : ℕ) → final d ≡ Some name → is_served d es ≡ true → d ≡ c

  settles_said : (es : Past) (steps before : List Step) (e : DecodedRecord) (s : Step) → IsWithin v es steps before → Each IsGood es → IsGood es e → Says v es steps e s → Grows v final es steps → IsSole es →
      (IsSome (at_vat before name v) → ⊥) → settles_call c es e ≡ false → answers_or_faults name s ≡ true → ⊥
  settles_said es steps before (Answer d results) s w all good says grows sole left none h =
      let may : MayAnswer es (Answer d results) = good rule.Answer in
      let f = form v es steps (Answer d results) s says in
      let same = names_same f.0 name (subst (λ s. answers_or_faults name s ≡ true) (sym f.4) h) in
      let here_now = and_parts (is_served d es && not (is_settled d es)) (are_distinct results) may in
      clash (eq-eqb d c (sole d (grows d f.0 f.2 ∙ ap (λ n. Some n) same) (and_parts (is_served d es) (not (is_settled d es)) here_now.0).0)) none
  settles_said es steps before (AnswerBy d by) s w all good says grows sole left none h =
      let may : MayAnswer es (AnswerBy d by) = good rule.Answer in
      let f = form v es steps (AnswerBy d by) s says in
      let same = names_same f.0 name (subst (λ s. answers_or_faults name s ≡ true) (sym f.4) h) in
      clash (eq-eqb d c (sole d (grows d f.0 f.2 ∙ ap (λ n. Some n) same) (and_parts (is_served d es) (not (is_settled d es)) may).0)) none
  settles_said es steps before (Fault d) s w all good says grows sole left none h =
      let may : MayAnswer es (Fault d) = good rule.Answer in
      let f = form v es steps (Fault d) s says in
      let same = names_same f.0 name (subst (λ s. answers_or_faults name s ≡ true) (sym f.2) h) in
      elim (or_either (is_at_vat d es) (is_served d es) (and_parts (is_at_vat d es || is_served d es) _ may).0) [
        | inl there ↦ left (subst (λ n. IsSome (at_vat before n v)) same (is_here v es steps before w all d there f.0 f.1))
        | inr served ↦ clash (eq-eqb d c (sole d (grows d f.0 f.1 ∙ ap (λ n. Some n) same) served)) none
      ]
  settles_said es steps before (Host r object) s w all good says grows sole left none h = false≢true (subst (λ s. answers_or_faults name s ≡ true) (sym (form v es steps (Host r object) s says)) h)
  settles_said es steps before (Vow r) s w all good says grows sole left none h = false≢true (subst (λ s. answers_or_faults name s ≡ true) (sym (form v es steps (Vow r) s says)) h)
  settles_said es steps before (Fulfil r to) s w all good says grows sole left none h = false≢true (subst (λ s. answers_or_faults name s ≡ true) (sym (form v es steps (Fulfil r to) s says).3) h)
  settles_said es steps before (Break r) s w all good says grows sole left none h = false≢true (subst (λ s. answers_or_faults name s ≡ true) (sym (form v es steps (Break r) s says).2) h)
  settles_said es steps before (Make d r interface method) s w all good says grows sole left none h = false≢true (subst (λ s. answers_or_faults name s ≡ true) (sym (form v es steps (Make d r interface method) s says).1) h)
  settles_said es steps before (Field r d path) s w all good says grows sole left none h = false≢true (subst (λ s. answers_or_faults name s ≡ true) (sym (form v es steps (Field r d path) s says).1) h)
  settles_said es steps before (Deliver d object) s w all good says grows sole left none h = false≢true (subst (λ s. answers_or_faults name s ≡ true) (sym (form v es steps (Deliver d object) s says).2) h)
  settles_said es steps before (Wire true k d rs m) s w all good says grows sole left none h = false≢true (subst (λ s. answers_or_faults name s ≡ true) (sym (form v es steps (Wire true k d rs m) s says).2) h)
  settles_said es steps before (Wire false k d rs m) s w all good says grows sole left none h = false≢true (subst (λ s. answers_or_faults name s ≡ true) says.step h)

  unsettled : (es : Past) (steps before : List Step) → IsWithin v es steps before → Each IsGood es → Grows v final es steps → IsSole es → SettlesGone name v before → is_settled c es ≡ false → list_any (answers_or_faults name) steps ≡ false
  unsettled [] [] before w all grows sole left none = refl
  unsettled [] (s ∷ steps) before w all grows sole left none = absurd w.paired
  unsettled (e ∷ es) [] before w all grows sole left none = absurd w.paired
  unsettled (e ∷ es) (s ∷ steps) before w all grows sole left none =
      let at = step_back v e es s steps before w in
      let parts = not_passed (settles_call c es e) (point es e) (last_where (settles_call c) es) none in
      let back = grows_back v final es steps e s w.refers.0 grows in
      let alone : IsSole es = λ d is served. sole d is (served_later d es e served) in
      or_from (answers_or_faults name s) (list_any (answers_or_faults name) steps)
      (false_from_ne_true (answers_or_faults name s) (λ h. settles_said es steps at.earlier e s at.within all.1 all.0 w.paired.0 back alone (left at.later s at.earlier at.whole h) parts.0 h))
      (unsettled es steps at.earlier at.within all.1 back alone (earlier_gone name v before at.later s at.earlier at.whole left) parts.1)

-- ---- a call that a vat names came to it

own_comes : (v : ℕ) (x name : Name) → x ≡ name → ((v == v) && is_same_call x name) ≡ true
own_comes v x name same = and_from (v == v) (is_same_call x name) (eq-eqb v v refl) (subst (λ n. is_same_call x n ≡ true) same (same_to_itself x))

received_comes : (v k : ℕ) (m : Message) (bound : List Cap) (name : Name) → call_in_message m ≡ Some name → comes_to v name (step.Receive v k m bound) ≡ true
received_comes v k (message.Boot d) bound name h = own_comes v d name (only d name h)
received_comes v k (message.Call d target interface method caps) bound name h = own_comes v d name (only d name h)
received_comes v k m bound name h = absurd (let no : ⊥ = cc in no)

if_there : {A : Type 0} (b : Bool) (o : Option A) (x : A) → (if b then o else None) ≡ Some x → (b ≡ true) × (o ≡ Some x)
if_there true o x h = (refl, h)
if_there false o x h = absurd (let no : ⊥ = cc in no)

heard_comes : (v c k d : ℕ) (rs : List ℕ) (s : Step) (name : Name) (m : Message) (bound : List Cap) → s ≡ step.Receive v k m bound → (if d == c then option_and_then call_in_message (message_of_step s) else None) ≡ Some name →
    comes_to v name s ≡ true
heard_comes v c k d rs s name m bound is h =
    let called = (if_there (d == c) (option_and_then call_in_message (message_of_step s)) name h).1 in
    subst (λ s. comes_to v name s ≡ true) (sym is) (received_comes v k m bound name (ap (λ s. option_and_then call_in_message (message_of_step s)) (sym is) ∙ called))

names_come : (v c : ℕ) (es : Past) (steps : List Step) (e : DecodedRecord) (s : Step) (name : Name) → Says v es steps e s → names_call v c e s ≡ Some name → comes_to v name s ≡ true
names_come v c es steps (Make d r interface method) s name says h =
    let own = if_there (d == c) (Some (call v c)) name h in
    subst (λ s. comes_to v name s ≡ true) (form v es steps (Make d r interface method) s says).1 (own_comes v (call v d) name (ap (call v) (eqb-true d c own.0) ∙ only (call v c) name own.1))
names_come v c es steps (Wire true k d rs (Bootstrap q)) s name says h =
    let own = if_there (d == c) (Some (call v c)) name h in
    subst (λ s. comes_to v name s ≡ true) (boot_said v es steps k d rs q s says) (own_comes v (call v d) name (ap (call v) (eqb-true d c own.0) ∙ only (call v c) name own.1))
names_come v c es steps (Wire false k d rs (Bootstrap q)) s name says h = heard_comes v c k d rs s name says.message says.bound says.step h
names_come v c es steps (Wire false k d rs (Call head target params)) s name says h = heard_comes v c k d rs s name says.message says.bound says.step h
names_come v c es steps e s name says h = absurd (let no : ⊥ = cc in no)

named_comes : (v : ℕ) (es : Past) (steps : List Step) → PairsOff v es steps → (c : ℕ) (name : Name) → call_named v es steps c ≡ Some name → list_any (comes_to v name) steps ≡ true
named_comes v [] steps part c name h = absurd (let no : ⊥ = cc in no)
named_comes v (e ∷ es) [] part c name h = absurd part
named_comes v (e ∷ es) (s ∷ steps) part c name h = at (names_call v c e s) refl h (named_comes v es steps part.1 c name)
  where
    at : (o : Option Name) → names_call v c e s ≡ o → option_or o (call_named v es steps c) ≡ Some name → (call_named v es steps c ≡ Some name → list_any (comes_to v name) steps ≡ true) →
        (comes_to v name s || list_any (comes_to v name) steps) ≡ true
    at None n h rest = or_right (comes_to v name s) (list_any (comes_to v name) steps) (rest h)
    at (Some x) n h rest = or_left (comes_to v name s) (list_any (comes_to v name) steps) (names_come v c es steps e s name part.0 (n ∙ h))

-- ---- together

module _ (v : ℕ) (es : Past) (steps before : List Step) (w : IsWithin v es steps before) (all : Each IsGood es) (c : ℕ) (name : Name) (is : call_named v es steps c ≡ Some name) where
  call_came : list_any (comes_to v name) before ≡ true
  call_came = some_in_run (λ s. vat_of s == v) (comes_to v name) before (ap (list_any (comes_to v name)) w.own ∙ named_comes v es steps w.paired c name is)

  call_arrived : is_served c es ≡ true → list_any (arrives name v) before ≡ true
  call_arrived served =
      some_in_run (λ s. vat_of s == v) (arrives name v) before
      (ap (list_any (arrives name v)) w.own ∙ served_arrives v (call_named v es steps) es steps w.paired w.refers (λ d n h. h) c name is served)

  few_arrive : count_steps (arrives name v) steps ≤ 1
  few_arrive =
      let kept = count_kept (λ s. vat_of s == v) (arrives name v) before in
      let once = arrives_once before w.legal w.linked name v in
      subst (λ l. count_steps (arrives name v) l ≤ 1) w.own (omega (arith, kept, once))

  served_unsettled : is_served c es ≡ true → is_settled c es ≡ false → list_any (answers_or_faults name) before ≡ false
  served_unsettled served none =
      let final = call_named v es steps in
      let arrived = call_arrived served in
      settled_own before w.legal w.linked name v arrived
      (ap (list_any (answers_or_faults name)) w.own
      ∙ unsettled v final c name es steps before w all (λ d n h. h) (λ d so served_too. same_served v final es steps w.paired w.refers (λ d n h. h) d c name so is few_arrive served_too served)
      (λ later s earlier whole e at.
      settled_gone name v v s earlier later (subst (EachStep IsLegal) whole w.legal) (subst (EachStep IsLinked) whole w.linked) (subst (λ l. list_any (arrives name v) l ≡ true) whole arrived) e at)
      none)

-- no path has two results
is_not : (b : Bool) → not b ≡ true → b ≡ false
is_not false h = refl
is_not true h = absurd (let no : ⊥ = cc in no)

none_alike : (f : ℕ × List ℕ → Option (List ℕ × Cap)) → ((a : ℕ × List ℕ) (b : List ℕ × Cap) → f a ≡ Some b → a.1 ≡ b.0) → (path : List ℕ) (results : List (ℕ × List ℕ)) (caps : List (List ℕ × Cap)) →
    all_there (map f results) ≡ Some caps → list_any (λ a. same_path path a.1) results ≡ false → list_any (λ b. same_path path b.0) caps ≡ false
none_alike f kept path [] caps h none = ap (list_any (λ b. same_path path b.0)) (sym (only [] caps h))
none_alike f kept path (a ∷ results) caps h none = at (f a) refl h (none_alike f kept path results)
  where
    at : (o : Option (List ℕ × Cap)) → f a ≡ o → all_there (o ∷ map f results) ≡ Some caps →
        ((caps : List (List ℕ × Cap)) → all_there (map f results) ≡ Some caps → list_any (λ a. same_path path a.1) results ≡ false → list_any (λ b. same_path path b.0) caps ≡ false) →
        list_any (λ b. same_path path b.0) caps ≡ false
    at None e h rest = absurd (let no : ⊥ = cc in no)
    at (Some b) e h rest =
        let more = mapped_is (λ bs. b ∷ bs) (all_there (map f results)) caps h in
        let parts = or_parts (same_path path a.1) (list_any (λ a. same_path path a.1) results) none in
        subst (λ l. list_any (λ b. same_path path b.0) l ≡ false) more.2
        (or_from (same_path path b.0) (list_any (λ b. same_path path b.0) more.0) (ap (same_path path) (sym (kept a b e)) ∙ parts.0) (rest more.0 more.1 parts.1))

paths_kept : (f : ℕ × List ℕ → Option (List ℕ × Cap)) → ((a : ℕ × List ℕ) (b : List ℕ × Cap) → f a ≡ Some b → a.1 ≡ b.0) → (results : List (ℕ × List ℕ)) (caps : List (List ℕ × Cap)) →
    all_there (map f results) ≡ Some caps → are_distinct results ≡ true → has_distinct_paths caps ≡ true
paths_kept f kept [] caps h all = ap has_distinct_paths (sym (only [] caps h))
paths_kept f kept (a ∷ results) caps h all = at (f a) refl h (paths_kept f kept results)
  where
    at : (o : Option (List ℕ × Cap)) → f a ≡ o → all_there (o ∷ map f results) ≡ Some caps →
        ((caps : List (List ℕ × Cap)) → all_there (map f results) ≡ Some caps → are_distinct results ≡ true → has_distinct_paths caps ≡ true) → has_distinct_paths caps ≡ true
    at None e h rest = absurd (let no : ⊥ = cc in no)
    at (Some b) e h rest =
        let more = mapped_is (λ bs. b ∷ bs) (all_there (map f results)) caps h in
        let parts = and_parts (not (list_any (λ b. same_path a.1 b.1) results)) (are_distinct results) all in
        let none = none_alike f kept b.0 results more.0 more.1 (subst (λ p. list_any (λ x. same_path p x.1) results ≡ false) (kept a b e) (is_not (list_any (λ b. same_path a.1 b.1) results) parts.0)) in
        subst (λ l. has_distinct_paths l ≡ true) more.2 (and_from (not (list_any (λ x. same_path b.0 x.0) more.0)) (has_distinct_paths more.0) (ap not none) (rest more.0 more.1 parts.1))

result_path : (names : Naming) (es : Past) (a : ℕ × List ℕ) (b : List ℕ × Cap) → result_named names es a ≡ Some b → a.1 ≡ b.0
result_path names es a b h = let c = mapped_is (λ c. (a.1, c)) (reference_named names es a.0) b h in ap (λ w. w.0) c.2

pub answer_may_come : (v : ℕ) (es : Past) (steps before : List Step) (c : ℕ) (results : List (ℕ × List ℕ)) (s : Step) → IsWithin v es steps before → Each IsGood es → IsGood es (Answer c results) →
    Says v es steps (Answer c results) s → MayCome before s
answer_may_come v es steps before c results s w all good says =
    let may : MayAnswer es (Answer c results) = good rule.Answer in
    let f = form v es steps (Answer c results) s says in
    let parts = and_parts (is_served c es && not (is_settled c es)) (are_distinct results) may in
    let served = and_parts (is_served c es) (not (is_settled c es)) parts.0 in
    let names = naming v (Answer c results ∷ es) (s ∷ steps) in
    subst (MayCome before) f.4 (
      call_arrived v es steps before w all c f.0 f.2 served.0,
      served_unsettled v es steps before w all c f.0 f.2 served.0 (is_not (is_settled c es) served.1),
      paths_kept (result_named names es) (result_path names es) results f.1 f.3 parts.1,
    )

pub answer_by_may_come : (v : ℕ) (es : Past) (steps before : List Step) (c by : ℕ) (s : Step) → IsWithin v es steps before → Each IsGood es → IsGood es (AnswerBy c by) → Says v es steps (AnswerBy c by) s →
    MayCome before s
answer_by_may_come v es steps before c by s w all good says =
    let may : MayAnswer es (AnswerBy c by) = good rule.Answer in
    let f = form v es steps (AnswerBy c by) s says in
    let served = and_parts (is_served c es) (not (is_settled c es)) may in
    subst (MayCome before) f.4 (
      call_arrived v es steps before w all c f.0 f.2 served.0,
      served_unsettled v es steps before w all c f.0 f.2 served.0 (is_not (is_settled c es) served.1),
      call_came v es steps before w all by f.1 f.3,
    )

pub fault_may_come : (v : ℕ) (es : Past) (steps before : List Step) (c : ℕ) (s : Step) → IsWithin v es steps before → Each IsGood es → IsGood es (Fault c) → Says v es steps (Fault c) s → MayCome before s
fault_may_come v es steps before c s w all good says =
    let may : MayAnswer es (Fault c) = good rule.Answer in
    let f = form v es steps (Fault c) s says in
    let parts = and_parts (is_at_vat c es || is_served c es) (not (is_settled c es)) may in
    subst (MayCome before) f.2 (elim (or_either (is_at_vat c es) (is_served c es) parts.0) [
      | inl there ↦
          let at = is_here v es steps before w all c there f.0 f.1 in
          (or_right (list_any (arrives f.0 v) before) (is_some (at_vat before f.0 v)) at, unsettled_here before w.legal w.linked f.0 v at)
      | inr served ↦ (
        or_left (list_any (arrives f.0 v) before) (is_some (at_vat before f.0 v)) (call_arrived v es steps before w all c f.0 f.1 served),
        served_unsettled v es steps before w all c f.0 f.1 served (is_not (is_settled c es) parts.1),
      )
    ])
