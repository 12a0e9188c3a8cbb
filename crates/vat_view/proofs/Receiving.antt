-- What one record more does to where received calls that are at the vat were received.
use Rattle.std.proofs.Common.{◌≡◌, ◌⊎◌, ◌<◌, inl, inr, refl, sym, ◌∙◌, ap, ap₂, subst, ℕ, ◌==◌, List, [], ◌∷◌, length, Bool, true, false, not, ◌&&◌, ◌||◌, Option, Some, None, if◌then◌else◌, arith}
use Rattle.std.specs.Prelude.{is_some, option_and_then, unwrap_or}
use Rattle.std.specs.List.{list_all}
use Rattle.std.specs.Option.{option_or}
use Rattle.std.proofs.lemmas.Bool.{cases_Bool, and_parts, or_parts, false≢true, eqb-true, eq-eqb, not-true}
use Rattle.vat_view.specs.declared.tables.waits.waiting_calls.Receipt.{Receipt}
use Rattle.vat_view.specs.Types.{Call, Return, Exception, Canceled, DecodedRecord, Make, Deliver, Fault, Wire, Request}
use Rattle.decoded_records.specs.Past.{Past, Point, point, id, is, record_index, last_answer, last_where, last_since, Each}
use Rattle.decoded_records.specs.Questions.{call_at, opening}
use Rattle.decoded_records.specs.Views.{view_of_reference, view_of_target}
use Rattle.decoded_records.specs.Calls.{brings, request_of, goal_of, moves, has_passed, is_at_vat}
use Rattle.decoded_records.specs.Loopbacks.{receives_call}
use Rattle.decoded_records.specs.Bindings.{Refers, contains, new_calls, is_bound_call}
use Rattle.vat_view.specs.Sound.{IsSound}
use Rattle.vat_view.specs.Glue.LoopTables.{receipt, receipt_of, receipt_here, call_received_by, call_taken_by, put_call}
use Rattle.vat_view.proofs.Viewed.{cases_option}

none_some : {A : Type 0} {x : A} → None ≡ Some x → ⊥
none_some e = cc

some_same : {A : Type 0} {x y : A} → Some x ≡ Some y → x ≡ y
some_same e = cc

-- ---- a call that isn't bound wasn't received

no_receipt : (c : ℕ) (before : Past) (e : DecodedRecord) → contains c (new_calls e) ≡ false → receipt c before e ≡ None
no_receipt c before (Wire false k d rs (Call head t p)) h =
    let r : Receipt = record { connection = k; number = length before } in ap (λ b. if b then Some r else None) (or_parts (d == c) false h).0
no_receipt c before _ h = refl

pub unreceived : (c : ℕ) (past : Past) → is_bound_call past c ≡ false → receipt_of c past ≡ None
unreceived c [] h = refl
unreceived c (e ∷ before) h =
    let parts = or_parts (contains c (new_calls e)) (is_bound_call before c) h in
    ap (λ o. option_or o (receipt_of c before)) (no_receipt c before e parts.0) ∙ unreceived c before parts.1

-- so none that was received is newly bound
apart_from : (f : ℕ → Bool) (c : ℕ) → f c ≡ true → (xs : List ℕ) → list_all (λ x. not (f x)) xs ≡ true → contains c xs ≡ false
apart_from f c bound [] h = refl
apart_from f c bound (x ∷ xs) h =
    let parts = and_parts (not (f x)) (list_all (λ x. not (f x)) xs) h in
    elim (cases_Bool (x == c)) [
      | inl same ↦ absurd (false≢true (sym (not-true (f x) parts.0) ∙ ap f (eqb-true x c same) ∙ bound))
      | inr apart ↦ ap (λ b. b || contains c xs) apart ∙ apart_from f c bound xs parts.1
    ]

not_new : (c : ℕ) (before : Past) (e : DecodedRecord) (r : Receipt) → Refers before e → receipt_of c before ≡ Some r → contains c (new_calls e) ≡ false
not_new c before e r refers h = elim (cases_Bool (is_bound_call before c)) [
  | inl bound ↦ apart_from (is_bound_call before) c bound (new_calls e) refers.unused_call
  | inr unbound ↦ absurd (none_some (sym (unreceived c before unbound) ∙ h))
]

received_once : (c : ℕ) (before : Past) (e : DecodedRecord) (r : Receipt) → Refers before e → receipt_of c before ≡ Some r → receipt c before e ≡ None
received_once c before e r refers h = no_receipt c before e (not_new c before e r refers h)

-- ---- the goal of a call that was received stays

not_brought : (c : ℕ) (before : Past) (e : DecodedRecord) → contains c (new_calls e) ≡ false → brings c before e ≡ None
not_brought c before (Make d r f m) h =
    let a : Request = record { goal = view_of_reference before r; interface = f; method = m } in ap (λ b. if b then Some a else None) (or_parts (d == c) false h).0
not_brought c before (Wire false k d rs (Call head t p)) h =
    let a : Request = record { goal = view_of_target before (Wire false k d rs (Call head t p)); interface = head.interface; method = head.method } in
    ap (λ b. if b then Some a else None) (or_parts (d == c) false h).0
not_brought c before _ h = refl

pub goal_stays : (c : ℕ) (before : Past) (e : DecodedRecord) (r : Receipt) → Refers before e → receipt_of c before ≡ Some r → goal_of c (e ∷ before) ≡ goal_of c before
goal_stays c before e r refers h = ap (λ o. option_and_then (λ a. a.goal) (option_or o (request_of c before))) (not_brought c before e (not_new c before e r refers h))

-- it is what the target stands for of the record that receives the call
pub goal_received : (c n : ℕ) (before : Past) (e : DecodedRecord) (x : ℕ × Receipt) → call_received_by n e ≡ Some x → (x.0 == c) ≡ true → goal_of c (e ∷ before) ≡ view_of_target before e
goal_received c n before (Wire false k d rs (Call head t p)) x h same =
    let a : Request = record { goal = view_of_target before (Wire false k d rs (Call head t p)); interface = head.interface; method = head.method } in
    let named : d ≡ x.0 = ap (λ y. y.0) (some_same h) in
    ap (λ b. option_and_then (λ a. a.goal) (option_or (if b then Some a else None) (request_of c before))) (ap (λ y. y == c) named ∙ same)
goal_received c n before _ x h same = absurd (none_some h)

-- ---- the step of one record

module _ (c : ℕ) (before : Past) where
  abbrev here : Bool → Option Receipt
  here at = if at then receipt_of c before else None

  -- it leaves the vat
  took : (b : Bool) → (if b then None else receipt_here c before) ≡ here (unwrap_or (option_or (if b then Some false else None) (last_answer (moves c) before)) false)
  took true = refl
  took false = refl

  -- it is received
  came : (r : Receipt) (a : Request) (b : Bool) → (if b then Some r else receipt_here c before) ≡
      (if unwrap_or (option_or (if is_some (if b then Some a else None) then Some true else if false then Some false else None) (last_answer (moves c) before)) false
      then option_or (if b then Some r else None) (receipt_of c before) else None)
  came r a true = refl
  came r a false = refl

  nowhere : (b : Bool) → receipt_of c before ≡ None → here b ≡ None
  nowhere true h = h
  nowhere false h = refl

  -- it is made
  made : (a : Request) (b : Bool) → (b ≡ true → receipt_of c before ≡ None) →
      receipt_here c before ≡ here (unwrap_or (option_or (if is_some (if b then Some a else None) then Some true else if false then Some false else None) (last_answer (moves c) before)) false)
  made a true h = nowhere (is_at_vat c before) (h refl) ∙ sym (h refl)
  made a false h = refl

pub received_step : (c : ℕ) (before : Past) (e : DecodedRecord) → Refers before e →
    (if is c (call_taken_by (λ q. call_at (opening q before)) e) then None else put_call c (call_received_by (length before) e) (receipt_here c before)) ≡ receipt_here c (e ∷ before)
received_step c before (Make d r f m) refers =
    made c before (record { goal = view_of_reference before r; interface = f; method = m }) (d == c)
    (λ same. unreceived c before (subst (λ x. is_bound_call before x ≡ false) (eqb-true d c same) (not-true (is_bound_call before d) (and_parts (not (is_bound_call before d)) true refers.unused_call).0)))
received_step c before (Deliver d object) refers = took c before (d == c)
received_step c before (Fault d) refers = took c before (d == c)
received_step c before (Wire true k d rs (Call head t p)) refers = took c before (d == c)
received_step c before (Wire true k d rs (Return head Exception)) refers = took c before (is c (call_at (opening (id k false head.answer) before)))
received_step c before (Wire true k d rs (Return head Canceled)) refers = took c before (is c (call_at (opening (id k false head.answer) before)))
received_step c before (Wire false k d rs (Call head t p)) refers =
    came c before (record { connection = k; number = length before })
    (record { goal = view_of_target before (Wire false k d rs (Call head t p)); interface = head.interface; method = head.method }) (d == c)
received_step c before _ refers = refl

-- ---- a call that was received on a connection has its receipt

receipt_now : (k c : ℕ) (before : Past) (e : DecodedRecord) → receives_call k c before e ≡ true → receipt c before e ≡ Some (record { connection = k; number = length before })
receipt_now k c before (Wire false j d rs (Call head t p)) h =
    let both = and_parts (j == k) (d == c) h in
    ap₂ (λ b x. if b then Some (record { connection = x; number = length before }) else None) both.1 (eqb-true j k both.0)
receipt_now k c before _ h = absurd (false≢true h)

now_receives : (c : ℕ) (before : Past) (e : DecodedRecord) (r : Receipt) → receipt c before e ≡ Some r → (receives_call r.connection c before e ≡ true) × (r.number ≡ length before)
now_receives c before (Wire false j d rs (Call head t p)) r h = inner (d == c) h
  where
    inner : (b : Bool) → (if b then Some (record { connection = j; number = length before }) else None) ≡ Some r → (((j == r.connection) && b) ≡ true) × (r.number ≡ length before)
    inner true g =
        let same : record { connection = j; number = length before } ≡ r = some_same g in
        (ap (λ x. x && true) (eq-eqb j r.connection (ap (λ x. x.connection) same)), sym (ap (λ x. x.number) same))
    inner false g = absurd (none_some g)
now_receives c before _ r h = absurd (none_some h)

-- the receipt of a call, with what it says
abbrev pub Received : ℕ → ℕ → ℕ → Past → Type 0
Received k c below past = (r : Receipt) × (receipt_of c past ≡ Some r) × (r.connection ≡ k) × (r.number < below)

-- a record more doesn't change it
received_more : (k c below : ℕ) (before : Past) (e : DecodedRecord) → Refers before e → Received k c below before → Received k c below (e ∷ before)
received_more k c below before e refers (r, found, on, early) = (r, ap (λ o. option_or o (receipt_of c before)) (received_once c before e r refers found) ∙ found, on, early)

passed_received : (k c : ℕ) (past : Past) → Each IsSound past → has_passed (receives_call k c) past ≡ true → Received k c (length past) past
passed_received k c [] sound h = absurd (false≢true h)
passed_received k c (e ∷ before) sound h = elim (cases_Bool (receives_call k c before e)) [
  | inl here ↦ (
    record { connection = k; number = length before },
    ap (λ o. option_or o (receipt_of c before)) (receipt_now k c before e here),
    refl,
    omega arith,
  )
  | inr apart ↦
      let old = passed_received k c before sound.1 (sym (ap (λ b. is_some (if b then Some (point before e) else last_where (receives_call k c) before)) apart) ∙ h) in
      let more = received_more k c (length before) before e sound.0.refers old in
      (more.0, more.1, more.2, (let early = more.3 in omega (arith, early)))
]

received_passed : (c : ℕ) (past : Past) (r : Receipt) → receipt_of c past ≡ Some r → has_passed (receives_call r.connection c) past ≡ true
received_passed c [] r h = absurd (none_some h)
received_passed c (e ∷ before) r h = elim (cases_Bool (receives_call r.connection c before e)) [
  | inl here ↦ ap (λ b. is_some (if b then Some (point before e) else last_where (receives_call r.connection c) before)) here
  | inr apart ↦
      ap (λ b. is_some (if b then Some (point before e) else last_where (receives_call r.connection c) before)) apart
      ∙ received_passed c before r (elim (cases_option (receipt c before e)) [
        | inl some ↦
            let same : receipt c before e ≡ Some r = some.1 ∙ sym (ap (λ o. option_or o (receipt_of c before)) some.1) ∙ h in
            absurd (false≢true (sym apart ∙ (now_receives c before e r same).0))
        | inr none ↦ sym (ap (λ o. option_or o (receipt_of c before)) none) ∙ h
      ])
]

-- ---- before a record of the past and after it

module _ (start test : Past → DecodedRecord → Bool) where
  since_parts : (before : Past) (e : DecodedRecord) (p : Point) → last_since start test (e ∷ before) ≡ Some p → (point before e ≡ p) ⊎ (last_since start test before ≡ Some p)
  since_parts before e p h = inner (start before e) (test before e) h
    where
      inner : (s t : Bool) → (if s then None else if t then Some (point before e) else last_since start test before) ≡ Some p →
          (point before e ≡ p) ⊎ (last_since start test before ≡ Some p)
      inner true t g = absurd (none_some g)
      inner false true g = inl (some_same g)
      inner false false g = inr g

  since_below : (past : Past) (p : Point) → last_since start test past ≡ Some p → record_index p < length past
  since_below [] p h = absurd (none_some h)
  since_below (e ∷ before) p h = elim (since_parts before e p h) [
    | inl here ↦ let at : length before ≡ record_index p = ap (λ x. record_index x) here in omega (arith, at)
    | inr old ↦ let rest = since_below before p old in omega (arith, rest)
  ]

  -- what was received before a record has its receipt after it
  pub received_since : (k c : ℕ) (past : Past) → Each IsSound past → (p : Point) → last_since start test past ≡ Some p → has_passed (receives_call k c) p.before ≡ true → Received k c (record_index p) past
  received_since k c [] sound p h passed = absurd (none_some h)
  received_since k c (e ∷ before) sound p h passed = received_more k c (record_index p) before e sound.0.refers (elim (since_parts before e p h) [
    | inl here ↦
        let same : before ≡ p.before = ap (λ x. x.before) here in
        subst (λ l. Received k c (length l) before) same (passed_received k c before sound.1 (subst (λ l. has_passed (receives_call k c) l ≡ true) (sym same) passed))
    | inr old ↦ received_since k c before sound.1 p old passed
  ])

  -- a receipt that is older than a record is one before it
  pub passed_since : (c : ℕ) (past : Past) (p : Point) (r : Receipt) → last_since start test past ≡ Some p → receipt_of c past ≡ Some r → r.number < record_index p →
      has_passed (receives_call r.connection c) p.before ≡ true
  passed_since c [] p r h found early = absurd (none_some h)
  passed_since c (e ∷ before) p r h found early =
      let below = since_below (e ∷ before) p h in
      let old : receipt_of c before ≡ Some r = elim (cases_option (receipt c before e)) [
        | inl some ↦
            let same : receipt c before e ≡ Some r = some.1 ∙ sym (ap (λ o. option_or o (receipt_of c before)) some.1) ∙ found in
            let at : r.number ≡ length before = (now_receives c before e r same).1 in
            absurd (let no : ⊥ = omega (arith, below, at, early) in no)
        | inr none ↦ sym (ap (λ o. option_or o (receipt_of c before)) none) ∙ found
      ] in
      elim (since_parts before e p h) [
        | inl here ↦ subst (λ x. has_passed (receives_call r.connection c) x.before ≡ true) here (received_passed c before r old)
        | inr before_it ↦ passed_since c before p r before_it old early
      ]
