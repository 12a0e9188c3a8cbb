-- Taking a record that may come never loses an order that fits. A record that may come may still come after a step of
-- another vat: its own vat's part stays, and the others only sent more. So in any order that fits, the vat's first step can
-- be moved to the front.
use Rattle.std.proofs.Common.{◌≡◌, ℕ, ◌+◌, ◌<◌, ◌≤◌, Bool, true, false, ◌&&◌, List, [], ◌∷◌, length, get_or, take, Option, Some, None, refl, sym, ap, subst, ◌∙◌, inl, inr, arith}
use Rattle.std.specs.Prelude.{◌≢◌, ◌⊎◌, ◌==◌, not, slice_get, count_by, filter}
use Rattle.std.proofs.lemmas.Bool.{false≢true, eqb-true, eq-eqb, cases_eq, cases_lt, ltb-true, lt-ltb, leb-true}
use Rattle.std.proofs.lemmas.List.{take_all}
use Rattle.std.proofs.lemmas.List.Sums.{count_by_more_yes, count_by_more_no, sum_by-cons}
use Rattle.std.proofs.lemmas.Option.{slice_get_past}
use Rattle.vat_log.specs.Log.{Log}
use Rattle.vat_log.specs.declared.body.Body.{Body}
use Rattle.vat_log.specs.declared.body.Body.TheVariants.{Receive}
use Rattle.merge_order.specs.Fits.{Part, sent_so_far, received_so_far, part_of, sent_by_the_others, may_come_behind, may_come_from, may_come, further, after, used_up, FitsFrom}
use Rattle.vat_log.specs.Passages.{sends_frame}

pub bool_cases : (b : Bool) → (b ≡ true) ⊎ (b ≡ false)
bool_cases true = inl refl
bool_cases false = inr refl

and_true : (a b : Bool) → (a && b) ≡ true → (a ≡ true) × (b ≡ true)
and_true true true e = (refl, refl)
and_true true false e = absurd cc
and_true false b e = absurd cc

pub some_is : (p q : Part) → Some p ≡ Some q → p ≡ q
some_is p q e = cc

pub eqb_apart : (a b : ℕ) → a ≢ b → (a == b) ≡ false
eqb_apart a b apart =
    elim (bool_cases (a == b)) [
      | inl same ↦ absurd (apart (eqb-true a b same))
      | inr other ↦ other
    ]

count_step : (p : Body → Bool) (xs : List Body) (n : ℕ) → n < length xs → count_by p (take n xs) ≤ count_by p (take (n + 1) xs)
count_step p [] n lt = absurd (omega arith)
count_step p (x ∷ xs) n lt =
    elim (bool_cases (p (get_or (x ∷ xs) n x))) [
      | inl counts ↦ omega (arith, count_by_more_yes p (x ∷ xs) n x lt counts)
      | inr fails ↦ omega (arith, count_by_more_no p (x ∷ xs) n x lt fails)
    ]

-- ---- one part

-- a step leaves a part, or takes one record of it
pub further_cases : (w : ℕ) (p : Part) → ((further w p ≡ p) × ((p.log.vat == w) ≡ false)) ⊎ ((further w p ≡ record { log = p.log; came = p.came + 1 }) × (p.log.vat ≡ w))
unfolding further
further_cases w p =
    elim (bool_cases (p.log.vat == w)) [
      | inl same ↦ inr (rw same refl, eqb-true _ _ same)
      | inr other ↦ inl (rw other refl, other)
    ]

pub further_log : (w : ℕ) (p : Part) → (further w p).log ≡ p.log
further_log w p =
    elim (further_cases w p) [
      | inl stays ↦ ap (λ (q : Part). q.log) stays.0
      | inr moves ↦ ap (λ (q : Part). q.log) moves.0
    ]

-- a step of another vat leaves the part
pub other_stays : (w : ℕ) (p : Part) → p.log.vat ≢ w → further w p ≡ p
other_stays w p apart =
    elim (further_cases w p) [
      | inl stays ↦ stays.0
      | inr moves ↦ absurd (apart moves.1)
    ]

pub own_moves : (w : ℕ) (p : Part) → p.log.vat ≡ w → further w p ≡ record { log = p.log; came = p.came + 1 }
own_moves w p same =
    elim (further_cases w p) [
      | inl stays ↦ absurd (false≢true (sym stays.1 ∙ eq-eqb _ _ same))
      | inr moves ↦ moves.0
    ]

further_commutes : (v w : ℕ) (p : Part) → v ≢ w → further v (further w p) ≡ further w (further v p)
further_commutes v w p apart =
    elim (cases_eq p.log.vat v) [
      | inl same ↦
          let stays : further w p ≡ p = other_stays w p (λ e. apart (sym same ∙ e)) in
          let still : further w (further v p) ≡ further v p = other_stays w (further v p) (λ e. apart (sym same ∙ sym (ap (λ (l : Log). l.vat) (further_log v p)) ∙ e)) in
          ap (further v) stays ∙ sym still
      | inr other ↦
          let stays : further v p ≡ p = other_stays v p other in
          let still : further v (further w p) ≡ further w p = other_stays v (further w p) (λ e. other (sym (ap (λ (l : Log). l.vat) (further_log w p)) ∙ e)) in
          still ∙ ap (further w) (sym stays)
    ]

-- ---- the vat's own part

pub part_stays : (v w : ℕ) (ps : List Part) → v ≢ w → part_of v (after w ps) ≡ part_of v ps
part_stays v w [] apart = refl
part_stays v w (p ∷ ps) apart =
    let later = part_stays v w ps apart in
    let vat : ((further w p).log.vat == v) ≡ (p.log.vat == v) = ap (λ (l : Log). l.vat == v) (further_log w p) in
    elim (cases_eq p.log.vat v) [
      | inl same ↦ rw (vat, eq-eqb _ _ same) (ap Some (other_stays w p (λ e. apart (sym same ∙ e))))
      | inr other ↦ rw (vat, eqb_apart _ _ other) later
    ]

-- ---- the others sent more

pub count_grows : (p : Body → Bool) (xs : List Body) (n : ℕ) → count_by p (take n xs) ≤ count_by p (take (n + 1) xs)
count_grows p xs n =
    elim (cases_lt n (length xs)) [
      | inl lt ↦ count_step p xs n lt
      | inr le ↦
          let all : take n xs ≡ xs = take_all n xs le in
          let all_later : take (n + 1) xs ≡ xs = take_all (n + 1) xs (omega arith) in
          omega (arith, ap (count_by p) all, ap (count_by p) all_later)
    ]

sent_grows : (connection w : ℕ) (p : Part) → sent_so_far connection p ≤ sent_so_far connection (further w p)
sent_grows connection w p =
    elim (further_cases w p) [
      | inl stays ↦ omega (arith, ap (sent_so_far connection) stays.0)
      | inr moves ↦ omega (arith, ap (sent_so_far connection) moves.0, count_grows (sends_frame connection) p.log.records p.came)
    ]

-- a vat's own part isn't among the others, and any other is
pub others_own : (v connection : ℕ) (p : Part) (ps : List Part) → p.log.vat ≡ v → sent_by_the_others v connection (p ∷ ps) ≡ sent_by_the_others v connection ps
others_own v connection p ps same = rw (eq-eqb _ _ same) refl

pub others_more : (v connection : ℕ) (p : Part) (ps : List Part) → p.log.vat ≢ v → sent_by_the_others v connection (p ∷ ps) ≡ sent_so_far connection p + sent_by_the_others v connection ps
others_more v connection p ps other = rw (eqb_apart _ _ other) (sum_by-cons (sent_so_far connection) p (filter (λ (q : Part). not (q.log.vat == v)) ps))

pub others_grow : (v connection w : ℕ) (ps : List Part) → sent_by_the_others v connection ps ≤ sent_by_the_others v connection (after w ps)
others_grow v connection w [] = omega arith
others_grow v connection w (p ∷ ps) =
    let later = others_grow v connection w ps in
    let vat : (further w p).log.vat ≡ p.log.vat = ap (λ (l : Log). l.vat) (further_log w p) in
    elim (cases_eq p.log.vat v) [
      | inl same ↦ omega (arith, later, others_own v connection p ps same, others_own v connection (further w p) (after w ps) (vat ∙ same))
      | inr other ↦ omega (arith, later, sent_grows connection w p, others_more v connection p ps other, others_more v connection (further w p) (after w ps) (λ e. other (sym vat ∙ e)))
    ]

-- ---- what may come may still come

follows_later : (v : ℕ) (ps qs : List Part) (own : Part) (o : Option Body) → ((connection : ℕ) → sent_by_the_others v connection ps ≤ sent_by_the_others v connection qs) → may_come_behind v ps own o ≡ true → may_come_behind v qs own o ≡ true
follows_later v ps qs own None grows may = absurd (false≢true may)
follows_later v ps qs own (Some (Receive connection call references frame)) grows may =
    lt-ltb _ _ (let lt = ltb-true (received_so_far connection own) (sent_by_the_others v connection ps) may in omega (arith, lt, grows connection))
follows_later v ps qs own (Some _) grows may = refl

comes_later : (v : ℕ) (ps qs : List Part) (o : Option Part) → ((connection : ℕ) → sent_by_the_others v connection ps ≤ sent_by_the_others v connection qs) → may_come_from v ps o ≡ true → may_come_from v qs o ≡ true
comes_later v ps qs None grows may = absurd (false≢true may)
comes_later v ps qs (Some own) grows may = follows_later v ps qs own (slice_get own.log.records own.came) grows may

-- a step of another vat lets a step that may come still come
pub may_stays : (v w : ℕ) (ps : List Part) → v ≢ w → may_come ps v ≡ true → may_come (after w ps) v ≡ true
unfolding may_come
may_stays v w ps apart may = ap (may_come_from v (after w ps)) (part_stays v w ps apart) ∙ comes_later v ps (after w ps) (part_of v ps) (λ connection. others_grow v connection w ps) may

-- steps of two vats can change places
pub after_commutes : (v w : ℕ) (ps : List Part) → v ≢ w → after v (after w ps) ≡ after w (after v ps)
after_commutes v w [] apart = refl
after_commutes v w (p ∷ ps) apart =
    let one = further_commutes v w p apart in
    let others = after_commutes v w ps apart in
    cc

-- ---- a step that may come has a record left

used_part : (v : ℕ) (ps : List Part) (own : Part) → used_up ps ≡ true → part_of v ps ≡ Some own → length own.log.records ≤ own.came
unfolding used_up
used_part v [] own used e = absurd cc
used_part v (p ∷ ps) own used e =
    let both = and_true _ _ used in
    elim (bool_cases (p.log.vat == v)) [
      | inl same ↦
          let is : p ≡ own = some_is p own (rw same at e) in
          subst (λ (q : Part). length q.log.records ≤ q.came) is (leb-true _ _ both.0)
      | inr other ↦ used_part v ps own both.1 (rw other at e)
    ]

follows_left : (v : ℕ) (ps : List Part) (own : Part) (o : Option Body) → may_come_behind v ps own o ≡ true → o ≡ None → ⊥
follows_left v ps own None may e = false≢true may
follows_left v ps own (Some b) may e = absurd cc

pub left_from : (v : ℕ) (ps : List Part) (own : Part) → may_come_from v ps (Some own) ≡ true → own.came < length own.log.records
left_from v ps own may =
    elim (cases_lt own.came (length own.log.records)) [
      | inl lt ↦ lt
      | inr le ↦ absurd (follows_left v ps own (slice_get own.log.records own.came) may (slice_get_past own.log.records own.came le))
    ]

pub has_left : (v : ℕ) (ps : List Part) (own : Part) → may_come ps v ≡ true → part_of v ps ≡ Some own → own.came < length own.log.records
unfolding may_come
has_left v ps own may part = left_from v ps own (sym (ap (may_come_from v ps) part) ∙ may)

used_from : (v : ℕ) (ps : List Part) (o : Option Part) → part_of v ps ≡ o → used_up ps ≡ true → may_come_from v ps o ≡ true → ⊥
used_from v ps None e used may = false≢true may
used_from v ps (Some own) e used may = let lt = left_from v ps own may in let le = used_part v ps own used e in omega arith

pub none_left : (v : ℕ) (ps : List Part) → used_up ps ≡ true → may_come ps v ≡ true → ⊥
unfolding may_come
none_left v ps used may = used_from v ps (part_of v ps) refl used may

-- ---- the law

-- where an order fits, and a step of v may come, an order fits what is left after it
pub front : (v : ℕ) (ps : List Part) (order : List ℕ) → may_come ps v ≡ true → FitsFrom ps order → (rest : List ℕ) × FitsFrom (after v ps) rest
front v ps [] may fits = absurd (none_left v ps fits may)
front v ps (w ∷ order) may fits =
    elim (cases_eq v w) [
      | inl same ↦ (order, subst (λ (u : ℕ). FitsFrom (after u ps) order) (sym same) fits.1)
      | inr apart ↦
          let later = front v (after w ps) order (may_stays v w ps apart may) fits.1 in
          let moved : FitsFrom (after w (after v ps)) later.0 = subst (λ (qs : List Part). FitsFrom qs later.0) (after_commutes v w ps apart) later.1 in
          (w ∷ later.0, (may_stays w v ps (λ e. apart (sym e)) fits.0, moved))
    ]
