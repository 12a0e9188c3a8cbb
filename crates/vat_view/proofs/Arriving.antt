-- What a record binds by the tables is what looking back finds.
use Rattle.std.proofs.Common.{◌≡◌, ◌+◌, inl, inr, refl, sym, ◌∙◌, ap, subst, ℕ, zero, suc, ◌==◌, List, [], ◌∷◌, ◌++◌, drop, add-zero, zero-add, map, count_by, cond, Bool, true, false, not, ◌||◌, Option, Some, None, if◌then◌else◌, option_map, option_and_then, arith}
use Rattle.std.specs.Prelude.{find, slice_get}
use Rattle.std.specs.List.{zip, cons_option}
use Rattle.std.specs.Option.{option_or, option_to_list}
use Rattle.std.proofs.lemmas.List.Sums.{sum_by-cons}
use Rattle.std.proofs.lemmas.Bool.{and_parts, cases_Bool, false≢true, not-true, eqb-true, or_parts}
use Rattle.number_tables.specs.declared.question.QuestionState.{QuestionState}
use Rattle.number_tables.specs.declared.question_table.Questions.{Questions}
use Rattle.number_tables.specs.declared.exports_imports.ExportsImports.{ExportsImports}
use Rattle.vat_view.specs.declared.record.introduced.Introduced.{Introduced}
use Rattle.vat_view.specs.declared.tables.references.BoundReferences.{BoundReferences}
use Rattle.vat_view.specs.Types.{Descriptor, NoCap, SenderHosted, SenderPromise, ReceiverHosted, ReceiverAnswer, RpcMessage, DecodedRecord, Host, Vow, Field, Wire, View, Object, Promise, FieldOf, TableKey}
use Rattle.decoded_records.specs.Past.{Past}
use Rattle.decoded_records.specs.Lives.{descriptors}
use Rattle.decoded_records.specs.Views.{view_of_reference, descriptor_view, described_at, places_from, placed_references}
use Rattle.decoded_records.specs.Bindings.{Refers, contains, is_distinct, is_bound, new_references}
use Rattle.number_tables.specs.Glue.QuestionTables.{question_at}
use Rattle.decoded_records.specs.Glue.Origins.{is_cap}
use Rattle.vat_view.specs.Glue.Tables.{bound_at, bound_by, origins, AreBegun, view_by, reference_by, bound_one, bound_from, bindings, IsTabled, AreBound}
use Rattle.vat_view.proofs.Originating.{get_drop}
use Rattle.decoded_records.proofs.Listing.{cons_append}
use Rattle.vat_view.proofs.Lasting.{view_bound, all_not}
use Rattle.vat_view.proofs.Binding.{bound_apart}
use Rattle.vat_view.proofs.Describing.{described_known}

some_same : {A : Type 0} {x y : A} → Some x ≡ Some y → x ≡ y
some_same e = cc

none_some : {A : Type 0} {x : A} → None ≡ Some x → ⊥
none_some e = cc

-- ---- references in turn

either_view : (b : Bool) (w : View) (v : Option View) → (if b then Some w else v) ≡ option_or (if b then Some w else None) v
either_view true w v = refl
either_view false w v = refl

one_bound : (q r : ℕ) (w : View) (v : Option View) → bound_by q ((r, w) ∷ []) v ≡ option_or (if r == q then Some w else None) v
one_bound q r w v = either_view (r == q) w v

abbrev tail : List ℕ → List ℕ
tail [] = []
tail (r ∷ rs) = rs

tail_is : (rs : List ℕ) (b : ℕ) → tail (drop b rs) ≡ drop (suc b) rs
tail_is [] zero = refl
tail_is [] (suc b) = refl
tail_is (r ∷ rs) zero = refl
tail_is (r ∷ rs) (suc b) = tail_is rs b

tail_more : (rs : List ℕ) (b : ℕ) → tail (drop b rs) ≡ drop (b + 1) rs
tail_more rs b = tail_is rs b ∙ (let same : suc b ≡ b + 1 = omega arith in ap (λ x. drop x rs) same)

tail_apart : (q : ℕ) (ys : List ℕ) → contains q ys ≡ false → contains q (tail ys) ≡ false
tail_apart q [] h = refl
tail_apart q (y ∷ ys) h = (or_parts (y == q) (contains q ys) h).1

tail_distinct : (ys : List ℕ) → is_distinct ys ≡ true → is_distinct (tail ys) ≡ true
tail_distinct [] h = refl
tail_distinct (y ∷ ys) h = (and_parts (not (contains y ys)) (is_distinct ys) h).1

first_apart : (q r : ℕ) (ys : List ℕ) → contains q ys ≡ false → slice_get ys 0 ≡ Some r → (r == q) ≡ false
first_apart q r [] h g = absurd (none_some g)
first_apart q r (y ∷ ys) h g = subst (λ x. (x == q) ≡ false) (some_same g) (or_parts (y == q) (contains q ys) h).0

module _ (f : Descriptor → Option View) where
  skip : (q : ℕ) (d : Descriptor) (o : Option ℕ) (rest : List (ℕ × View)) (v : Option View) → ((r : ℕ) → o ≡ Some r → (r == q) ≡ false) →
      bound_by q (cons_option (bound_one f d o) rest) v ≡ bound_by q rest v
  skip q d None rest v h = refl
  skip q d (Some r) rest v h = inner (f d)
    where
      inner : (w : Option View) → bound_by q (cons_option (option_map (λ v. (r, v)) w) rest) v ≡ bound_by q rest v
      inner None = refl
      inner (Some w) = ap (λ b. bound_by q rest (if b then Some w else v)) (h r refl)

  take_it : (q r : ℕ) (w : Option View) (rest : List (ℕ × View)) (v : Option View) → (r == q) ≡ true → ((x : Option View) → bound_by q rest x ≡ x) →
      bound_by q (cons_option (option_map (λ v. (r, v)) w) rest) v ≡ option_or w v
  take_it q r None rest v h later = later v
  take_it q r (Some w) rest v h later = later (if r == q then Some w else v) ∙ ap (λ b. if b then Some w else v) h

  inner : (ys : List ℕ) (d : Descriptor) (rest : List (ℕ × View)) (ps : List ℕ) (p q : ℕ) (v : Option View) (g : ℕ → Option Descriptor) → g p ≡ Some d → is_distinct ys ≡ true →
      (contains q (tail ys) ≡ false → (x : Option View) → bound_by q rest x ≡ x) →
      bound_by q rest v ≡ option_or (option_and_then (λ n. option_and_then f (g n.1)) (find (λ n. n.0 == q) (zip (tail ys) ps))) v →
      bound_by q (cons_option (bound_one f d (slice_get ys 0)) rest) v ≡ option_or (option_and_then (λ n. option_and_then f (g n.1)) (find (λ n. n.0 == q) (zip ys (p ∷ ps)))) v
  inner [] d rest ps p q v g gp distinct later more = later refl v
  inner (r ∷ ys) d rest ps p q v g gp distinct later more = elim (cases_Bool (r == q)) [
    | inl here ↦
        let parts = and_parts (not (contains r ys)) (is_distinct ys) distinct in
        let apart : contains q ys ≡ false = subst (λ x. contains x ys ≡ false) (eqb-true r q here) (not-true (contains r ys) parts.0) in
        take_it q r (f d) rest v here (later apart)
        ∙ ap (λ o. option_or (option_and_then f o) v) (sym gp)
        ∙ sym (ap (λ b. option_or (option_and_then (λ n. option_and_then f (g n.1)) (if b then Some (r, p) else find (λ n. n.0 == q) (zip ys ps))) v) here)
    | inr apart ↦
        skip q d (Some r) rest v (λ s e. subst (λ x. (x == q) ≡ false) (some_same e) apart) ∙ more
        ∙ sym (ap (λ b. option_or (option_and_then (λ n. option_and_then f (g n.1)) (if b then Some (r, p) else find (λ n. n.0 == q) (zip ys ps))) v) apart)
  ]

  module _ (rs : List ℕ) where
    later_cap : (d : Descriptor) (ds : List Descriptor) (b q : ℕ) (v : Option View) → contains q (drop b rs) ≡ false → bound_by q (bound_from f rs (b + 1) ds) v ≡ v →
        bound_by q (cons_option (bound_one f d (slice_get rs b)) (bound_from f rs (b + 1) ds)) v ≡ v
    later_cap d ds b q v h more = skip q d (slice_get rs b) (bound_from f rs (b + 1) ds) v (λ r e. first_apart q r (drop b rs) h (sym (get_drop rs b) ∙ e)) ∙ more

    next_apart : (b q : ℕ) → contains q (drop b rs) ≡ false → contains q (drop (b + 1) rs) ≡ false
    next_apart b q h = subst (λ l. contains q l ≡ false) (tail_more rs b) (tail_apart q (drop b rs) h)

    pub bound_later : (ds : List Descriptor) (b q : ℕ) (v : Option View) → contains q (drop b rs) ≡ false → bound_by q (bound_from f rs b ds) v ≡ v
    bound_later [] b q v h = refl
    bound_later (NoCap ∷ ds) b q v h = bound_later ds (b + 0) q v (subst (λ x. contains q (drop x rs) ≡ false) (sym (add-zero b)) h)
    bound_later (SenderHosted m ∷ ds) b q v h = later_cap (SenderHosted m) ds b q v h (bound_later ds (b + 1) q v (next_apart b q h))
    bound_later (SenderPromise m ∷ ds) b q v h = later_cap (SenderPromise m) ds b q v h (bound_later ds (b + 1) q v (next_apart b q h))
    bound_later (ReceiverHosted m ∷ ds) b q v h = later_cap (ReceiverHosted m) ds b q v h (bound_later ds (b + 1) q v (next_apart b q h))
    bound_later (ReceiverAnswer m path ∷ ds) b q v h = later_cap (ReceiverAnswer m path) ds b q v h (bound_later ds (b + 1) q v (next_apart b q h))

    module _ (q : ℕ) (v : Option View) (g : ℕ → Option Descriptor) where
      abbrev looked_up : ℕ → ℕ → List Descriptor → Option View
      looked_up b p ds = option_or (option_and_then (λ n. option_and_then f (g n.1)) (find (λ n. n.0 == q) (zip (drop b rs) (places_from p ds)))) v

      abbrev Shows : ℕ → List Descriptor → Type 0
      Shows p ds = (j : ℕ) → g (p + j) ≡ slice_get ds j

      shows_next : (p : ℕ) (d : Descriptor) (ds : List Descriptor) → Shows p (d ∷ ds) → Shows (p + 1) ds
      shows_next p d ds shows j = (let same : p + 1 + j ≡ p + suc j = omega arith in ap (λ x. g x) same) ∙ shows (suc j)

      capped : (d : Descriptor) (ds : List Descriptor) (p b : ℕ) → Shows p (d ∷ ds) → is_distinct (drop b rs) ≡ true → bound_by q (bound_from f rs (b + 1) ds) v ≡ looked_up (b + 1) (p + 1) ds →
          bound_by q (cons_option (bound_one f d (slice_get rs b)) (bound_from f rs (b + 1) ds)) v
          ≡ option_or (option_and_then (λ n. option_and_then f (g n.1)) (find (λ n. n.0 == q) (zip (drop b rs) (p ∷ places_from (p + 1) ds)))) v
      capped d ds p b shows distinct more =
          ap (λ o. bound_by q (cons_option (bound_one f d o) (bound_from f rs (b + 1) ds)) v) (get_drop rs b)
          ∙ inner (drop b rs) d (bound_from f rs (b + 1) ds) (places_from (p + 1) ds) p q v g ((ap (λ x. g x) (sym (add-zero p))) ∙ shows 0) distinct
          (λ apart x. bound_later ds (b + 1) q x (subst (λ l. contains q l ≡ false) (tail_more rs b) apart))
          (more ∙ ap (λ l. option_or (option_and_then (λ n. option_and_then f (g n.1)) (find (λ n. n.0 == q) (zip l (places_from (p + 1) ds)))) v) (sym (tail_more rs b)))

      next_distinct : (b : ℕ) → is_distinct (drop b rs) ≡ true → is_distinct (drop (b + 1) rs) ≡ true
      next_distinct b h = subst (λ l. is_distinct l ≡ true) (tail_more rs b) (tail_distinct (drop b rs) h)

      pub bound_found : (ds : List Descriptor) (p b : ℕ) → Shows p ds → is_distinct (drop b rs) ≡ true → bound_by q (bound_from f rs b ds) v ≡ looked_up b p ds
      bound_found [] p b shows distinct = nothing (drop b rs)
        where
          nothing : (ys : List ℕ) → v ≡ option_or (option_and_then (λ n. option_and_then f (g n.1)) (find (λ n. n.0 == q) (zip ys []))) v
          nothing [] = refl
          nothing (y ∷ ys) = refl
      bound_found (NoCap ∷ ds) p b shows distinct =
          ap (λ x. bound_by q (bound_from f rs x ds) v) (add-zero b) ∙ bound_found ds (p + 1) b (shows_next p NoCap ds shows) distinct
      bound_found (SenderHosted m ∷ ds) p b shows distinct =
          capped (SenderHosted m) ds p b shows distinct (bound_found ds (p + 1) (b + 1) (shows_next p (SenderHosted m) ds shows) (next_distinct b distinct))
      bound_found (SenderPromise m ∷ ds) p b shows distinct =
          capped (SenderPromise m) ds p b shows distinct (bound_found ds (p + 1) (b + 1) (shows_next p (SenderPromise m) ds shows) (next_distinct b distinct))
      bound_found (ReceiverHosted m ∷ ds) p b shows distinct =
          capped (ReceiverHosted m) ds p b shows distinct (bound_found ds (p + 1) (b + 1) (shows_next p (ReceiverHosted m) ds shows) (next_distinct b distinct))
      bound_found (ReceiverAnswer m path ∷ ds) p b shows distinct =
          capped (ReceiverAnswer m path) ds p b shows distinct (bound_found ds (p + 1) (b + 1) (shows_next p (ReceiverAnswer m path) ds shows) (next_distinct b distinct))

    keys_one : (d : Descriptor) (o : Option ℕ) (rest : List (ℕ × View)) (q : ℕ) → ((r : ℕ) → o ≡ Some r → (r == q) ≡ false) → contains q (map (λ x. x.0) rest) ≡ false →
        contains q (map (λ x. x.0) (cons_option (bound_one f d o) rest)) ≡ false
    keys_one d None rest q h more = more
    keys_one d (Some r) rest q h more = keyed (f d)
      where
        or_false : (a b : Bool) → a ≡ false → b ≡ false → (a || b) ≡ false
        or_false false b e g = g
        or_false true b e g = absurd (false≢true (sym e))

        keyed : (w : Option View) → contains q (map (λ x. x.0) (cons_option (option_map (λ v. (r, v)) w) rest)) ≡ false
        keyed None = more
        keyed (Some w) = or_false (r == q) (contains q (map (λ x. x.0) rest)) (h r refl) more

    keys_cap : (d : Descriptor) (ds : List Descriptor) (b q : ℕ) → contains q (drop b rs) ≡ false → contains q (map (λ x. x.0) (bound_from f rs (b + 1) ds)) ≡ false →
        contains q (map (λ x. x.0) (cons_option (bound_one f d (slice_get rs b)) (bound_from f rs (b + 1) ds))) ≡ false
    keys_cap d ds b q h more = keys_one d (slice_get rs b) (bound_from f rs (b + 1) ds) q (λ r e. first_apart q r (drop b rs) h (sym (get_drop rs b) ∙ e)) more

    pub keys_later : (ds : List Descriptor) (b q : ℕ) → contains q (drop b rs) ≡ false → contains q (map (λ x. x.0) (bound_from f rs b ds)) ≡ false
    keys_later [] b q h = refl
    keys_later (NoCap ∷ ds) b q h = keys_later ds (b + 0) q (subst (λ x. contains q (drop x rs) ≡ false) (sym (add-zero b)) h)
    keys_later (SenderHosted m ∷ ds) b q h = keys_cap (SenderHosted m) ds b q h (keys_later ds (b + 1) q (next_apart b q h))
    keys_later (SenderPromise m ∷ ds) b q h = keys_cap (SenderPromise m) ds b q h (keys_later ds (b + 1) q (next_apart b q h))
    keys_later (ReceiverHosted m ∷ ds) b q h = keys_cap (ReceiverHosted m) ds b q h (keys_later ds (b + 1) q (next_apart b q h))
    keys_later (ReceiverAnswer m path ∷ ds) b q h = keys_cap (ReceiverAnswer m path) ds b q h (keys_later ds (b + 1) q (next_apart b q h))

    -- one descriptor more
    pub bound_one_more : (ds : List Descriptor) (b : ℕ) (d : Descriptor) →
        bound_from f rs b (ds ++ d ∷ []) ≡ bound_from f rs b ds ++ option_to_list (bound_one f d (reference_by rs (b + count_by is_cap ds) d))
    bound_one_more [] b d = alone (bound_one f d (reference_by rs b d)) ∙ ap (λ x. option_to_list (bound_one f d (reference_by rs x d))) (sym (add-zero b))
      where
        alone : (o : Option (ℕ × View)) → cons_option o [] ≡ option_to_list o
        alone None = refl
        alone (Some x) = refl
    bound_one_more (x ∷ ds) b d =
        let counted = sum_by-cons (λ d. cond (is_cap d) 1 0) x ds in
        let placed_references : b + cond (is_cap x) 1 0 + count_by is_cap ds ≡ b + count_by is_cap (x ∷ ds) = omega (arith, counted) in
        ap (λ xs. cons_option (bound_one f x (reference_by rs b x)) xs)
        (bound_one_more ds (b + (if is_cap x then 1 else 0)) d ∙ ap (λ z. bound_from f rs (b + (if is_cap x then 1 else 0)) ds ++ option_to_list (bound_one f d (reference_by rs z d))) placed_references)
        ∙ cons_append (bound_one f x (reference_by rs b x)) (bound_from f rs (b + (if is_cap x then 1 else 0)) ds) (option_to_list (bound_one f d (reference_by rs (b + count_by is_cap (x ∷ ds)) d)))

-- ---- what a record binds

module _ (before : Past) (questions : Questions) (lives : ExportsImports) (begun : Introduced) (bound : BoundReferences) (tabled : IsTabled before questions lives) (bounds : AreBound before bound) where
  module _ (k c : ℕ) (rs : List ℕ) (m : RpcMessage) (starts : AreBegun (origins before (Wire false k c rs m)) begun) where
    at_known : (o : Option Descriptor) → option_and_then (view_by (bound_at bound) lives begun (question_at questions) (Wire false k c rs m)) o
        ≡ option_and_then (descriptor_view (view_of_reference before) before (Wire false k c rs m)) o
    at_known (Some d) = described_known before questions lives bound tabled bounds begun (Wire false k c rs m) starts d
    at_known None = refl

    found_known : (o : Option (ℕ × ℕ)) →
        option_and_then (λ n. option_and_then (view_by (bound_at bound) lives begun (question_at questions) (Wire false k c rs m)) (slice_get (descriptors (Wire false k c rs m)) n.1)) o
        ≡ option_and_then (λ n. described_at (view_of_reference before) before (Wire false k c rs m) n.1) o
    found_known (Some n) = at_known (slice_get (descriptors (Wire false k c rs m)) n.1)
    found_known None = refl

    wire_bound : is_distinct rs ≡ true → (q : ℕ) →
        bound_by q (bindings (bound_at bound) lives begun (question_at questions) (Wire false k c rs m)) (view_of_reference before q) ≡ view_of_reference (Wire false k c rs m ∷ before) q
    wire_bound distinct q =
        let e : DecodedRecord = Wire false k c rs m in
        bound_found (view_by (bound_at bound) lives begun (question_at questions) e) rs q (view_of_reference before q) (λ j. slice_get (descriptors e) j) (descriptors e) 0 0
        (λ j. ap (λ x. slice_get (descriptors e) x) (zero-add j)) distinct
        ∙ ap (λ o. option_or o (view_of_reference before q)) (found_known (find (λ n. n.0 == q) (placed_references e)))

  pub all_bound : (e : DecodedRecord) → AreBegun (origins before e) begun → is_distinct (new_references e) ≡ true → (q : ℕ) →
      bound_by q (bindings (bound_at bound) lives begun (question_at questions) e) (view_of_reference before q) ≡ view_of_reference (e ∷ before) q
  all_bound (Host r object) starts distinct q = one_bound q r (Object object) (view_of_reference before q)
  all_bound (Vow r) starts distinct q = one_bound q r (Promise r) (view_of_reference before q)
  all_bound (Field r call path) starts distinct q = one_bound q r (FieldOf call path) (view_of_reference before q)
  all_bound (Wire false k c rs m) starts distinct q = wire_bound k c rs m starts distinct q
  all_bound (Wire true k c rs m) starts distinct q = refl
  all_bound _ starts distinct q = refl

-- ---- references that a record binds are new

pub keys_new : (named : ℕ → Option View) (lives : ExportsImports) (begun : Introduced) (known : TableKey → Option QuestionState) (e : DecodedRecord) (q : ℕ) → contains q (new_references e) ≡ false →
    contains q (map (λ x. x.0) (bindings named lives begun known e)) ≡ false
keys_new named lives begun known (Host r object) q h = h
keys_new named lives begun known (Vow r) q h = h
keys_new named lives begun known (Field r call path) q h = h
keys_new named lives begun known (Wire false k c rs m) q h = keys_later (view_by named lives begun known (Wire false k c rs m)) rs (descriptors (Wire false k c rs m)) 0 q h
keys_new named lives begun known (Wire true k c rs m) q h = refl
keys_new named lives begun known _ q h = refl

append_nothing : {A : Type 0} (xs : List A) → xs ++ [] ≡ xs
append_nothing [] = refl
append_nothing (x ∷ xs) = ap (λ l. x ∷ l) (append_nothing xs)

pub bindings_apart : (named : ℕ → Option View) (lives : ExportsImports) (begun : Introduced) (known : TableKey → Option QuestionState) (e : DecodedRecord) (q : ℕ) (v : Option View) → contains q (new_references e) ≡ false →
    bound_by q (bindings named lives begun known e) v ≡ v
bindings_apart named lives begun known e q v h =
    bound_apart q (bindings named lives begun known e) [] v
    (ap (λ l. contains q (map (λ x. x.0) l)) (append_nothing (bindings named lives begun known e)) ∙ keys_new named lives begun known e q h)

pub no_view : (past : Past) (q : ℕ) (o : Option View) → view_of_reference past q ≡ o → is_bound past q ≡ false → o ≡ None
no_view past q None e h = refl
no_view past q (Some v) e h = absurd (false≢true (sym h ∙ view_bound past q v e))

-- what was bound is unbound again
pub restored : (before : Past) (e : DecodedRecord) → Refers before e → (q : ℕ) (o : Option View) → (contains q (new_references e) ≡ false → o ≡ view_of_reference before q) →
    (if contains q (new_references e) then None else o) ≡ view_of_reference before q
restored before e refers q o same = elim (cases_Bool (contains q (new_references e))) [
  | inl new ↦ ap (λ b. if b then None else o) new
      ∙ sym (no_view before q (view_of_reference before q) refl (all_not before q (new_references e) refers.unused new))
  | inr old ↦ ap (λ b. if b then None else o) old ∙ same old
]
