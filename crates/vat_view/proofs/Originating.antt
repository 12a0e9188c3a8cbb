-- What a record introduces, with the origins: as the code lists them, and as looking back finds them.
use Rattle.std.proofs.Common.{◌≡◌, ◌+◌, ◌≤◌, inl, inr, refl, sym, ◌∙◌, ap, ℕ, zero, suc, ◌==◌, List, [], ◌∷◌, drop, add-zero, count_by, cond, Bool, true, false, Option, Some, None, if◌then◌else◌, option_map, arith, ◌⊎◌}
use Rattle.std.specs.Prelude.{find, slice_get, filter_map}
use Rattle.std.specs.List.{zip, cons_option, position_from}
use Rattle.std.proofs.lemmas.Bool.{cases_Bool, false≢true, ne_eqb, eq-eqb}
use Rattle.std.proofs.lemmas.List.Sums.{sum_by-cons}
use Rattle.decoded_records.specs.declared.origin.Origin.{Origin}
use Rattle.vat_view.specs.Types.{Descriptor, NoCap, SenderHosted, SenderPromise, ReceiverHosted, ReceiverAnswer, DecodedRecord, Wire, TableKey}
use Rattle.decoded_records.specs.Past.{same_id, names}
use Rattle.decoded_records.specs.Lives.{number_introduced, is_promised}
use Rattle.decoded_records.specs.Views.{places_from, references}
use Rattle.decoded_records.specs.Glue.Origins.{is_cap, origins_from}

-- ---- how many

module _ (n : ℕ) (e : DecodedRecord) where
  module _ (i : TableKey) where
    counted_cons : (o : Option TableKey) (f : Origin) (xs : List (TableKey × Origin)) (ys : List TableKey) → count_by (λ x. same_id i x.0) xs ≡ count_by (same_id i) ys →
        count_by (λ x. same_id i x.0) (cons_option (option_map (λ j. (j, f)) o) xs) ≡ count_by (same_id i) (cons_option o ys)
    counted_cons None f xs ys h = h
    counted_cons (Some j) f xs ys h =
        let one = sum_by-cons (λ (x : TableKey × Origin). cond (same_id i x.0) 1 0) (j, f) xs in
        let other = sum_by-cons (λ x. cond (same_id i x) 1 0) j ys in omega (arith, one, other, h)

    pub origins_counted : (ds : List Descriptor) (p b : ℕ) → count_by (λ x. same_id i x.0) (origins_from n e p b ds) ≡ count_by (same_id i) (filter_map (number_introduced e) ds)
    origins_counted [] p b = refl
    origins_counted (d ∷ ds) p b =
        counted_cons (number_introduced e d) (record { number = n; place = p; promised = is_promised (Some d); reference = slice_get (references e) b }) (origins_from n e (p + 1) (b + (if is_cap d then 1 else 0)) ds)
        (filter_map (number_introduced e) ds) (origins_counted ds (p + 1) (b + (if is_cap d then 1 else 0)))

-- ---- as looking back finds them

-- the reference noted for the descriptor at a place, among these places with these references
abbrev pub noted_at : List ℕ → List ℕ → ℕ → Option ℕ
noted_at rs ps q = option_map (λ m. m.0) (find (λ m. m.1 == q) (zip rs ps))

pub get_drop : (rs : List ℕ) (b : ℕ) → slice_get rs b ≡ slice_get (drop b rs) 0
get_drop [] zero = refl
get_drop [] (suc b) = refl
get_drop (r ∷ rs) zero = refl
get_drop (r ∷ rs) (suc b) = get_drop rs b

-- the first of the references that are left is noted at the first of the places that are left
pub noted_first : (rs ps : List ℕ) (p : ℕ) → slice_get rs 0 ≡ noted_at rs (p ∷ ps) p
noted_first [] ps p = refl
noted_first (r ∷ rs) ps p = ap (λ b. option_map (λ m. m.0) (if b then Some (r, p) else find (λ m. m.1 == p) (zip rs ps))) (sym (eq-eqb p p refl))

pub tail_drop : (rs : List ℕ) (b : ℕ) (ps : List ℕ) (p q : ℕ) → (p == q) ≡ false → noted_at (drop b rs) (p ∷ ps) q ≡ noted_at (drop (suc b) rs) ps q
tail_drop [] zero ps p q e = refl
tail_drop [] (suc b) ps p q e = refl
tail_drop (r ∷ rs) zero ps p q e = ap (λ b. option_map (λ m. m.0) (if b then Some (r, p) else find (λ m. m.1 == q) (zip rs ps))) e
tail_drop (r ∷ rs) (suc b) ps p q e = tail_drop rs b ps p q e

pub places_cons : (p : ℕ) (d : Descriptor) (ds : List Descriptor) → places_from p (d ∷ ds) ≡ (if is_cap d then p ∷ places_from (p + 1) ds else places_from (p + 1) ds)
places_cons p NoCap ds = refl
places_cons p (SenderHosted m) ds = refl
places_cons p (SenderPromise m) ds = refl
places_cons p (ReceiverHosted m) ds = refl
places_cons p (ReceiverAnswer m path) ds = refl

pub none_introduces : (e : DecodedRecord) (d : Descriptor) → is_cap d ≡ false → number_introduced e d ≡ None
none_introduces (Wire s k c rs m) NoCap h = refl
none_introduces _ NoCap h = refl
none_introduces e (SenderHosted m) h = absurd (false≢true (sym h))
none_introduces e (SenderPromise m) h = absurd (false≢true (sym h))
none_introduces e (ReceiverHosted m) h = absurd (false≢true (sym h))
none_introduces e (ReceiverAnswer m path) h = absurd (false≢true (sym h))

-- what is found from a place on stands there or later
later_if : (b : Bool) (p q : ℕ) (o : Option ℕ) → (o ≡ Some q → p + 1 ≤ q) → (if b then Some p else o) ≡ Some q → p ≤ q
later_if true p q o rest h = let same : p ≡ q = cc in omega (arith, same)
later_if false p q o rest h = let later = rest h in omega (arith, later)

pub found_later : {A : Type 0} (test : A → Bool) (xs : List A) (p q : ℕ) → position_from test p xs ≡ Some q → p ≤ q
found_later test [] p q h = absurd (let no : ⊥ = cc in no)
found_later test (x ∷ xs) p q h = later_if (test x) p q (position_from test (p + 1) xs) (found_later test xs (p + 1) q) h

module _ (n : ℕ) (e : DecodedRecord) (i : TableKey) (g : ℕ → Option Descriptor) where
  -- the origin of a life that began at this place, where these are the descriptors by place
  abbrev pub origin_there : ℕ → List ℕ → ℕ → Origin
  origin_there b ps q = record { number = n; place = q; promised = is_promised (g q); reference = noted_at (drop b (references e)) ps q }

  abbrev at_place : ℕ → Option Descriptor → Option ℕ → Origin
  at_place q d r = record { number = n; place = q; promised = is_promised d; reference = r }

  -- these descriptors stand from this place on
  abbrev pub Shows : ℕ → List Descriptor → Type 0
  Shows p ds = (j : ℕ) → g (p + j) ≡ slice_get ds j

  shows_first : (p : ℕ) (d : Descriptor) (ds : List Descriptor) → Shows p (d ∷ ds) → g p ≡ Some d
  shows_first p d ds shows = ap (λ x. g x) (sym (add-zero p)) ∙ shows 0

  shows_next : (p : ℕ) (d : Descriptor) (ds : List Descriptor) → Shows p (d ∷ ds) → Shows (p + 1) ds
  shows_next p d ds shows j = (let same : p + 1 + j ≡ p + suc j = omega arith in ap (λ x. g x) same) ∙ shows (suc j)

  skipped : (o : Option TableKey) (f : Origin) (xs : List (TableKey × Origin)) → names i o ≡ false →
      find (λ x. same_id i x.0) (cons_option (option_map (λ j. (j, f)) o) xs) ≡ find (λ x. same_id i x.0) xs
  skipped None f xs h = refl
  skipped (Some j) f xs h = ap (λ b. if b then Some (j, f) else find (λ x. same_id i x.0) xs) h

  taken : (o : Option TableKey) (f : Origin) (xs : List (TableKey × Origin)) → names i o ≡ true →
      option_map (λ x. x.1) (find (λ x. same_id i x.0) (cons_option (option_map (λ j. (j, f)) o) xs)) ≡ Some f
  taken None f xs h = absurd (false≢true h)
  taken (Some j) f xs h = ap (λ b. option_map (λ x. x.1) (if b then Some (j, f) else find (λ x. same_id i x.0) xs)) h

  map_found : (f g : ℕ → Origin) (o : Option ℕ) → ((q : ℕ) → o ≡ Some q → f q ≡ g q) → option_map f o ≡ option_map g o
  map_found f g None h = refl
  map_found f g (Some q) h = ap (λ x. Some x) (h q refl)

  more_drop : (b : ℕ) → drop (b + 1) (references e) ≡ drop (suc b) (references e)
  more_drop b = let same : b + 1 ≡ suc b = omega arith in ap (λ x. drop x (references e)) same

  -- the places from the next on give the same
  next_places : (c : Bool) (p b q : ℕ) (ps : List ℕ) → p + 1 ≤ q →
      noted_at (drop (b + (if c then 1 else 0)) (references e)) ps q ≡ noted_at (drop b (references e)) (if c then p ∷ ps else ps) q
  next_places true p b q ps le =
      ap (λ rs. noted_at rs ps q) (more_drop b) ∙ sym (tail_drop (references e) b ps p q (ne_eqb p q (λ same. let no : ⊥ = omega (arith, le, same) in no)))
  next_places false p b q ps le = ap (λ x. noted_at (drop x (references e)) ps q) (add-zero b)

  pub first_origin : (ds : List Descriptor) (p b : ℕ) → Shows p ds → option_map (λ x. x.1) (find (λ x. same_id i x.0) (origins_from n e p b ds))
      ≡ option_map (origin_there b (places_from p ds)) (position_from (λ d. names i (number_introduced e d)) p ds)
  first_origin [] p b shows = refl
  first_origin (d ∷ ds) p b shows = elim (cases_Bool (names i (number_introduced e d))) [
    | inl here ↦
        let f : Origin = record { number = n; place = p; promised = is_promised (Some d); reference = slice_get (references e) b } in
        let cap : is_cap d ≡ true = must_be (cases_Bool (is_cap d)) here in
        taken (number_introduced e d) f (origins_from n e (p + 1) (b + (if is_cap d then 1 else 0)) ds) here
        ∙ ap (λ x. Some (at_place p x (slice_get (references e) b))) (sym (shows_first p d ds shows))
        ∙ ap (λ r. Some (at_place p (g p) r)) (get_drop (references e) b ∙ noted_first (drop b (references e)) (places_from (p + 1) ds) p
        ∙ ap (λ ps. noted_at (drop b (references e)) ps p) (sym (places_cons p d ds ∙ ap (λ c. if c then p ∷ places_from (p + 1) ds else places_from (p + 1) ds) cap)))
        ∙ sym (ap (λ c. option_map (origin_there b (places_from p (d ∷ ds))) (if c then Some p else position_from (λ d. names i (number_introduced e d)) (p + 1) ds)) here)
    | inr apart ↦
        ap (λ o. option_map (λ x. x.1) o) (skipped (number_introduced e d) _ (origins_from n e (p + 1) (b + (if is_cap d then 1 else 0)) ds) apart)
        ∙ first_origin ds (p + 1) (b + (if is_cap d then 1 else 0)) (shows_next p d ds shows)
        ∙ map_found (origin_there (b + (if is_cap d then 1 else 0)) (places_from (p + 1) ds)) (origin_there b (places_from p (d ∷ ds)))
        (position_from (λ d. names i (number_introduced e d)) (p + 1) ds)
        (λ q found. ap (λ r. at_place q (g q) r) (next_places (is_cap d) p b q (places_from (p + 1) ds) (found_later (λ d. names i (number_introduced e d)) ds (p + 1) q found)
        ∙ ap (λ ps. noted_at (drop b (references e)) ps q) (sym (places_cons p d ds))))
        ∙ sym (ap (λ c. option_map (origin_there b (places_from p (d ∷ ds))) (if c then Some p else position_from (λ d. names i (number_introduced e d)) (p + 1) ds)) apart)
  ]
    where
      must_be : ((is_cap d ≡ true) ⊎ (is_cap d ≡ false)) → names i (number_introduced e d) ≡ true → is_cap d ≡ true
      must_be (inl yes0) h = yes0
      must_be (inr no0) h = absurd (false≢true (sym (ap (λ o. names i o) (none_introduces e d no0)) ∙ h))
