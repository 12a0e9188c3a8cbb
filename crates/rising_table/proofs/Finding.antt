-- What look-ups find in entries: of two lists, of a row whose numbers rise, and where a number isn't.
use Rattle.std.proofs.Common.{◌≡◌, ℕ, zero, suc, ◌+◌, ◌<◌, ◌-◌, inl, inr, ◌≢◌, List, [], ◌∷◌, ◌++◌, length, get_or, Some, None, Option, Result, Ok, Err, IfOk, IfErr, Bool, true, false, refl, sym, ap, subst, ◌∙◌, ◌==◌, if◌then◌else◌, arith}
use Rattle.std.specs.List.Sorted.{IsSearchInRange, IsBinarySearchResult, IsNonDecreasingBy}
use Rattle.std.specs.Ordering.{nat_cmp, ordering_index}
use Rattle.std.specs.Cmp.{unsigned_ties}
use Rattle.std.specs.Option.{option_or}
use Rattle.std.specs.Map.{lookup, keys_of}
use Rattle.std.proofs.lemmas.Cmp.{ranked}
use Rattle.std.proofs.lemmas.List.{get_or-map}
use Rattle.std.proofs.lemmas.Map.Keys.{below_from_sorted}
use Rattle.std.proofs.lemmas.Map.Entries.{length-keys_of}
use Rattle.std.proofs.lemmas.Option.{get_or_from_slice_get}
use Rattle.std.proofs.lemmas.Bool.{cases_lt}
use Rattle.std.proofs.lemmas.Bool.Decides.{nat_tests}
use Rattle.std.specs.Prelude.{slice_get}
use Rattle.rising_table.specs.Entries.{entry_at}
use Rattle.rising_table.specs.Glue.{key_at, AreRising, IsAt, IsGapFor}

same_test : (a b : ℕ) → (b == a) ≡ (a == b)
same_test a b = grind (arith, nat_tests)

module _ {X : Type 0} where
  -- the first of two lists is asked before the second
  pub lookup_both : (test : ℕ → Bool) (es fs : List (ℕ × X)) → lookup test (es ++ fs) ≡ option_or (lookup test es) (lookup test fs)
  lookup_both test [] fs = refl
  lookup_both test (e ∷ es) fs = at (test e.0) (lookup_both test es fs)
    where
      at : (b : Bool) → lookup test (es ++ fs) ≡ option_or (lookup test es) (lookup test fs)
          → (if b then Some e.1 else lookup test (es ++ fs)) ≡ option_or (if b then Some e.1 else lookup test es) (lookup test fs)
      at true more = refl
      at false more = more

  -- the look-up, where the test of numbers is plain
  abbrev pub plain : List (ℕ × X) → ℕ → Option X
  plain [] k = None
  plain (e ∷ es) k = if e.0 == k then Some e.1 else plain es k

  pub entry_plain : (es : List (ℕ × X)) (k : ℕ) → entry_at es k ≡ plain es k
  entry_plain [] k = refl
  entry_plain (e ∷ es) k = (λ i. if (sym (unsigned_ties k e.0) ∙ same_test e.0 k) i then Some e.1 else entry_plain es k i)

  pub key_of : (es : List (ℕ × X)) (i : ℕ) (d : ℕ × X) → i < length es → key_at es i ≡ (get_or es i d).0
  key_of es i d lt = get_or-map (λ e. e.0) es i d 0 lt

  -- the numbers rise from place to place
  pub rises : (es : List (ℕ × X)) → AreRising es → (i j : ℕ) → i < j → j < length es → key_at es i < key_at es j
  rises es rising i j lt within = below_from_sorted (keys_of es) i j 0 rising lt (rw (length-keys_of es) within)

  -- the comparisons with a number rise along the row, as a binary search asks
  comparisons_rise : (es : List (ℕ × X)) → AreRising es → (k : ℕ) → IsNonDecreasingBy (λ e. ordering_index (nat_cmp e.0 k)) es
  comparisons_rise es rising k i j d le within =
      let here = key_of es i d (omega (arith, le, within)) in
      let there = key_of es j d within in
      grind (arith, nat_tests, rises es rising i j, ap (λ n. key_at es n) {x = i} {y = j})

  -- a binary search by the numbers ends at the number, or at the gap for it
  pub found : (es : List (ℕ × X)) → AreRising es → (k : ℕ) (r : Result ℕ ℕ) → IsSearchInRange r (length es) → IsBinarySearchResult (λ e. nat_cmp e.0 k) es r → IfOk r (IsAt es k)
  found [] rising k (Ok at) in_range equal = absurd (omega (arith, in_range))
  found (e ∷ es) rising k (Ok at) in_range equal = record { in_range = in_range; has_key = key_of (e ∷ es) at e in_range ∙ ranked _ k _ (sym (equal e)) }
  found es rising k (Err at) in_range parted = tt

  pub missed : (es : List (ℕ × X)) → AreRising es → (k : ℕ) (r : Result ℕ ℕ) → IsSearchInRange r (length es) → IsBinarySearchResult (λ e. nat_cmp e.0 k) es r → IfErr r (IsGapFor es k)
  missed es rising k (Ok at) in_range equal = tt
  missed [] rising k (Err at) in_range parted = record {
    in_range = in_range;
    smaller_before = λ j lt. absurd (omega (arith, lt, in_range));
    greater_after = λ j le lt. absurd (omega (arith, lt));
  }
  missed (e ∷ es) rising k (Err at) in_range parted = record {
    in_range = in_range;
    smaller_before = λ j lt.
        subst (λ n. n < k) (sym (key_of (e ∷ es) j e (omega (arith, lt, in_range)))) (ranked _ k _ (sym ((parted (comparisons_rise (e ∷ es) rising k)).0 j e (omega arith) lt)));
    greater_after = λ j le lt.
        subst (λ n. k < n) (sym (key_of (e ∷ es) j e lt)) (ranked _ k _ (sym ((parted (comparisons_rise (e ∷ es) rising k)).1 j e le lt)));
  }

  -- a number that no entry has isn't found
  pub plain_absent : (es : List (ℕ × X)) (k : ℕ) → ((j : ℕ) → j < length es → key_at es j ≢ k) → plain es k ≡ None
  plain_absent [] k none = refl
  plain_absent (e ∷ es) k none = grind (arith, nat_tests, none 0 (omega arith), plain_absent es k (λ j lt. none (suc j) (omega (arith, lt))))

  pub missing : (es : List (ℕ × X)) (k i : ℕ) → IsGapFor es k i → entry_at es k ≡ None
  missing es k i gap = entry_plain es k ∙ plain_absent es k (λ j lt same. grind (arith, gap.smaller_before j, gap.greater_after j))

  -- the first entry that has the number gives the value
  plain_present : (es : List (ℕ × X)) (k i : ℕ) (d : ℕ × X) → i < length es → key_at es i ≡ k → ((j : ℕ) → j < i → key_at es j ≢ k) → plain es k ≡ Some (get_or es i d).1
  plain_present [] k i d lt same none = absurd (omega (arith, lt))
  plain_present (e ∷ es) k zero d lt same none = grind (arith, nat_tests, same)
  plain_present (e ∷ es) k (suc i) d lt same none =
      grind (arith, nat_tests, none 0 (omega arith), plain_present es k i d (omega (arith, lt)) same (λ j l. none (suc j) (omega (arith, l))))

  -- no entry before its place has the number
  pub none_before : (es : List (ℕ × X)) → AreRising es → (k i : ℕ) → IsAt es k i → (j : ℕ) → j < i → key_at es j ≢ k
  none_before es rising k i there j lt same = omega (arith, rises es rising j i lt there.in_range, there.has_key, same)

  pub present : (es : List (ℕ × X)) → AreRising es → (k i : ℕ) (d : ℕ × X) → IsAt es k i → entry_at es k ≡ Some (get_or es i d).1
  present es rising k i d there = entry_plain es k ∙ plain_present es k i d there.in_range there.has_key (none_before es rising k i there)

  -- a number above the last one is above all
  pub above_last : (es : List (ℕ × X)) → AreRising es → (k : ℕ) (last : ℕ × X) → Some last ≡ slice_get es (length es - 1) → last.0 < k → IsGapFor es k (length es)
  above_last [] rising k last is_last lt = record { in_range = omega arith; smaller_before = λ j l. absurd (let no : ⊥ = omega (arith, l) in no); greater_after = λ j le l. absurd (let no : ⊥ = omega (arith, le, l) in no) }
  above_last (e ∷ es) rising k last is_last lt =
      let whole = e ∷ es in
      let top : key_at whole (length whole - 1) ≡ last.0 =
      key_of whole (length whole - 1) last (omega arith) ∙ ap (λ x. x.0) (get_or_from_slice_get whole (length whole - 1) last last (sym is_last)) in record {
        in_range = omega arith;
        smaller_before = λ j l. elim (cases_lt j (length whole - 1)) [
          | inl before ↦ let less = rises whole rising j (length whole - 1) before (omega arith) in omega (arith, less, top, lt)
          | inr there ↦ let place : j ≡ length whole - 1 = omega (arith, there, l) in omega (arith, ap (λ i. key_at whole i) place, top, lt)
        ];
        greater_after = λ j le l. absurd (let no : ⊥ = omega (arith, le, l) in no);
      }

  -- any number is below all of none
  pub below_none : (k : ℕ) → IsGapFor {X = X} [] k 0
  below_none k = record { in_range = omega arith; smaller_before = λ j l. absurd (let no : ⊥ = omega (arith, l) in no); greater_after = λ j le l. absurd (let no : ⊥ = omega (arith, l) in no) }

  -- a number below the first one is below all
  pub below_first : (es : List (ℕ × X)) → AreRising es → (k : ℕ) (first : ℕ × X) → Some first ≡ slice_get es 0 → k < first.0 → IsGapFor es k 0
  below_first [] rising k first is_first lt = below_none k
  below_first (e ∷ es) rising k first is_first lt =
      let whole = e ∷ es in
      let bottom : key_at whole 0 ≡ first.0 = key_of whole 0 first (omega arith) ∙ ap (λ x. x.0) (get_or_from_slice_get whole 0 first first (sym is_first)) in record {
        in_range = omega arith;
        smaller_before = λ j l. absurd (let no : ⊥ = omega (arith, l) in no);
        greater_after = λ j le l. elim (cases_lt 0 j) [
          | inl after ↦ let more = rises whole rising 0 j after l in omega (arith, more, bottom, lt)
          | inr there ↦ let place : j ≡ 0 = omega (arith, there) in omega (arith, ap (λ i. key_at whole i) place, bottom, lt)
        ];
      }

  -- behind an entry with a smaller number, where all after it have greater ones
  pub gap_behind : (es : List (ℕ × X)) → AreRising es → (k i n : ℕ) → i < length es → key_at es i ≡ n → n < k → ((j : ℕ) → i < j → j < length es → k < key_at es j) → IsGapFor es k (i + 1)
  gap_behind es rising k i n within is less above = record {
    in_range = omega (arith, within);
    smaller_before = λ j lt. elim (cases_lt j i) [
      | inl before ↦ let below = rises es rising j i before within in omega (arith, below, is, less)
      | inr there ↦ let place : j ≡ i = omega (arith, there, lt) in omega (arith, ap (λ p. key_at es p) place, is, less)
    ];
    greater_after = λ j le lt. above j (omega (arith, le)) lt;
  }

  -- one entry more from the end has a greater number
  pub greater_more : (es : List (ℕ × X)) (k i n back : ℕ) → i + back ≡ length es → key_at es i ≡ n → k < n → ((j : ℕ) → length es < j + back → j < length es → k < key_at es j) →
      (j : ℕ) → length es < j + (back + 1) → j < length es → k < key_at es j
  greater_more es k i n back place is less above j behind lt = elim (cases_lt i j) [
    | inl after ↦ above j (omega (arith, place, after)) lt
    | inr there ↦ let here : j ≡ i = omega (arith, there, place, behind) in omega (arith, ap (λ p. key_at es p) here, is, less)
  ]
