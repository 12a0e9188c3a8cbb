-- What a change of entries is to look-ups: where a value is set, pushed or taken out, in a row and behind it.
use Rattle.std.proofs.Common.{◌≡◌, ℕ, zero, suc, ◌+◌, ◌<◌, ◌≢◌, List, [], ◌∷◌, ◌++◌, length, get_or, set, inl, inr, Some, None, Option, Bool, true, false, refl, sym, ap, subst, ◌∙◌, ◌==◌, if◌then◌else◌, arith}
use Rattle.std.specs.Prelude.{is_some, MatchOption}
use mathlib.Core.Bool.{true≢false}
use Rattle.std.specs.List.{insert, remove, AllByRecursion}
use Rattle.std.specs.List.Sorted.{IsStrictlySortedBy}
use Rattle.std.specs.Ordering.{nat_cmp, is_eq}
use Rattle.std.specs.declared.cmp.Ordering.TheVariants.{Less}
use Rattle.std.specs.Cmp.{unsigned_ties, nat_cmp_is}
use Rattle.std.specs.Option.{option_or}
use Rattle.std.specs.Map.{keys_of}
use Rattle.std.specs.BTreeMap.{is_at}
use Rattle.std.proofs.lemmas.Bool.{eqb-true, cases_lt}
use Rattle.std.proofs.lemmas.List.{length-append}
use Rattle.std.proofs.lemmas.Bool.Decides.{nat_tests}
use Rattle.rising_table.specs.Entries.{entry_at}
use Rattle.rising_table.specs.Glue.{key_at, AreRising, IsAt, IsGapFor}
use Rattle.rising_table.proofs.Finding.{plain, entry_plain, plain_absent, lookup_both, none_before, rises, missing, present}

-- one number has this, or nothing, and every other what it had
abbrev pub Puts : {X : Type 0} → List (ℕ × X) → List (ℕ × X) → ℕ → Option X → Type 0
Puts old new k w = (q : ℕ) → entry_at new q ≡ (if k == q then w else entry_at old q)

none_some : {X : Type 0} {x : X} → Some x ≡ None → ⊥
none_some e = absurd (true≢false (ap is_some e))

module _ {X : Type 0} where
  -- ---- two lists

  pub puts_before : (row new rest : List (ℕ × X)) (k : ℕ) (v : X) → Puts row new k (Some v) → Puts (row ++ rest) (new ++ rest) k (Some v)
  puts_before row new rest k v puts q =
      lookup_both (is_at (nat_cmp q)) new rest ∙ ap (λ o. option_or o (entry_at rest q)) (puts q) ∙ at (k == q) (entry_at row q)
      ∙ ap (λ o. if k == q then Some v else o) (sym (lookup_both (is_at (nat_cmp q)) row rest))
    where
      at : (b : Bool) (o : Option X) → option_or (if b then Some v else o) (entry_at rest q) ≡ (if b then Some v else option_or o (entry_at rest q))
      at true o = refl
      at false o = refl

  pub puts_behind : (row rest new : List (ℕ × X)) (k : ℕ) (w : Option X) → entry_at row k ≡ None → Puts rest new k w → Puts (row ++ rest) (row ++ new) k w
  puts_behind row rest new k w absent puts q =
      lookup_both (is_at (nat_cmp q)) row new ∙ ap (λ o. option_or (entry_at row q) o) (puts q) ∙ at (k == q) refl
      ∙ ap (λ o. if k == q then w else o) (sym (lookup_both (is_at (nat_cmp q)) row rest))
    where
      at : (b : Bool) → (k == q) ≡ b → option_or (entry_at row q) (if b then w else entry_at rest q) ≡ (if b then w else option_or (entry_at row q) (entry_at rest q))
      at true same = ap (λ o. option_or o w) (ap (λ n. entry_at row n) (sym (eqb-true k q same)) ∙ absent)
      at false other = refl

  pub takes_both : (row new rest left : List (ℕ × X)) (k : ℕ) → Puts row new k None → Puts rest left k None → Puts (row ++ rest) (new ++ left) k None
  takes_both row new rest left k first second q =
      lookup_both (is_at (nat_cmp q)) new left ∙ (λ i. option_or (first q i) (second q i)) ∙ at (k == q) (entry_at row q) (entry_at rest q)
      ∙ ap (λ o. if k == q then None else o) (sym (lookup_both (is_at (nat_cmp q)) row rest))
    where
      at : (b : Bool) (o p : Option X) → option_or (if b then None else o) (if b then None else p) ≡ (if b then None else option_or o p)
      at true o p = refl
      at false o p = refl

  -- nothing is to be taken out
  pub takes_none : (es : List (ℕ × X)) (k : ℕ) → entry_at es k ≡ None → Puts es es k None
  takes_none es k absent q = at (k == q) refl
    where
      at : (b : Bool) → (k == q) ≡ b → entry_at es q ≡ (if b then None else entry_at es q)
      at true same = ap (λ n. entry_at es n) (sym (eqb-true k q same)) ∙ absent
      at false other = refl

  -- the same, where the test is the order's
  pub puts_by_order : (es fs : List (ℕ × X)) (k : ℕ) (w : Option X) → ((q : ℕ) → entry_at fs q ≡ (if is_eq (nat_cmp k q) then w else entry_at es q)) → Puts es fs k w
  puts_by_order es fs k w puts q = puts q ∙ ap (λ b. if b then w else entry_at es q) (sym (unsigned_ties k q))

  -- by whether there was a value
  pub found_so : (old row rest : List (ℕ × X)) (k : ℕ) (v : X) (o : Option X) (last : X) → o ≡ Some last → Puts old (row ++ rest) k (Some v)
      → MatchOption o (row ++ rest ≡ old) (λ _. (q : ℕ) → entry_at (row ++ rest) q ≡ (if k == q then Some v else entry_at old q))
  found_so old row rest k v o last is_last puts =
      subst (λ p. MatchOption p (row ++ rest ≡ old) (λ _. (q : ℕ) → entry_at (row ++ rest) q ≡ (if k == q then Some v else entry_at old q))) (sym is_last) puts

  pub missed_so : (old row rest : List (ℕ × X)) (k : ℕ) (v : X) (o : Option X) → o ≡ None → row ++ rest ≡ old
      → MatchOption o (row ++ rest ≡ old) (λ _. (q : ℕ) → entry_at (row ++ rest) q ≡ (if k == q then Some v else entry_at old q))
  missed_so old row rest k v o is_none same =
      subst (λ p. MatchOption p (row ++ rest ≡ old) (λ _. (q : ℕ) → entry_at (row ++ rest) q ≡ (if k == q then Some v else entry_at old q))) (sym is_none) same

  -- ---- a row

  plain_set : (es : List (ℕ × X)) (k i : ℕ) (v : X) → i < length es → key_at es i ≡ k → ((j : ℕ) → j < i → key_at es j ≢ k)
      → (q : ℕ) → plain (set es i (k, v)) q ≡ (if k == q then Some v else plain es q)
  plain_set [] k i v lt same none q = absurd (omega (arith, lt))
  plain_set (e ∷ es) k zero v lt same none q = grind (arith, nat_tests, same)
  plain_set (e ∷ es) k (suc i) v lt same none q =
      grind (arith, nat_tests, none 0 (omega arith), plain_set es k i v (omega (arith, lt)) same (λ j l. none (suc j) (omega (arith, l))) q)

  pub puts_set : (es : List (ℕ × X)) → AreRising es → (k i : ℕ) (v : X) → IsAt es k i → Puts es (set es i (k, v)) k (Some v)
  puts_set es rising k i v there q =
      entry_plain (set es i (k, v)) q ∙ plain_set es k i v there.in_range there.has_key (none_before es rising k i there) q
      ∙ ap (λ o. if k == q then Some v else o) (sym (entry_plain es q))

  keys_set : (es : List (ℕ × X)) (k i : ℕ) (v : X) → i < length es → key_at es i ≡ k → keys_of (set es i (k, v)) ≡ keys_of es
  keys_set [] k i v lt same = absurd (omega (arith, lt))
  keys_set (e ∷ es) k zero v lt same = ap (λ n. n ∷ keys_of es) (sym same)
  keys_set (e ∷ es) k (suc i) v lt same = ap (λ ks. e.0 ∷ ks) (keys_set es k i v (omega (arith, lt)) same)

  pub rising_set : (es : List (ℕ × X)) → AreRising es → (k i : ℕ) (v : X) → IsAt es k i → AreRising (set es i (k, v))
  rising_set es rising k i v there = subst (λ ks. IsStrictlySortedBy nat_cmp ks) (sym (keys_set es k i v there.in_range there.has_key)) rising

  plain_push : (es : List (ℕ × X)) (k : ℕ) (v : X) → plain es k ≡ None → (q : ℕ) → plain (es ++ (k, v) ∷ []) q ≡ (if k == q then Some v else plain es q)
  plain_push [] k v absent q = refl
  plain_push (e ∷ es) k v absent q = at (e.0 == k) refl absent (λ none. plain_push es k v none q)
    where
      at : (b : Bool) → (e.0 == k) ≡ b → (if b then Some e.1 else plain es k) ≡ None → (plain es k ≡ None → plain (es ++ (k, v) ∷ []) q ≡ (if k == q then Some v else plain es q))
          → (if e.0 == q then Some e.1 else plain (es ++ (k, v) ∷ []) q) ≡ (if k == q then Some v else (if e.0 == q then Some e.1 else plain es q))
      at true same found more = absurd (none_some found)
      at false other none more = grind (arith, nat_tests, other, more none)

  pub puts_push : (es : List (ℕ × X)) (k : ℕ) (v : X) → entry_at es k ≡ None → Puts es (es ++ (k, v) ∷ []) k (Some v)
  puts_push es k v absent q =
      entry_plain (es ++ (k, v) ∷ []) q ∙ plain_push es k v (sym (entry_plain es k) ∙ absent) q ∙ ap (λ o. if k == q then Some v else o) (sym (entry_plain es q))

  all_push : (P : ℕ → Type 0) (es : List (ℕ × X)) (k : ℕ) (v : X) → AllByRecursion P (keys_of es) → P k → AllByRecursion P (keys_of (es ++ (k, v) ∷ []))
  all_push P [] k v all one = (one, tt)
  all_push P (e ∷ es) k v all one = (all.0, all_push P es k v all.1 one)

  rising_above : (es : List (ℕ × X)) → AreRising es → (k : ℕ) (v : X) → ((j : ℕ) → j < length es → key_at es j < k) → AreRising (es ++ (k, v) ∷ [])
  unfolding IsStrictlySortedBy
  rising_above [] rising k v below = (tt, tt)
  rising_above (e ∷ es) rising k v below = (
    all_push (λ y. nat_cmp e.0 y ≡ Less) es k v rising.0 (sym (nat_cmp_is e.0 k Less (below 0 (omega arith)))),
    rising_above es rising.1 k v (λ j lt. below (suc j) (omega (arith, lt))),
  )

  pub rising_push : (es : List (ℕ × X)) → AreRising es → (k i : ℕ) (v : X) → IsGapFor es k i → i ≡ length es → AreRising (es ++ (k, v) ∷ [])
  rising_push es rising k i v gap last = rising_above es rising k v (λ j lt. gap.smaller_before j (omega (arith, lt, last)))

  plain_insert : (es : List (ℕ × X)) (k i : ℕ) (v : X) → plain es k ≡ None → (q : ℕ) → plain (insert es i (k, v)) q ≡ (if k == q then Some v else plain es q)
  plain_insert es k zero v absent q = refl
  plain_insert [] k (suc i) v absent q = refl
  plain_insert (e ∷ es) k (suc i) v absent q = at (e.0 == k) refl absent (λ none. plain_insert es k i v none q)
    where
      at : (b : Bool) → (e.0 == k) ≡ b → (if b then Some e.1 else plain es k) ≡ None
          → (plain es k ≡ None → plain (insert es i (k, v)) q ≡ (if k == q then Some v else plain es q))
          → (if e.0 == q then Some e.1 else plain (insert es i (k, v)) q) ≡ (if k == q then Some v else (if e.0 == q then Some e.1 else plain es q))
      at true same found more = absurd (none_some found)
      at false other none more = grind (arith, nat_tests, other, more none)

  pub puts_insert : (es : List (ℕ × X)) (k i : ℕ) (v : X) → entry_at es k ≡ None → Puts es (insert es i (k, v)) k (Some v)
  puts_insert es k i v absent q =
      entry_plain (insert es i (k, v)) q ∙ plain_insert es k i v (sym (entry_plain es k) ∙ absent) q ∙ ap (λ o. if k == q then Some v else o) (sym (entry_plain es q))

  all_insert : (P : ℕ → Type 0) (es : List (ℕ × X)) (k i : ℕ) (v : X) → AllByRecursion P (keys_of es) → P k → AllByRecursion P (keys_of (insert es i (k, v)))
  all_insert P es k zero v all one = (one, all)
  all_insert P [] k (suc i) v all one = (one, tt)
  all_insert P (e ∷ es) k (suc i) v all one = (all.0, all_insert P es k i v all.1 one)

  all_greater : (es : List (ℕ × X)) (k : ℕ) → ((j : ℕ) → j < length es → k < key_at es j) → AllByRecursion (λ y. nat_cmp k y ≡ Less) (keys_of es)
  all_greater [] k greater = tt
  all_greater (e ∷ es) k greater = (sym (nat_cmp_is k e.0 Less (greater 0 (omega arith))), all_greater es k (λ j lt. greater (suc j) (omega (arith, lt))))

  pub rising_insert : (es : List (ℕ × X)) → AreRising es → (k i : ℕ) (v : X) → IsGapFor es k i → AreRising (insert es i (k, v))
  unfolding IsStrictlySortedBy
  rising_insert es rising k zero v gap = (all_greater es k (λ j lt. gap.greater_after j (omega arith) lt), rising)
  rising_insert [] rising k (suc i) v gap = (tt, tt)
  rising_insert (e ∷ es) rising k (suc i) v gap = (
    all_insert (λ y. nat_cmp e.0 y ≡ Less) es k i v rising.0 (sym (nat_cmp_is e.0 k Less (gap.smaller_before 0 (omega arith)))),
    rising_insert es rising.1 k i v (record {
      in_range = omega (arith, gap.in_range);
      smaller_before = λ j lt. gap.smaller_before (suc j) (omega (arith, lt));
      greater_after = λ j le lt. gap.greater_after (suc j) (omega (arith, le)) (omega (arith, lt));
    }),
  )

  plain_remove : (es : List (ℕ × X)) (k i : ℕ) → i < length es → key_at es i ≡ k → ((j : ℕ) → j < length es → j ≢ i → key_at es j ≢ k)
      → (q : ℕ) → plain (remove es i) q ≡ (if k == q then None else plain es q)
  plain_remove [] k i lt same others q = absurd (omega (arith, lt))
  plain_remove (e ∷ es) k zero lt same others q =
      grind (arith, nat_tests, same, plain_absent es k (λ j l. others (suc j) (omega (arith, l)) (λ z. omega (arith, z))), ap (λ n. plain es n) {x = k} {y = q})
  plain_remove (e ∷ es) k (suc i) lt same others q =
      grind (
        arith,
        nat_tests,
        others 0 (omega arith) (λ z. omega (arith, z)),
        plain_remove es k i (omega (arith, lt)) same (λ j l apart. others (suc j) (omega (arith, l)) (λ z. apart (omega (arith, z)))) q,
      )

  others_differ : (es : List (ℕ × X)) → AreRising es → (k i : ℕ) → IsAt es k i → (j : ℕ) → j < length es → j ≢ i → key_at es j ≢ k
  others_differ es rising k i there j lt apart same =
      elim (cases_lt j i) [
        | inl before ↦ omega (arith, rises es rising j i before there.in_range, there.has_key, same)
        | inr behind ↦ elim (cases_lt i j) [
          | inl after ↦ omega (arith, rises es rising i j after lt, there.has_key, same)
          | inr here ↦ apart (omega (arith, behind, here))
        ]
      ]

  pub takes_remove : (es : List (ℕ × X)) → AreRising es → (k i : ℕ) → IsAt es k i → Puts es (remove es i) k None
  takes_remove es rising k i there q =
      entry_plain (remove es i) q ∙ plain_remove es k i there.in_range there.has_key (others_differ es rising k i there) q
      ∙ ap (λ o. if k == q then None else o) (sym (entry_plain es q))

  all_removed : (P : ℕ → Type 0) (es : List (ℕ × X)) (i : ℕ) → AllByRecursion P (keys_of es) → AllByRecursion P (keys_of (remove es i))
  all_removed P [] zero all = all
  all_removed P [] (suc i) all = all
  all_removed P (e ∷ es) zero all = all.1
  all_removed P (e ∷ es) (suc i) all = (all.0, all_removed P es i all.1)

  pub rising_remove : (es : List (ℕ × X)) → AreRising es → (i : ℕ) → AreRising (remove es i)
  unfolding IsStrictlySortedBy
  rising_remove [] rising zero = rising
  rising_remove [] rising (suc i) = rising
  rising_remove (e ∷ es) rising zero = rising.1
  rising_remove (e ∷ es) rising (suc i) = (all_removed (λ y. nat_cmp e.0 y ≡ Less) es i rising.0, rising_remove es rising.1 i)

  -- ---- a table, which is a row and the rest

  module _ (row rest old : List (ℕ × X)) (whole : row ++ rest ≡ old) (k i : ℕ) where
    seen : (new : List (ℕ × X)) (w : Option X) → Puts (row ++ rest) new k w → Puts old new k w
    seen new w puts = subst (λ es. Puts es new k w) whole puts

    pub put_over : (v : X) → AreRising row → IsAt row k i → Puts old (set row i (k, v) ++ rest) k (Some v)
    put_over v rising there = seen (set row i (k, v) ++ rest) (Some v) (puts_before row (set row i (k, v)) rest k v (puts_set row rising k i v there))

    pub put_last : (v : X) → IsGapFor row k i → (pushed : List (ℕ × X)) → pushed ≡ row ++ (k, v) ∷ [] → Puts old (pushed ++ rest) k (Some v)
    put_last v gap pushed is_pushed =
        seen (pushed ++ rest) (Some v)
        (puts_before row pushed rest k v (subst (λ es. Puts row es k (Some v)) (sym is_pushed) (puts_push row k v (missing row k i gap))))

    pub put_within : (v : X) → IsGapFor row k i → (more : List (ℕ × X)) → more ≡ insert row i (k, v) → Puts old (more ++ rest) k (Some v)
    put_within v gap more is_more =
        seen (more ++ rest) (Some v)
        (puts_before row more rest k v (subst (λ es. Puts row es k (Some v)) (sym is_more) (puts_insert row k i v (missing row k i gap))))

    pub put_behind : (w : Option X) → IsGapFor row k i → (more : List (ℕ × X))
        → ((q : ℕ) → entry_at more q ≡ (if is_eq (nat_cmp k q) then w else entry_at rest q)) → Puts old (row ++ more) k w
    put_behind w gap more puts = seen (row ++ more) w (puts_behind row rest more k w (missing row k i gap) (puts_by_order rest more k w puts))

    pub taken_over : AreRising row → IsAt row k i → (cut : List (ℕ × X)) → cut ≡ remove row i → (left : List (ℕ × X))
        → ((q : ℕ) → entry_at left q ≡ (if is_eq (nat_cmp k q) then None else entry_at rest q)) → Puts old (cut ++ left) k None
    taken_over rising there cut is_cut left takes =
        seen (cut ++ left) None
        (takes_both row cut rest left k (subst (λ es. Puts row es k None) (sym is_cut) (takes_remove row rising k i there)) (puts_by_order rest left k None takes))

    pub had_over : (e : ℕ × X) → AreRising row → IsAt row k i → e ≡ get_or row i e → entry_at old k ≡ Some e.1
    had_over e rising there read =
        ap (λ es. entry_at es k) (sym whole) ∙ lookup_both (is_at (nat_cmp k)) row rest
        ∙ ap (λ o. option_or o (entry_at rest k)) (present row rising k i e there ∙ ap (λ x. Some x.1) (sym read))

    pub had_behind : IsGapFor row k i → entry_at old k ≡ entry_at rest k
    had_behind gap =
        ap (λ es. entry_at es k) (sym whole) ∙ lookup_both (is_at (nat_cmp k)) row rest ∙ ap (λ o. option_or o (entry_at rest k)) (missing row k i gap)

    pub same_whole : (more : List (ℕ × X)) → more ≡ rest → row ++ more ≡ old
    same_whole more same = ap (λ es. row ++ es) same ∙ whole

    pub same_long : (more : List (ℕ × X)) → length more ≡ length rest → length (row ++ more) ≡ length old
    same_long more same = length-append row more ∙ ap (λ n. length row + n) same ∙ sym (length-append row rest) ∙ ap (λ es. length es) whole
