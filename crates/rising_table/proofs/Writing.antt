-- What a write through a lent value is to look-ups.
use Rattle.std.proofs.Common.{◌≡◌, ℕ, List, [], ◌∷◌, ◌++◌, length, set, get_or, Some, None, Bool, true, false, refl, sym, ap, ◌∙◌, ◌==◌, ◌+◌, if◌then◌else◌, arith}
use Rattle.std.specs.Prelude.{option_map}
use Rattle.std.specs.Option.{option_or}
use Rattle.std.specs.Ordering.{nat_cmp}
use Rattle.std.specs.Cmp.{unsigned_ties}
use Rattle.std.specs.Map.{set_value}
use Rattle.std.specs.BTreeMap.{is_at}
use Rattle.std.proofs.lemmas.Bool.{eqb-true}
use Rattle.std.proofs.lemmas.Bool.Decides.{nat_tests}
use Rattle.std.proofs.lemmas.List.{length-append, length-set}
use Rattle.std.proofs.lemmas.Map.{length-set_value}
use Rattle.rising_table.specs.Entries.{entry_at}
use Rattle.rising_table.specs.Glue.{AreRising, IsAt, IsGapFor}
use Rattle.rising_table.specs.Lends.{Writes}
use Rattle.rising_table.proofs.Finding.{plain, entry_plain, lookup_both, key_of, missing}
use Rattle.rising_table.proofs.Changing.{Puts, put_over, had_over, rising_set, same_long}

module _ {X : Type 0} where
  -- the entry that was read at the number's place has the number
  pub read_key : (es : List (ℕ × X)) (k i : ℕ) (e : ℕ × X) → IsAt es k i → e ≡ get_or es i e → k ≡ e.0
  read_key es k i e there read = sym there.has_key ∙ key_of es i e there.in_range ∙ ap (λ x. x.0) (sym read)

  pub rising_written : (es : List (ℕ × X)) → AreRising es → (k i : ℕ) (e : ℕ × X) (w : X) → IsAt es k i → e ≡ get_or es i e → AreRising (set es i (e.0, w))
  rising_written es rising k i e w there read = rising_set es rising e.0 i w (record { in_range = there.in_range; has_key = there.has_key ∙ read_key es k i e there read })

  -- what was put where there was something
  put_where : (old new : List (ℕ × X)) (k : ℕ) (v w : X) → entry_at old k ≡ Some v → Puts old new k (Some w)
      → (q : ℕ) → entry_at new q ≡ (if k == q then option_map (λ _. w) (entry_at old q) else entry_at old q)
  put_where old new k v w had puts q = puts q ∙ at (k == q) refl
    where
      at : (b : Bool) → (k == q) ≡ b → (if b then Some w else entry_at old q) ≡ (if b then option_map (λ _. w) (entry_at old q) else entry_at old q)
      at true same = sym (ap (λ o. option_map (λ _. w) o) (ap (λ n. entry_at old n) (sym (eqb-true k q same)) ∙ had))
      at false other = refl

  pub writes_over : (row rest old : List (ℕ × X)) → row ++ rest ≡ old → (k i : ℕ) (e : ℕ × X) (w : X) → AreRising row → IsAt row k i → e ≡ get_or row i e
      → Writes k old (set row i (e.0, w) ++ rest) w
  writes_over row rest old whole k i e w rising there read = (
    λ q. ap (λ n. entry_at (set row i (n, w) ++ rest) q) (sym (read_key row k i e there read))
        ∙ put_where old (set row i (k, w) ++ rest) k e.1 w (had_over row rest old whole k i e rising there read) (put_over row rest old whole k i w rising there) q,
    length-append (set row i (e.0, w)) rest ∙ ap (λ n. n + length rest) (length-set row i (e.0, w)) ∙ sym (length-append row rest) ∙ ap (λ es. length es) whole,
  )

  -- a value set where its number is found first
  plain_written : (es : List (ℕ × X)) (k : ℕ) (w : X) (q : ℕ) → plain (set_value (is_at (nat_cmp k)) es w) q ≡ (if k == q then option_map (λ _. w) (plain es q) else plain es q)
  plain_written [] k w q = at (k == q)
    where
      at : (b : Bool) → plain {X = X} [] q ≡ (if b then option_map (λ _. w) (plain {X = X} [] q) else plain {X = X} [] q)
      at true = refl
      at false = refl
  plain_written (e ∷ es) k w q = at (is_at (nat_cmp k) e.0) (unsigned_ties k e.0) (plain_written es k w q)
    where
      at : (b : Bool) → (k == e.0) ≡ b → plain (set_value (is_at (nat_cmp k)) es w) q ≡ (if k == q then option_map (λ _. w) (plain es q) else plain es q)
          → plain (if b then (e.0, w) ∷ es else e ∷ set_value (is_at (nat_cmp k)) es w) q
          ≡ (if k == q then option_map (λ _. w) (if e.0 == q then Some e.1 else plain es q) else (if e.0 == q then Some e.1 else plain es q))
      at true same more = grind (arith, nat_tests, same)
      at false other more = grind (arith, nat_tests, other, more)

  -- a value set behind the row, where the row lacks the number
  pub writes_behind : (row rest old : List (ℕ × X)) → row ++ rest ≡ old → (k i : ℕ) (w : X) → IsGapFor row k i → (more : List (ℕ × X)) → more ≡ set_value (is_at (nat_cmp k)) rest w
      → Writes k old (row ++ more) w
  writes_behind row rest old whole k i w gap more set = (
    λ q. lookup_both (is_at (nat_cmp q)) row more ∙ ap (λ es. option_or (entry_at row q) (entry_at es q)) set
        ∙ ap (λ o. option_or (entry_at row q) o) (entry_plain (set_value (is_at (nat_cmp k)) rest w) q ∙ plain_written rest k w q ∙ ap (λ o. if k == q then option_map (λ _. w) o else o) (sym (entry_plain rest q)))
        ∙ at (k == q) q refl ∙ ap (λ o. if k == q then option_map (λ _. w) o else o) (sym (lookup_both (is_at (nat_cmp q)) row rest) ∙ ap (λ es. entry_at es q) whole),
    same_long row rest old whole k i more (ap (λ es. length es) set ∙ length-set_value (is_at (nat_cmp k)) rest w),
  )
    where
      at : (b : Bool) (q : ℕ) → (k == q) ≡ b → option_or (entry_at row q) (if b then option_map (λ _. w) (entry_at rest q) else entry_at rest q)
          ≡ (if b then option_map (λ _. w) (option_or (entry_at row q) (entry_at rest q)) else option_or (entry_at row q) (entry_at rest q))
      at true q same =
          let none : entry_at row q ≡ None = ap (λ n. entry_at row n) (sym (eqb-true k q same)) ∙ missing row k i gap in
          ap (λ o. option_or o (option_map (λ _. w) (entry_at rest q))) none ∙ sym (ap (λ o. option_map (λ _. w) (option_or o (entry_at rest q))) none)
      at false q other = refl
