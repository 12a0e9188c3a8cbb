-- Paths that stand twice.
use Rattle.std.proofs.Common.{◌≡◌, refl, sym, ◌∙◌, ap, ap₂, ℕ, ◌+◌, List, [], ◌∷◌, ◌++◌, take, drop, Bool, true, false, if◌then◌else◌}
use Rattle.std.specs.Prelude.{not, ◌&&◌, ◌||◌}
use Rattle.std.specs.List.{list_any}
use Rattle.std.specs.Str.{bytes_eq as same_path}
use Rattle.std.proofs.lemmas.Bool.{false≢true}
use Rattle.std.proofs.lemmas.Cmp.{nat_list_eq_equiv}
use Rattle.std.proofs.lemmas.List.{take-append-drop}
use Rattle.std.proofs.lemmas.List.Folds.{list_any-append}
use Rattle.vat_rules.specs.OfCalls.{distinct_paths}

-- a path stands among results
abbrev pub stands : List ℕ → List (ℕ × List ℕ) → Bool
stands path results = list_any (λ b. same_path b.1 path) results

both_ways : (a b : List ℕ) → same_path a b ≡ same_path b a
both_ways a b = nat_list_eq_equiv.symm a b

-- one more result is distinct from those before
pub distinct_more : (before : List (ℕ × List ℕ)) (a : ℕ × List ℕ) → distinct_paths (before ++ a ∷ []) ≡ (distinct_paths before && not (stands a.1 before))
distinct_more [] a = refl
distinct_more (x ∷ before) a =
    ap₂ (λ b c. not b && c) (list_any-append (λ b. same_path x.1 b.1) before (a ∷ [])) (distinct_more before a)
    ∙ inner (list_any (λ b. same_path x.1 b.1) before) (same_path x.1 a.1) (distinct_paths before) (stands a.1 before)
  where
    inner : (among here rest there : Bool) → (not (among || (here || false)) && (rest && not there)) ≡ ((not among && rest) && not (here || there))
    inner true here rest there = refl
    inner false true true there = refl
    inner false true false there = refl
    inner false false true there = refl
    inner false false false there = refl

-- where some first results aren't, all aren't
pub twice_stays : (before after : List (ℕ × List ℕ)) → distinct_paths before ≡ false → distinct_paths (before ++ after) ≡ false
twice_stays [] after h = absurd (false≢true (sym h))
twice_stays (x ∷ before) after h =
    ap (λ b. not b && distinct_paths (before ++ after)) (list_any-append (λ b. same_path x.1 b.1) before after)
    ∙ inner (list_any (λ b. same_path x.1 b.1) before) (list_any (λ b. same_path x.1 b.1) after) (distinct_paths before) (distinct_paths (before ++ after)) h (twice_stays before after)
  where
    inner : (among later rest more : Bool) → (not among && rest) ≡ false → (rest ≡ false → more ≡ false) → (not (among || later) && more) ≡ false
    inner true later rest more h so = refl
    inner false true rest more h so = refl
    inner false false rest more h so = so h

-- some first results and one more are twice one, where that one stands among them
pub twice_here : (results : List (ℕ × List ℕ)) (k : ℕ) (a : ℕ × List ℕ) → take (k + 1) results ≡ take k results ++ a ∷ [] → stands a.1 (take k results) ≡ true → false ≡ distinct_paths results
twice_here results k a more there =
    sym (twice_stays (take (k + 1) results) (drop (k + 1) results)
    (ap distinct_paths more ∙ distinct_more (take k results) a ∙ ap (λ b. distinct_paths (take k results) && not b) there ∙ never (distinct_paths (take k results))))
    ∙ ap distinct_paths (take-append-drop (k + 1) results)
  where
    never : (b : Bool) → (b && not true) ≡ false
    never true = refl
    never false = refl

-- one more stands among them
pub stands_more : (before : List (ℕ × List ℕ)) (a : ℕ × List ℕ) (path : List ℕ) → stands path (before ++ a ∷ []) ≡ (if same_path a.1 path then true else stands path before)
stands_more before a path = list_any-append (λ b. same_path b.1 path) before (a ∷ []) ∙ inner (stands path before) (same_path a.1 path)
  where
    inner : (b c : Bool) → (b || (c || false)) ≡ (if c then true else b)
    inner true true = refl
    inner true false = refl
    inner false true = refl
    inner false false = refl

-- what a set says that has a key already
pub was_there : (there added : Bool) → added ≡ not there → added ≡ false → there ≡ true
was_there true added is fails = refl
was_there false added is fails = absurd (false≢true (sym fails ∙ is))
