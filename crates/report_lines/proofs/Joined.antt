-- Texts with something between each two, written one by one.
use Rattle.std.proofs.Common.{◌≡◌, ◌∙◌, ℕ, ◌+◌, ◌<◌, List, [], ◌∷◌, ◌++◌, length, take, get_or, refl, sym, ap, arith, append_assoc, append-nil, length-take}
use Rattle.std.proofs.Output.{has_written_append, has_written_of_eq}
use Rattle.std.proofs.lemmas.List.{take_more}
use Rattle.std.specs.Fmt.{HasWritten, IsPlainFormatter}
use Rattle.std.specs.List.{flat_map, join_by}
use Rattle.std.specs.declared.fmt.Formatter.{Formatter}

later_more : {X : Type 0} (f : X → List ℕ) (sep : List ℕ) (xs : List X) (x : X) → flat_map (λ y. sep ++ f y) (xs ++ x ∷ []) ≡ flat_map (λ y. sep ++ f y) xs ++ (sep ++ f x)
later_more f sep [] x = append-nil (sep ++ f x)
later_more f sep (y ∷ ys) x = ap (λ t. (sep ++ f y) ++ t) (later_more f sep ys x) ∙ sym (append_assoc (sep ++ f y) (flat_map (λ z. sep ++ f z) ys) (sep ++ f x))

one_more : {X : Type 0} (f : X → List ℕ) (sep between : List ℕ) (xs : List X) (x : X) → (length xs ≡ 0 → between ≡ []) → (0 < length xs → between ≡ sep)
    → join_by f sep (xs ++ x ∷ []) ≡ join_by f sep xs ++ (between ++ f x)
one_more f sep between [] x first later = append-nil (f x) ∙ ap (λ b. b ++ f x) (sym (first refl))
one_more f sep between (y ∷ ys) x first later =
    let is : between ≡ sep = later (omega arith) in
    ap (λ t. f y ++ t) (later_more f sep ys x) ∙ sym (append_assoc (f y) (flat_map (λ z. sep ++ f z) ys) (sep ++ f x))
    ∙ ap (λ b. join_by f sep (y ∷ ys) ++ (b ++ f x)) (sym is)

module _ {W X : Type 0} (took : W → List ℕ → W → Type 0) (f : X → List ℕ) (sep : List ℕ) where
  -- the texts up to an index were written, and this comes before the next one
  pub record Joins (xs : List X) (i : ℕ) (old now : Formatter W) (between : List ℕ) : Type 0 where
    pub wrote : IsPlainFormatter old → HasWritten took old (join_by f sep (take i xs)) now
    pub first : i ≡ 0 → between ≡ []
    pub later : 0 < i → between ≡ sep

  -- one more
  pub joins_next : (xs : List X) (i : ℕ) (x d : X) (old now after : Formatter W) (between : List ℕ) → i < length xs → x ≡ get_or xs i d
      → Joins xs i old now between → (IsPlainFormatter now → HasWritten took now (between ++ f x) after) → Joins xs (i + 1) old after sep
  joins_next xs i x d old now after between lt is so_far more =
      let len : length (take i xs) ≡ i = omega (arith, length-take i xs) in
      let one : join_by f sep (take i xs) ++ (between ++ f x) ≡ join_by f sep (take (i + 1) xs) =
      sym (ap (join_by f sep) (take_more xs i d lt ∙ ap (λ y. take i xs ++ y ∷ []) (sym is))
      ∙ one_more f sep between (take i xs) x (λ none. so_far.first (omega arith)) (λ some. so_far.later (omega arith))) in
      record {
        wrote = λ plain.
            let before = so_far.wrote plain in
            has_written_of_eq took old _ _ after one (has_written_append took old (join_by f sep (take i xs)) now (between ++ f x) after before (more before.plain));
        first = λ none. absurd (omega arith);
        later = λ some. refl;
      }
