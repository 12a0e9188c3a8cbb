-- Texts that are written one behind the other.
use Rattle.std.proofs.Common.{◌≡◌, ◌∙◌, ℕ, ◌+◌, ◌<◌, List, [], ◌∷◌, ◌++◌, length, take, get_or, refl, sym, ap, ap₂, append-nil}
use Rattle.std.proofs.Output.{has_written_append, has_written_of_eq}
use Rattle.std.proofs.lemmas.List.{take_more}
use Rattle.std.proofs.lemmas.Grind.{flat_map-append}
use Rattle.std.specs.Fmt.{HasWritten, IsPlainFormatter}
use Rattle.std.specs.List.{flat_map}
use Rattle.std.specs.declared.fmt.Formatter.{Formatter}

module _ {W X : Type 0} (took : W → List ℕ → W → Type 0) (f : X → List ℕ) where
  -- the texts up to an index were written
  pub record Writes (xs : List X) (i : ℕ) (old now : Formatter W) : Type 0 where
    pub wrote : IsPlainFormatter old → HasWritten took old (flat_map f (take i xs)) now

  -- one more
  pub writes_next : (xs : List X) (i : ℕ) (x d : X) (old now after : Formatter W) → i < length xs → x ≡ get_or xs i d
      → Writes xs i old now → (IsPlainFormatter now → HasWritten took now (f x) after) → Writes xs (i + 1) old after
  writes_next xs i x d old now after lt is so_far more =
      let one : flat_map f (take i xs) ++ f x ≡ flat_map f (take (i + 1) xs) =
      ap (λ t. flat_map f (take i xs) ++ t) (sym (append-nil (f x))) ∙ sym (flat_map-append f (take i xs) (x ∷ [])) ∙ sym (ap (flat_map f) (take_more xs i d lt ∙ ap (λ y. take i xs ++ y ∷ []) (sym is))) in
      record {
        wrote = λ plain.
            let before = so_far.wrote plain in
            has_written_of_eq took old _ _ after one (has_written_append took old (flat_map f (take i xs)) now (f x) after before (more before.plain));
      }

-- five texts, each of them another's equal
pub five : {a b c d e p q r s t : List ℕ} → a ≡ p → b ≡ q → c ≡ r → d ≡ s → e ≡ t → a ++ (b ++ (c ++ (d ++ e))) ≡ p ++ (q ++ (r ++ (s ++ t)))
five one two three four last = ap₂ ◌++◌ one (ap₂ ◌++◌ two (ap₂ ◌++◌ three (ap₂ ◌++◌ four last)))

-- a text of texts, each of which was changed by itself
pub each_of_each : {X Y Z : Type 0} (f : X → List Y) (g : Y → List Z) (xs : List X) → flat_map g (flat_map f xs) ≡ flat_map (λ x. flat_map g (f x)) xs
each_of_each f g [] = refl
each_of_each f g (x ∷ xs) = flat_map-append g (f x) (flat_map f xs) ∙ ap (λ l. flat_map g (f x) ++ l) (each_of_each f g xs)
