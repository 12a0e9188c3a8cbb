-- The words of a reason make no tag.
use Rattle.std.proofs.Common.{◌≡◌, ◌∙◌, true, ℕ, List, [], ◌∷◌, ◌++◌, inl, inr, refl}
use Rattle.std.specs.Prelude.{◌==◌, ◌||◌, not, codes}
use Rattle.std.proofs.lemmas.Bool.{and_from, cases_eq, eq-eqb, ne_eqb}
use Rattle.std.proofs.lemmas.List.Folds.{list_all-append}
use Rattle.exception_reasons.specs.Printed.{printed}
use Rattle.picture.specs.ReasonText.{has_no_tag, letter_markup, markup, quoted}

both : (xs ys : List ℕ) → has_no_tag xs ≡ true → has_no_tag ys ≡ true → has_no_tag (xs ++ ys) ≡ true
both xs ys p q = list_all-append (λ letter. not ((letter == 60) || (letter == 62))) xs ys ∙ and_from (has_no_tag xs) (has_no_tag ys) p q

of_letter : (letter : ℕ) → has_no_tag (letter_markup letter) ≡ true
of_letter letter =
    elim (cases_eq letter 38) [
      | inl is ↦ rw (eq-eqb letter 38 is) refl
      | inr not_and ↦ rw (ne_eqb letter 38 not_and)
          (elim (cases_eq letter 60) [
            | inl is ↦ rw (eq-eqb letter 60 is) refl
            | inr not_less ↦ rw (ne_eqb letter 60 not_less)
                (elim (cases_eq letter 62) [
                  | inl is ↦ rw (eq-eqb letter 62 is) refl
                  | inr not_greater ↦ rw (ne_eqb letter 62 not_greater, ne_eqb letter 60 not_less, ne_eqb letter 62 not_greater) refl
                ])
          ])
    ]

of_text : (text : List ℕ) → has_no_tag (markup text) ≡ true
of_text [] = refl
of_text (letter ∷ text) = both (letter_markup letter) (markup text) (of_letter letter) (of_text text)

pub of_reason : (reason : List ℕ) → has_no_tag (quoted reason) ≡ true
of_reason reason = both (codes " reason \"") (markup (printed reason) ++ codes "\"") refl (both (markup (printed reason)) (codes "\"") (of_text (printed reason)) refl)
