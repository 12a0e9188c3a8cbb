-- The first bytes of a text, copied one by one.
use Rattle.std.proofs.Common.{◌≡◌, ◌∙◌, ℕ, ◌+◌, ◌<◌, List, [], ◌∷◌, ◌++◌, length, take, get_or, min, sym, ap}
use Rattle.std.proofs.lemmas.List.{take_more, take_min}

-- one more
pub one_more : (text front : List ℕ) (i byte : ℕ) → i < length text → byte ≡ get_or text i 0 → front ≡ take i text → front ++ byte ∷ [] ≡ take (i + 1) text
one_more text front i byte lt is so_far =
    ap (λ (t : List ℕ). t ++ byte ∷ []) so_far ∙ ap (λ (b : ℕ). take i text ++ b ∷ []) is ∙ sym (take_more text i 0 lt)

-- as many as there are, but no more than a number
pub all_taken : (text front : List ℕ) (i most : ℕ) → i ≡ min most (length text) → front ≡ take i text → front ≡ take most text
all_taken text front i most all so_far =
    so_far ∙ ap (λ (n : ℕ). take n text) all ∙ take_min most text
