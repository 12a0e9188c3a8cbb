-- Numbers that stand one after another, read by their places.
use Rattle.std.proofs.Common.{◌≡◌, ℕ, zero, suc, ◌+◌, ◌-◌, ◌*◌, ◌<◌, List, [], ◌∷◌, length, get_or, take, drop, refl, sym, ap, ◌∙◌, arith}
use Rattle.std.specs.Prelude.{sum, slice_range}
use Rattle.std.proofs.lemmas.List.{drop-drop}
use Rattle.std.proofs.lemmas.List.Sums.{sum_by-cons}
use Rattle.byteorder.specs.Endian.{little_number}
use Rattle.byteorder.specs.Numbers.{little_from-take}
use Rattle.cap_frame.specs.Segments.{numbers, cut_segments}

-- a number is the same in the cut that is as long
pub number_cut : (width at : ℕ) (bytes : List ℕ) → little_number width (slice_range bytes at (at + width)) ≡ little_number width (drop at bytes)
number_cut width at bytes = little_from-take 0 width (at + width - at) (drop at bytes) (omega arith)

pub length-numbers : (width n : ℕ) (bytes : List ℕ) → length (numbers width n bytes) ≡ n
unfolding numbers
length-numbers width zero bytes = refl
length-numbers width (suc n) bytes = ap suc (length-numbers width n (drop width bytes))

pub get_or-numbers : (width n : ℕ) (bytes : List ℕ) (i : ℕ) → i < n → get_or (numbers width n bytes) i 0 ≡ little_number width (drop (width * i) bytes)
unfolding numbers
get_or-numbers width zero bytes i lt = absurd (omega arith)
get_or-numbers width (suc n) bytes zero lt =
    let e : width * zero ≡ 0 = omega arith in ap (λ (k : ℕ). little_number width (drop k bytes)) (sym e)
get_or-numbers width (suc n) bytes (suc i) lt =
    let e : width + width * i ≡ width * suc i = omega arith in
    let ih = get_or-numbers width n (drop width bytes) i (omega arith) in
    ih ∙ ap (little_number width) (drop-drop (width * i) width bytes) ∙ ap (λ (k : ℕ). little_number width (drop k bytes)) e

pub length-cut : (sizes bytes : List ℕ) → length (cut_segments sizes bytes) ≡ length sizes
unfolding cut_segments
length-cut [] bytes = refl
length-cut (size ∷ sizes) bytes = ap suc (length-cut sizes (drop (8 * size) bytes))

pub get_or-cut : (sizes bytes : List ℕ) (s : ℕ) → s < length sizes → get_or (cut_segments sizes bytes) s [] ≡ numbers 8 (get_or sizes s 0) (drop (8 * sum (take s sizes)) bytes)
unfolding cut_segments
get_or-cut [] bytes s lt = absurd (omega arith)
get_or-cut (size ∷ sizes) bytes zero lt = refl
get_or-cut (size ∷ sizes) bytes (suc s) lt =
    let total : sum (size ∷ take s sizes) ≡ size + sum (take s sizes) = sum_by-cons (λ x. x) size (take s sizes) in
    let e : 8 * size + 8 * sum (take s sizes) ≡ 8 * sum (size ∷ take s sizes) = omega (arith, total) in
    get_or-cut sizes (drop (8 * size) bytes) s (omega arith)
    ∙ ap (numbers 8 (get_or sizes s 0)) (drop-drop (8 * sum (take s sizes)) (8 * size) bytes)
    ∙ ap (λ (k : ℕ). numbers 8 (get_or sizes s 0) (drop k bytes)) e
