-- What is read is spelled so, and what is spelled so is read.
use Rattle.std.proofs.Common.{◌≡◌, ℕ, zero, suc, ◌+◌, ◌-◌, ◌*◌, ◌^◌, ◌<◌, ◌≤◌, List, [], ◌∷◌, ◌++◌, length, map, get_or, take, drop, Result, Ok, Err, refl, sym, ap, subst, ◌∙◌, append_assoc, arith, inl, inr}
use Rattle.std.specs.Prelude.{sum, slice_index, EachIndex, All}
use Rattle.std.specs.List.{flat_map}
use Rattle.std.proofs.Math.Seq.{take-add}
use Rattle.std.proofs.lemmas.Bool.{cases_lt}
use Rattle.std.proofs.lemmas.List.{append-nil, drop_at, take_all, take-append-drop, length-append, length-take, length-drop, length-map, get_or-drop, get_or-take, get_or_past}
use Rattle.std.proofs.lemmas.List.Concat.{flat_map-cons}
use Rattle.std.proofs.lemmas.List.Elements.{All-nil, All-cons, All-head, All-tail, All-map, All-weaker}
use Rattle.std.proofs.lemmas.List.Sums.{sum_by-cons}
use Rattle.std.proofs.lemmas.Nat.{le_bytes_4, le_bytes_8}
use Rattle.byteorder.specs.Endian.{little_number, little_bytes}
use Rattle.byteorder.specs.Numbers.{little_from-take, little_from-lt, little_number-reads_back, length-bytes_low_first}
use Rattle.cap_frame.specs.declared.frame_error.FrameError.{FrameError}
use Rattle.cap_frame.specs.Segments.{numbers, segment_count, sizes_of, table_len, cut_segments, content, segments_of, segment_bytes, table_bytes, IsSegment, Spells}
use Rattle.cap_frame.proofs.Numbers.{length-numbers}
use Rattle.cap_frame.proofs.Frames.{IsFrame, IsFrame-from_read, read_from-IsFrame, length-content, segment_size}

abbrev pub IsBytes : List ℕ → Type 0
IsBytes bytes = (i : ℕ) → get_or bytes i 0 < 256

IsBytes-drop : (n : ℕ) (bytes : List ℕ) → IsBytes bytes → IsBytes (drop n bytes)
IsBytes-drop n bytes h i = rw get_or-drop (h (n + i))

IsBytes-take : (n : ℕ) (bytes : List ℕ) → IsBytes bytes → IsBytes (take n bytes)
IsBytes-take n bytes h i =
    elim (cases_lt i n) [
      | inl lt ↦ rw (get_or-take n bytes i 0 lt) (h i)
      | inr le ↦ rw (get_or_past (take n bytes) i 0 (omega (arith, length-take n bytes))) (omega arith)
    ]

-- ---- numbers of one width

pub record IsWidth (width : ℕ) : Type 0 where
  pub again : (bytes : List ℕ) → length bytes ≡ width → IsBytes bytes → little_bytes width (little_number width bytes) ≡ bytes

pub four : IsWidth 4
four = record { again = λ bytes len fits. le_bytes_4 bytes (little_number 4 bytes) len fits (omega arith) }

pub eight : IsWidth 8
eight = record { again = λ bytes len fits. le_bytes_8 bytes (little_number 8 bytes) len fits (omega arith) }

-- a number that was read stands in the bytes
number_bytes : (width : ℕ) → IsWidth width → (bytes : List ℕ) → IsBytes bytes → width ≤ length bytes → little_bytes width (little_number width bytes) ≡ take width bytes
number_bytes width wide bytes fits le =
    let front : little_number width (take width bytes) ≡ little_number width bytes = little_from-take 0 width width bytes (omega arith) in
    ap (little_bytes width) (sym front)
    ∙ wide.again (take width bytes) (omega (arith, length-take width bytes)) (IsBytes-take width bytes fits)

-- numbers that were read stand in the bytes, one after another
numbers_bytes : (width : ℕ) → IsWidth width → (n : ℕ) (bytes : List ℕ) → IsBytes bytes → width * n ≤ length bytes
    → flat_map (λ x. little_bytes width x) (numbers width n bytes) ≡ take (width * n) bytes
unfolding numbers
numbers_bytes width wide zero bytes fits le =
    let e : width * zero ≡ 0 = omega arith in ap (λ (k : ℕ). take k bytes) (sym e)
numbers_bytes width wide (suc n) bytes fits le =
    let e : width + width * n ≡ width * suc n = omega arith in
    let ih = numbers_bytes width wide n (drop width bytes) (IsBytes-drop width bytes fits) (omega (arith, length-drop width bytes)) in
    let first = number_bytes width wide bytes fits (omega arith) in
    flat_map-cons (λ x. little_bytes width x) (little_number width bytes) (numbers width n (drop width bytes))
    ∙ ap (λ (front : List ℕ). front ++ flat_map (λ x. little_bytes width x) (numbers width n (drop width bytes))) first
    ∙ ap (λ (rest : List ℕ). take width bytes ++ rest) ih
    ∙ sym (take-add width (width * n) bytes)
    ∙ ap (λ (k : ℕ). take k bytes) e

length-spelled : (width : ℕ) (xs : List ℕ) → length (flat_map (λ x. little_bytes width x) xs) ≡ width * length xs
length-spelled width [] = omega arith
length-spelled width (x ∷ xs) =
    let one = length-bytes_low_first 0 width x in
    let both = length-append (little_bytes width x) (flat_map (λ y. little_bytes width y) xs) in
    let ih = length-spelled width xs in
    let split : length (flat_map (λ y. little_bytes width y) (x ∷ xs)) ≡ length (little_bytes width x ++ flat_map (λ y. little_bytes width y) xs) = ap length (flat_map-cons (λ y. little_bytes width y) x xs) in
    omega (arith, one, both, ih, split)

-- numbers that were written are read again
numbers_again : (width : ℕ) (xs rest : List ℕ) → All (λ x. x < 256 ^ width) xs → numbers width (length xs) (flat_map (λ x. little_bytes width x) xs ++ rest) ≡ xs
unfolding numbers
numbers_again width [] rest fits = refl
numbers_again width (x ∷ xs) rest fits =
    let after = flat_map (λ y. little_bytes width y) xs ++ rest in
    let regrouped : flat_map (λ y. little_bytes width y) (x ∷ xs) ++ rest ≡ little_bytes width x ++ after = ap (λ (l : List ℕ). l ++ rest) (flat_map-cons (λ y. little_bytes width y) x xs) ∙ append_assoc (little_bytes width x) (flat_map (λ y. little_bytes width y) xs) rest in
    let first : little_number width (little_bytes width x ++ after) ≡ x = little_number-reads_back width x after (All-head (λ y. y < 256 ^ width) x xs fits) in
    let next : drop width (little_bytes width x ++ after) ≡ after = drop_at (little_bytes width x) after width (length-bytes_low_first 0 width x) in
    ap (numbers width (suc (length xs))) regrouped
    ∙ rw (first, next, numbers_again width xs rest (All-tail (λ y. y < 256 ^ width) x xs fits)) refl

numbers_fit : (width n : ℕ) (bytes : List ℕ) → IsBytes bytes → All (λ x. x < 256 ^ width) (numbers width n bytes)
unfolding numbers
numbers_fit width zero bytes fits = All-nil (λ x. x < 256 ^ width)
numbers_fit width (suc n) bytes fits =
    All-cons (λ x. x < 256 ^ width) (little_number width bytes) (numbers width n (drop width bytes)) (little_from-lt 0 width bytes fits) (numbers_fit width n (drop width bytes) (IsBytes-drop width bytes fits))

-- ---- segments

-- segments that were cut stand in the bytes, one after another
segments_bytes : (sizes bytes : List ℕ) → IsBytes bytes → 8 * sum sizes ≤ length bytes → flat_map segment_bytes (cut_segments sizes bytes) ≡ take (8 * sum sizes) bytes
unfolding cut_segments
segments_bytes [] bytes fits le = refl
segments_bytes (size ∷ sizes) bytes fits le =
    let total : sum (size ∷ sizes) ≡ size + sum sizes = sum_by-cons (λ x. x) size sizes in
    let e : 8 * size + 8 * sum sizes ≡ 8 * sum (size ∷ sizes) = omega (arith, total) in
    let ih = segments_bytes sizes (drop (8 * size) bytes) (IsBytes-drop (8 * size) bytes fits) (omega (arith, length-drop (8 * size) bytes)) in
    let first = numbers_bytes 8 eight size bytes fits (omega arith) in
    flat_map-cons segment_bytes (numbers 8 size bytes) (cut_segments sizes (drop (8 * size) bytes))
    ∙ ap (λ (front : List ℕ). front ++ flat_map segment_bytes (cut_segments sizes (drop (8 * size) bytes))) first
    ∙ ap (λ (rest : List ℕ). take (8 * size) bytes ++ rest) ih
    ∙ sym (take-add (8 * size) (8 * sum sizes) bytes)
    ∙ ap (λ (k : ℕ). take k bytes) e

-- their sizes are those that were asked for
sizes_cut : (sizes bytes : List ℕ) → map (λ words. length words) (cut_segments sizes bytes) ≡ sizes
unfolding cut_segments
sizes_cut [] bytes = refl
sizes_cut (size ∷ sizes) bytes =
    rw (length-numbers 8 size bytes, sizes_cut sizes (drop (8 * size) bytes)) refl

-- segments that were written are cut again
cut_again : (segments : List (List ℕ)) (rest : List ℕ) → All IsSegment segments → cut_segments (map (λ words. length words) segments) (flat_map segment_bytes segments ++ rest) ≡ segments
unfolding cut_segments
cut_again [] rest fits = refl
cut_again (words ∷ segments) rest fits =
    let after = flat_map segment_bytes segments ++ rest in
    let regrouped : flat_map segment_bytes (words ∷ segments) ++ rest ≡ segment_bytes words ++ after = ap (λ (l : List ℕ). l ++ rest) (flat_map-cons segment_bytes words segments) ∙ append_assoc (segment_bytes words) (flat_map segment_bytes segments) rest in
    let first : numbers 8 (length words) (segment_bytes words ++ after) ≡ words = numbers_again 8 words after (All-head IsSegment words segments fits).words_fit in
    let next : drop (8 * length words) (segment_bytes words ++ after) ≡ after = drop_at (segment_bytes words) after (8 * length words) (length-spelled 8 words) in
    ap (cut_segments (length words ∷ map (λ ws. length ws) segments)) regrouped
    ∙ rw (first, next, cut_again segments rest (All-tail IsSegment words segments fits)) refl

-- ---- frames

-- bytes in four parts
in_parts : (a b c : ℕ) (bytes : List ℕ) → take a bytes ++ take b (drop a bytes) ++ take c (drop (a + b) bytes) ++ drop (a + b + c) bytes ≡ bytes
in_parts a b c bytes =
    ap (λ (front : List ℕ). front ++ take c (drop (a + b) bytes) ++ drop (a + b + c) bytes) (sym (take-add a b bytes))
    ∙ ap (λ (front : List ℕ). front ++ drop (a + b + c) bytes) (sym (take-add (a + b) c bytes))
    ∙ take-append-drop (a + b + c) bytes

-- four parts, each what it is spelled by
four_parts : (a b c d a' b' d' whole : List ℕ) → a' ≡ a → b' ≡ b → d' ≡ d → a ++ b ++ c ++ d ≡ whole → whole ≡ a' ++ b' ++ c ++ d'
four_parts a b c d a' b' d' whole p q r e = sym e ∙ rw (p, q, r) refl

from_the_right : (a b c d whole : List ℕ) → whole ≡ a ++ b ++ c ++ d → whole ≡ a ++ (b ++ (c ++ d))
from_the_right a b c d whole e = e ∙ simp append_assoc

length-segments : (segments : List (List ℕ)) → length (flat_map segment_bytes segments) ≡ 8 * sum (map (λ words. length words) segments)
length-segments [] = refl
length-segments (words ∷ segments) =
    let total : sum (length words ∷ map (λ ws. length ws) segments) ≡ length words + sum (map (λ ws. length ws) segments) = sum_by-cons (λ x. x) (length words) (map (λ ws. length ws) segments) in
    let split : length (flat_map segment_bytes (words ∷ segments)) ≡ length (segment_bytes words ++ flat_map segment_bytes segments) = ap length (flat_map-cons segment_bytes words segments) in
    omega (arith, split, total, length-append (segment_bytes words) (flat_map segment_bytes segments), length-spelled 8 words, length-segments segments)

length-table : (segments : List (List ℕ)) → length (table_bytes segments) ≡ 4 + 4 * length segments
length-table segments =
    let sizes = map (λ words. length words) segments in
    omega (arith, length-append (little_bytes 4 (length segments - 1)) (flat_map (λ size. little_bytes 4 size) sizes), length-bytes_low_first 0 4 (length segments - 1), length-spelled 4 sizes, length-map segments (λ words. length words))

-- a segment that was cut can be spelled
IsSegment-cut : (size : ℕ) (bytes : List ℕ) → IsBytes bytes → size < 2 ^ 32 → IsSegment (numbers 8 size bytes)
IsSegment-cut size bytes fits lt = record {
  size = omega (arith, length-numbers 8 size bytes);
  words_fit = numbers_fit 8 size bytes fits;
}

all_cut : (sizes bytes : List ℕ) → IsBytes bytes → All (λ size. size < 2 ^ 32) sizes → All IsSegment (cut_segments sizes bytes)
unfolding cut_segments
all_cut [] bytes fits small = All-nil IsSegment
all_cut (size ∷ sizes) bytes fits small =
    All-cons IsSegment (numbers 8 size bytes) (cut_segments sizes (drop (8 * size) bytes)) (IsSegment-cut size bytes fits (All-head (λ n. n < 2 ^ 32) size sizes small)) (all_cut sizes (drop (8 * size) bytes) (IsBytes-drop (8 * size) bytes fits) (All-tail (λ n. n < 2 ^ 32) size sizes small))

pub spelled : (bytes : List ℕ) (segments : List (List ℕ)) → IsBytes bytes → segments_of bytes ≡ Ok segments → Spells bytes segments
spelled bytes segments fits e =
    let read = IsFrame-from_read bytes segments e in
    let frame = read.0 in
    let count = segment_count bytes in
    let sizes = sizes_of bytes in
    let table = table_len count in
    let padding = take (table - (4 + 4 * count)) (drop (4 + 4 * count) bytes) in
    let n : length (content bytes) ≡ count = length-content bytes in
    let lens : map (λ words. length words) (content bytes) ≡ sizes = sizes_cut sizes (drop table bytes) in
    let short : length padding ≡ table - (4 + 4 * count) = omega (arith, length-take (table - (4 + 4 * count)) (drop (4 + 4 * count) bytes), length-drop (4 + 4 * count) bytes, frame.table_fits) in
    let first : little_bytes 4 (length (content bytes) - 1) ≡ take 4 bytes = (let k : length (content bytes) - 1 ≡ little_number 4 bytes = omega arith in ap (little_bytes 4) k ∙ number_bytes 4 four bytes fits frame.long) in
    let second : flat_map (λ size. little_bytes 4 size) (map (λ words. length words) (content bytes)) ≡ take (4 * count) (drop 4 bytes) = ap (flat_map (λ size. little_bytes 4 size)) lens ∙ numbers_bytes 4 four count (drop 4 bytes) (IsBytes-drop 4 bytes fits) (omega (arith, length-drop 4 bytes, frame.table_fits)) in
    let rest_len : 8 * sum sizes ≡ length (drop table bytes) = omega (arith, length-drop table bytes, frame.whole) in
    let last : flat_map segment_bytes (content bytes) ≡ drop table bytes = segments_bytes sizes (drop table bytes) (IsBytes-drop table bytes fits) (omega arith) ∙ take_all (8 * sum sizes) (drop table bytes) (omega arith) in
    let whole : 4 + 4 * count + (table - (4 + 4 * count)) ≡ table = omega arith in
    let parts : bytes ≡ table_bytes (content bytes) ++ padding ++ flat_map segment_bytes (content bytes) = four_parts (take 4 bytes) (take (4 * count) (drop 4 bytes)) padding (drop table bytes) (little_bytes 4 (length (content bytes) - 1)) (flat_map (λ size. little_bytes 4 size) (map (λ words. length words) (content bytes))) (flat_map segment_bytes (content bytes)) bytes first second last (ap (λ (k : ℕ). take 4 bytes ++ take (4 * count) (drop 4 bytes) ++ padding ++ drop k bytes) (sym whole) ∙ in_parts 4 (4 * count) (table - (4 + 4 * count)) bytes) in
    let made : Spells bytes (content bytes) = record {
      padding = padding;
      parts = parts;
      padding_short = omega arith;
      on_boundary = omega (arith, length-table (content bytes));
      some = omega arith;
      not_too_many = omega (arith, frame.few);
      rooted = omega (arith, segment_size bytes 0 (omega arith), frame.rooted);
      all_fit = all_cut sizes (drop table bytes) (IsBytes-drop table bytes fits) (numbers_fit 4 count (drop 4 bytes) (IsBytes-drop 4 bytes fits));
    } in
    let P : List (List ℕ) → Type 0 = λ s. Spells bytes s in subst P read.1 made

pub read_again : (bytes : List ℕ) (segments : List (List ℕ)) → Spells bytes segments → segments_of bytes ≡ Ok segments
read_again bytes segments h =
    let sizes = map (λ words. length words) segments in
    let c = length segments in
    let sizes_fit : All (λ size. size < 256 ^ 4) sizes = All-map (λ size. size < 256 ^ 4) (λ words. length words) segments (All-weaker IsSegment (λ words. length words < 256 ^ 4) (λ words s. s.size) segments h.all_fit) in
    let after = h.padding ++ flat_map segment_bytes segments in
    let regrouped : bytes ≡ little_bytes 4 (c - 1) ++ (flat_map (λ size. little_bytes 4 size) sizes ++ after) = from_the_right (little_bytes 4 (c - 1)) (flat_map (λ size. little_bytes 4 size) sizes) h.padding (flat_map segment_bytes segments) bytes h.parts in
    let first : little_number 4 bytes ≡ c - 1 = ap (little_number 4) regrouped ∙ little_number-reads_back 4 (c - 1) (flat_map (λ size. little_bytes 4 size) sizes ++ after) (omega (arith, h.not_too_many)) in
    let count-is : segment_count bytes ≡ c = omega (arith, first, h.some) in
    let dropped : drop 4 bytes ≡ flat_map (λ size. little_bytes 4 size) sizes ++ after = ap (drop 4) regrouped ∙ drop_at (little_bytes 4 (c - 1)) (flat_map (λ size. little_bytes 4 size) sizes ++ after) 4 (length-bytes_low_first 0 4 (c - 1)) in
    let sizes-is : sizes_of bytes ≡ sizes = ap (λ (k : ℕ). numbers 4 k (drop 4 bytes)) (count-is ∙ sym (length-map segments (λ words. length words))) ∙ ap (numbers 4 (length sizes)) dropped ∙ numbers_again 4 sizes after sizes_fit in
    let table-is : length (table_bytes segments ++ h.padding) ≡ table_len c = omega (arith, length-table segments, length-append (table_bytes segments) h.padding, h.on_boundary, h.padding_short) in
    let rest-is : drop (table_len (segment_count bytes)) bytes ≡ flat_map segment_bytes segments = ap (λ (k : ℕ). drop (table_len k) bytes) count-is ∙ ap (drop (table_len c)) h.parts ∙ drop_at (table_bytes segments ++ h.padding) (flat_map segment_bytes segments) (table_len c) table-is in
    let content-is : content bytes ≡ segments = ap (λ (ns : List ℕ). cut_segments ns (drop (table_len (segment_count bytes)) bytes)) sizes-is ∙ ap (cut_segments sizes) (rest-is ∙ sym (append-nil (flat_map segment_bytes segments))) ∙ cut_again segments [] h.all_fit in
    let len : length bytes ≡ table_len c + 8 * sum sizes = ap length h.parts ∙ omega (arith, length-append (table_bytes segments ++ h.padding) (flat_map segment_bytes segments), table-is, length-segments segments) in
    let sum-is : sum (sizes_of bytes) ≡ sum sizes = ap sum sizes-is in
    let table-same : table_len (segment_count bytes) ≡ table_len c = ap table_len count-is in
    let root-is : length (get_or (content bytes) 0 []) ≡ length (get_or segments 0 []) = ap (λ (s : List (List ℕ)). length (get_or s 0 [])) content-is in
    let frame : IsFrame bytes = record {
      long = omega (arith, len);
      few = omega (arith, h.not_too_many);
      table_fits = omega (arith, len, table-same);
      whole = omega (arith, len, sum-is, table-same);
      rooted = λ none. omega (arith, none, segment_size bytes 0 (omega (arith, h.some)), root-is, h.rooted);
    } in
    read_from-IsFrame bytes frame ∙ ap (λ (s : List (List ℕ)). Ok s) content-is

-- ---- the same of a copy of the bytes, as a slice of them is

IsBytes-from_each : (bytes : List ℕ) → EachIndex bytes (λ i. slice_index bytes i < 256) → IsBytes bytes
IsBytes-from_each bytes h i =
    elim (cases_lt i (length bytes)) [
      | inl lt ↦ h i lt
      | inr le ↦ rw (get_or_past bytes i 0 le) (omega arith)
    ]

-- a segment's words are fewer than four bytes can say
pub sized : (bytes seen : List ℕ) → seen ≡ bytes → EachIndex seen (λ i. slice_index seen i < 256) → (s : ℕ) → length (get_or (content bytes) s []) < 2 ^ 32
sized bytes seen same fits s =
    let P : List ℕ → Type 0 = λ b. EachIndex b (λ i. slice_index b i < 256) in
    let sizes_fit = numbers_fit 4 (segment_count bytes) (drop 4 bytes) (IsBytes-drop 4 bytes (IsBytes-from_each bytes (subst P same fits))) in
    elim (cases_lt s (segment_count bytes)) [
      | inl lt ↦ omega (arith, segment_size bytes s lt, sizes_fit s 0 (omega (arith, length-numbers 4 (segment_count bytes) (drop 4 bytes), lt)))
      | inr le ↦ rw (get_or_past (content bytes) s [] (omega (arith, length-content bytes, le))) (omega arith)
    ]

pub spelled_by : (bytes seen : List ℕ) → seen ≡ bytes → EachIndex seen (λ i. slice_index seen i < 256) → segments_of seen ≡ Ok (content seen) → Spells bytes (content bytes)
spelled_by bytes seen same fits e =
    let P : List ℕ → Type 0 = λ b. Spells b (content b) in subst P same (spelled seen (content seen) (IsBytes-from_each seen fits) e)

pub spelled_alone : (bytes seen : List ℕ) → seen ≡ bytes → segments_of seen ≡ Ok (content seen) → (segments : List (List ℕ)) → Spells bytes segments
    → ◌≡◌ {A = Result (List (List ℕ)) FrameError} (Ok (content bytes)) (Ok segments)
spelled_alone bytes seen same e segments h =
    ap (λ (b : List ℕ). Ok (content b)) (sym same) ∙ sym e ∙ ap segments_of same ∙ read_again bytes segments h

pub not_spelled : (bytes seen : List ℕ) (fault : FrameError) → seen ≡ bytes → segments_of seen ≡ Err fault → (segments : List (List ℕ)) → Spells bytes segments → ⊥
not_spelled bytes seen fault same e segments h =
    let both : ◌≡◌ {A = Result (List (List ℕ)) FrameError} (Err fault) (Ok segments) = sym e ∙ ap segments_of same ∙ read_again bytes segments h in
    cc
