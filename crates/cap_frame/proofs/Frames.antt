-- What the tests of a frame say, and the places of its sizes and words.
use Rattle.std.proofs.Common.{◌≡◌, ℕ, ◌+◌, ◌*◌, ◌<◌, ◌≤◌, Bool, true, false, cond, ltb, eqb, List, [], length, get_or, take, drop, Some, None, Result, Ok, Err, refl, sym, ap, subst, ◌∙◌, arith}
use Rattle.std.specs.Prelude.{slice_get, sum, nat_lt, nat_le, ◌&&◌}
use Rattle.std.proofs.lemmas.Bool.{ltb-false, eqb-false, lt-ltb, le-ltb, ne_eqb}
use Rattle.std.proofs.lemmas.List.{drop-drop, get_or_past, take_all}
use Rattle.std.proofs.lemmas.List.Sums.{sum_by_more_le}
use Rattle.std.proofs.lemmas.Option.{slice_get-get_or, slice_get_past}
use Rattle.byteorder.specs.Endian.{little_number}
use Rattle.cap_frame.specs.declared.frame_error.FrameError.{FrameError}
use Rattle.cap_frame.specs.declared.frame_error.FrameError.TheVariants.{Short, TooManySegments, Trailing, NoRoot}
use Rattle.cap_frame.specs.Segments.{numbers, segment_count, sizes_of, table_len, content, frame_len, first_len_of, segments_in, segments_of, word_at}
use Rattle.cap_frame.proofs.Numbers.{length-numbers, get_or-numbers, length-cut, get_or-cut}

-- three tests that let the rest go on
three_passed : (a b c : Bool) (i j k : FrameError) (x y : ℕ)
    → cond a (Err i) (cond b (Err j) (cond c (Err k) (Ok x))) ≡ Ok y → (a ≡ false) × (b ≡ false) × (c ≡ false) × (x ≡ y)
three_passed true b c i j k x y h = absurd cc
three_passed false true c i j k x y h = absurd cc
three_passed false false true i j k x y h = absurd cc
three_passed false false false i j k x y h = (refl, refl, refl, cc)

-- what the tests say of bytes that begin with a frame
pub record StartsFrame (bytes : List ℕ) : Type 0 where
  pub long : 4 ≤ length bytes
  pub few : segment_count bytes ≤ 512
  pub fits : frame_len bytes ≤ length bytes

pub StartsFrame-from_len : (bytes : List ℕ) (len : ℕ) → first_len_of bytes ≡ Ok len → StartsFrame bytes × (frame_len bytes ≡ len)
unfolding first_len_of
StartsFrame-from_len bytes len e =
    let t = three_passed (ltb (length bytes) 4) (ltb 512 (segment_count bytes)) (ltb (length bytes) (frame_len bytes)) Short TooManySegments Short (frame_len bytes) len e in (
      record {
        long = ltb-false _ _ t.0;
        few = ltb-false _ _ t.1;
        fits = ltb-false _ _ t.2;
      },
      t.3,
    )

pub len_from-StartsFrame : (bytes : List ℕ) → StartsFrame bytes → first_len_of bytes ≡ Ok (frame_len bytes)
unfolding first_len_of
len_from-StartsFrame bytes h =
    rw (le-ltb (length bytes) 4 h.long, le-ltb 512 (segment_count bytes) h.few, le-ltb (length bytes) (frame_len bytes) h.fits) refl

-- what the tests say of the bytes of a frame
pub record IsFrame (bytes : List ℕ) : Type 0 where
  pub long : 4 ≤ length bytes
  pub few : segment_count bytes ≤ 512
  pub table_fits : table_len (segment_count bytes) ≤ length bytes
  pub whole : frame_len bytes ≡ length bytes
  pub rooted : get_or (sizes_of bytes) 0 0 ≡ 0 → ⊥

-- two tests that let the rest go on
two_passed : {A : Type 0} (a b : Bool) (i j : FrameError) (x y : A) → cond a (Err i) (cond b (Err j) (Ok x)) ≡ Ok y → (a ≡ false) × (b ≡ false) × (x ≡ y)
two_passed true b i j x y h = absurd cc
two_passed false true i j x y h = absurd cc
two_passed false false i j x y h = (refl, refl, cc)

IsFrame-from_in : (bytes : List ℕ) (first : Result ℕ FrameError) (segments : List (List ℕ)) → first_len_of bytes ≡ first → segments_in bytes first ≡ Ok segments → IsFrame bytes × (content bytes ≡ segments)
IsFrame-from_in bytes (Err fault) segments is e = absurd cc
IsFrame-from_in bytes (Ok len) segments is e =
    let starts = StartsFrame-from_len bytes len is in
    let t = two_passed (ltb len (length bytes)) (eqb (get_or (sizes_of bytes) 0 0) 0) Trailing NoRoot (content bytes) segments e in (
      record {
        long = starts.0.long;
        few = starts.0.few;
        table_fits = omega (arith, starts.0.fits);
        whole = omega (arith, starts.1, starts.0.fits, ltb-false _ _ t.0);
        rooted = eqb-false _ _ t.1;
      },
      t.2,
    )

pub IsFrame-from_read : (bytes : List ℕ) (segments : List (List ℕ)) → segments_of bytes ≡ Ok segments → IsFrame bytes × (content bytes ≡ segments)
unfolding segments_of
IsFrame-from_read bytes segments e = IsFrame-from_in bytes (first_len_of bytes) segments refl e

pub read_from-IsFrame : (bytes : List ℕ) → IsFrame bytes → segments_of bytes ≡ Ok (content bytes)
unfolding segments_of
read_from-IsFrame bytes h =
    let starts : StartsFrame bytes = record { long = h.long; few = h.few; fits = omega (arith, h.whole) } in
    rw (len_from-StartsFrame bytes starts, le-ltb (frame_len bytes) (length bytes) (omega (arith, h.whole)), ne_eqb (get_or (sizes_of bytes) 0 0) 0 h.rooted) refl

-- a size stands after the count and the sizes before it
pub size_place : (bytes : List ℕ) (s : ℕ) → s < segment_count bytes → get_or (sizes_of bytes) s 0 ≡ little_number 4 (drop (4 * (s + 1)) bytes)
size_place bytes s lt =
    let e : 4 + 4 * s ≡ 4 * (s + 1) = omega arith in
    get_or-numbers 4 (segment_count bytes) (drop 4 bytes) s lt ∙ ap (little_number 4) (drop-drop (4 * s) 4 bytes) ∙ ap (λ (k : ℕ). little_number 4 (drop k bytes)) e

pub length-content : (bytes : List ℕ) → length (content bytes) ≡ segment_count bytes
length-content bytes =
    length-cut (sizes_of bytes) (drop (table_len (segment_count bytes)) bytes) ∙ length-numbers 4 (segment_count bytes) (drop 4 bytes)

-- a segment is cut from behind the segments before it
segment_place : (bytes : List ℕ) (s : ℕ) → s < segment_count bytes → get_or (content bytes) s [] ≡ numbers 8 (get_or (sizes_of bytes) s 0) (drop (table_len (segment_count bytes) + 8 * sum (take s (sizes_of bytes))) bytes)
segment_place bytes s lt =
    let sizes = sizes_of bytes in
    let n = length-numbers 4 (segment_count bytes) (drop 4 bytes) in
    get_or-cut sizes (drop (table_len (segment_count bytes)) bytes) s (omega arith)
    ∙ ap (numbers 8 (get_or sizes s 0)) (drop-drop (8 * sum (take s sizes)) (table_len (segment_count bytes)) bytes)

-- a segment has as many words as the table says
pub segment_size : (bytes : List ℕ) (s : ℕ) → s < segment_count bytes → length (get_or (content bytes) s []) ≡ get_or (sizes_of bytes) s 0
segment_size bytes s lt =
    ap (λ (words : List ℕ). length words) (segment_place bytes s lt)
    ∙ length-numbers 8 (get_or (sizes_of bytes) s 0) (drop (table_len (segment_count bytes) + 8 * sum (take s (sizes_of bytes))) bytes)

-- a word stands behind the words before it
pub word_place : (bytes : List ℕ) (s i : ℕ) → s < segment_count bytes → i < get_or (sizes_of bytes) s 0 → word_at (content bytes) s i ≡ Some (little_number 8 (drop (table_len (segment_count bytes) + 8 * (sum (take s (sizes_of bytes)) + i)) bytes))
word_place bytes s i lt within =
    let sizes = sizes_of bytes in
    let start = table_len (segment_count bytes) + 8 * sum (take s sizes) in
    let e : start + 8 * i ≡ table_len (segment_count bytes) + 8 * (sum (take s sizes) + i) = omega arith in
    let words = numbers 8 (get_or sizes s 0) (drop start bytes) in
    let n : length words ≡ get_or sizes s 0 = length-numbers 8 (get_or sizes s 0) (drop start bytes) in
    ap (λ (ws : List ℕ). slice_get ws i) (segment_place bytes s lt)
    ∙ slice_get-get_or words i 0 (omega arith)
    ∙ ap (λ (x : ℕ). Some x) (get_or-numbers 8 (get_or sizes s 0) (drop start bytes) i within ∙ ap (little_number 8) (drop-drop (8 * i) start bytes) ∙ ap (λ (k : ℕ). little_number 8 (drop k bytes)) e)

-- past the last segment and past a segment's end there is no word
pub no_segment : (bytes : List ℕ) (s i : ℕ) → segment_count bytes ≤ s → word_at (content bytes) s i ≡ None
no_segment bytes s i le =
    ap (λ (ws : List ℕ). slice_get ws i) (get_or_past (content bytes) s [] (omega (arith, length-content bytes)))

no_word : (bytes : List ℕ) (s i : ℕ) → s < segment_count bytes → get_or (sizes_of bytes) s 0 ≤ i → word_at (content bytes) s i ≡ None
no_word bytes s i lt past =
    let sizes = sizes_of bytes in
    let start = table_len (segment_count bytes) + 8 * sum (take s sizes) in
    let n = length-numbers 8 (get_or sizes s 0) (drop start bytes) in
    ap (λ (ws : List ℕ). slice_get ws i) (segment_place bytes s lt) ∙ slice_get_past _ i (omega arith)

-- the words before the end are all words
pub sum_all : (bytes : List ℕ) (n : ℕ) → n ≡ segment_count bytes → sum (take n (sizes_of bytes)) ≡ sum (sizes_of bytes)
sum_all bytes n e =
    ap sum (take_all n (sizes_of bytes) (omega (arith, length-numbers 4 (segment_count bytes) (drop 4 bytes))))

-- bytes that are kept with the fact that they are a frame
pub IsFrame-of_kept : (bytes kept : List ℕ) → bytes ≡ kept → segments_of kept ≡ Ok (content kept) → IsFrame bytes
IsFrame-of_kept bytes kept same e =
    let P : List ℕ → Type 0 = λ b. IsFrame b in subst P (sym same) (IsFrame-from_read kept (content kept) e).0

-- a word lies within the bytes
pub word_fits : (bytes : List ℕ) (s i : ℕ) → IsFrame bytes → s < segment_count bytes → i < get_or (sizes_of bytes) s 0 → table_len (segment_count bytes) + 8 * (sum (take s (sizes_of bytes)) + i) + 8 ≤ length bytes
word_fits bytes s i h lt within =
    let n = length-numbers 4 (segment_count bytes) (drop 4 bytes) in
    let part : sum (take s (sizes_of bytes)) + get_or (sizes_of bytes) s 0 ≤ sum (sizes_of bytes) = sum_by_more_le (λ x. x) (sizes_of bytes) s 0 (omega arith) in
    omega (arith, h.whole, part)

-- the word that is read where the places say
pub word_read : (bytes kept : List ℕ) (segment s i table words value : ℕ) → bytes ≡ kept → s ≡ segment → s < segment_count bytes
    → i < get_or (sizes_of bytes) s 0 → table ≡ table_len (segment_count bytes) → words ≡ sum (take s (sizes_of bytes))
    → value ≡ little_number 8 (drop (table + 8 * (words + i)) bytes) → Some value ≡ word_at (content kept) segment i
word_read bytes kept segment s i table words value same is lt within table-is words-is e =
    let place = word_place bytes s i lt within in
    rw (← same, ← is, place, e, table-is, words-is) refl

-- no word is read past a segment's end
pub no_word_at : (bytes kept : List ℕ) (segment s i : ℕ) → bytes ≡ kept → s ≡ segment → s < segment_count bytes
    → get_or (sizes_of bytes) s 0 ≤ i → None ≡ word_at (content kept) segment i
no_word_at bytes kept segment s i same is lt past = rw (← same, ← is) (sym (no_word bytes s i lt past))

-- a segment that is there has the words that the table says
pub has_so_many : (bytes kept : List ℕ) (segment s size count : ℕ) → bytes ≡ kept → s ≡ segment → s < segment_count bytes → size ≡ get_or (sizes_of bytes) s 0
    → nat_le count size ≡ nat_lt segment (length (content kept)) && nat_le count (length (get_or (content kept) segment []))
has_so_many bytes kept segment s size count same is lt size-is =
    let there : nat_lt s (length (content bytes)) ≡ true = rw (length-content bytes) (lt-ltb s (segment_count bytes) lt) in
    rw (← same, ← is, there, segment_size bytes s lt, size-is) refl

-- one that isn't there has none
pub has_no_segment : (bytes kept : List ℕ) (segment s segments count : ℕ) → bytes ≡ kept → s ≡ segment → segments ≡ segment_count bytes → segments ≤ s
    → nat_lt s segments ≡ nat_lt segment (length (content kept)) && nat_le count (length (get_or (content kept) segment []))
has_no_segment bytes kept segment s segments count same is all past =
    let none : nat_lt s (length (content bytes)) ≡ false = rw (length-content bytes) (le-ltb s (segment_count bytes) (omega (arith, all))) in
    rw (← same, ← is, none) (le-ltb s segments past)
