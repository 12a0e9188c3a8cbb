-- The frame that stands first is one frame when it is cut off, and no other prefix is.
use Rattle.std.proofs.Common.{◌≡◌, ℕ, zero, suc, ◌+◌, ◌-◌, ◌*◌, ◌≤◌, Bool, true, false, cond, ltb, eqb, List, length, get_or, take, drop, Result, Ok, Err, refl, sym, ap, subst, inl, inr, ◌∙◌, arith}
use Rattle.std.specs.Prelude.{sum}
use Rattle.std.proofs.lemmas.Bool.{ltb-false, le-ltb}
use Rattle.std.proofs.lemmas.List.{length-take-le}
use Rattle.byteorder.specs.Endian.{little_number}
use Rattle.byteorder.specs.Numbers.{little_from-take}
use Rattle.bytes.proofs.Ranges.{drop-take_less}
use Rattle.cap_frame.specs.declared.frame_error.FrameError.{FrameError}
use Rattle.cap_frame.specs.declared.frame_error.FrameError.TheVariants.{Short, TooManySegments, Trailing, NoRoot}
use Rattle.cap_frame.specs.Segments.{numbers, segment_count, sizes_of, table_len, content, frame_len, first_len_of, segments_in, segments_of, IsOneFrame}
use Rattle.cap_frame.proofs.Frames.{StartsFrame, StartsFrame-from_len, len_from-StartsFrame}

-- ---- a prefix with the table in it has the same table

numbers-take : (width n k : ℕ) (bytes : List ℕ) → width * n ≤ k → numbers width n (take k bytes) ≡ numbers width n bytes
unfolding numbers
numbers-take width zero k bytes le = refl
numbers-take width (suc n) k bytes le =
    let first : little_number width (take k bytes) ≡ little_number width bytes = little_from-take 0 width k bytes (omega arith) in
    let next : drop width (take k bytes) ≡ take (k - width) (drop width bytes) = drop-take_less bytes width k (omega arith) in
    rw (first, next, numbers-take width n (k - width) (drop width bytes) (omega arith)) refl

count-take : (len : ℕ) (bytes : List ℕ) → 4 ≤ len → segment_count (take len bytes) ≡ segment_count bytes
count-take len bytes le = ap (λ (n : ℕ). n + 1) (little_from-take 0 4 len bytes (omega arith))

sizes-take : (len : ℕ) (bytes : List ℕ) → 4 + 4 * segment_count bytes ≤ len → sizes_of (take len bytes) ≡ sizes_of bytes
sizes-take len bytes le =
    let count = segment_count bytes in
    let next : drop 4 (take len bytes) ≡ take (len - 4) (drop 4 bytes) = drop-take_less bytes 4 len (omega arith) in
    ap (λ (n : ℕ). numbers 4 n (drop 4 (take len bytes))) (count-take len bytes (omega arith))
    ∙ ap (numbers 4 count) next
    ∙ numbers-take 4 count (len - 4) (drop 4 bytes) (omega arith)

frame_len-take : (len : ℕ) (bytes : List ℕ) → table_len (segment_count bytes) ≤ len → frame_len (take len bytes) ≡ frame_len bytes
frame_len-take len bytes le =
    let count = count-take len bytes (omega arith) in
    let sizes = sizes-take len bytes (omega arith) in
    omega (arith, ap table_len count, ap sum sizes)

-- ---- what is cut off is one frame

one_or_none : (b : Bool) (segments : List (List ℕ)) → IsOneFrame (cond b (Err NoRoot) (Ok segments))
one_or_none true segments = inr refl
one_or_none false segments = inl refl

-- with nothing after the frame only the root may be wanting
one_in : (bytes : List ℕ) → frame_len bytes ≡ length bytes → IsOneFrame (segments_in bytes (Ok (frame_len bytes)))
one_in bytes whole =
    let P : Bool → Type 0 = λ b. IsOneFrame (cond b (Err Trailing) (cond (eqb (get_or (sizes_of bytes) 0 0) 0) (Err NoRoot) (Ok (content bytes)))) in
    subst P (sym (le-ltb (frame_len bytes) (length bytes) (omega (arith, whole)))) (one_or_none (eqb (get_or (sizes_of bytes) 0 0) 0) (content bytes))

pub cut_off : (bytes : List ℕ) (len : ℕ) → first_len_of bytes ≡ Ok len → (len ≤ length bytes) × IsOneFrame (segments_of (take len bytes))
unfolding segments_of
cut_off bytes len e =
    let starts = StartsFrame-from_len bytes len e in
    let front = take len bytes in
    let within : len ≤ length bytes = omega (arith, starts.0.fits, starts.1) in
    let long : length front ≡ len = length-take-le len bytes within in
    let count : segment_count front ≡ segment_count bytes = count-take len bytes (omega (arith, starts.1)) in
    let same : frame_len front ≡ frame_len bytes = frame_len-take len bytes (omega (arith, starts.1)) in
    let again : StartsFrame front = record {
      long = omega (arith, starts.1, long);
      few = omega (arith, count, starts.0.few);
      fits = omega (arith, same, starts.1, long);
    } in
    let P : Result ℕ FrameError → Type 0 = λ first. IsOneFrame (segments_in front first) in
    (within, subst P (sym (len_from-StartsFrame front again)) (one_in front (omega (arith, same, starts.1, long))))

-- ---- nothing else is

-- a first frame that is cut off needs no root
no_root : (a b c : Bool) (x : ℕ) → cond a (Err Short) (cond b (Err TooManySegments) (cond c (Err Short) (Ok x))) ≡ Err NoRoot → ⊥
no_root true b c x h = cc
no_root false true c x h = cc
no_root false false true x h = cc
no_root false false false x h = cc

never_no_root : (bytes : List ℕ) → first_len_of bytes ≡ Err NoRoot → ⊥
unfolding first_len_of
never_no_root bytes h =
    no_root (ltb (length bytes) 4) (ltb 512 (segment_count bytes)) (ltb (length bytes) (frame_len bytes)) (frame_len bytes) h

not_trailing : (longer : Bool) (other : Result (List (List ℕ)) FrameError) → IsOneFrame (cond longer (Err Trailing) other) → longer ≡ false
not_trailing true other (inl ok) = absurd cc
not_trailing true other (inr none) = absurd cc
not_trailing false other one = refl

one_ends : (bytes : List ℕ) (first : Result ℕ FrameError) → first_len_of bytes ≡ first → IsOneFrame (segments_in bytes first) → StartsFrame bytes × (frame_len bytes ≡ length bytes)
one_ends bytes (Err fault) is (inl ok) = absurd cc
one_ends bytes (Err fault) is (inr none) = absurd (never_no_root bytes (is ∙ ap (λ (f : FrameError). Err f) cc))
one_ends bytes (Ok len) is one =
    let starts = StartsFrame-from_len bytes len is in
    let ends = ltb-false _ _ (not_trailing (ltb len (length bytes)) (cond (eqb (get_or (sizes_of bytes) 0 0) 0) (Err NoRoot) (Ok (content bytes))) one) in
    (starts.0, omega (arith, ends, starts.0.fits, starts.1))

pub only_cut : (bytes : List ℕ) (len : ℕ) → len ≤ length bytes → IsOneFrame (segments_of (take len bytes)) → first_len_of bytes ≡ Ok len
unfolding segments_of
only_cut bytes len within one =
    let front = take len bytes in
    let ends = one_ends front (first_len_of front) refl one in
    let long : length front ≡ len = length-take-le len bytes within in
    let count : segment_count front ≡ segment_count bytes = count-take len bytes (omega (arith, ends.0.long, long)) in
    let table : table_len (segment_count bytes) ≤ len = omega (arith, ap table_len count, ends.0.fits, long) in
    let same : frame_len front ≡ frame_len bytes = frame_len-take len bytes table in
    let starts : StartsFrame bytes = record {
      long = omega (arith, ends.0.long, long);
      few = omega (arith, count, ends.0.few);
      fits = omega (arith, same, ends.1, long);
    } in
    len_from-StartsFrame bytes starts ∙ ap (λ (n : ℕ). Ok n) (omega (arith, same, ends.1, long))

-- ---- what is refused is refused of all the bytes

pub refused_whole : (bytes : List ℕ) (fault : FrameError) → first_len_of bytes ≡ Err fault → segments_of bytes ≡ Err fault
unfolding segments_of
refused_whole bytes fault e = ap (segments_in bytes) e

pub none_cut : (bytes : List ℕ) (fault : FrameError) → first_len_of bytes ≡ Err fault → (len : ℕ) → len ≤ length bytes → IsOneFrame (segments_of (take len bytes)) → ⊥
none_cut bytes fault e len within one =
    let both : ◌≡◌ {A = Result ℕ FrameError} (Err fault) (Ok len) = sym e ∙ only_cut bytes len within one in
    cc

pub some_bytes : (bytes : List ℕ) (len : ℕ) → first_len_of bytes ≡ Ok len → 8 ≤ len
some_bytes bytes len e = omega (arith, (StartsFrame-from_len bytes len e).1)
