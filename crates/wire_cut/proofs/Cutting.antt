-- One more frame is cut off.
use Rattle.std.proofs.Common.{arith, refl, Result, take, drop, ◌-◌, ◌≤◌, ◌≡◌, ◌∷◌, ◌++◌, [], ℕ, ◌⊎◌, inl, inr, Bool, true, false, cond, ltb, List, Ok, Err, length, sym, ap, subst, ◌∙◌}
use Rattle.std.specs.Prelude.{IfOk, IsTrue, ◌↔◌}
use Rattle.std.specs.List.{All, flat_map}
use Rattle.std.proofs.lemmas.List.{append-nil, append_assoc, take-append-drop, length-take-le, length-drop}
use Rattle.std.proofs.lemmas.List.Elements.{All-push}
use Rattle.std.proofs.lemmas.Grind.{flat_map-append}
use Rattle.std.proofs.lemmas.Bool.{cases_lt, false≢true, ltb-false}
use Rattle.cap_frame.specs.declared.frame_error.FrameError.{FrameError}
use Rattle.cap_frame.specs.declared.frame_error.FrameError.TheVariants.{Short, TooManySegments}
use Rattle.cap_frame.specs.Segments.{IsOneFrame, segments_of, first_len_of, segment_count, frame_len}
use Rattle.wire_cut.specs.Frames.{BeginsTooLong, BeginsWith, frame_limit}
use Rattle.wire_cut.specs.Glue.{IsCutFrom}

abbrev whole : List ℕ → List ℕ
whole frame = frame

flat_more : (frames more : List (List ℕ)) (frame : List ℕ) → more ≡ frames ++ (frame ∷ []) → flat_map whole more ≡ flat_map whole frames ++ frame
flat_more frames more frame grown =
    ap (λ l. flat_map whole l) grown ∙ flat_map-append whole frames (frame ∷ []) ∙ ap (λ l. flat_map whole frames ++ l) (append-nil frame)

-- the bytes begin with one more frame, and what is left is what stands behind it
pub begins_with_more : (bytes old new frame : List ℕ) (frames more : List (List ℕ)) → BeginsWith bytes frames old → IsCutFrom old new frame → more ≡ frames ++ (frame ∷ []) → BeginsWith bytes more new
begins_with_more bytes old new frame frames more begins next grown =
    record {
      parts = begins.parts ∙ ap (λ l. flat_map whole frames ++ l) next.parts ∙ sym (append_assoc (flat_map whole frames) frame new) ∙ ap (λ l. l ++ new) (sym (flat_more frames more frame grown));
      each = let P : List (List ℕ) → Type 0 = λ l. All (λ f. IsOneFrame (segments_of f)) l in subst P (sym grown) (All-push (λ f. IsOneFrame (segments_of f)) frames frame begins.each next.one);
      short = let P : List (List ℕ) → Type 0 = λ l. All (λ f. length f ≤ frame_limit) l in subst P (sym grown) (All-push (λ f. length f ≤ frame_limit) frames frame begins.short next.short);
    }

three_faults : (a b c : Bool) (x : ℕ) (fault : FrameError) → cond a (Err Short) (cond b (Err TooManySegments) (cond c (Err Short) (Ok x))) ≡ Err fault → (fault ≡ Short) ⊎ (fault ≡ TooManySegments)
three_faults true b c x fault h = inl cc
three_faults false true c x fault h = inr cc
three_faults false false true x fault h = inl cc
three_faults false false false x fault h = absurd cc

-- no whole frame begins only where bytes are too few, or where the table has too many segments
pub short_or_too_many : (bytes : List ℕ) (fault : FrameError) → first_len_of bytes ≡ Err fault → (fault ≡ Short) ⊎ (fault ≡ TooManySegments)
unfolding first_len_of
short_or_too_many bytes fault h =
    three_faults (ltb (length bytes) 4) (ltb 512 (segment_count bytes)) (ltb (length bytes) (frame_len bytes)) (frame_len bytes) fault h

by_table : (a b c : Bool) (x len : ℕ) → cond a (Err Short) (cond b (Err TooManySegments) (cond c (Err Short) (Ok x))) ≡ Ok len → (b ≡ false) × (c ≡ false) × (x ≡ len)
by_table true b c x len h = absurd cc
by_table false true c x len h = absurd cc
by_table false false true x len h = absurd cc
by_table false false false x len h = (refl, refl, cc)

table_of : (bytes : List ℕ) (len : ℕ) → first_len_of bytes ≡ Ok len → (ltb 512 (segment_count bytes) ≡ false) × (ltb (length bytes) (frame_len bytes) ≡ false) × (frame_len bytes ≡ len)
unfolding first_len_of
table_of bytes len h = by_table (ltb (length bytes) 4) (ltb 512 (segment_count bytes)) (ltb (length bytes) (frame_len bytes)) (frame_len bytes) len h

-- a frame that stands here whole is as long as its table says, and so may be one
pub whole_is_short : (bytes : List ℕ) (len : ℕ) → first_len_of bytes ≡ Ok len → (BeginsTooLong bytes → ⊥) → len ≤ frame_limit
whole_is_short bytes len h not_long =
    let told = table_of bytes len h in
    let few : segment_count bytes ≤ 512 = ltb-false 512 (segment_count bytes) told.0 in
    let within : frame_len bytes ≤ length bytes = ltb-false (length bytes) (frame_len bytes) told.1 in
    elim (cases_lt frame_limit (frame_len bytes)) [
      | inl long ↦ absurd (not_long (record { sizes = omega (arith, within); few = few; long = long }))
      | inr fits ↦ omega (arith, fits, told.2)
    ]

-- what isn't found to be too long isn't
pub not_too_long : (found : Bool) (seen bytes : List ℕ) → seen ≡ bytes → (IsTrue found ↔ BeginsTooLong seen) → found ≡ false → BeginsTooLong bytes → ⊥
not_too_long true seen bytes same told isnt begins = absurd cc
not_too_long false seen bytes same told isnt begins =
    let P : List ℕ → Type 0 = λ l. BeginsTooLong l in false≢true (told.1 (subst P (sym same) begins))

one_of : (bytes : List ℕ) (len : ℕ) (frame : List ℕ) → frame ≡ take len bytes → IsOneFrame (segments_of (take len bytes)) → IsOneFrame (segments_of frame)
one_of bytes len frame front one = let P : List ℕ → Type 0 = λ l. IsOneFrame (segments_of l) in subst P (sym front) one

from_len : (bytes rest frame : List ℕ) (len : ℕ) → first_len_of bytes ≡ Ok len → len ≤ length bytes → IsOneFrame (segments_of (take len bytes)) → 8 ≤ len → (BeginsTooLong bytes → ⊥) → frame ≡ take len bytes → rest ≡ drop len bytes → IsCutFrom bytes rest frame
from_len bytes rest frame len first within one some not_long front behind =
    let many : length frame ≡ len = ap length front ∙ length-take-le len bytes within in
    let left : length rest ≡ length bytes - len = ap length behind ∙ length-drop len bytes in
    record {
      parts = sym (take-append-drop len bytes) ∙ ap (λ l. l ++ drop len bytes) (sym front) ∙ ap (λ l. frame ++ l) (sym behind);
      one = one_of bytes len frame front one;
      short = omega (arith, many, whole_is_short bytes len first not_long);
      less = omega (arith, left, within, some);
    }

-- the frame that stands first is cut off
pub cut_from : (bytes seen rest frame : List ℕ) (found : Result ℕ FrameError) (len : ℕ) → seen ≡ bytes → found ≡ first_len_of seen → found ≡ Ok len → IfOk found (λ n. (n ≤ length seen) × IsOneFrame (segments_of (take n seen))) → IfOk found (λ n. 8 ≤ n) → (BeginsTooLong bytes → ⊥) → frame ≡ take len bytes → rest ≡ drop len bytes → IsCutFrom bytes rest frame
cut_from bytes seen rest frame found len same first is within some not_long front behind =
    let of_len = subst (λ r. IfOk r (λ n. (n ≤ length seen) × IsOneFrame (segments_of (take n seen)))) is within in
    let of_seen : List ℕ → Type 0 = λ l. (len ≤ length l) × IsOneFrame (segments_of (take len l)) in
    let of_bytes = subst of_seen same of_len in
    from_len bytes rest frame len (ap first_len_of (sym same) ∙ sym first ∙ is) of_bytes.0 of_bytes.1 (subst (λ r. IfOk r (λ n. 8 ≤ n)) is some) not_long front behind
