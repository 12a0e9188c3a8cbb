-- Frames that lie one right behind another.
use Rattle.std.proofs.Common.{◌≡◌, ℕ, ◌+◌, ◌≤◌, List, [], ◌∷◌, ◌++◌, length, take, drop, true, refl, sym, ap, arith, length-drop}
use Rattle.std.specs.Prelude.{Result, Ok, Err, sum, is_ok, OnOk}
use Rattle.std.proofs.lemmas.List.{drop-append-le, nil_from_length, take_all, take-append-le}
use Rattle.std.proofs.lemmas.List.Sums.{sum_by-cons}
use Rattle.lock_step.specs.QueuedFrames.{cut, frames_in, AreWaitingFrames}

cut_more : (sizes bytes frame : List ℕ) (size : ℕ) → sum sizes ≡ length bytes → size ≡ length frame → cut (sizes ++ size ∷ []) (bytes ++ frame) ≡ cut sizes bytes ++ frame ∷ []
cut_more [] bytes frame size ends same =
    let none : bytes ≡ [] = nil_from_length bytes (sym ends) in
    rw none (ap (λ f. f ∷ []) (take_all size frame (omega arith)))
cut_more (n ∷ sizes) bytes frame size ends same =
    let total = sum_by-cons (λ x. x) n sizes in
    let within : n ≤ length bytes = omega arith in
    let left : sum sizes ≡ length (drop n bytes) = omega (arith, length-drop n bytes) in
    rw (take-append-le n bytes frame within, drop-append-le n bytes frame within) (ap (λ fs. take n bytes ∷ fs) (cut_more sizes (drop n bytes) frame size left same))

-- one more behind the others
pub frames_more : (sizes bytes frame : List ℕ) (begin size : ℕ) → AreWaitingFrames sizes begin bytes → size ≡ length frame → frames_in (sizes ++ size ∷ []) begin (bytes ++ frame) ≡ frames_in sizes begin bytes ++ frame ∷ []
frames_more sizes bytes frame begin size ends same =
    let within : begin ≤ length bytes = omega arith in
    let left : sum sizes ≡ length (drop begin bytes) = omega (arith, length-drop begin bytes) in
    rw (drop-append-le begin bytes frame within) (cut_more sizes (drop begin bytes) frame size left same)

-- the frames that are left end where the bytes end
pub frames_left : (sizes bytes later : List ℕ) (begin at size : ℕ) → AreWaitingFrames (size ∷ sizes) begin bytes → drop at later ≡ drop (begin + size) bytes → at ≤ length later → AreWaitingFrames sizes at later
frames_left sizes bytes later begin at size ends rest within =
    let total = sum_by-cons (λ x. x) size sizes in
    omega (arith, ap length rest, length-drop at later, length-drop (begin + size) bytes)

-- what holds of a success
pub if_ok : {E P : Type 0} (r : Result (Unit {0}) E) → (is_ok r ≡ true → P) → OnOk r P
if_ok (Ok x) p = p refl
if_ok (Err e) p = tt
