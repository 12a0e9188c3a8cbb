-- Reading steps one after the other; what is read is spelled so, and what is spelled so is read.
use Rattle.std.proofs.Common.{◌≡◌, ℕ, zero, suc, ◌+◌, ◌^◌, ◌<◌, ◌≤◌, Bool, true, false, cond, eqb, List, [], ◌∷◌, ◌++◌, length, get_or, take, drop, Result, Ok, Err, refl, sym, ap, subst, ◌∙◌, append_assoc, inl, inr, arith}
use Rattle.std.specs.Prelude.{IfOk, EachIndex, slice_index}
use Rattle.std.specs.List.{flat_map, starts_with}
use Rattle.std.specs.Int.{w32, to_le_bytes, from_le_bytes}
use Rattle.std.proofs.lemmas.Bool.{cases_lt, false≢true, eqb-true}
use Rattle.std.proofs.lemmas.Bool.Decides.{Decides-eqb}
use Rattle.std.proofs.lemmas.List.{append-nil, get_or-drop, get_or_past}
use Rattle.std.proofs.lemmas.List.Elements.{All-nil, All-cons, All-head, All-tail}
use Rattle.std.proofs.lemmas.Nat.{le_bytes_4, from_le_bytes-to_le_bytes_4}
use Rattle.std.proofs.lemmas.Slice.Eq.{starts_is}
use Rattle.merge_order.specs.declared.error.OrderError.{OrderError}
use Rattle.merge_order.specs.declared.error.OrderError.TheVariants.{BadMagic, Short}
use Rattle.merge_order.specs.Spelling.{order_magic, spelling, AreVats, with_step_before, steps_at, spelled_order, GivesOrderInMemory}

-- the steps that were read before, and what is still read
abbrev pub with_front : List ℕ → Result (List ℕ) OrderError → Result (List ℕ) OrderError
with_front front (Ok vats) = Ok (front ++ vats)
with_front front (Err fault) = Err fault

front_more : (front : List ℕ) (vat : ℕ) (read : Result (List ℕ) OrderError) → with_front front (with_step_before vat read) ≡ with_front (front ++ vat ∷ []) read
front_more front vat (Ok vats) = ap (λ (l : List ℕ). Ok l) (sym (append_assoc front (vat ∷ []) vats))
front_more front vat (Err fault) = refl

next_step : (at : ℕ) (bytes : List ℕ) → 4 ≤ length bytes → steps_at at bytes ≡ with_step_before (from_le_bytes w32 (take 4 bytes)) (steps_at (at + 4) (drop 4 bytes))
unfolding steps_at
next_step at [] le = absurd (omega arith)
next_step at (a ∷ []) le = absurd (omega arith)
next_step at (a ∷ b ∷ []) le = absurd (omega arith)
next_step at (a ∷ b ∷ c ∷ []) le = absurd (omega arith)
next_step at (a ∷ b ∷ c ∷ d ∷ rest) le = refl

cut_step : (at : ℕ) (bytes : List ℕ) → length bytes < 4 → 0 < length bytes → steps_at at bytes ≡ Err (Short at)
unfolding steps_at
cut_step at [] lt some = absurd (omega arith)
cut_step at (a ∷ []) lt some = refl
cut_step at (a ∷ b ∷ []) lt some = refl
cut_step at (a ∷ b ∷ c ∷ []) lt some = refl
cut_step at (a ∷ b ∷ c ∷ d ∷ rest) lt some = absurd (omega arith)

no_step : (at : ℕ) (bytes : List ℕ) → length bytes ≡ 0 → steps_at at bytes ≡ Ok []
unfolding steps_at
no_step at [] e = refl
no_step at (a ∷ bytes) e = absurd (omega arith)

pub reads_on : (front : List ℕ) (at vat : ℕ) (bytes : List ℕ) (total : Result (List ℕ) OrderError) → 4 ≤ length bytes → vat ≡ from_le_bytes w32 (take 4 bytes) → with_front front (steps_at at bytes) ≡ total
    → with_front (front ++ vat ∷ []) (steps_at (at + 4) (drop 4 bytes)) ≡ total
reads_on front at vat bytes total le is so_far =
    sym (front_more front vat (steps_at (at + 4) (drop 4 bytes))) ∙ ap (λ (k : ℕ). with_front front (with_step_before k (steps_at (at + 4) (drop 4 bytes)))) is ∙ ap (with_front front) (sym (next_step at bytes le)) ∙ so_far

pub reads_cut : (front : List ℕ) (at : ℕ) (bytes : List ℕ) (total : Result (List ℕ) OrderError) → length bytes < 4 → 0 < length bytes → with_front front (steps_at at bytes) ≡ total → total ≡ Err (Short at)
reads_cut front at bytes total lt some so_far = sym so_far ∙ ap (with_front front) (cut_step at bytes lt some)

pub reads_end : (front : List ℕ) (at : ℕ) (bytes : List ℕ) (total : Result (List ℕ) OrderError) → length bytes ≡ 0 → with_front front (steps_at at bytes) ≡ total → total ≡ Ok front
reads_end front at bytes total e so_far = sym so_far ∙ ap (with_front front) (no_step at bytes e) ∙ ap (λ (l : List ℕ). Ok l) (append-nil front)

pub some_left : (n : ℕ) (b : Bool) → b ≡ eqb n 0 → b ≡ false → 0 < n
some_left zero b is e = absurd (false≢true (sym e ∙ is))
some_left (suc n) b is e = omega arith

pub none_left : (n : ℕ) (b : Bool) → b ≡ eqb n 0 → b ≡ true → n ≡ 0
none_left n b is e = eqb-true n 0 (sym is ∙ e)

-- ---- the two laws

abbrev pub IsBytes : List ℕ → Type 0
IsBytes bytes = (i : ℕ) → get_or bytes i 0 < 256

ok_is : (vat : ℕ) (read : Result (List ℕ) OrderError) (vats : List ℕ) → with_step_before vat read ≡ Ok vats → (later : List ℕ) × (read ≡ Ok later) × (vat ∷ later ≡ vats)
ok_is vat (Ok later) vats e = (later, refl, cc)
ok_is vat (Err fault) vats e = absurd cc

four : (a b c d : ℕ) (rest : List ℕ) → IsBytes (a ∷ b ∷ c ∷ d ∷ rest) → IsBytes (a ∷ b ∷ c ∷ d ∷ [])
four a b c d rest fits zero = fits 0
four a b c d rest fits (suc zero) = fits 1
four a b c d rest fits (suc (suc zero)) = fits 2
four a b c d rest fits (suc (suc (suc zero))) = fits 3
four a b c d rest fits (suc (suc (suc (suc i)))) = omega arith

four_below : (bytes : List ℕ) → IsBytes bytes → from_le_bytes w32 bytes < 2 ^ 32
four_below bytes fits = omega (arith, fits 0, fits 1, fits 2, fits 3)

steps_spelled : (at : ℕ) (bytes vats : List ℕ) → IsBytes bytes → steps_at at bytes ≡ Ok vats → AreVats vats × (bytes ≡ flat_map (λ vat. to_le_bytes w32 vat) vats)
unfolding steps_at
steps_spelled at [] vats fits e =
    let none : [] ≡ vats = cc in
    subst (λ (l : List ℕ). AreVats l × ([] ≡ flat_map (λ vat. to_le_bytes w32 vat) l)) none (All-nil (λ vat. vat < 2 ^ 32), refl)
steps_spelled at (a ∷ []) vats fits e = absurd cc
steps_spelled at (a ∷ b ∷ []) vats fits e = absurd cc
steps_spelled at (a ∷ b ∷ c ∷ []) vats fits e = absurd cc
steps_spelled at (a ∷ b ∷ c ∷ d ∷ rest) vats fits e =
    let first = a ∷ b ∷ c ∷ d ∷ [] in
    let vat = from_le_bytes w32 first in
    let parts = ok_is vat (steps_at (at + 4) rest) vats e in
    let later = steps_spelled (at + 4) rest parts.0 (λ i. fits (suc (suc (suc (suc i))))) parts.1 in
    let first_fits = four a b c d rest fits in
    let front : to_le_bytes w32 vat ≡ first = le_bytes_4 first vat refl first_fits refl in
    let whole : first ++ rest ≡ to_le_bytes w32 vat ++ flat_map (λ v. to_le_bytes w32 v) parts.0 = ap (λ (l : List ℕ). first ++ l) later.1 ∙ ap (λ (l : List ℕ). l ++ flat_map (λ v. to_le_bytes w32 v) parts.0) (sym front) in
    subst (λ (l : List ℕ). AreVats l × (a ∷ b ∷ c ∷ d ∷ rest ≡ flat_map (λ v. to_le_bytes w32 v) l)) parts.2
    (All-cons (λ v. v < 2 ^ 32) vat parts.0 (four_below first first_fits) later.0, whole)

steps_again : (at : ℕ) (vats : List ℕ) → AreVats vats → steps_at at (flat_map (λ vat. to_le_bytes w32 vat) vats) ≡ Ok vats
unfolding steps_at
steps_again at [] fits = refl
steps_again at (vat ∷ vats) fits =
    let later = steps_again (at + 4) vats (All-tail (λ v. v < 2 ^ 32) vat vats fits) in
    let same = from_le_bytes-to_le_bytes_4 vat (All-head (λ v. v < 2 ^ 32) vat vats fits) in
    rw (same, later) refl

rest_fits : (bytes : List ℕ) (i : ℕ) → IsBytes bytes → get_or (drop 8 bytes) i 0 < 256
rest_fits bytes i fits = rw get_or-drop (fits (8 + i))

begins : (bytes : List ℕ) → starts_with eqb bytes order_magic ≡ true → bytes ≡ order_magic ++ drop 8 bytes
begins bytes e = (starts_is Decides-eqb bytes order_magic (starts_with eqb bytes order_magic) refl).0 e

begins_again : (bytes rest : List ℕ) → bytes ≡ order_magic ++ rest → starts_with eqb bytes order_magic ≡ true
begins_again bytes rest e = (starts_is Decides-eqb bytes order_magic (starts_with eqb bytes order_magic) refl).1 rest e

chosen : (b : Bool) (read : Result (List ℕ) OrderError) (vats : List ℕ) → cond b read (Err BadMagic) ≡ Ok vats → (b ≡ true) × (read ≡ Ok vats)
chosen true read vats e = (refl, e)
chosen false read vats e = absurd cc

pub spelled : (bytes vats : List ℕ) → IsBytes bytes → spelled_order bytes ≡ Ok vats → AreVats vats × (bytes ≡ spelling vats)
unfolding spelled_order
spelled bytes vats fits e =
    let parts = chosen (starts_with eqb bytes order_magic) (steps_at 8 (drop 8 bytes)) vats e in
    let whole = begins bytes parts.0 in
    let steps = steps_spelled 8 (drop 8 bytes) vats (λ i. rest_fits bytes i fits) parts.1 in
    (steps.0, whole ∙ ap (λ (l : List ℕ). order_magic ++ l) steps.1)

pub again : (bytes vats : List ℕ) → AreVats vats → bytes ≡ spelling vats → spelled_order bytes ≡ Ok vats
unfolding spelled_order
again bytes vats fits e =
    let starts = begins_again bytes (flat_map (λ vat. to_le_bytes w32 vat) vats) e in
    let rest : drop 8 bytes ≡ flat_map (λ vat. to_le_bytes w32 vat) vats = ap (drop 8) e in
    rw (starts, rest) (steps_again 8 vats fits)

from_each : (bytes : List ℕ) → EachIndex bytes (λ i. slice_index bytes i < 256) → IsBytes bytes
from_each bytes h i =
    elim (cases_lt i (length bytes)) [
      | inl lt ↦ h i lt
      | inr le ↦ rw (get_or_past bytes i 0 le) (omega arith)
    ]

pub found_law : (bytes seen : List ℕ) (r : Result (List ℕ) OrderError) → seen ≡ bytes → EachIndex seen (λ i. slice_index seen i < 256) → GivesOrderInMemory (λ (x : List ℕ). x) r (spelled_order seen) → IfOk r (λ order. AreVats order × (bytes ≡ spelling order))
found_law bytes seen (Ok order) same fits e = let law = spelled seen order (from_each seen fits) e in (law.0, sym same ∙ law.1)
found_law bytes seen (Err fault) same fits e = tt

pub only_law : (bytes seen : List ℕ) (r : Result (List ℕ) OrderError) → seen ≡ bytes → GivesOrderInMemory (λ (x : List ℕ). x) r (spelled_order seen) → (vats : List ℕ) → AreVats vats → bytes ≡ spelling vats → GivesOrderInMemory (λ (x : List ℕ). x) r (Ok vats)
only_law bytes seen r same e vats fits spells =
    let P : Result (List ℕ) OrderError → Type 0 = λ read. GivesOrderInMemory (λ (x : List ℕ). x) r read in
    subst P (again seen vats fits (same ∙ spells)) e
