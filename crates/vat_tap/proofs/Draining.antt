-- More is taken of one lane.
use Rattle.std.proofs.Common.{◌≡◌, ℕ, ◌+◌, ◌<◌, ◌≤◌, List, [], ◌++◌, length, get_or, set, Some, refl, sym, ap, ◌∙◌, arith, inl, inr, append_assoc}
use Rattle.std.specs.Prelude.{slice_get}
use mathlib.Core.List.{IsPrefix}
use Rattle.std.specs.List.{sum_by}
use Rattle.std.proofs.lemmas.Bool.{cases_eq}
use Rattle.std.proofs.lemmas.List.{length-set, get_or-set_same, get_or-set_other, append-nil}
use Rattle.std.proofs.lemmas.List.Sums.{sum_by-set}
use Rattle.std.proofs.Common.{length-append}
use Rattle.vat_tap.specs.Tickets.{Ticketed, Ring, TakesOn, TakesAtMost}
use Rattle.vat_tap.specs.Glue.Taps.{Goes, TakesUpTo}

pub takes_nothing : (now : List (List Ticketed)) → TakesOn now now
takes_nothing now = record { lanes = refl; each = λ lane lt. ([], append-nil _) }

pub takes_longer : (before now : List (List Ticketed)) (i : ℕ) (after : List Ticketed) → i < length now → IsPrefix (get_or now i []) after → TakesOn before now → TakesOn before (set now i after)
takes_longer before now i after lt goes on = record {
  lanes = length-set now i after ∙ on.lanes;
  each = λ lane within.
      elim (cases_eq lane i) [
        | inl e ↦ (
            let old = on.each lane within in
            let now_is : get_or (set now i after) lane [] ≡ after = ap (λ (n : ℕ). get_or (set now i after) n []) e ∙ get_or-set_same now i after [] lt in
            (old.0 ++ goes.0, sym (append_assoc _ old.0 goes.0) ∙ ap (λ l. l ++ goes.0) (old.1 ∙ ap (λ (n : ℕ). get_or now n []) e) ∙ goes.1 ∙ sym now_is))
        | inr apart ↦ (let old = on.each lane within in (old.0, old.1 ∙ sym (get_or-set_other now i lane after [] apart)))
      ];
}

pub takes_more : (before now : List (List Ticketed)) (i : ℕ) (after : List Ticketed) (count : ℕ) → i < length now → Goes (get_or now i []) after count → TakesOn before now → TakesOn before (set now i after)
takes_more before now i after count lt goes on = takes_longer before now i after lt (goes.0, sym goes.1) on

pub up_to_more : (rings : List Ring) (before now : List (List Ticketed)) (i : ℕ) (after : List Ticketed) (count : ℕ) (its : Ring) → slice_get rings i ≡ Some its → i < length now
    → Goes (get_or now i []) after count → count ≤ its.room → TakesUpTo i rings before now → TakesUpTo (i + 1) rings before (set now i after)
up_to_more rings before now i after count its here lt goes few on lane ring at =
    elim (cases_eq lane i) [
      | inl e ↦ (
          let now_is : get_or (set now i after) lane [] ≡ after = ap (λ (n : ℕ). get_or (set now i after) n []) e ∙ get_or-set_same now i after [] lt in
          let was : get_or now i [] ≡ get_or before lane [] = ap (λ (n : ℕ). get_or now n []) (sym e) ∙ (on lane ring at).1 (omega (arith, e)) in
          let same : Some ring ≡ Some its = sym at ∙ ap (slice_get rings) e ∙ here in
          let room : ring.room ≡ its.room = cc in
          (omega (arith, ap length now_is, ap length goes.1, length-append (get_or now i []) goes.0, goes.2, ap length was, few, room), λ le. absurd (omega (arith, le, e))))
      | inr apart ↦ (
          let old = on lane ring at in
          let kept = get_or-set_other now i lane after [] apart in
          (omega (arith, ap length kept, old.0), λ le. kept ∙ old.1 (omega (arith, le))))
    ]

pub at_most : (i : ℕ) (rings : List Ring) (before now : List (List Ticketed)) → TakesUpTo i rings before now → TakesAtMost rings before now
at_most i rings before now on lane ring at = (on lane ring at).0

pub takes_on : (a b c : List (List Ticketed)) → TakesOn a b → TakesOn b c → TakesOn a c
takes_on a b c one two = record {
  lanes = two.lanes ∙ one.lanes;
  each = λ lane within.
      let x = one.each lane within in
      let y = two.each lane (omega (arith, within, one.lanes)) in
      (x.0 ++ y.0, sym (append_assoc _ x.0 y.0) ∙ ap (λ l. l ++ y.0) x.1 ∙ y.1);
}

pub counts_more : (now : List (List Ticketed)) (i : ℕ) (after : List Ticketed) (count : ℕ) → i < length now → Goes (get_or now i []) after count → sum_by length (set now i after) ≡ sum_by length now + count
counts_more now i after count lt goes =
    omega (arith, sum_by-set (λ (l : List Ticketed). length l) now i after [] lt, ap length goes.1, length-append (get_or now i []) goes.0, goes.2)
