-- What a book keeps, from call to call.
use Rattle.std.proofs.Common.{◌≡◌, ◌≢◌, ℕ, zero, suc, ◌+◌, ◌<◌, Bool, true, false, cond, List, [], ◌∷◌, ◌++◌, length, map, replicate, get_or, set, Option, Some, None, refl, sym, ap, ◌∙◌, subst, inl, inr, arith}
use Rattle.std.specs.Prelude.{count_by, is_none, is_some, slice_get}
use Rattle.std.specs.Option.{option_map}
use Rattle.std.proofs.lemmas.Bool.{cases_eq}
use Rattle.std.proofs.lemmas.List.{length-map, length-replicate, length-set}
use Rattle.std.proofs.lemmas.List.Folds.{sum_by-replicate}
use Rattle.std.proofs.lemmas.List.Sums.{sum_by-cons, sum_by-set}
use Rattle.std.proofs.lemmas.Option.{slice_get-map, slice_get_read, slice_get_within, get_or_from_slice_get}
use Rattle.case_book.specs.Case.{Contents, IsCase}
use Rattle.case_book.specs.Ties.{tie_fault_of}
use Rattle.vat_rules.specs.Audit.{Found}
use Rattle.link_check.specs.Prefix.{Ends}
use Rattle.case_book.specs.Glue.{ArePlaced}
use Rattle.case_book.specs.Pieces.{pieces_of, IsAuditOf, IsFoundBy, IsForPiece}
use Rattle.case_book.specs.Books.{Kept, IsBook, new_book, with_finding, IsMissing, IsClaimed, AreAll}
use Rattle.case_book.specs.declared.piece_finding.Finding.{Finding}
use Rattle.case_book.specs.declared.piece_finding.Finding.TheVariants as finding
use Rattle.case_book.proofs.Numbered.{pieces_len, taken, audits, compares}

none_posted : (n k : ℕ) (found : Finding) → slice_get (replicate n None) k ≡ Some (Some found) → ⊥
none_posted zero k found e = cc
none_posted (suc n) zero found e = cc
none_posted (suc n) (suc k) found e = none_posted n k found e

pub all_missing : (n : ℕ) → n ≡ count_by {X = Option Finding} is_none (replicate n None)
all_missing n = let e = sum_by-replicate (λ (o : Option Finding). cond (is_none o) 1 0) n None in omega arith

pub new_is_book : (held : Contents) → IsCase held → tie_fault_of held ≡ None → IsBook (new_book held)
new_is_book held case tied = record {
  holds = case;
  tied = tied;
  claims = length-replicate (length (pieces_of held)) false;
  places = length-replicate (length (pieces_of held)) None;
  own = λ number found e. absurd (none_posted (length (pieces_of held)) number found e);
}

-- what stands in a list behind a write
at_written : {X : Type 0} (xs : List X) (i : ℕ) (x y : X) → slice_get (set xs i x) i ≡ Some y → x ≡ y
at_written [] i x y e = absurd (cc)
at_written (z ∷ xs) zero x y e = cc
at_written (z ∷ xs) (suc i) x y e = at_written xs i x y e

elsewhere : {X : Type 0} (xs : List X) (i k : ℕ) (x : X) → k ≢ i → slice_get (set xs i x) k ≡ slice_get xs k
elsewhere [] i k x other = refl
elsewhere (z ∷ xs) zero zero x other = absurd (other refl)
elsewhere (z ∷ xs) zero (suc k) x other = refl
elsewhere (z ∷ xs) (suc i) zero x other = refl
elsewhere (z ∷ xs) (suc i) (suc k) x other = elsewhere xs i k x (λ same. other (ap suc same))

pub finding_kept : (book : Kept) (number : ℕ) (found : Finding) → IsBook book → IsForPiece book.case found number → IsBook (with_finding book number found)
finding_kept book number found is own = record {
  holds = is.holds;
  tied = is.tied;
  claims = is.claims;
  places = length-set book.found number (Some found) ∙ is.places;
  own = λ k other e. elim (cases_eq k number) [
    | inl same ↦
        let here = subst (λ (n : ℕ). slice_get (set book.found number (Some found)) n ≡ Some (Some other)) same e in
        let written : Some found ≡ Some other = at_written book.found number (Some found) (Some other) here in
        let it : found ≡ other = cc in
        subst (λ (n : ℕ). IsForPiece book.case other n) (sym same) (subst (λ (f : Finding). IsForPiece book.case f number) it own)
    | inr apart ↦ is.own k other (sym (elsewhere book.found number k (Some found) apart) ∙ e)
  ];
}

pub one_fewer : (places : List (Option Finding)) (number : ℕ) (found : Finding) → slice_get places number ≡ Some None → count_by is_none (set places number (Some found)) + 1 ≡ count_by is_none places
one_fewer places number found missing =
    let lt = slice_get_within places number None missing in
    let none : get_or places number None ≡ None = get_or_from_slice_get places number None None missing in
    let all : count_by is_none (set places number (Some found)) + cond (is_none (get_or places number None)) 1 0 ≡ count_by is_none places + 0 =
    sum_by-set (λ (o : Option Finding). cond (is_none o) 1 0) places number (Some found) None lt in
    let here : ◌≡◌ {A = ℕ} (cond (is_none (get_or places number None)) 1 0) 1 = ap (λ (o : Option Finding). cond (is_none o) 1 0) none in
    omega (arith, all, here)

pub some_missing : (places : List (Option Finding)) (number : ℕ) → slice_get places number ≡ Some None → 0 < count_by is_none places
some_missing [] number e = absurd (cc)
some_missing (place ∷ places) zero e =
    let none : place ≡ None = cc in
    let here : ◌≡◌ {A = ℕ} (cond (is_none place) 1 0) 1 = ap (λ (o : Option Finding). cond (is_none o) 1 0) none in
    let all = sum_by-cons (λ (o : Option Finding). cond (is_none o) 1 0) place places in
    omega (arith, here, all)
some_missing (place ∷ places) (suc number) e =
    let rest = some_missing places number e in
    let all = sum_by-cons (λ (o : Option Finding). cond (is_none o) 1 0) place places in
    omega (arith, rest, all)

pub not_some : {X : Type 0} (o : Option X) → is_some o ≡ false → o ≡ None
not_some None e = refl
not_some (Some x) e = absurd (cc)

-- so many empty places are the book of a case
pub empty_book : (held : Contents) (claimed : List Bool) (found : List (Option Finding)) (n : ℕ) → IsCase held → tie_fault_of held ≡ None
    → n ≡ length held.logs + length held.links → claimed ≡ replicate n false → found ≡ replicate n None
    → record { case = held; claimed = claimed; found = found } ≡ new_book held
empty_book held claimed found n case tied e c f =
    let all : n ≡ length (pieces_of held) = omega (arith, e, pieces_len held) in
    ap (λ (bs : List Bool). let k : Kept = record { case = held; claimed = bs; found = found } in k) (c ∙ ap (λ (m : ℕ). replicate m false) all)
    ∙ ap (λ (os : List (Option Finding)). let k : Kept = record { case = held; claimed = replicate (length (pieces_of held)) false; found = os } in k) (f ∙ ap (λ (m : ℕ). replicate m None) all)

pub empty_is_book : (held : Contents) (claimed : List Bool) (found : List (Option Finding)) (n : ℕ) → IsCase held → tie_fault_of held ≡ None
    → n ≡ length held.logs + length held.links → claimed ≡ replicate n false → found ≡ replicate n None
    → IsBook (record { case = held; claimed = claimed; found = found })
empty_is_book held claimed found n case tied e c f = subst IsBook (sym (empty_book held claimed found n case tied e c f)) (new_is_book held case tied)

pub none_of : (found : List (Option Finding)) (n : ℕ) → found ≡ replicate n None → n ≡ count_by is_none found
none_of found n f = all_missing n ∙ ap (count_by is_none) (sym f)

-- a piece has its place
pub piece_within : (book : Kept) (found : Finding) (number : ℕ) → IsBook book → IsForPiece book.case found number → number < length book.found
piece_within book found number is own =
    let there = taken (slice_get (pieces_of book.case) number) (IsFoundBy book.case found) own in
    let lt = slice_get_within (pieces_of book.case) number there.0 there.1 in
    omega (arith, lt, is.places)

pub missing_at : (book : Kept) (found : Finding) (number : ℕ) (place : Option Finding) → IsBook book → IsForPiece book.case found number
    → place ≡ get_or book.found number place → is_some place ≡ false → IsMissing book number
missing_at book found number place is own at none =
    slice_get_read book.found (length book.found) number place refl (piece_within book found number is own) at ∙ ap Some (not_some place none)

pub claimed_at : (book : Kept) (found : Finding) (number : ℕ) (place : Bool) → IsBook book → IsForPiece book.case found number
    → place ≡ get_or book.claimed number place → place ≡ true → IsClaimed book number
claimed_at book found number place is own at claimed =
    slice_get_read book.claimed (length book.claimed) number place refl (omega (arith, piece_within book found number is own, is.places, is.claims)) at ∙ ap Some claimed

-- a whole book has a finding at each place
pub placed_in : (book : Kept) → IsBook book → count_by is_none book.found ≡ 0 → ArePlaced book.found (length book.case.logs) (length book.case.links)
placed_in book is none = record {
  each = is.places ∙ pieces_len book.case;
  whole = λ number missing. let some = some_missing book.found number missing in omega (arith, some, none);
  vat_first = λ number audited at.
      let own = is.own number (finding.Vat audited) at in
      let log = taken (slice_get book.case.logs number) (λ log. IsAuditOf log audited) (audits book.case audited book.case.logs book.case.links number own) in
      slice_get_within book.case.logs number log.0 log.1;
  link_behind = λ number compared at.
      let own = is.own number (finding.Link compared) at in
      let place = compares book.case compared book.case.logs book.case.links number own in
      let e = place.1 in
      omega arith;
}

-- and these are the findings of its case
pub are_all : (held : Contents) (claimed : List Bool) (found : List (Option Finding)) (vats : List Found) (links : List Ends)
    → IsBook (record { case = held; claimed = claimed; found = found }) → map Some (map finding.Vat vats ++ map finding.Link links) ≡ found
    → AreAll (record { case = held; vats = vats; links = links })
are_all held claimed found vats links is same = record {
  holds = is.holds;
  tied = is.tied;
  each = sym (length-map (map finding.Vat vats ++ map finding.Link links) Some) ∙ ap length same ∙ is.places;
  own = λ number one at. is.own number one
      (ap (λ (os : List (Option Finding)). slice_get os number) (sym same) ∙ slice_get-map Some (map finding.Vat vats ++ map finding.Link links) number ∙ ap (option_map Some) at);
}
