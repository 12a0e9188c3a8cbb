-- In a case that ties up, a log that uses a connection is at an end of its link.
use Rattle.std.proofs.Common.{◌≡◌, ◌≢◌, ℕ, zero, suc, Bool, true, false, List, [], ◌∷◌, ◌++◌, Option, Some, None, refl, sym, ap, ◌∙◌, subst, inl, inr, arith}
use Rattle.std.specs.Prelude.{◌⊎◌, ◌==◌, ◌&&◌, ◌||◌, not, Contains, IsTrue, filter, min, max, slice_get}
use Rattle.std.specs.List.{list_any, filter_map, flat_map, cons_option}
use Rattle.std.specs.Option.{option_map}
use Rattle.std.proofs.lemmas.Bool.{cases_lt, eqb-true}
use Rattle.vat_log.specs.Log.{Log}
use Rattle.vat_log.specs.declared.body.Body.{Body}
use Rattle.vat_log.specs.declared.body.Body.TheVariants as body
use Rattle.vat_log.specs.Passages.{sends_frame, receives_frame, used_by}
use Rattle.call_trace.specs.Findings.{uses}
use Rattle.case_book.specs.Case.{Contents, or_else}
use Rattle.case_book.specs.Least.{least, IsLeast}
use Rattle.case_book.specs.Ties.{tie_fault_of, is_linked, is_unlinked, unlinked_in, missing_logs, links_without_log, links_of_one_vat}
use Rattle.case_book.specs.declared.link.Link.{Link}
use Rattle.case_book.specs.declared.ties.TieFault.{TieFault}
use Rattle.case_book.specs.declared.ties.TieFault.TheVariants.{MissingLog, SameEnds}
use Rattle.case_book.proofs.Lowest.{least_of}
use Rattle.case_book.proofs.Numbers.{bool_cases}
use Rattle.audit_core.proofs.Places.{place_of}

-- ---- a case that ties up misses no log

first_none : (o : Option ℕ) (f : ℕ → TieFault) (other : Option TieFault) → or_else (option_map f o) other ≡ None → o ≡ None
first_none None f other e = refl
first_none (Some n) f other e = absurd cc

front_empty : {X : Type 0} (xs ys : List X) → xs ++ ys ≡ [] → xs ≡ []
front_empty [] ys e = refl
front_empty (x ∷ xs) ys e = absurd cc

back_empty : {X : Type 0} (xs ys : List X) → xs ++ ys ≡ [] → ys ≡ []
back_empty [] ys e = e
back_empty (x ∷ xs) ys e = absurd cc

none_missing : (held : Contents) → tie_fault_of held ≡ None → flat_map (unlinked_in held.links) held.logs ≡ []
unfolding tie_fault_of
none_missing held tied =
    let none = first_none (least (missing_logs held)) MissingLog (option_map SameEnds (least (links_of_one_vat held.links))) tied in
    front_empty (flat_map (unlinked_in held.links) held.logs) (links_without_log held.logs held.links) (subst (IsLeast (missing_logs held)) none (least_of (missing_logs held)))

each_empty : (f : Log → List ℕ) (logs : List Log) → flat_map f logs ≡ [] → (k : ℕ) (log : Log) → slice_get logs k ≡ Some log → f log ≡ []
each_empty f [] e k log at = absurd cc
each_empty f (first ∷ logs) e zero log at =
    let same : first ≡ log = cc in
    subst (λ (l : Log). f l ≡ []) same (front_empty (f first) (flat_map f logs) e)
each_empty f (first ∷ logs) e (suc k) log at = each_empty f logs (back_empty (f first) (flat_map f logs) e) k log at

-- ---- a connection that a log uses is among those that it uses

true_of : (b : Bool) → (b || false) ≡ true → b ≡ true
true_of true e = refl
true_of false e = absurd cc

pub used : (b : Body) (k : ℕ) → (sends_frame k b || receives_frame k b) ≡ true → used_by b ≡ Some k
used (body.Host reference object) k e = absurd cc
used (body.Vow reference) k e = absurd cc
used (body.Fulfil reference to) k e = absurd cc
used (body.Break reference) k e = absurd cc
used (body.Make call reference interface method) k e = absurd cc
used (body.Field reference call path) k e = absurd cc
used (body.Deliver call object) k e = absurd cc
used (body.Answer call results) k e = absurd cc
used (body.Fault call) k e = absurd cc
used (body.Send connection call references frame) k e = ap Some (eqb-true connection k (true_of (connection == k) e))
used (body.Receive connection call references frame) k e = ap Some (eqb-true connection k e)
used (body.AnswerBy call by) k e = absurd cc

none_pass_here : (p : ℕ → Bool) (o : Option ℕ) (rest : List ℕ) (k : ℕ) → filter p (cons_option o rest) ≡ [] → o ≡ Some k → p k ≡ false
none_pass_here p None rest k e is = absurd cc
none_pass_here p (Some n) rest k e is =
    let same : n ≡ k = cc in
    elim (bool_cases (p n)) [
      | inl passes ↦ absurd (let h = rw passes at e in cc)
      | inr fails ↦ subst (λ (m : ℕ). p m ≡ false) same fails
    ]

none_pass_later : (p : ℕ → Bool) (o : Option ℕ) (rest : List ℕ) → filter p (cons_option o rest) ≡ [] → filter p rest ≡ []
none_pass_later p None rest e = e
none_pass_later p (Some n) rest e =
    elim (bool_cases (p n)) [
      | inl passes ↦ absurd (let h = rw passes at e in cc)
      | inr fails ↦ rw fails at e
    ]

none_pass : (p : ℕ → Bool) (records : List Body) (k : ℕ) → filter p (filter_map used_by records) ≡ [] → list_any (λ b. sends_frame k b || receives_frame k b) records ≡ true → p k ≡ false
none_pass p [] k e any = absurd cc
none_pass p (b ∷ records) k e any =
    elim (bool_cases (sends_frame k b || receives_frame k b)) [
      | inl here ↦ none_pass_here p (used_by b) (filter_map used_by records) k e (used b k here)
      | inr not_here ↦ none_pass p records k (none_pass_later p (used_by b) (filter_map used_by records) e) (rw not_here at any)
    ]

-- ---- so it has a link with this vat

pub record IsAt (links : List Link) (k vat : ℕ) : Type 0 where
  pub place : ℕ
  pub link : Link
  pub there : slice_get links place ≡ Some link
  pub number : link.connection ≡ k
  pub end : (link.a ≡ vat) ⊎ (link.b ≡ vat)

joined : (connection a b k vat : ℕ) → ((connection == k) && ((a == vat) || (b == vat))) ≡ true → (connection ≡ k) × ((a ≡ vat) ⊎ (b ≡ vat))
joined connection a b k vat e =
    elim (bool_cases (connection == k)) [
      | inl same ↦ elim (bool_cases (a == vat)) [
        | inl first ↦ (eqb-true connection k same, inl (eqb-true a vat first))
        | inr other ↦ (eqb-true connection k same, inr (eqb-true b vat (let rest = rw (same, other) at e in rest)))
      ]
      | inr other ↦ absurd (let h = rw other at e in cc)
    ]

at_link : (links : List Link) (k vat : ℕ) → is_linked links vat k ≡ true → IsAt links k vat
at_link [] k vat e = absurd cc
at_link (link ∷ links) k vat e =
    elim (bool_cases ((link.connection == k) && ((link.a == vat) || (link.b == vat)))) [
      | inl here ↦
          let own = joined link.connection link.a link.b k vat here in
          record { place = 0; link = link; there = refl; number = own.0; end = own.1 }
      | inr not_here ↦
          let later = at_link links k vat (rw not_here at e) in
          record { place = suc later.place; link = later.link; there = later.there; number = later.number; end = later.end }
    ]

linked_if_not : (b : Bool) → not b ≡ false → b ≡ true
linked_if_not true e = refl
linked_if_not false e = absurd cc

pub user_is_end : (held : Contents) → tie_fault_of held ≡ None → (log : Log) (k : ℕ) → Contains held.logs log → IsTrue (uses k log) → IsAt held.links k log.vat
user_is_end held tied log k there uses_it =
    let at = place_of held.logs log there in
    let none = each_empty (unlinked_in held.links) held.logs (none_missing held tied) at.0 log at.1 in
    at_link held.links k log.vat (linked_if_not (is_linked held.links log.vat k) (none_pass (is_unlinked held.links log.vat) log.records k none uses_it))

-- ---- the two ends of a link

-- a link's ends are these two vats
abbrev pub AreAtEnds : Link → ℕ → ℕ → Type 0
AreAtEnds link one other = ((link.a ≡ one) × (link.b ≡ other)) ⊎ ((link.a ≡ other) × (link.b ≡ one))

pub both_ends : (link : Link) (one other : ℕ) → (link.a ≡ one) ⊎ (link.b ≡ one) → (link.a ≡ other) ⊎ (link.b ≡ other) → one ≢ other → AreAtEnds link one other
both_ends link one other (inl x) (inl y) apart = absurd (apart (sym x ∙ y))
both_ends link one other (inl x) (inr y) apart = inl (x, y)
both_ends link one other (inr x) (inl y) apart = inr (y, x)
both_ends link one other (inr x) (inr y) apart = absurd (apart (sym x ∙ y))

-- the third of a link is its second
pub one_other : (link : Link) (one other third : ℕ) → AreAtEnds link one other → AreAtEnds link one third → one ≢ other → other ≡ third
one_other link one other third (inl x) (inl y) apart = sym x.1 ∙ y.1
one_other link one other third (inl x) (inr y) apart = absurd (apart (sym y.1 ∙ x.1))
one_other link one other third (inr x) (inl y) apart = absurd (apart (sym y.0 ∙ x.0))
one_other link one other third (inr x) (inr y) apart = sym x.0 ∙ y.0

-- the smaller and the greater of them
pub ends_sorted : (link : Link) (one other : ℕ) → AreAtEnds link one other
    → ((min link.a link.b ≡ one) × (max link.a link.b ≡ other)) ⊎ ((min link.a link.b ≡ other) × (max link.a link.b ≡ one))
ends_sorted link one other (inl x) =
    elim (cases_lt link.a link.b) [
      | inl lt ↦ let e = x.0 in let f = x.1 in inl (omega arith, omega arith)
      | inr ge ↦ let e = x.0 in let f = x.1 in inr (omega arith, omega arith)
    ]
ends_sorted link one other (inr x) =
    elim (cases_lt link.a link.b) [
      | inl lt ↦ let e = x.0 in let f = x.1 in inr (omega arith, omega arith)
      | inr ge ↦ let e = x.0 in let f = x.1 in inl (omega arith, omega arith)
    ]
