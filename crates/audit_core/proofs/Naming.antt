-- Good findings of a case, and an order that fits, are such as name a run.
use Rattle.std.proofs.Common.{◌≡◌, ℕ, suc, true, List, [], ◌∷◌, Some, None, refl, sym, ◌∙◌, subst, inl, inr}
use Rattle.std.specs.Prelude.{◌⊎◌, Contains, min, max, slice_get}
use Rattle.std.specs.List.{list_all}
use Rattle.vat_log.specs.Log.{Log}
use Rattle.vat_rules.specs.Audit.{Found}
use Rattle.link_check.specs.Prefix.{Ends, IsPrefix, frames_received, frames_sent}
use Rattle.merge_order.specs.Fits.{IsRising, IsFitting}
use Rattle.call_trace.specs.Findings.{is_good, Share, logs_of, MayBeNamed}
use Rattle.case_book.specs.Case.{Contents, IsCase}
use Rattle.case_book.specs.Ties.{tie_fault_of}
use Rattle.case_book.specs.Pieces.{IsComparisonOf}
use Rattle.case_book.specs.Books.{AllFound}
use Rattle.case_book.specs.declared.link.Link.{Link}
use Rattle.audit_core.specs.Report.{AreGoodEnds, AreGoodLinks, HoldsOfEach, IsGoodFinding, AreGoodFindings}
use Rattle.audit_core.proofs.Places.{one_of_number, one_contained, contained}
use Rattle.audit_core.proofs.Whole.{logs_are}
use Rattle.audit_core.proofs.FirstLine.{links_good}
use Rattle.audit_core.proofs.Ties.{user_is_end, AreAtEnds, both_ends, one_other, ends_sorted}

all_good : (vats : List Found) → HoldsOfEach IsGoodFinding vats → list_all (λ finding. is_good finding.outcome) vats ≡ true
all_good [] each = refl
all_good (found ∷ vats) each = let first = (each 0 found refl).says in rw first (all_good vats (λ k. each (suc k)))

module _ (held : Contents) (case : IsCase held) (tied : tie_fault_of held ≡ None) where
  -- the link on which two vats share a connection
  pub record IsBetween (k one other : ℕ) : Type 0 where
    pub place : ℕ
    pub link : Link
    pub there : slice_get held.links place ≡ Some link
    pub number : link.connection ≡ k
    pub ends : AreAtEnds link one other

  pub between : (k : ℕ) (one other : Log) → Share held.logs k one other → IsBetween k one.vat other.vat
  between k one other share =
      let at_one = user_is_end held tied one k share.one_there share.one_uses in
      let at_other = user_is_end held tied other k share.other_there share.other_uses in
      let same : at_other.link ≡ at_one.link = one_of_number (λ (link : Link). link.connection) held.links case.rising_links at_other.place at_one.place at_other.link at_one.link
      at_other.there at_one.there (at_other.number ∙ sym at_one.number) in
      let end = subst (λ (link : Link). (link.a ≡ other.vat) ⊎ (link.b ≡ other.vat)) same at_other.end in
      record { place = at_one.place; link = at_one.link; there = at_one.there; number = at_one.number; ends = both_ends at_one.link one.vat other.vat at_one.end end share.apart }

  pub two_ends : (k : ℕ) (one other third : Log) → Share held.logs k one other → Share held.logs k one third → other.vat ≡ third.vat
  two_ends k one other third share again =
      let first = between k one other share in
      let second = between k one third again in
      let same : second.link ≡ first.link = one_of_number (λ (link : Link). link.connection) held.links case.rising_links second.place first.place second.link first.link
      second.there first.there (second.number ∙ sym first.number) in
      one_other first.link one.vat other.vat third.vat first.ends (subst (λ (link : Link). AreAtEnds link one.vat third.vat) same second.ends) share.apart

  -- the logs of a comparison are those of its link's vats
  sorted_prefix : (k : ℕ) (one other : Log) (ends : Ends) → Contains held.logs one → Contains held.logs other → Contains held.logs ends.first → Contains held.logs ends.second
      → ends.connection ≡ k → AreGoodEnds ends
      → ((ends.first.vat ≡ one.vat) × (ends.second.vat ≡ other.vat)) ⊎ ((ends.first.vat ≡ other.vat) × (ends.second.vat ≡ one.vat))
      → IsPrefix (frames_received k one) (frames_sent k other)
  sorted_prefix k one other ends one_there other_there first_held second_held number good (inl vats) =
      let first : ends.first ≡ one = one_contained (λ (log : Log). log.vat) held.logs case.rising_vats ends.first one first_held one_there vats.0 in
      let second : ends.second ≡ other = one_contained (λ (log : Log). log.vat) held.logs case.rising_vats ends.second other second_held other_there vats.1 in
      subst (λ (n : ℕ). IsPrefix (frames_received n one) (frames_sent n other)) number
      (subst (λ (log : Log). IsPrefix (frames_received ends.connection one) (frames_sent ends.connection log)) second
      (subst (λ (log : Log). IsPrefix (frames_received ends.connection log) (frames_sent ends.connection ends.second)) first good.at_first))
  sorted_prefix k one other ends one_there other_there first_held second_held number good (inr vats) =
      let first : ends.first ≡ other = one_contained (λ (log : Log). log.vat) held.logs case.rising_vats ends.first other first_held other_there vats.0 in
      let second : ends.second ≡ one = one_contained (λ (log : Log). log.vat) held.logs case.rising_vats ends.second one second_held one_there vats.1 in
      subst (λ (n : ℕ). IsPrefix (frames_received n one) (frames_sent n other)) number
      (subst (λ (log : Log). IsPrefix (frames_received ends.connection one) (frames_sent ends.connection log)) first
      (subst (λ (log : Log). IsPrefix (frames_received ends.connection log) (frames_sent ends.connection ends.first)) second good.at_second))

  vats_of_ends : (link : Link) (ends : Ends) (one other : ℕ) → IsComparisonOf held.logs link ends
      → ((min link.a link.b ≡ one) × (max link.a link.b ≡ other)) ⊎ ((min link.a link.b ≡ other) × (max link.a link.b ≡ one))
      → ((ends.first.vat ≡ one) × (ends.second.vat ≡ other)) ⊎ ((ends.first.vat ≡ other) × (ends.second.vat ≡ one))
  vats_of_ends link ends one other own (inl x) = inl (own.smaller ∙ x.0, own.greater ∙ x.1)
  vats_of_ends link ends one other own (inr x) = inr (own.smaller ∙ x.0, own.greater ∙ x.1)

  pub prefix_of : (k : ℕ) (one other : Log) (share : Share held.logs k one other) (ends : Ends)
      → IsComparisonOf held.logs (between k one other share).link ends → AreGoodEnds ends → IsPrefix (frames_received k one) (frames_sent k other)
  prefix_of k one other share ends own good =
      let shared = between k one other share in
      sorted_prefix k one other ends share.one_there share.other_there own.first_held own.second_held (own.connection ∙ shared.number) good
      (vats_of_ends shared.link ends one.vat other.vat own (ends_sorted shared.link one.vat other.vat shared.ends))

-- so where the findings are of a case's logs and good, and its links are good
pub named_of : (held : Contents) → IsCase held → tie_fault_of held ≡ None → (vats : List Found) → logs_of vats ≡ held.logs → HoldsOfEach IsGoodFinding vats → AreGoodLinks held
    → (order : List ℕ) → IsFitting (logs_of vats) order → MayBeNamed vats order
named_of held case tied vats logs_same each links order fits =
    let same = sym logs_same in
    record {
      good = all_good vats each;
      rising = subst IsRising same case.rising_vats;
      fits = fits;
      two_ends = subst (λ (logs : List Log). (k : ℕ) (one other third : Log) → Share logs k one other → Share logs k one third → other.vat ≡ third.vat) same (two_ends held case tied);
      linked = subst (λ (logs : List Log). (k : ℕ) (one other : Log) → Share logs k one other → IsPrefix (frames_received k one) (frames_sent k other)) same
          (λ k one other share. (let shared = between held case tied k one other share in
          let good = links shared.link (contained held.links shared.place shared.link shared.there) in
          prefix_of held case tied k one other share good.ends good.own good.good));
    }

pub may_be_named : (all : AllFound) (order : List ℕ) → AreGoodFindings all → IsFitting (logs_of all.vats) order → MayBeNamed all.vats order
may_be_named all order good fits =
    named_of all.case good.whole.holds good.whole.tied all.vats (logs_are all good.whole) good.vats_good (links_good all good.whole good.links_good) order fits
