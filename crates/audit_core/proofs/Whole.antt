-- The findings of a case stand at the places of its pieces.
use Rattle.std.proofs.Common.{◌≡◌, ℕ, ◌+◌, ◌≤◌, List, length, map, Option, Some, sym, ap, ◌∙◌, subst, inl, inr, arith}
use Rattle.std.specs.Prelude.{Contains, IsSomeAnd, slice_get}
use Rattle.std.specs.Option.{option_map}
use Rattle.std.proofs.lemmas.List.{length-append, length-map}
use Rattle.std.proofs.lemmas.Option.{slice_get-map, slice_get_within, slice_get_cases}
use Rattle.cap_reader.specs.Defaults.{default_limits}
use Rattle.cap_reader.specs.declared.limits.Limits.{Limits}
use Rattle.vat_log.specs.Log.{Log}
use Rattle.vat_rules.specs.Audit.{Found}
use Rattle.link_check.specs.Prefix.{Ends}
use Rattle.call_trace.specs.Findings.{logs_of}
use Rattle.case_book.specs.Pieces.{IsAuditOf, IsComparisonOf}
use Rattle.case_book.specs.Books.{AllFound, AreAll, findings_of}
use Rattle.case_book.specs.declared.link.Link.{Link}
use Rattle.case_book.specs.declared.piece_finding.Finding.TheVariants as finding
use Rattle.case_book.proofs.Numbered.{pieces_len, taken, audits, compares}
use Rattle.audit_core.proofs.Places.{in_front, behind, from_map, same_lists, place_of, contained}

-- what holds of a log and limits does where they are others of the same value
pub as_log : (P : Log → Limits → Type 0) (found : Found) (log : Log) → found.log ≡ log → found.limits ≡ default_limits → P found.log found.limits → P log default_limits
as_log P found log same within so = subst (λ (limits : Limits). P log limits) within (subst (λ (l : Log). P l found.limits) same so)

module _ (all : AllFound) (whole : AreAll all) where
  -- the finding at a place is of the log at that place
  pub vat_own : (k : ℕ) (found : Found) → slice_get all.vats k ≡ Some found → (log : Log) × (slice_get all.case.logs k ≡ Some log) × IsAuditOf log found
  vat_own k found at =
      let there = slice_get-map finding.Vat all.vats k ∙ ap (option_map finding.Vat) at in
      let own = whole.own k (finding.Vat found) (in_front (map finding.Vat all.vats) (map finding.Link all.links) k (finding.Vat found) there) in
      taken (slice_get all.case.logs k) (λ log. IsAuditOf log found) (audits all.case found all.case.logs all.case.links k own)

  link_place : (j : ℕ) (ends : Ends) → slice_get all.links j ≡ Some ends
      → (i : ℕ) × (length all.vats + j ≡ length all.case.logs + i) × IsSomeAnd (slice_get all.case.links i) (λ link. IsComparisonOf all.case.logs link ends)
  link_place j ends at =
      let there = slice_get-map finding.Link all.links j ∙ ap (option_map finding.Link) at in
      let long = length-map all.vats finding.Vat in
      let last = behind (map finding.Vat all.vats) (map finding.Link all.links) j ∙ there in
      let here = subst (λ (n : ℕ). slice_get (findings_of all) (n + j) ≡ Some (finding.Link ends)) long last in
      compares all.case ends all.case.logs all.case.links (length all.vats + j) (whole.own (length all.vats + j) (finding.Link ends) here)

  both_len : length all.vats + length all.links ≡ length all.case.logs + length all.case.links
  both_len =
      let found = length-append (map finding.Vat all.vats) (map finding.Link all.links) in
      let vats = length-map all.vats finding.Vat in
      let links = length-map all.links finding.Link in
      let each = whole.each in
      let pieces = pieces_len all.case in
      omega (arith, found, vats, links, each, pieces)

  not_more_vats : length all.vats ≤ length all.case.logs
  not_more_vats =
      elim (slice_get_cases all.vats (length all.case.logs)).1 [
        | inl there ↦ absurd (
            let own = vat_own (length all.case.logs) there.0 there.2 in
            let lt = slice_get_within all.case.logs (length all.case.logs) own.0 own.1 in
            omega arith
            )
        | inr past ↦ past.0
      ]

  not_fewer_vats : length all.case.logs ≤ length all.vats
  not_fewer_vats =
      elim (slice_get_cases all.links 0).1 [
        | inl there ↦ let place = link_place 0 there.0 there.2 in let e = place.1 in omega arith
        | inr past ↦ let le = past.0 in omega (arith, both_len)
      ]

  -- each log has its finding
  pub vats_len : length all.vats ≡ length all.case.logs
  vats_len = omega (arith, not_more_vats, not_fewer_vats)

  links_len : length all.links ≡ length all.case.links
  links_len = omega (arith, vats_len, both_len)

  log_at : (k : ℕ) (log : Log) → slice_get (logs_of all.vats) k ≡ Some log → slice_get all.case.logs k ≡ Some log
  log_at k log at =
      let one = from_map (λ (found : Found). found.log) (slice_get all.vats k) log (sym (slice_get-map (λ (found : Found). found.log) all.vats k) ∙ at) in
      let own = vat_own k one.0 one.1 in
      own.1 ∙ ap Some (sym own.2.same_log ∙ one.2)

  -- the logs of the findings are those of the case
  pub logs_are : logs_of all.vats ≡ all.case.logs
  logs_are = same_lists (logs_of all.vats) all.case.logs (length-map all.vats (λ (found : Found). found.log) ∙ vats_len) log_at

  -- the finding of a log of the case
  pub record HasFinding (log : Log) : Type 0 where
    pub place : ℕ
    pub found : Found
    pub there : slice_get all.vats place ≡ Some found
    pub same : found.log ≡ log
    pub within : found.limits ≡ default_limits

  pub finding_at : (k : ℕ) (log : Log) → slice_get all.case.logs k ≡ Some log → (found : Found) × (slice_get all.vats k ≡ Some found) × (found.log ≡ log) × (found.limits ≡ default_limits)
  finding_at k log at =
      let there = subst (λ (logs : List Log). slice_get logs k ≡ Some log) (sym logs_are) at in
      let one = from_map (λ (found : Found). found.log) (slice_get all.vats k) log (sym (slice_get-map (λ (found : Found). found.log) all.vats k) ∙ there) in
      let own = vat_own k one.0 one.1 in
      (one.0, one.1, one.2, own.2.within)

  pub has_finding : (log : Log) → Contains all.case.logs log → HasFinding log
  has_finding log held =
      let at = place_of all.case.logs log held in
      let own = finding_at at.0 log at.1 in
      record { place = at.0; found = own.0; there = own.1; same = own.2; within = own.3 }

  -- a finding is of a log of the case
  pub held_at : (k : ℕ) (found : Found) → slice_get all.vats k ≡ Some found → slice_get all.case.logs k ≡ Some found.log
  held_at k found at = let own = vat_own k found at in own.1 ∙ ap Some (sym own.2.same_log)

  pub log_held : (k : ℕ) (found : Found) → slice_get all.vats k ≡ Some found → Contains all.case.logs found.log × (found.limits ≡ default_limits)
  log_held k found at =
      (contained all.case.logs k found.log (held_at k found at), (vat_own k found at).2.within)

  -- the ends that were found of a link of the case
  pub ends_at : (j : ℕ) (link : Link) → slice_get all.case.links j ≡ Some link → (ends : Ends) × (slice_get all.links j ≡ Some ends) × IsComparisonOf all.case.logs link ends
  ends_at j link at =
      elim (slice_get_cases all.links j).1 [
        | inl there ↦
            let place = link_place j there.0 there.2 in
            let e = place.1 in
            let same : place.0 ≡ j = omega (arith, e, vats_len) in
            let own = subst (λ (n : ℕ). IsSomeAnd (slice_get all.case.links n) (λ link. IsComparisonOf all.case.logs link there.0)) same place.2 in
            (there.0, there.2, subst (λ (o : Option Link). IsSomeAnd o (λ link. IsComparisonOf all.case.logs link there.0)) at own)
        | inr past ↦ absurd (let lt = slice_get_within all.case.links j link at in let le = past.0 in omega (arith, lt, le, links_len))
      ]

  -- a link that was compared is one of the case
  pub link_own : (j : ℕ) (ends : Ends) → slice_get all.links j ≡ Some ends → (link : Link) × (slice_get all.case.links j ≡ Some link) × IsComparisonOf all.case.logs link ends
  link_own j ends at =
      let place = link_place j ends at in
      let e = place.1 in
      let same : place.0 ≡ j = omega (arith, e, vats_len) in
      taken (slice_get all.case.links j) (λ link. IsComparisonOf all.case.logs link ends)
      (subst (λ (n : ℕ). IsSomeAnd (slice_get all.case.links n) (λ link. IsComparisonOf all.case.logs link ends)) same place.2)
