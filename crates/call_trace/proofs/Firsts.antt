-- Of a good log of version 1 or 2 each record is good by the first edition, read as the later one reads it.
use Rattle.std.proofs.Common.{◌≡◌, refl, sym, ◌∙◌, ap, subst, ℕ, zero, suc, ◌+◌, ◌<◌, ◌≤◌, List, ◌∷◌, length, Bool, true, false, Some, Result, Ok, Err, slice_get, arith}
use Rattle.std.specs.Prelude.{Contains}
use Rattle.std.proofs.lemmas.Option.{slice_get_within}
use Rattle.cap_frame.specs.Segments.{segments_of}
use Rattle.cap_reader.specs.declared.limits.Limits.{Limits}
use Rattle.rpc_view.specs.Message.{message_of_bytes}
use Rattle.rpc_view.specs.declared.view_error.ViewError.{ViewError}
use Rattle.rpc_view.proofs.Editions.{more_in_frame}
use Rattle.vat_log.specs.Log.{Log}
use Rattle.vat_log.specs.declared.body.Body.{Body}
use Rattle.vat_log.specs.declared.body.Body.TheVariants as body
use Rattle.decoded_records.specs.Decoding.{made_with}
use Rattle.vat_rules.specs.declared.outcome.Why.{Why}
use Rattle.vat_rules.specs.declared.outcome.Outcome.{Outcome}
use Rattle.vat_rules.specs.declared.outcome.Outcome.TheVariants as outcome
use Rattle.vat_rules.specs.Audit.{Found, IsTrueOf, read_as, why_of, reads_by, reads_within, edition_of}
use Rattle.vat_rules.specs.Events.{event_of, past_at}
use Rattle.vat_rules.specs.First.{AllGood, IsFirst}
use Rattle.vat_rules.specs.Judged.{IsGoodBy}
use Rattle.vat_rules.specs.Types.{First}
use Rattle.vat_rules.proofs.Firsts.{past_at-more}
use Rattle.call_trace.specs.Findings.{AreOfFirstEdition, AreTrue, MayBeNamed, is_good}
use Rattle.call_trace.specs.Named.{past_before}
use Rattle.call_trace.specs.Taking.{row_of}
use Rattle.call_trace.specs.Types.{RpcMessage, DecodedRecord, Wire}
use Rattle.call_trace.proofs.Next.{some_same, ok_same, each_next}
use Rattle.call_trace.proofs.Reading.{IsGoodRecord, there_is, with_is}
use Rattle.call_trace.proofs.Sharing.{says_good, says_true}
use Rattle.agree.specs.Points.{AtEach}
use Rattle.agree.specs.Rows.{Row, log_of_vat}

-- ---- what is read by the first edition is read alike by the later one

message_is : (a b : RpcMessage) → ◌≡◌ {A = Result RpcMessage Why} (Ok a) (Ok b) → a ≡ b
message_is a b e = cc

why_not : (a : Why) (b : RpcMessage) → ◌≡◌ {A = Result RpcMessage Why} (Err a) (Ok b) → ⊥
why_not a b e = cc

was_read : (r : Result RpcMessage ViewError) (m : RpcMessage) → ◌≡◌ {A = Result RpcMessage Why} (read_as r) (Ok m) → r ≡ Ok m
was_read (Ok n) m h = ap (λ (x : RpcMessage). let r : Result RpcMessage ViewError = Ok x in r) (message_is n m h)
was_read (Err e) m h = absurd (why_not (why_of e) m h)

frame_alike : (limits : Limits) (frame : List ℕ) (m : RpcMessage) → reads_by First limits frame ≡ Ok m → reads_within limits frame ≡ Ok m
frame_alike limits frame m h = ap read_as (more_in_frame (segments_of frame) limits m (was_read (message_of_bytes First frame limits) m h)).0

sent_alike : (limits : Limits) (sent : Bool) (k c : ℕ) (rs frame : List ℕ) (e : DecodedRecord) → made_with (Wire sent k c rs) (reads_by First limits frame) ≡ Ok e → made_with (Wire sent k c rs) (reads_within limits frame) ≡ Ok e
sent_alike limits sent k c rs frame e h =
    let at = with_is (Wire sent k c rs) (reads_by First limits frame) e h in
    subst (λ e. made_with (Wire sent k c rs) (reads_within limits frame) ≡ Ok e) (sym at.2) (ap (made_with (Wire sent k c rs)) (frame_alike limits frame at.0 at.1))

event_alike : (limits : Limits) (b : Body) (e : DecodedRecord) → event_of (reads_by First limits) b ≡ Ok e → event_of (reads_within limits) b ≡ Ok e
event_alike limits (body.Send k c rs frame) e h = sent_alike limits true k c rs frame e h
event_alike limits (body.Receive k c rs frame) e h = sent_alike limits false k c rs frame e h
event_alike limits _ e h = h

-- ---- a good log of the first edition

module _ (f : Found) (all : AllGood First (reads_by First f.limits) f.log.records (length f.log.records)) where
  read_alike : (i : ℕ) → i < length f.log.records → (b : Body) × (slice_get f.log.records i ≡ Some b) × (e : DecodedRecord) × (event_of (reads_by First f.limits) b ≡ Ok e) × (event_of (reads_within f.limits) b ≡ Ok e)
      × IsGoodBy First (past_at (reads_by First f.limits) f.log.records i) e
  read_alike i lt =
      let this = all i lt in
      let b = there_is (λ b. event_of (reads_by First f.limits) b ≡ Ok this.0) (slice_get f.log.records i) this.1 in
      (b.0, b.1, this.0, b.2, event_alike f.limits b.0 this.0 b.2, this.2)

  past_alike : (n : ℕ) → n ≤ length f.log.records → past_at (reads_by First f.limits) f.log.records n ≡ past_before f n
  past_alike zero le = refl
  past_alike (suc n) le =
      let one : suc n ≡ n + 1 = omega arith in
      let r = read_alike n (omega (arith, le)) in
      ap (past_at (reads_by First f.limits) f.log.records) one ∙ past_at-more (reads_by First f.limits) f.log.records n r.0 r.2 r.1 r.3 ∙ ap (λ p. r.2 ∷ p) (past_alike n (omega (arith, le)))
      ∙ sym (past_at-more (reads_within f.limits) f.log.records n r.0 r.2 r.1 r.4) ∙ sym (ap (past_before f) one)

  good_by_first : (i : ℕ) (r : IsGoodRecord f i) → IsGoodBy First (past_before f i) r.event
  good_by_first i r =
      let lt = slice_get_within f.log.records i r.body r.there in
      let a = read_alike i lt in
      let body : a.0 ≡ r.body = some_same (slice_get f.log.records i) a.0 r.body a.1 r.there in
      let event : a.2 ≡ r.event = ok_same (event_of (reads_within f.limits) r.body) a.2 r.event (ap (event_of (reads_within f.limits)) (sym body) ∙ a.4) r.reads in
      subst (λ p. IsGoodBy First p r.event) (past_alike i (omega (arith, lt))) (subst (IsGoodBy First (past_at (reads_by First f.limits) f.log.records i)) event a.5)

all_first : (log : Log) (limits : Limits) (o : Outcome) → edition_of log ≡ First → IsTrueOf log limits o → is_good o ≡ true → AllGood First (reads_by First limits) log.records (length log.records)
all_first log limits (outcome.Good story) first true_of good = (subst (λ edition. IsFirst edition (reads_by edition limits) log.records (outcome.Good story)) first true_of).0
all_first log limits (outcome.Broken at rule) first true_of good = absurd (let no : ⊥ = cc in no)
all_first log limits (outcome.Outside at why) first true_of good = absurd (let no : ⊥ = cc in no)

-- a record of a row is good by the first edition after those of its vat
abbrev pub IsFirstNext : Row → ℕ × DecodedRecord → Type 0
IsFirstNext before r = IsGoodBy First (log_of_vat r.0 before) r.1

-- where all logs are of the first edition, each record of the row is so
pub firsts_good : (findings : List Found) (order : List ℕ) → AreTrue findings → MayBeNamed findings order → AreOfFirstEdition findings → AtEach IsFirstNext (row_of findings order)
firsts_good findings order true_all asked firsts = each_next findings order true_all asked (IsGoodBy First) good_there
  where
    good_there : (f : Found) → Contains findings f → (i : ℕ) (r : IsGoodRecord f i) → IsGoodBy First (past_before f i) r.event
    good_there f there i r =
        let first = subst (λ (g : Found). edition_of g.log ≡ First) there.2 (firsts there.0 f there.1) in
        good_by_first f (all_first f.log f.limits f.outcome first (says_true findings order true_all asked f there) (says_good findings order true_all asked f there)) i r
