-- Lanes of which only the headers were read.
use Rattle.std.proofs.Common.{◌≡◌, ◌≢◌, inl, inr, ℕ, suc, zero, ◌<◌, List, [], ◌∷◌, ◌++◌, length, take, get_or, true, ◌+◌, ◌≤◌, Option, Some, None, Result, Ok, refl, sym, ap, subst, ◌∙◌, arith}
use Rattle.std.specs.Prelude.{Contains, IfSome, IsSomeAnd, slice_get, slice_set}
use Rattle.std.proofs.lemmas.List.{take_all, take_more, map-append}
use Rattle.std.proofs.lemmas.Bool.{cases_lt}
use Rattle.std.proofs.lemmas.Option.{get_or_from_slice_get, slice_get-get_or}
use Rattle.std.specs.Option.{option_map}
use Rattle.cap_reader.specs.Defaults.{default_limits}
use Rattle.vat_log.specs.Log.{Log}
use Rattle.vat_log.specs.Reading.{log_of}
use Rattle.vat_log.specs.Streams.{StreamStopsBy}
use Rattle.vat_log.specs.declared.error.LogError.{LogError}
use Rattle.vat_log.specs.declared.read_fault.ReadFault.{ReadFault}
use Rattle.vat_rules.specs.Audit.{Found}
use Rattle.audit_core.specs.Report.{HoldsOfEach}
use Rattle.log_lane.specs.Slim as slim
use Rattle.turn_taking.specs.Turns.{Turns, records_taken, AreInOrder}
use Rattle.turn_taking.specs.Lanes.{LaneSoFar}
use Rattle.turn_taking.specs.Pass.{lane_vat, logs_of, AreThere, IsLaneAt, IsPass}
use Rattle.turn_taking.specs.Turned.{Taken}
use Rattle.log_lane.specs.Lanes.{ReadAhead, as_lane}
use Rattle.stream_audit.specs.Glue.{so_far, AreApart, AreFoundIn}
use Rattle.stream_audit.specs.Streamed.{AreFresh, AreReadWhole, CameWhole, CameToFault, IsFirstFault}

pub some_read : (a b : ReadAhead) → ◌≡◌ {A = Option ReadAhead} (Some a) (Some b) → a ≡ b
some_read a b e = cc

pub lane_seen : (lanes : List (Option ReadAhead)) (i : ℕ) (lane : LaneSoFar) → IsLaneAt (so_far lanes) i lane → (read : ReadAhead) × (slice_get lanes i ≡ Some (Some read)) × (as_lane read ≡ lane)
lane_seen [] i lane is = absurd (let no : ⊥ = cc in no)
lane_seen (None ∷ lanes) zero lane is = absurd (let no : ⊥ = cc in no)
lane_seen (Some read ∷ lanes) zero lane is = (read, refl, same (as_lane read) lane is)
  where
    same : (a b : LaneSoFar) → ◌≡◌ {A = Option (Option LaneSoFar)} (Some (Some a)) (Some (Some b)) → a ≡ b
    same a b e = cc
lane_seen (o ∷ lanes) (suc i) lane is = lane_seen lanes i lane is

-- where the lanes before are of others than this vat, and the one at this place is, those up to there are
pub others_go_on : (lanes : List (Option ReadAhead)) (from place v vat : ℕ) (at : Option ReadAhead)
    → ((i : ℕ) (lane : ReadAhead) → from ≤ i → i < place → slice_get lanes i ≡ Some (Some lane) → lane.read.log.vat ≢ vat)
    → at ≡ get_or lanes place at → IfSome (option_map as_lane at) (λ lane. v ≡ lane.log.vat) → v ≢ vat
    → (i : ℕ) (lane : ReadAhead) → from ≤ i → i < place + 1 → slice_get lanes i ≡ Some (Some lane) → lane.read.log.vat ≢ vat
others_go_on lanes from place v vat at before is seen other i lane above lt stands =
    elim (cases_lt i place) [
      | inl less ↦ before i lane above less stands
      | inr last ↦
          let same : i ≡ place = omega (arith, lt, last) in
          let there = subst (λ (k : ℕ). slice_get lanes k ≡ Some (Some lane)) same stands in
          let read : at ≡ Some lane = is ∙ get_or_from_slice_get lanes place (Some lane) at there in
          λ own. other (subst (λ (o : Option ReadAhead). IfSome (option_map as_lane o) (λ l. v ≡ l.log.vat)) read seen ∙ own)
    ]

there_fresh : (lanes : List (Option ReadAhead)) → AreFresh lanes → AreThere (so_far lanes)
there_fresh [] fresh i lt = absurd (omega (arith, lt))
there_fresh (o ∷ lanes) fresh zero lt = let first = fresh 0 o refl in (as_lane first.lane, ap (λ (p : Option ReadAhead). Some (option_map as_lane p)) first.there)
there_fresh (o ∷ lanes) fresh (suc i) lt = there_fresh lanes (λ k. fresh (suc k)) i (omega (arith, lt))

-- before any turn
pub begun : (lanes : List (Option ReadAhead)) (taken : Taken) → AreFresh lanes → AreApart lanes → taken.in_order ≡ [] → taken.all ≡ [] → IsPass (so_far lanes) taken
begun lanes taken fresh apart none none_too = record {
  there = there_fresh lanes fresh;
  in_step = record {
    each = λ i lane is. (
        let read = lane_seen lanes i lane is in
        let own = fresh i (Some read.0) read.1 in
        let same = some_read read.0 own.lane own.there in
        let records : lane.log.records ≡ [] = ap (λ (l : LaneSoFar). l.log.records) (sym read.2) ∙ ap (λ (r : ReadAhead). r.read.log.records) same ∙ own.none in
        let ahead : lane.ahead ≡ [] = ap (λ (l : LaneSoFar). l.ahead) (sym read.2) ∙ ap (λ (r : ReadAhead). r.ahead) same ∙ own.ahead in
        records ∙ sym ahead ∙ ap (λ (t : Turns). records_taken (lane_vat lane) t ++ lane.ahead) (sym none_too)
        );
    apart = λ i j one other is is_too same. (
        let a = lane_seen lanes i one is in
        let b = lane_seen lanes j other is_too in
        apart i j a.0 b.0 a.1 b.1 (ap lane_vat a.2 ∙ same ∙ ap lane_vat (sym b.2))
        );
    known = λ turn has. (
        let none = subst (λ (t : Turns). Contains t turn) none_too has in
        let lt = none.1 in
        absurd (omega (arith, lt))
        );
  };
  in_order = subst AreInOrder (sym none) tt;
  alike = λ free. none_too ∙ sym none;
}

-- ---- logs that came whole

pub whole_more : (lanes : List (Option ReadAhead)) (logs : List Log) (lane : Option ReadAhead) (log : Log) → AreReadWhole lanes logs → CameWhole lane log → AreReadWhole (lanes ++ lane ∷ []) (logs ++ log ∷ [])
whole_more [] [] lane log whole came = (came, tt)
whole_more [] (other ∷ logs) lane log whole came = absurd whole
whole_more (o ∷ lanes) [] lane log whole came = absurd whole
whole_more (o ∷ lanes) (other ∷ logs) lane log whole came = (whole.0, whole_more lanes logs lane log whole.1 came)

pub logs_more : (lanes : List (Option ReadAhead)) (logs : List Log) (lane : ReadAhead) → logs ≡ logs_of (so_far lanes) → logs ++ lane.read.log ∷ [] ≡ logs_of (so_far (lanes ++ Some lane ∷ []))
logs_more lanes logs lane is = ap (λ (l : List Log). l ++ lane.read.log ∷ []) is ∙ sym (end lanes)
  where
    end : (ls : List (Option ReadAhead)) → logs_of (so_far (ls ++ Some lane ∷ [])) ≡ logs_of (so_far ls) ++ lane.read.log ∷ []
    end [] = refl
    end (None ∷ ls) = end ls
    end (Some o ∷ ls) = ap (λ (l : List Log). o.read.log ∷ l) (end ls)

pub set_same : (lanes : List (Option ReadAhead)) (i : ℕ) (o d : Option ReadAhead) → o ≡ get_or lanes i d → slice_set lanes i o ≡ lanes
set_same [] i o d is = refl
set_same (p ∷ lanes) zero o d is = ap (λ (q : Option ReadAhead). q ∷ lanes) is
set_same (p ∷ lanes) (suc i) o d is = ap (λ (l : List (Option ReadAhead)). p ∷ l) (set_same lanes i o d is)

-- what a lane says of its log, taken
abbrev pub IsLogOf : Option ReadAhead → Found → Type 0
IsLogOf o found =
    (lane : ReadAhead) × (o ≡ Some lane) × (found.log ≡ lane.read.log) × (found.limits ≡ default_limits) × (lane.read.came.is_over ≡ true) × (log_of lane.read.came.bytes ≡ Ok lane.read.log)

each_more : (findings : List Found) (found : Found) → HoldsOfEach (λ (f : Found). f.limits ≡ default_limits) findings → found.limits ≡ default_limits → HoldsOfEach (λ (f : Found). f.limits ≡ default_limits) (findings ++ found ∷ [])
each_more [] found each is zero f at = subst (λ (x : Found). x.limits ≡ default_limits) (same found f at) is
  where
    same : (a b : Found) → ◌≡◌ {A = Option Found} (Some a) (Some b) → a ≡ b
    same a b e = cc
each_more [] found each is (suc k) f at = absurd (let no : ⊥ = cc in no)
each_more (g ∷ findings) found each is zero f at = each 0 f at
each_more (g ∷ findings) found each is (suc k) f at = each_more findings found (λ n. each (suc n)) is k f at

pub found_more : (lanes : List (Option ReadAhead)) (place : ℕ) (d : Option ReadAhead) (findings now : List Found) (found : Found) → place < length lanes → now ≡ findings ++ found ∷ [] → AreFoundIn (take place lanes) findings
    → IsLogOf (get_or lanes place d) found → AreFoundIn (take (place + 1) lanes) now
found_more lanes place d findings now found lt is so log =
    subst (λ (ls : List (Option ReadAhead)). AreFoundIn ls now) (sym (take_more lanes place d lt)) (subst (AreFoundIn (take place lanes ++ get_or lanes place d ∷ [])) (sym is) (record {
      whole = subst (AreReadWhole (take place lanes ++ get_or lanes place d ∷ [])) (sym (map-append (λ (f : Found). f.log) findings (found ∷ [])))
          (whole_more (take place lanes) (slim.logs_audited findings) (get_or lanes place d) found.log so.whole (record { read = log.0; there = log.1; over = log.4; spelled = log.5 ∙ as_read (sym log.2) }));
      within = each_more findings found so.within log.3;
      same = map-append (λ (f : Found). f.log) findings (found ∷ []) ∙ ap (λ (l : Log). slim.logs_audited findings ++ l ∷ []) log.2 ∙ logs_more (take place lanes) (slim.logs_audited findings) log.0 so.same
          ∙ ap (λ (o : Option ReadAhead). logs_of (so_far (take place lanes ++ o ∷ []))) (sym log.1);
    }))
  where
    as_read : {a b : Log} → a ≡ b → ◌≡◌ {A = Result Log LogError} (Ok a) (Ok b)
    as_read e = cc

pub first_fault : (lanes : List (Option ReadAhead)) (place : ℕ) (d : Option ReadAhead) (findings : List Found) (fault : ReadFault) → place < length lanes → AreFoundIn (take place lanes) findings
    → (lane : ReadAhead) × (get_or lanes place d ≡ Some lane) × StreamStopsBy fault lane.read → IsFirstFault lanes place fault
first_fault lanes place d findings fault lt so why = record {
  before = slim.logs_audited findings;
  whole = so.whole;
  own = subst (λ (o : Option (Option ReadAhead)). IsSomeAnd o (λ lane. CameToFault lane fault)) (sym (slice_get-get_or lanes place d lt)) (record { read = why.0; there = why.1; stops = why.2 });
}

pub found_all : (lanes : List (Option ReadAhead)) (place : ℕ) (findings : List Found) → length lanes ≤ place → AreFoundIn (take place lanes) findings → AreFoundIn lanes findings
found_all lanes place findings le so = subst (λ (ls : List (Option ReadAhead)). AreFoundIn ls findings) (take_all place lanes le) so
