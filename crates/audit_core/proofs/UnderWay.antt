-- How many frames are under way: on the links of a case that ties up there are all frames that its logs sent and received,
-- each on one link and at one of its ends.
use Rattle.std.proofs.Common.{◌≡◌, ◌≢◌, ℕ, ◌+◌, ◌-◌, ◌≤◌, min, max, Bool, true, false, cond, List, [], ◌∷◌, length, Option, Some, None, is_some, refl, sym, ap, ◌∙◌, subst, inl, inr, eq-eqb, arith}
use Rattle.std.specs.Prelude.{◌⊎◌, ◌==◌, ◌||◌, if◌then◌else◌, Contains, IsTrue, sum_by, count_by, slice_get}
use Rattle.std.specs.List.{filter_map, cons_option, list_any}
use Rattle.std.proofs.lemmas.Bool.{cases_lt, or_left}
use Rattle.std.proofs.lemmas.List.Folds.{list_any_at}
use Rattle.std.proofs.lemmas.List.Sums.{sum_by-cons, count_by-le-length}
use Rattle.std.proofs.lemmas.Option.{slice_get_within, get_or_from_slice_get}
use Rattle.vat_log.specs.Log.{Log}
use Rattle.vat_log.specs.declared.body.Body.{Body}
use Rattle.vat_log.specs.declared.body.Body.TheVariants as body
use Rattle.link_check.specs.Prefix.{Ends, frames_sent, frames_received}
use Rattle.vat_log.specs.Passages.{frame_sent, frame_received, sends_frame, receives_frame, sends, receives}
use Rattle.link_check.proofs.Faults.{length_prefix}
use Rattle.case_book.specs.Books.{AllFound, AreAll}
use Rattle.case_book.specs.Case.{vats_of, connections_of}
use Rattle.case_book.specs.declared.link.Link.{Link}
use Rattle.case_book.proofs.Numbers.{bool_cases}
use Rattle.case_book.proofs.Numbered.{stands_once, under}
use Rattle.case_book.proofs.Tied.{has_ends}
use Rattle.audit_core.specs.Report.{count_all, records_in, AreGoodEnds, AreGoodFindings}
use Rattle.audit_core.specs.Glue.{case_record_limit, sent_on, received_on, under_way_on}
use Rattle.audit_core.proofs.Places.{place_of, contained, one_of_number}
use Rattle.audit_core.proofs.Sums.{same_sums, sum_of_none, sum_of_one, sum_of_two, swapped, taken_away, no_greater, AreApart}
use Rattle.audit_core.proofs.Ties.{used, user_is_end}
use Rattle.audit_core.proofs.Whole.{ends_at, link_own}

-- ---- frames are counted as records

one_more : {X : Type 0} (o : Option X) (rest : List X) → length (cons_option o rest) ≡ cond (is_some o) 1 0 + length rest
one_more None rest = omega arith
one_more (Some x) rest = omega arith

as_many : {X : Type 0} (f : Body → Option X) (bs : List Body) → length (filter_map f bs) ≡ count_by (λ b. is_some (f b)) bs
as_many f [] = refl
as_many f (b ∷ bs) = omega (arith, one_more (f b) (filter_map f bs), as_many f bs, sum_by-cons (λ (x : Body). cond (is_some (f x)) 1 0) b bs)

-- ---- records of one kind, with their frames on a connection

-- a record is of the kind just where it has a frame on a connection, and then it uses that connection
record IsKind (frame_on : ℕ → Body → Option (List ℕ)) (test : Body → Bool) : Type 0 where
  somewhere : (b : Body) → test b ≡ true → (k : ℕ) × (is_some (frame_on k b) ≡ true)
  anywhere : (b : Body) (k : ℕ) → is_some (frame_on k b) ≡ true → (test b ≡ true) × ((sends_frame k b || receives_frame k b) ≡ true)

holds : (here : Bool) (frame : List ℕ) → is_some (if here then Some frame else None) ≡ true → here ≡ true
holds true frame e = refl
holds false frame e = absurd cc

sends_on : (b : Body) → sends b ≡ true → (k : ℕ) × (is_some (frame_sent k b) ≡ true)
sends_on (body.Host reference object) e = absurd cc
sends_on (body.Vow reference) e = absurd cc
sends_on (body.Fulfil reference to) e = absurd cc
sends_on (body.Break reference) e = absurd cc
sends_on (body.Make call reference interface method) e = absurd cc
sends_on (body.Field reference call path) e = absurd cc
sends_on (body.Deliver call object) e = absurd cc
sends_on (body.Answer call results) e = absurd cc
sends_on (body.Fault call) e = absurd cc
sends_on (body.Send connection call references frame) e = (connection, rw (eq-eqb connection connection refl) refl)
sends_on (body.Receive connection call references frame) e = absurd cc
sends_on (body.AnswerBy call by) e = absurd cc

sends_it : (b : Body) (k : ℕ) → is_some (frame_sent k b) ≡ true → (sends b ≡ true) × ((sends_frame k b || receives_frame k b) ≡ true)
sends_it (body.Host reference object) k e = absurd cc
sends_it (body.Vow reference) k e = absurd cc
sends_it (body.Fulfil reference to) k e = absurd cc
sends_it (body.Break reference) k e = absurd cc
sends_it (body.Make call reference interface method) k e = absurd cc
sends_it (body.Field reference call path) k e = absurd cc
sends_it (body.Deliver call object) k e = absurd cc
sends_it (body.Answer call results) k e = absurd cc
sends_it (body.Fault call) k e = absurd cc
sends_it (body.Send connection call references frame) k e = (refl, or_left (connection == k) false (holds (connection == k) frame e))
sends_it (body.Receive connection call references frame) k e = absurd cc
sends_it (body.AnswerBy call by) k e = absurd cc

receives_on : (b : Body) → receives b ≡ true → (k : ℕ) × (is_some (frame_received k b) ≡ true)
receives_on (body.Host reference object) e = absurd cc
receives_on (body.Vow reference) e = absurd cc
receives_on (body.Fulfil reference to) e = absurd cc
receives_on (body.Break reference) e = absurd cc
receives_on (body.Make call reference interface method) e = absurd cc
receives_on (body.Field reference call path) e = absurd cc
receives_on (body.Deliver call object) e = absurd cc
receives_on (body.Answer call results) e = absurd cc
receives_on (body.Fault call) e = absurd cc
receives_on (body.Send connection call references frame) e = absurd cc
receives_on (body.Receive connection call references frame) e = (connection, rw (eq-eqb connection connection refl) refl)
receives_on (body.AnswerBy call by) e = absurd cc

receives_it : (b : Body) (k : ℕ) → is_some (frame_received k b) ≡ true → (receives b ≡ true) × ((sends_frame k b || receives_frame k b) ≡ true)
receives_it (body.Host reference object) k e = absurd cc
receives_it (body.Vow reference) k e = absurd cc
receives_it (body.Fulfil reference to) k e = absurd cc
receives_it (body.Break reference) k e = absurd cc
receives_it (body.Make call reference interface method) k e = absurd cc
receives_it (body.Field reference call path) k e = absurd cc
receives_it (body.Deliver call object) k e = absurd cc
receives_it (body.Answer call results) k e = absurd cc
receives_it (body.Fault call) k e = absurd cc
receives_it (body.Send connection call references frame) k e = absurd cc
receives_it (body.Receive connection call references frame) k e = (refl, holds (connection == k) frame e)
receives_it (body.AnswerBy call by) k e = absurd cc

sending : IsKind frame_sent sends
sending = record { somewhere = sends_on; anywhere = sends_it }

receiving : IsKind frame_received receives
receiving = record { somewhere = receives_on; anywhere = receives_it }

-- a record that uses a connection makes its log use it
log_uses : (log : Log) (i k : ℕ) (b : Body) → slice_get log.records i ≡ Some b → (sends_frame k b || receives_frame k b) ≡ true
    → IsTrue (list_any (λ x. sends_frame k x || receives_frame k x) log.records)
log_uses log i k b at so =
    list_any_at (λ x. sends_frame k x || receives_frame k x) log.records i b (slice_get_within log.records i b at)
    (ap (λ x. sends_frame k x || receives_frame k x) (get_or_from_slice_get log.records i b b at) ∙ so)

-- one connection is used
one_used : (b : Body) (k n : ℕ) → (sends_frame k b || receives_frame k b) ≡ true → (sends_frame n b || receives_frame n b) ≡ true → k ≡ n
one_used b k n here there = let both : Some k ≡ Some n = sym (used b k here) ∙ used b n there in cc

-- ---- the links of a case

-- no vat but these two is at the ends
no_third : (a b first second vat : ℕ) → first ≡ min a b → second ≡ max a b → (a ≡ vat) ⊎ (b ≡ vat) → vat ≢ first → vat ≢ second → ⊥
no_third a b first second vat low high (inl end) apart also =
    elim (cases_lt a b) [
      | inl lt ↦ apart (omega (arith, low, end))
      | inr ge ↦ also (omega (arith, high, end))
    ]
no_third a b first second vat low high (inr end) apart also =
    elim (cases_lt a b) [
      | inl lt ↦ also (omega (arith, high, end))
      | inr ge ↦ apart (omega (arith, low, end))
    ]

differ : (a b first second : ℕ) → first ≡ min a b → second ≡ max a b → a ≢ b → second ≢ first
differ a b first second low high apart same =
    elim (cases_lt a b) [
      | inl lt ↦ absurd (omega (arith, low, high, same))
      | inr ge ↦ apart (omega (arith, low, high, same))
    ]

module _ (all : AllFound) (whole : AreAll all) (frame_on : ℕ → Body → Option (List ℕ)) (test : Body → Bool) (kind : IsKind frame_on test) where
  links_apart : AreApart (λ (ends : Ends). ends.connection) all.links
  links_apart i j one other here there same =
      let own = link_own all whole i one here in
      let its = link_own all whole j other there in
      stands_once (connections_of all.case.links) whole.holds.rising_links i j other.connection
      (under (λ (link : Link). link.connection) all.case.links i own.0 other.connection own.1 (sym own.2.connection ∙ same))
      (under (λ (link : Link). link.connection) all.case.links j its.0 other.connection its.1 (sym its.2.connection))

  logs_apart : AreApart (λ (log : Log). log.vat) all.case.logs
  logs_apart i j one other here there same =
      stands_once (vats_of all.case.logs) whole.holds.rising_vats i j other.vat
      (under (λ (log : Log). log.vat) all.case.logs i one other.vat here same)
      (under (λ (log : Log). log.vat) all.case.logs j other other.vat there refl)

  abbrev on : ℕ → Body → Bool
  on k b = is_some (frame_on k b)

  -- what one record adds, over all links
  abbrev adds : Body → Ends → ℕ
  adds b ends = cond (on ends.connection b) 1 0

  adds_none : (b : Body) (ends : Ends) → (on ends.connection b ≡ true → ⊥) → adds b ends ≡ 0
  adds_none b ends off =
      elim (bool_cases (on ends.connection b)) [
        | inl here ↦ absurd (off here)
        | inr not_here ↦ rw not_here refl
      ]

  each_once : (log : Log) → Contains all.case.logs log → (i : ℕ) (b : Body) → slice_get log.records i ≡ Some b → cond (test b) 1 0 ≡ sum_by (adds b) all.links
  each_once log held i b at =
      elim (bool_cases (test b)) [
        | inl so ↦
            let k = kind.somewhere b so in
            let used_k = (kind.anywhere b k.0 k.1).1 in
            let end = user_is_end all.case whole.tied log k.0 held (log_uses log i k.0 b at used_k) in
            let own = ends_at all whole end.place end.link end.there in
            let same : own.0.connection ≡ k.0 = own.2.connection ∙ end.number in
            let here : on own.0.connection b ≡ true = subst (λ (n : ℕ). on n b ≡ true) (sym same) k.1 in
            let one : sum_by (adds b) all.links ≡ adds b own.0 = sum_of_one (λ (ends : Ends). ends.connection) (adds b) all.links end.place own.0 links_apart own.1
            (λ j ends there other. adds_none b ends (λ on_it. other (one_used b ends.connection k.0 (kind.anywhere b ends.connection on_it).1 used_k ∙ sym same))) in
            rw (so, one, here) refl
        | inr not_so ↦
            ap (λ (passes : Bool). cond passes 1 0) not_so
            ∙ sym (sum_of_none (adds b) all.links (λ j ends there. adds_none b ends (λ here. (let so = (kind.anywhere b ends.connection here).0 in cc))))
      ]

  -- the records of a log are those on all links
  in_log : (log : Log) → Contains all.case.logs log → count_by test log.records ≡ sum_by (λ (ends : Ends). count_by (on ends.connection) log.records) all.links
  in_log log held =
      same_sums (λ (b : Body). cond (test b) 1 0) (λ (b : Body). sum_by (adds b) all.links) log.records (each_once log held)
      ∙ swapped adds log.records all.links

  -- those of all logs on a link are those of its two ends
  no_user : (j : ℕ) (ends : Ends) → slice_get all.links j ≡ Some ends → (k : ℕ) (log : Log) → slice_get all.case.logs k ≡ Some log
      → log.vat ≢ ends.first.vat → log.vat ≢ ends.second.vat → count_by (on ends.connection) log.records ≡ 0
  no_user j ends at k log there apart also =
      let own = link_own all whole j ends at in
      sum_of_none (λ (b : Body). adds b ends) log.records (λ i b here. adds_none b ends (λ so. (
      let end = user_is_end all.case whole.tied log ends.connection (contained all.case.logs k log there) (log_uses log i ends.connection b here (kind.anywhere b ends.connection so).1) in
      let same : end.link ≡ own.0 = one_of_number (λ (link : Link). link.connection) all.case.links whole.holds.rising_links end.place j end.link own.0 end.there own.1 (end.number ∙ own.2.connection) in
      let side = subst (λ (link : Link). (link.a ≡ log.vat) ⊎ (link.b ≡ log.vat)) same end.end in
      no_third own.0.a own.0.b ends.first.vat ends.second.vat log.vat own.2.smaller own.2.greater side apart also
      )))

  at_ends : (j : ℕ) (ends : Ends) → slice_get all.links j ≡ Some ends
      → sum_by (λ (log : Log). count_by (on ends.connection) log.records) all.case.logs ≡ count_by (on ends.connection) ends.first.records + count_by (on ends.connection) ends.second.records
  at_ends j ends at =
      let own = link_own all whole j ends at in
      let first = place_of all.case.logs ends.first own.2.first_held in
      let second = place_of all.case.logs ends.second own.2.second_held in
      let apart = has_ends all.case whole.tied j own.0 own.1 in
      sum_of_two (λ (log : Log). log.vat) (λ (log : Log). count_by (on ends.connection) log.records) all.case.logs logs_apart first.0 second.0 ends.first ends.second first.1 second.1
      (differ own.0.a own.0.b ends.first.vat ends.second.vat own.2.smaller own.2.greater apart.apart) (no_user j ends at)

  -- the frames of both ends
  abbrev at_both : Ends → ℕ
  at_both ends = length (filter_map (frame_on ends.connection) ends.first.records) + length (filter_map (frame_on ends.connection) ends.second.records)

  all_at : (j : ℕ) (ends : Ends) → slice_get all.links j ≡ Some ends → sum_by (λ (log : Log). count_by (on ends.connection) log.records) all.case.logs ≡ at_both ends
  all_at j ends at =
      let first = as_many (frame_on ends.connection) ends.first.records in
      let second = as_many (frame_on ends.connection) ends.second.records in
      omega (arith, at_ends j ends at, first, second)

  all_on_links : count_all test all.case.logs ≡ sum_by at_both all.links
  all_on_links =
      same_sums (λ (log : Log). count_by test log.records) (λ (log : Log). sum_by (λ (ends : Ends). count_by (on ends.connection) log.records) all.links) all.case.logs
      (λ k log at. in_log log (contained all.case.logs k log at))
      ∙ swapped (λ (log : Log) (ends : Ends). count_by (on ends.connection) log.records) all.case.logs all.links
      ∙ same_sums (λ (ends : Ends). sum_by (λ (log : Log). count_by (on ends.connection) log.records) all.case.logs) at_both all.links all_at

-- ---- so what is under way on good links is what was sent without what was received

pub received_less : (ends : Ends) → AreGoodEnds ends → received_on ends ≤ sent_on ends
received_less ends good =
    let k = ends.connection in
    let first = length_prefix (frames_received k ends.first) (frames_sent k ends.second) good.at_first in
    let second = length_prefix (frames_received k ends.second) (frames_sent k ends.first) good.at_second in
    omega (arith, first, second)

module _ (all : AllFound) (good : AreGoodFindings all) where
  all_sent : count_all sends all.case.logs ≡ sum_by sent_on all.links
  all_sent = all_on_links all good.whole frame_sent sends sending

  all_received : count_all receives all.case.logs ≡ sum_by received_on all.links
  all_received = all_on_links all good.whole frame_received receives receiving

  left : sum_by under_way_on all.links + sum_by received_on all.links ≡ sum_by sent_on all.links
  left = taken_away sent_on received_on all.links (λ j ends at. received_less ends (good.links_good j ends at))

  pub under_way_is : sum_by under_way_on all.links ≡ count_all sends all.case.logs - count_all receives all.case.logs
  under_way_is = omega (arith, left, all_sent, all_received)

  pub few_under_way : (records : ℕ) → records ≡ records_in all.case.logs → records ≤ case_record_limit → sum_by under_way_on all.links ≤ case_record_limit
  few_under_way records are few =
      let no_more = no_greater (λ (log : Log). count_by sends log.records) (λ (log : Log). length log.records) all.case.logs (λ i log at. count_by-le-length sends log.records) in
      omega (arith, left, all_sent, no_more, are, few)
