-- What lanes tell of the logs that were read.
use Rattle.std.proofs.Common.{◌≡◌, ℕ, suc, zero, ◌<◌, Bool, true, false, List, [], ◌∷◌, ◌++◌, length, get_or, if◌then◌else◌, Option, Some, None, refl, sym, ap, subst, ◌∙◌, arith, inl, inr}
use Rattle.std.specs.Prelude.{◌≢◌, Contains, slice_get}
use Rattle.std.proofs.lemmas.List.{append_assoc, append-nil}
use Rattle.vat_log.specs.Log.{Log}
use Rattle.vat_log.specs.declared.body.Body.{Body}
use Rattle.turn_taking.specs.Turns.{Turns, records_taken, may_follow, AreAll, AreOf}
use Rattle.turn_taking.specs.Orders.{AreLeft, AreStuck}
use Rattle.turn_taking.specs.Orders as orders
use Rattle.turn_taking.specs.Lanes.{LaneSoFar, HasNext}
use Rattle.turn_taking.specs.Turned.{Taken, may_be_next}
use Rattle.turn_taking.specs.Pass.{lane_vat, logs_of, IsLaneAt, AreThere, AreEmpty, AreFurther, IsFurther, AreHeldUp, IsLaneHeldUp, IsPass}
use Rattle.turn_taking.proofs.Sided.{within}

-- ---- the logs of lanes

log_there : (lanes : List (Option LaneSoFar)) (log : Log) (k : ℕ) → k < length (logs_of lanes) → get_or (logs_of lanes) k log ≡ log → (i : ℕ) × (lane : LaneSoFar) × IsLaneAt lanes i lane × (lane.log ≡ log)
log_there [] log k lt is = absurd (omega (arith, lt))
log_there (None ∷ lanes) log k lt is = let found = log_there lanes log k lt is in (suc found.0, found.1, found.2, found.3)
log_there (Some lane ∷ lanes) log zero lt is = (0, lane, refl, is)
log_there (Some lane ∷ lanes) log (suc k) lt is = let found = log_there lanes log k (omega (arith, lt)) is in (suc found.0, found.1, found.2, found.3)

pub lane_of : (lanes : List (Option LaneSoFar)) (log : Log) → Contains (logs_of lanes) log → (i : ℕ) × (lane : LaneSoFar) × IsLaneAt lanes i lane × (lane.log ≡ log)
lane_of lanes log has = log_there lanes log has.0 has.1 has.2

pub has_log : (lanes : List (Option LaneSoFar)) (i : ℕ) (lane : LaneSoFar) → IsLaneAt lanes i lane → Contains (logs_of lanes) lane.log
has_log [] i lane is = absurd cc
has_log (None ∷ lanes) zero lane is = absurd cc
has_log (None ∷ lanes) (suc i) lane is = has_log lanes i lane is
has_log (Some one ∷ lanes) zero lane is = (0, omega arith, ap (λ (l : LaneSoFar). l.log) (first one lane is))
  where
    first : (one lane : LaneSoFar) → ◌≡◌ {A = Option (Option LaneSoFar)} (Some (Some one)) (Some (Some lane)) → one ≡ lane
    first one lane e = cc
has_log (Some one ∷ lanes) (suc i) lane is = let there = has_log lanes i lane is in let lt = there.1 in (suc there.0, omega (arith, lt), there.2)

-- ---- all records

pub took_all : (lanes : List (Option LaneSoFar)) (taken : Taken) → IsPass lanes taken → AreEmpty lanes → AreAll (logs_of lanes) taken.all
took_all lanes taken pass empty = record {
  taken = λ log has. (
      let at = lane_of lanes log has in
      subst (λ (l : Log). l.records ≡ records_taken l.vat taken.all) at.3
      (pass.in_step.each at.0 at.1 at.2 ∙ ap (λ (l : List Body). records_taken (lane_vat at.1) taken.all ++ l) (empty at.0 at.1 at.2) ∙ append-nil (records_taken (lane_vat at.1) taken.all))
      );
  known = λ turn has. (let at = pass.in_step.known turn has in (at.1.log, has_log lanes at.0 at.1 at.2, at.3));
}

-- ---- no more may come

cancel : (xs ys zs : List Body) → xs ++ ys ≡ xs ++ zs → ys ≡ zs
cancel [] ys zs e = e
cancel (x ∷ xs) ys zs e = cancel xs ys zs cc

module _ (lanes later : List (Option LaneSoFar)) (taken : Taken) (free : taken.is_stuck ≡ false) (pass : IsPass lanes taken) (long : length later ≡ length lanes) (there : AreThere later)
    (further : AreFurther lanes later) where
  -- what a log has behind its vat's turns: what is ahead in its lane, and what is read later
  behind : (i : ℕ) (one : LaneSoFar) → IsLaneAt later i one → (lane : LaneSoFar) × IsLaneAt lanes i lane × (so : IsFurther lane one)
      × (one.log.records ≡ records_taken one.log.vat taken.in_order ++ (lane.ahead ++ so.more))
  behind i one is =
      let old = further i one is in
      let lane = old.0 in
      let so = old.2 in
      let own = pass.in_step.each i lane old.1 in (
        lane,
        old.1,
        so,
        so.records ∙ ap (λ (l : List Body). l ++ so.more) own ∙ append_assoc (records_taken (lane_vat lane) taken.all) lane.ahead so.more
            ∙ ap (λ (t : Turns). records_taken (lane_vat lane) t ++ (lane.ahead ++ so.more)) (pass.alike free) ∙ ap (λ (v : ℕ). records_taken v taken.in_order ++ (lane.ahead ++ so.more)) (sym so.vat),
      )

  later_at : (i : ℕ) (lane : LaneSoFar) → IsLaneAt lanes i lane → (one : LaneSoFar) × IsLaneAt later i one
  later_at i lane is = let lt = within lanes i (Some lane) is in there i (omega (arith, long, lt))

  pub are_of : AreOf (logs_of later) taken.in_order
  are_of = record {
    taken = λ log has. (
        let at = lane_of later log has in
        let b = behind at.0 at.1 at.2 in
        (b.0.ahead ++ b.2.more, subst (λ (l : Log). l.records ≡ records_taken l.vat taken.in_order ++ (b.0.ahead ++ b.2.more)) at.3 b.3)
        );
    known = λ turn has. (
        let at = pass.in_step.known turn (subst (λ (t : Turns). Contains t turn) (sym (pass.alike free)) has) in
        let now = later_at at.0 at.1 at.2 in
        let b = further at.0 now.0 now.1 in
        let same = same_lane_at lanes at.0 b.0 at.1 b.1 at.2 in
        (now.0.log, has_log later at.0 now.0 now.1, b.2.vat ∙ ap lane_vat same ∙ at.3)
        );
  }
    where
      same_lane_at : (ls : List (Option LaneSoFar)) (i : ℕ) (a b : LaneSoFar) → IsLaneAt ls i a → IsLaneAt ls i b → a ≡ b
      same_lane_at ls i a b is is_too = some_some a b (sym is ∙ is_too)
        where
          some_some : (a b : LaneSoFar) → ◌≡◌ {A = Option (Option LaneSoFar)} (Some (Some a)) (Some (Some b)) → a ≡ b
          some_some a b e = cc

  first_held : (lane one : LaneSoFar) (so : IsFurther lane one) → IsLaneHeldUp taken lane → HasNext lane → (next : Body) (rest : List Body) → lane.ahead ++ so.more ≡ next ∷ rest → may_be_next taken (lane_vat lane) next ≡ false
  first_held lane one so held has next rest is = at lane.ahead refl
    where
      first_of : (b next : Body) (xs ys : List Body) → b ∷ xs ≡ next ∷ ys → b ≡ next
      first_of b next xs ys e = cc

      none : {P : Type 0} (ys : List Body) → ◌≡◌ {A = List Body} [] (next ∷ ys) → P
      none ys e = absurd cc

      at : (ahead : List Body) → lane.ahead ≡ ahead → may_be_next taken (lane_vat lane) next ≡ false
      at [] empty = elim has [
        | inl some ↦ absurd (some empty)
        | inr ended ↦ none rest (sym (ap (λ (l : List Body). l ++ so.more) empty ∙ (so.over ended).0) ∙ is)
      ]
      at (b ∷ ahead) e =
          let same : b ≡ next = first_of b next (ahead ++ so.more) rest (sym (ap (λ (l : List Body). l ++ so.more) e) ∙ is) in
          held next (ap (λ (l : List Body). slice_get l 0) e ∙ ap Some same)

  pub is_held : (v : ℕ) → ((i : ℕ) (lane : LaneSoFar) → IsLaneAt lanes i lane → lane_vat lane ≡ v → IsLaneHeldUp taken lane × HasNext lane) → orders.IsHeldUp (logs_of later) taken.in_order v
  is_held v held log has own next goes =
      let at = lane_of later log has in
      let b = behind at.0 at.1 at.2 in
      let vats : lane_vat b.0 ≡ v = sym b.2.vat ∙ ap (λ (l : Log). l.vat) at.3 ∙ own in
      let lane_held = held at.0 b.0 b.1 vats in
      let is : one_records at.1 ≡ records_taken (lane_vat at.1) taken.in_order ++ next ∷ goes.0 = subst (λ (l : Log). l.records ≡ records_taken l.vat taken.in_order ++ next ∷ goes.0) (sym at.3) goes.1 in
      let rest = cancel (records_taken (lane_vat at.1) taken.in_order) (b.0.ahead ++ b.2.more) (next ∷ goes.0) (sym b.3 ∙ is) in
      let none = first_held b.0 at.1 b.2 lane_held.0 lane_held.1 next goes.0 rest in
      ap (λ (w : ℕ). may_follow taken.in_order w next) (sym vats) ∙ sym (free_may taken.is_stuck (may_follow taken.in_order (lane_vat b.0) next) free) ∙ none
    where
      one_records : LaneSoFar → List Body
      one_records one = one.log.records

      free_may : (stuck answer : Bool) → stuck ≡ false → (if stuck then true else answer) ≡ answer
      free_may false answer is = refl
      free_may true answer is = absurd cc

  pub are_stuck : AreHeldUp lanes taken → AreStuck (logs_of later) taken.in_order
  are_stuck held v = is_held v (λ i lane is own. held i lane is)

  pub are_left : (i : ℕ) (lane : LaneSoFar) → IsLaneAt lanes i lane → lane.ahead ≢ [] → AreLeft (logs_of later) taken.in_order
  are_left i lane is some =
      let now = later_at i lane is in
      let b = behind i now.0 now.1 in
      let same = some_some b.0 lane (sym b.1 ∙ is) in
      from now.0.log (has_log later i now.0 now.1) b.0.ahead b.2.more (λ e. some (ap (λ (l : LaneSoFar). l.ahead) (sym same) ∙ e)) b.3
    where
      some_some : (a b : LaneSoFar) → ◌≡◌ {A = Option (Option LaneSoFar)} (Some (Some a)) (Some (Some b)) → a ≡ b
      some_some a b e = cc

      from : (log : Log) → Contains (logs_of later) log → (ahead more : List Body) → ahead ≢ [] → log.records ≡ records_taken log.vat taken.in_order ++ (ahead ++ more) → AreLeft (logs_of later) taken.in_order
      from log has [] more some is = absurd (some refl)
      from log has (next ∷ ahead) more some is = (log, has, next, (ahead ++ more, is))
