-- A vat takes its turns with the records ahead in its lane, one after another.
use Rattle.std.proofs.Common.{◌≡◌, ℕ, ◌+◌, ◌<◌, ◌≤◌, Bool, true, false, List, [], ◌∷◌, ◌++◌, map, drop, if◌then◌else◌, Option, Some, None, refl, sym, ap, subst, ◌∙◌, arith}
use Rattle.std.specs.Prelude.{IfSome, option_map, slice_get}
use Rattle.std.proofs.lemmas.List.{reverse-append, append_assoc, length-append}
use Rattle.vat_log.specs.Log.{Log}
use Rattle.vat_log.specs.declared.body.Body.{Body}
use Rattle.turn_taking.specs.Turns.{Turns, may_follow, AreInOrder}
use Rattle.turn_taking.specs.Lanes.{LaneSoFar, without_first}
use Rattle.turn_taking.specs.Turned.{Taken, with_turn, may_be_next}
use Rattle.turn_taking.specs.Pass.{lane_vat, turns_with, TookTurns, IsLaneHeldUp}

first_and_rest : (bodies : List Body) (first : Body) → slice_get bodies 0 ≡ Some first → bodies ≡ first ∷ drop 1 bodies
first_and_rest [] first e = absurd cc
first_and_rest (b ∷ bodies) first e = ap (λ (x : Body). x ∷ bodies) cc

turns_more : (v : ℕ) (records : List Body) (body : Body) (turns : Turns) → turns_with v (records ++ body ∷ []) ++ turns ≡ (v, body) ∷ (turns_with v records ++ turns)
turns_more v records body turns = ap (λ (back : List Body). map (λ b. (v, b)) back ++ turns) (reverse-append records (body ∷ []))

free_turn : (stuck : Bool) (turn : ℕ × Body) (turns : Turns) → stuck ≡ false → (if stuck then turns else turn ∷ turns) ≡ turn ∷ turns
free_turn false turn turns is = refl
free_turn true turn turns is = absurd cc

stuck_turn : (stuck : Bool) (turn : ℕ × Body) (turns : Turns) → stuck ≡ true → (if stuck then turns else turn ∷ turns) ≡ turns
stuck_turn true turn turns is = refl
stuck_turn false turn turns is = absurd cc

order_more : (stuck : Bool) (v : ℕ) (body : Body) (turns : Turns) → (if stuck then true else may_follow turns v body) ≡ true → AreInOrder turns → AreInOrder (if stuck then turns else (v, body) ∷ turns)
order_more true v body turns may fits = fits
order_more false v body turns may fits = (may, fits)

pub took_none : (lane : LaneSoFar) (taken : Taken) → TookTurns lane lane taken taken 0
took_none lane taken = record {
  came = refl;
  log = refl;
  ended = refl;
  records = [];
  counted = refl;
  ahead = refl;
  phase = refl;
  in_turn = λ free. refl;
  kept = λ stuck. refl;
  all = refl;
  in_order = λ so. so;
}

pub took_more : (before lane : LaneSoFar) (taken more : Taken) (count : ℕ) → TookTurns before lane taken more count → (body : Body) → slice_get lane.ahead 0 ≡ Some body
    → may_be_next more (lane_vat before) body ≡ true → TookTurns before (without_first lane) taken (with_turn (lane_vat before, body) more) (count + 1)
took_more before lane taken more count so body first follows =
    let v = lane_vat before in
    record {
      came = so.came;
      log = so.log;
      ended = so.ended;
      records = so.records ++ body ∷ [];
      counted = length-append so.records (body ∷ []) ∙ ap (λ (n : ℕ). n + 1) so.counted;
      ahead = so.ahead ∙ ap (λ (bodies : List Body). so.records ++ bodies) (first_and_rest lane.ahead body first) ∙ sym (append_assoc so.records (body ∷ []) (drop 1 lane.ahead));
      phase = so.phase;
      in_turn = λ free. free_turn more.is_stuck (v, body) more.in_order (so.phase ∙ free) ∙ ap (λ (turns : Turns). (v, body) ∷ turns) (so.in_turn free) ∙ sym (turns_more v so.records body taken.in_order);
      kept = λ stuck. stuck_turn more.is_stuck (v, body) more.in_order (so.phase ∙ stuck) ∙ so.kept stuck;
      all = ap (λ (turns : Turns). (v, body) ∷ turns) so.all ∙ sym (turns_more v so.records body taken.all);
      in_order = λ fits. order_more more.is_stuck v body more.in_order follows (so.in_order fits);
    }

-- ---- what a loop over a lane knows

-- so many turns were taken since a lane and the turns were so
abbrev pub HaveTaken : Option LaneSoFar → Option Taken → Option LaneSoFar → Option Taken → ℕ → ℕ → Type 0
HaveTaken lane turns lane_now turns_now count vat =
    (before : LaneSoFar) (taken : Taken) → lane ≡ Some before → turns ≡ Some taken
    → (after : LaneSoFar) × (more : Taken) × (lane_now ≡ Some after) × (turns_now ≡ Some more) × TookTurns before after taken more count × (vat ≡ lane_vat before)

abbrev FirstIs : Option LaneSoFar → Option Body → Type 0
FirstIs lane first = IfSome lane (λ l. first ≡ slice_get l.ahead 0)

abbrev Follows : Option Taken → ℕ → Body → Bool → Type 0
Follows turns vat body answer = IfSome turns (λ t. answer ≡ may_be_next t vat body)

pub one_more : (lane : Option LaneSoFar) (turns : Option Taken) (lane_now : Option LaneSoFar) (turns_now : Option Taken) (count vat : ℕ) → HaveTaken lane turns lane_now turns_now count vat
    → (body : Body) → FirstIs lane_now (Some body) → Follows turns_now vat body true → (lane_next : Option LaneSoFar) (turns_next : Option Taken)
    → turns_next ≡ option_map (with_turn (vat, body)) turns_now → lane_next ≡ option_map without_first lane_now → HaveTaken lane turns lane_next turns_next (count + 1) vat
one_more lane turns lane_now turns_now count vat so body first follows lane_next turns_next took left before taken there kept =
    let now = so before taken there kept in
    let after = now.0 in
    let more = now.1 in
    let lane_is = now.2 in
    let turns_is = now.3 in
    let has = now.4 in
    let own = now.5 in
    let is_first : slice_get after.ahead 0 ≡ Some body = sym (subst (λ o. FirstIs o (Some body)) lane_is first) in
    let may : may_be_next more (lane_vat before) body ≡ true = ap (λ (v : ℕ). may_be_next more v body) (sym own) ∙ sym (subst (λ o. Follows o vat body true) turns_is follows) in (
      without_first after,
      with_turn (lane_vat before, body) more,
      left ∙ ap (option_map without_first) lane_is,
      took ∙ ap (option_map (with_turn (vat, body))) turns_is ∙ ap (λ (v : ℕ). Some (with_turn (v, body) more)) own,
      took_more before after taken more count has body is_first may,
      own,
    )

-- and it ends: the count was reached, or no record is ahead, or the first may not come
pub held_by_none : (lane : Option LaneSoFar) (turns : Option Taken) (lane_now : Option LaneSoFar) (turns_now : Option Taken) (count vat : ℕ) → HaveTaken lane turns lane_now turns_now count vat
    → FirstIs lane_now None → (before : LaneSoFar) (taken : Taken) → lane ≡ Some before → turns ≡ Some taken
    → (after : LaneSoFar) × (more : Taken) × (lane_now ≡ Some after) × (turns_now ≡ Some more) × TookTurns before after taken more count × (count ≡ 0 → IsLaneHeldUp more after)
held_by_none lane turns lane_now turns_now count vat so first before taken there kept =
    let now = so before taken there kept in
    let none : None ≡ slice_get now.0.ahead 0 = subst (λ o. FirstIs o None) now.2 first in
    (now.0, now.1, now.2, now.3, now.4, λ zero next is. no_first next (none ∙ is))
  where
    no_first : {P : Type 0} (next : Body) → ◌≡◌ {A = Option Body} None (Some next) → P
    no_first next e = absurd cc

pub held_by_first : (lane : Option LaneSoFar) (turns : Option Taken) (lane_now : Option LaneSoFar) (turns_now : Option Taken) (count vat : ℕ) → HaveTaken lane turns lane_now turns_now count vat
    → (body : Body) → FirstIs lane_now (Some body) → Follows turns_now vat body false → (before : LaneSoFar) (taken : Taken) → lane ≡ Some before → turns ≡ Some taken
    → (after : LaneSoFar) × (more : Taken) × (lane_now ≡ Some after) × (turns_now ≡ Some more) × TookTurns before after taken more count × (count ≡ 0 → IsLaneHeldUp more after)
held_by_first lane turns lane_now turns_now count vat so body first follows before taken there kept =
    let now = so before taken there kept in
    let after = now.0 in
    let more = now.1 in
    let has = now.4 in
    let is_first : Some body ≡ slice_get after.ahead 0 = subst (λ o. FirstIs o (Some body)) now.2 first in
    let held : false ≡ may_be_next more vat body = subst (λ o. Follows o vat body false) now.3 follows in
    let own : vat ≡ lane_vat after = now.5 ∙ ap (λ (r : Log). r.vat) (sym has.log) in
    (after, more, now.2, now.3, has, λ zero next is. ap (λ (b : Body). may_be_next more (lane_vat after) b) (same body next (is_first ∙ is)) ∙ ap (λ (v : ℕ). may_be_next more v body) (sym own) ∙ sym held)
  where
    same : (body next : Body) → ◌≡◌ {A = Option Body} (Some body) (Some next) → next ≡ body
    same body next e = cc

pub held_by_count : (lane : Option LaneSoFar) (turns : Option Taken) (lane_now : Option LaneSoFar) (turns_now : Option Taken) (count vat most : ℕ) → HaveTaken lane turns lane_now turns_now count vat
    → 0 < most → most ≤ count → (before : LaneSoFar) (taken : Taken) → lane ≡ Some before → turns ≡ Some taken
    → (after : LaneSoFar) × (more : Taken) × (lane_now ≡ Some after) × (turns_now ≡ Some more) × TookTurns before after taken more count × (count ≡ 0 → IsLaneHeldUp more after)
held_by_count lane turns lane_now turns_now count vat most so some le before taken there kept =
    let now = so before taken there kept in
    (now.0, now.1, now.2, now.3, now.4, λ zero. absurd (omega (arith, zero)))
