-- Lanes that are opened, one after another.
use Rattle.std.proofs.Common.{◌≡◌, ℕ, zero, suc, ◌+◌, ◌*◌, ◌/◌, ◌<◌, ◌≤◌, List, [], ◌∷◌, ◌++◌, length, get_or, Some, refl, sym, ap, ◌∙◌, subst, arith, inl, inr, length-append, mul-le-mul_right, div-add-mod', mul_comm}
use Rattle.std.specs.Prelude.{slice_get}
use Rattle.std.proofs.lemmas.Bool.{cases_lt}
use Rattle.std.proofs.lemmas.List.{get_or_append_left, get_or_push}
use Rattle.std.specs.declared.alloc.Global.{Global}
use Rattle.rtrb.specs.Ring.{IsPair, producer_capacity, consumer_capacity}
use Rattle.rtrb.specs.declared.producer.Producer.{Producer}
use Rattle.rtrb.specs.declared.consumer.Consumer.{Consumer}
use Rattle.atomic_table.specs.Seated.{TableId}
use Rattle.vat_tap.specs.Tickets.{Ticketed, Ring, LaneView}
use Rattle.vat_tap.specs.Glue.Taps.{AreNew, ring_of, sending}
use Rattle.vat_tap.proofs.Gathering.{more_times}

-- there is room for one lane's share more
pub enough : (number lanes : ℕ) → number < lanes → number * (1048576 / lanes) + 1048576 / lanes ≤ 1048576
enough number lanes lt =
    let s = 1048576 / lanes in
    let more : (number + 1) * s ≤ lanes * s = mul-le-mul_right s (omega arith) in
    omega (arith, more, more_times number s, mul_comm lanes s, div-add-mod' 1048576 lanes)

module _ {P : Type 0} where
  pub same_ring : (p : Producer Ticketed Global P) (c : Consumer Ticketed Global P) → IsPair p c → consumer_capacity c ≡ producer_capacity p → sending p ≡ ring_of c
  same_ring p c pair room = λ i. record { words = sym pair.0 i; slots = sym pair.1 i; names = sym pair.2 i; heap = sym pair.3 i; room = sym room i }

module _ {X : Type 0} where
  get_front : (xs ys : List X) (k : ℕ) (x : X) → slice_get xs k ≡ Some x → slice_get (xs ++ ys) k ≡ Some x
  get_front [] ys k x e = absurd cc
  get_front (y ∷ xs) ys zero x e = e
  get_front (y ∷ xs) ys (suc k) x e = get_front xs ys k x e

  get_last : (xs : List X) (x : X) → slice_get (xs ++ x ∷ []) (length xs) ≡ Some x
  get_last [] x = refl
  get_last (y ∷ xs) x = get_last xs x

pub new_more : (word : TableId) (share slots : ℕ) (rings : List Ring) (lanes : List LaneView) (ring : Ring) (lane : LaneView) → AreNew word share slots rings lanes → lane.word ≡ word
    → lane.share ≡ share → lane.ring.room ≡ slots → lane.recorded ≡ [] → lane.number ≡ length rings → lane.ring ≡ ring → AreNew word share slots (rings ++ ring ∷ []) (lanes ++ lane ∷ [])
new_more word share slots rings lanes ring lane new at mine room empty number its =
    let long = length-append lanes (lane ∷ []) in
    let E = λ (l : LaneView). (l.word ≡ word) × (l.share ≡ share) × (l.ring.room ≡ slots) × (l.recorded ≡ []) × (slice_get (rings ++ ring ∷ []) l.number ≡ Some l.ring) in
    let last : slice_get (rings ++ ring ∷ []) lane.number ≡ Some lane.ring = ap (slice_get (rings ++ ring ∷ [])) number ∙ get_last rings ring ∙ ap Some (sym its) in
    record {
      count = omega (arith, long, length-append rings (ring ∷ []), new.count);
      each = λ k d lt.
          elim (cases_lt k (length lanes)) [
            | inl less ↦ (
                let was = new.each k d less in
                subst E (sym (get_or_append_left lanes (lane ∷ []) d k less)) (was.0, was.1, was.2, was.3, get_front rings (ring ∷ []) (get_or lanes k d).number (get_or lanes k d).ring was.4))
            | inr past ↦ (
                let here : length lanes ≡ k = omega (arith, long, lt, past) in
                subst E (sym (get_or_push lanes lane d k here)) (at, mine, room, empty, last))
          ];
      numbers = λ k d lt.
          elim (cases_lt k (length lanes)) [
            | inl less ↦ ap (λ (l : LaneView). l.number) (get_or_append_left lanes (lane ∷ []) d k less) ∙ new.numbers k d less
            | inr past ↦ (
                let here : length lanes ≡ k = omega (arith, long, lt, past) in
                ap (λ (l : LaneView). l.number) (get_or_push lanes lane d k here) ∙ number ∙ sym new.count ∙ here)
          ];
    }
