-- What a lane knows after it recorded once more.
use Rattle.std.proofs.Common.{◌≡◌, ℕ, ◌+◌, ◌%◌, ◌^◌, ◌<◌, List, [], ◌∷◌, ◌++◌, length, get_or, All, sym, ap, ◌∙◌, subst, arith, inl, inr, length-append}
use Rattle.std.specs.List.Sorted.{IsStrictlyIncreasing}
use Rattle.std.proofs.lemmas.Bool.{cases_lt}
use Rattle.std.proofs.lemmas.List.{get_or_append_left, get_or_push, map-append}
use Rattle.std.specs.declared.alloc.Global.{Global}
use Rattle.atomic_table.specs.Seated.{TableId}
use Rattle.atomic_table.specs.Table.{Me, Allows}
use Rattle.rtrb.specs.Ring.{sent}
use Rattle.rtrb.specs.declared.producer.Producer.{Producer}
use Rattle.vat_log.specs.declared.body.Body.{Body}
use Rattle.vat_tap.specs.declared.ticket_word.SeatKnowledge.{SeatKnowledge}
use Rattle.vat_tap.specs.Glue.Rule.{view, Kept, Draws, Looks}
use Rattle.vat_tap.specs.Tickets.{Ticketed, tickets_of}
use Rattle.vat_tap.specs.Glue.Taps.{IsLane}
use Rattle.vat_tap.proofs.Moves.{draws, looks}

pub rising_push : (xs : List ℕ) (n : ℕ) → IsStrictlyIncreasing xs → All (λ k. k < n) xs → IsStrictlyIncreasing (xs ++ n ∷ [])
rising_push xs n rising below k lt =
    elim (cases_lt (k + 1) (length xs)) [
      | inl inside ↦ rw (get_or_append_left xs (n ∷ []) 0 k (omega arith), get_or_append_left xs (n ∷ []) 0 (k + 1) inside) (rising k inside)
      | inr last ↦ (
          let end : k + 1 ≡ length xs = omega (arith, length-append xs (n ∷ [])) in
          let new : get_or (xs ++ n ∷ []) (k + 1) 0 ≡ n = get_or_push xs n 0 (k + 1) (sym end) in
          rw (get_or_append_left xs (n ∷ []) 0 k (omega arith), new) (below k 0 (omega arith)))
    ]

pub draws_as : (slots seat : ℕ) (me : Me (Unit {0}) SeatKnowledge) (v : SeatKnowledge) → me ≡ (v, []) → length v.tickets < v.room
    → Allows (Kept 1048576) slots seat me 15 (λ n. (n + 1) % 2 ^ 64) (Draws 1048576 me)
draws_as slots seat me v is more =
    subst (λ (m : Me (Unit {0}) SeatKnowledge). Allows (Kept 1048576) slots seat m 15 (λ n. (n + 1) % 2 ^ 64) (Draws 1048576 m)) (sym is) (draws 1048576 slots seat v more (omega arith))

module _ {P : Type 0} where
  pub lane_after : (table word word' : TableId) (me me' : Me (Unit {0}) SeatKnowledge) (recorded share n : ℕ) (said : Body) (ring ring' : Producer Ticketed Global P)
      → IsLane table word me recorded share ring → word' ≡ word → Draws 1048576 me n me' → sent ring' ≡ sent ring ++ (n, said) ∷ [] → recorded < share
      → IsLane table word' me' (recorded + 1) share ring'
  lane_after table word word' me me' recorded share n said ring ring' lane same drawn added room =
      let before = tickets_of (sent ring) in
      let tickets : tickets_of (sent ring') ≡ before ++ n ∷ [] = ap tickets_of added ∙ map-append (λ item. item.0) (sent ring) ((n, said) ∷ []) in
      let told = subst (λ (m : Me (Unit {0}) SeatKnowledge). Draws 1048576 m n me') lane.seat drawn in
      record {
        at = same ∙ lane.at;
        words = ap (λ (t : TableId). t.words) same ∙ lane.words;
        seat = told.0 ∙ ap (λ ts. (view share share ts, [])) (sym tickets);
        count = omega (arith, lane.count, ap length added, length-append (sent ring) ((n, said) ∷ []));
        within = omega arith;
        most = lane.most;
        rising = subst IsStrictlyIncreasing (sym tickets) (rising_push before n lane.rising told.1);
      }

pub looks_as : (slots seat : ℕ) (me : Me (Unit {0}) SeatKnowledge) → me.1 ≡ [] → me.0.room ≡ 1048576 → Allows (Kept 1048576) slots seat me 15 (λ n. n) (Looks me)
looks_as slots seat me none all =
    let is : me ≡ (me.0, []) = λ i. (me.0, none i) in
    subst (λ (m : Me (Unit {0}) SeatKnowledge). Allows (Kept 1048576) slots seat m 15 (λ n. n) (Looks m)) (sym is) (looks 1048576 slots seat me.0 all)
