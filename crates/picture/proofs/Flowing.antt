-- The order of a case, as the code makes it turn by turn, and as looking back finds it.
use Rattle.std.proofs.Common.{◌≡◌, ◌∙◌, ℕ, zero, suc, ◌+◌, ◌-◌, ◌<◌, Bool, true, false, cond, ◌==◌, List, [], ◌∷◌, ◌++◌, map, length, take, drop, get_or, set, Option, Some, None, refl, sym, ap, subst, eq-eqb, Less, arith, append-nil}
use Rattle.std.specs.Prelude.{option_and_then, option_to_list}
use Rattle.std.specs.List.{AllByRecursion}
use Rattle.std.specs.List.Sorted.{IsStrictlyIncreasing, IsStrictlySortedBy}
use Rattle.std.specs.Option.{option_map, option_map_or}
use Rattle.std.specs.Ordering.{MatchOrdering, nat_cmp}
use Rattle.std.specs.declared.cmp.Ordering.{Ordering}
use Rattle.std.proofs.lemmas.Cmp.{ranked}
use Rattle.std.proofs.lemmas.Bool.{cond-true, cond-false, ne_eqb}
use Rattle.std.proofs.lemmas.Map.Keys.{sorted_from_strictly_increasing}
use Rattle.std.proofs.lemmas.Option.{none-some, same_Some}
use Rattle.vat_log.specs.Log.{Log}
use Rattle.vat_log.specs.Passages.{passage_of}
use Rattle.vat_log.specs.declared.body.Body.{Body}
use Rattle.case_book.specs.Case.{Contents, vats_of}
use Rattle.case_book.specs.declared.link.Link.{Link}
use Rattle.picture.specs.Places.{frames_before, log_by_vat}
use Rattle.picture.specs.Flow.{flow, next_after, other_log, frames_passed_by, with_next}
use Rattle.picture.specs.Glue.Seats.{Seat, seats_after, followed, gone_on, hearing, is_coming, next_of_seat, next_seat, seat_goes_on, seat_of, seats_of, vat_turn_by, turn_of_seat}
use Rattle.picture.specs.declared.order.flow.VatTurn.{VatTurn}
use Rattle.picture.proofs.Seating.{Sits, comes_with, next_goes_on, next_log_as, sits_later}

-- a list whose items are changed one by one, one item further
set_suc : {X : Type 0} (f : X → X) (xs : List X) (i : ℕ) (y d : X) → i < length (map f (take i xs) ++ drop i xs) → y ≡ f (get_or (map f (take i xs) ++ drop i xs) i d)
    → set (map f (take i xs) ++ drop i xs) i y ≡ map f (take (suc i) xs) ++ drop (suc i) xs
set_suc f [] zero y d lt is = absurd (omega arith)
set_suc f [] (suc i) y d lt is = absurd (omega arith)
set_suc f (x ∷ xs) zero y d lt is = ap (λ z. z ∷ xs) is
set_suc f (x ∷ xs) (suc i) y d lt is = ap (λ l. f x ∷ l) (set_suc f xs i y d (omega arith) is)

pub set_further : {X : Type 0} (f : X → X) (xs ys : List X) (i : ℕ) (y d : X) → i < length ys → ys ≡ map f (take i xs) ++ drop i xs → y ≡ f (get_or ys i d)
    → set ys i y ≡ map f (take (i + 1) xs) ++ drop (i + 1) xs
set_further f xs ys i y d lt so_far is =
    let e : suc i ≡ i + 1 = omega arith in
    ap (λ l. set l i y) so_far ∙ set_suc f xs i y d (subst (λ l. i < length l) so_far lt) (is ∙ ap (λ l. f (get_or l i d)) so_far) ∙ ap (λ k. map f (take k xs) ++ drop k xs) e

-- the seats of a case behind these steps
pub record AreSeated (held : Contents) (before : List ℕ) (seats : List Seat) : Type 0 where
  pub logs_are : map (λ s. s.log) seats ≡ held.logs
  pub each : AllByRecursion (Sits held before) seats

-- so many steps are taken
pub record IsFlowing (held : Contents) (steps : ℕ) (order : List ℕ) (seats : List Seat) : Type 0 where
  pub flow_is : order ≡ flow held steps
  pub seated : AreSeated held order seats

each_mapped : {X Y : Type 0} (f : X → Y) (P : X → Type 0) (Q : Y → Type 0) → ((x : X) → P x → Q (f x)) → (xs : List X) → AllByRecursion P xs → AllByRecursion Q (map f xs)
each_mapped f P Q to [] each = tt
each_mapped f P Q to (x ∷ xs) each = (to x each.0, each_mapped f P Q to xs each.1)

-- ---- before the first step

less_apart : (a b : ℕ) → nat_cmp a b ≡ Less → (a == b) ≡ false
less_apart a b less =
    let lt : a < b = subst (λ (r : Ordering). MatchOrdering r (a < b) (a ≡ b) (b < a)) less (ranked a b (nat_cmp a b) refl) in
    ne_eqb a b (λ e. omega (arith, lt, e))

behind : (log : Log) (all logs : List Log) → AllByRecursion (λ vat. nat_cmp log.vat vat ≡ Less) (vats_of logs) → AllByRecursion (λ other. log_by_vat all other.vat ≡ Some other) logs
    → AllByRecursion (λ other. log_by_vat (log ∷ all) other.vat ≡ Some other) logs
behind log all [] less are = tt
behind log all (other ∷ logs) less are =
    (cond-false (log.vat == other.vat) (Some log) (log_by_vat all other.vat) (less_apart log.vat other.vat less.0) ∙ are.0, behind log all logs less.1 are.1)

each_its : (logs : List Log) → IsStrictlySortedBy nat_cmp (vats_of logs) → AllByRecursion (λ log. log_by_vat logs log.vat ≡ Some log) logs
unfolding IsStrictlySortedBy
each_its [] sorted = tt
each_its (log ∷ logs) sorted =
    (cond-true (log.vat == log.vat) (Some log) (log_by_vat logs log.vat) (eq-eqb log.vat log.vat refl), behind log logs logs sorted.0 (each_its logs sorted.1))

none_before : (sent : Bool) (connection : ℕ) (records : List Body) → frames_before sent connection records 0 ≡ 0
none_before sent connection [] = refl
none_before sent connection (event ∷ records) = refl

none_sent : (connection : ℕ) (o : Option Log) → option_map_or (frames_passed_by true connection []) o 0 ≡ 0
none_sent connection None = refl
none_sent connection (Some log) = none_before true connection log.records

seat_begins : (held : Contents) (log : Log) → log_by_vat held.logs log.vat ≡ Some log → Sits held [] (seat_of log)
seat_begins held log its = record {
  its = its;
  came_is = refl;
  coming_are = λ connection. ap (λ n. 0 + n) (none_before false connection log.records) ∙ sym (none_sent connection (other_log held connection log.vat));
}

logs_begin : (logs : List Log) → map (λ s. s.log) (seats_of logs) ≡ logs
logs_begin [] = refl
logs_begin (log ∷ logs) = ap (λ l. log ∷ l) (logs_begin logs)

-- all seats before the first step
pub flow_begins : (held : Contents) (logs : List Log) (seats : List Seat) → logs ≡ held.logs → IsStrictlyIncreasing (vats_of logs) → seats ≡ seats_of logs → IsFlowing held 0 [] seats
unfolding flow
flow_begins held logs seats are rising begun =
    let sorted = sorted_from_strictly_increasing (vats_of held.logs) (subst (λ (l : List Log). IsStrictlyIncreasing (vats_of l)) are rising) in
    let same : seats_of held.logs ≡ seats = ap seats_of (sym are) ∙ sym begun in
    record {
      flow_is = refl;
      seated = subst (AreSeated held []) same (record {
        logs_are = logs_begin held.logs;
        each = each_mapped seat_of (λ log. log_by_vat held.logs log.vat ≡ Some log) (Sits held []) (seat_begins held) held.logs (each_its held.logs sorted);
      });
    }

-- ---- a turn

log_kept : (turn : VatTurn) (seat : Seat) (b : Bool) → (hearing turn (cond b (gone_on turn seat) seat)).log ≡ seat.log
log_kept turn seat true = refl
log_kept turn seat false = refl

logs_kept : (turn : VatTurn) (seats : List Seat) → map (λ s. s.log) (seats_after turn seats) ≡ map (λ s. s.log) seats
logs_kept turn [] = refl
logs_kept turn (seat ∷ seats) =
    ap (λ (l : Log). l ∷ map (λ (s : Seat). s.log) (seats_after turn seats)) (log_kept turn seat (turn.vat == seat.log.vat)) ∙ ap (λ l. seat.log ∷ l) (logs_kept turn seats)

-- who takes a turn
turned : (links : List Link) (o : Option Seat) (turn : VatTurn) → Some turn ≡ option_map (turn_of_seat links) o → (seat : Seat) × (o ≡ Some seat) × (turn ≡ turn_of_seat links seat)
turned links None turn is = absurd (none-some turn (sym is))
turned links (Some seat) turn is = (seat, refl, same_Some turn (turn_of_seat links seat) is)

module _ (held : Contents) where
  seated_by : (before : List ℕ) (seats : List Seat) (mover : Seat) (turn : VatTurn) → AreSeated held before seats → Sits held before mover → seat_goes_on mover ≡ true
      → turn ≡ turn_of_seat held.links mover → AreSeated held (before ++ mover.log.vat ∷ []) (seats_after turn seats)
  seated_by before seats mover turn seated sits goes is =
      let comes = comes_with (is_coming mover.coming) (next_of_seat mover) goes in
      let by : vat_turn_by held.links mover.log.vat (passage_of comes.0) ≡ turn = ap (λ o. vat_turn_by held.links mover.log.vat (option_and_then passage_of o)) (sym comes.1) ∙ sym is in
      subst (λ (t : VatTurn). AreSeated held (before ++ mover.log.vat ∷ []) (seats_after t seats)) by (record {
        logs_are = logs_kept (vat_turn_by held.links mover.log.vat (passage_of comes.0)) seats ∙ seated.logs_are;
        each = each_mapped (followed (vat_turn_by held.links mover.log.vat (passage_of comes.0))) (Sits held before) (Sits held (before ++ mover.log.vat ∷ []))
            (sits_later held before mover comes.0 sits comes.1 comes.2) seats seated.each;
      })

  vat_next : (before : List ℕ) (seats : List Seat) (o : Option Seat) → AreSeated held before seats → next_seat seats ≡ o → next_after held before ≡ option_map (λ s. s.log.vat) o
  vat_next before seats None seated is = ap (option_map (λ (l : Log). l.vat)) (next_log_as held before seats seated.logs_are seated.each ∙ ap (option_map (λ (s : Seat). s.log)) is)
  vat_next before seats (Some seat) seated is = ap (option_map (λ (l : Log). l.vat)) (next_log_as held before seats seated.logs_are seated.each ∙ ap (option_map (λ (s : Seat). s.log)) is)

  step_more : (steps : ℕ) (order : List ℕ) (vat : ℕ) → order ≡ flow held steps → next_after held order ≡ Some vat → order ++ vat ∷ [] ≡ flow held (steps + 1)
  unfolding flow
  step_more steps order vat is next =
      let e : suc steps ≡ steps + 1 = omega arith in
      ap (λ o. order ++ option_to_list o) (sym next) ∙ ap (with_next held) is ∙ ap (flow held) e

  -- a turn more
  pub flows_on : (steps : ℕ) (seats later : List Seat) (turn : VatTurn) (order more : List ℕ) → Some turn ≡ option_map (turn_of_seat held.links) (next_seat seats)
      → more ≡ order ++ turn.vat ∷ [] → later ≡ seats_after turn seats → IsFlowing held steps order seats → IsFlowing held (steps + 1) more later
  flows_on steps seats later turn order more is longer are flowing =
      let taken = turned held.links (next_seat seats) turn is in
      let mover = taken.0 in
      let goes = next_goes_on held order seats mover taken.1 flowing.seated.each in
      let vat_is : mover.log.vat ≡ turn.vat = ap (λ (t : VatTurn). t.vat) (sym taken.2) in
      let more_is : order ++ mover.log.vat ∷ [] ≡ more = ap (λ vat. order ++ vat ∷ []) vat_is ∙ sym longer in
      record {
        flow_is = sym more_is ∙ step_more steps order mover.log.vat flowing.flow_is (vat_next order seats (Some mover) flowing.seated taken.1);
        seated = subst (λ (l : List ℕ). AreSeated held l later) more_is (subst (λ (l : List Seat). AreSeated held (order ++ mover.log.vat ∷ []) l) (sym are)
            (seated_by order seats mover turn flowing.seated goes.0 goes.1 taken.2));
      }

  ends_at : (steps more : ℕ) → next_after held (flow held steps) ≡ None → flow held (steps + more) ≡ flow held steps
  unfolding flow
  ends_at steps zero none = let e : steps + zero ≡ steps = omega arith in ap (flow held) e
  ends_at steps (suc more) none =
      let e : steps + suc more ≡ suc (steps + more) = omega arith in
      ap (flow held) e ∙ ap (with_next held) (ends_at steps more none) ∙ ap (λ o. flow held steps ++ option_to_list o) none ∙ append-nil (flow held steps)

  no_turn : (links : List Link) (o : Option Seat) → None ≡ option_map (turn_of_seat links) o → o ≡ None
  no_turn links None is = refl
  no_turn links (Some seat) is = absurd (none-some (turn_of_seat links seat) is)

  -- where no vat may go on
  pub flows_out : (turns steps : ℕ) (seats : List Seat) (order : List ℕ) → steps < turns → None ≡ option_map (turn_of_seat held.links) (next_seat seats)
      → IsFlowing held steps order seats → order ≡ flow held turns
  flows_out turns steps seats order lt none flowing =
      let e : steps + (turns - steps) ≡ turns = omega (arith, lt) in
      let ended = ap (next_after held) (sym flowing.flow_is) ∙ vat_next order seats None flowing.seated (no_turn held.links (next_seat seats) none) in
      flowing.flow_is ∙ sym (ends_at steps (turns - steps) ended) ∙ ap (flow held) e

  -- all turns are taken
  pub flows_all : (turns steps : ℕ) (seats : List Seat) (order : List ℕ) → turns ≡ steps → IsFlowing held steps order seats → order ≡ flow held turns
  flows_all turns steps seats order all flowing = flowing.flow_is ∙ ap (flow held) (sym all)
