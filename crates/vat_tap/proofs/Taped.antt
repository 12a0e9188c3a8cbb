-- The log of what lanes recorded, where their tickets are all that were drawn.
use Rattle.std.proofs.Common.{◌≡◌, ℕ, ◌+◌, ◌<◌, ◌≤◌, Bool, true, false, cond, ltb, List, [], ◌∷◌, map, length, get_or, All, Some, refl, sym, ap, ◌∙◌, subst, arith, length-append}
use Rattle.std.specs.List.{sum_by, flat_map}
use Rattle.std.specs.List.Sorted.{IsStrictlyIncreasing}
use Rattle.std.specs.Prelude.{slice_get}
use Rattle.std.proofs.lemmas.List.{length-map, get_or-map, map-append, get_or_append_left, get_or-append-add}
use Rattle.std.proofs.lemmas.List.Sums.{sum_by-cons}
use Rattle.vat_log.specs.declared.version.LogVersion.{LogVersion}
use Rattle.vat_log.specs.Log.{Log}
use Rattle.vat_tap.specs.Tickets.{Ticketed, LaneView, IsTaped, tickets_of, times, once_below}
use Rattle.vat_tap.specs.Glue.Taps.{in_ticket_order}
use Rattle.vat_tap.proofs.Moves.{times_append, times_has, once_is_below}
use Rattle.vat_tap.proofs.Placing.{placed_among, length_arranged, All_cons}

all : List LaneView → List Ticketed
all lanes = flat_map (λ lane. lane.recorded) lanes

flat_length : (lanes : List LaneView) → length (flat_map (λ lane. lane.recorded) lanes) ≡ sum_by (λ lane. length lane.recorded) lanes
flat_length [] = refl
flat_length (lane ∷ lanes) =
    length-append lane.recorded (flat_map (λ l. l.recorded) lanes) ∙ ap (λ n. length lane.recorded + n) (flat_length lanes) ∙ sym (sum_by-cons (λ (l : LaneView). length l.recorded) lane lanes)

flat_times : (ticket : ℕ) (lanes : List LaneView) → times ticket (tickets_of (flat_map (λ lane. lane.recorded) lanes)) ≡ sum_by (λ lane. times ticket (tickets_of lane.recorded)) lanes
flat_times ticket [] = refl
flat_times ticket (lane ∷ lanes) =
    ap (times ticket) (map-append (λ item. item.0) lane.recorded (flat_map (λ l. l.recorded) lanes)) ∙ times_append ticket (tickets_of lane.recorded) (tickets_of (flat_map (λ l. l.recorded) lanes))
    ∙ ap (λ n. times ticket (tickets_of lane.recorded) + n) (flat_times ticket lanes) ∙ sym (sum_by-cons (λ (l : LaneView). times ticket (tickets_of l.recorded)) lane lanes)

all_parts : (P : Ticketed → Type 0) (lanes : List LaneView) → All P (flat_map (λ lane. lane.recorded) lanes) → All (λ lane. All P lane.recorded) lanes
all_parts P [] h = λ i d lt. absurd (omega arith)
all_parts P (lane ∷ lanes) h =
    let rest = flat_map (λ (l : LaneView). l.recorded) lanes in
    All_cons (λ (l : LaneView). All P l.recorded) lane lanes
    (λ k e lt. subst P (get_or_append_left lane.recorded rest e k lt) (h k e (omega (arith, length-append lane.recorded rest, lt))))
    (all_parts P lanes (λ k e lt. subst P (get_or-append-add lane.recorded rest k e) (h (length lane.recorded + k) e (omega (arith, length-append lane.recorded rest, lt)))))

one_most : (n ticket : ℕ) → once_below n ticket ≤ 1
one_most n ticket = small (ltb ticket n)
  where
    small : (b : Bool) → cond b 1 0 ≤ 1
    small true = omega arith
    small false = omega arith

pub taped : (version : LogVersion) (number : ℕ) (lanes : List LaneView) (log : Log) → log ≡ record { version = version; vat = number; records = in_ticket_order (flat_map (λ lane. lane.recorded) lanes) }
    → ((ticket : ℕ) → sum_by (λ lane. times ticket (tickets_of lane.recorded)) lanes ≡ once_below (sum_by (λ lane. length lane.recorded) lanes) ticket)
    → All (λ lane. IsStrictlyIncreasing (tickets_of lane.recorded)) lanes → IsTaped version number lanes log
taped version number lanes log is once rising =
    let items = flat_map (λ (lane : LaneView). lane.recorded) lanes in
    let records = map (λ (item : Ticketed). item.1) items in
    let n = sum_by (λ (lane : LaneView). length lane.recorded) lanes in
    let long : length items ≡ n = flat_length lanes in
    let given = λ (ticket : ℕ). flat_times ticket lanes ∙ once ticket in
    let few = λ (ticket : ℕ). subst (λ (k : ℕ). k ≤ 1) (sym (given ticket)) (one_most n ticket) in
    let within : All (λ (item : Ticketed). item.0 < length records) items = λ i d lt.
    (let ticket = (get_or items i d).0 in
    let at : get_or (tickets_of items) i ticket ≡ ticket = get_or-map (λ (item : Ticketed). item.0) items i d ticket lt in
    let has : 1 ≤ times ticket (tickets_of items) = subst (λ (t : ℕ). 1 ≤ times t (tickets_of items)) at (times_has (tickets_of items) i ticket (omega (arith, length-map items (λ (item : Ticketed). item.0), lt))) in
    let below : ticket < n = once_is_below n ticket (subst (λ (k : ℕ). 1 ≤ k) (given ticket) has) in
    omega (arith, below, long, length-map items (λ (item : Ticketed). item.1))) in
    let there = placed_among records items few within in
    let size : length log.records ≡ n = ap (λ (l : Log). length l.records) is ∙ length_arranged items ∙ long in
    record {
      version = ap (λ (l : Log). l.version) is;
      vat = ap (λ (l : Log). l.vat) is;
      once = λ ticket. once ticket ∙ ap (λ k. once_below k ticket) (sym size);
      placed = all_parts (λ item. slice_get log.records item.0 ≡ Some item.1) lanes (subst (λ rs. All (λ item. slice_get rs item.0 ≡ Some item.1) items) (sym (ap (λ (l : Log). l.records) is)) there);
      rising = rising;
    }
