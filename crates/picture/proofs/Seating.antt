-- Vats whose records come turn by turn: what a seat keeps is what looking back over the steps before finds.
use Rattle.std.proofs.Common.{◌≡◌, ◌∙◌, ℕ, ◌+◌, ◌-◌, ◌<◌, Bool, true, false, not, ◌&&◌, ◌||◌, cond, ◌==◌, nat_lt, List, [], ◌∷◌, ◌++◌, map, length, Option, Some, None, is_some, refl, sym, ap, subst, ◌⊎◌, inl, inr, lt-ltb, arith}
use Rattle.std.specs.Prelude.{find, slice_get, option_and_then}
use Rattle.std.specs.List.{AllByRecursion, list_any}
use Rattle.std.specs.Option.{option_map, option_map_or}
use Rattle.std.proofs.lemmas.Bool.{false≢true, cases_Bool, cond-true, cond-false, eqb-true, ltb-true, and_parts, or_cases, or_left, or_right, not-true}
use Rattle.std.proofs.lemmas.Option.{none-some, same_Some, slice_get_within}
use Rattle.vat_log.specs.Log.{Log}
use Rattle.vat_log.specs.Passages.{passage_of}
use Rattle.vat_log.specs.declared.body.Body.{Body}
use Rattle.case_book.specs.Case.{Contents, or_else}
use Rattle.case_book.specs.declared.link.Link.{Link}
use Rattle.picture.specs.Places.{log_by_vat, vat_at_other_end, other_end_of}
use Rattle.picture.specs.Flow.{came, goes_on, goes_to_receive, is_awaited, is_reached, is_free_to_come, may_pass, next_record_in, next_log, frames_passed_by, receives_sent_frame, frames_sent_to, takes_frame}
use Rattle.picture.specs.Glue.Seats.{Seat, followed, next_position, gone_on, heard, hearing, is_coming, next_of_seat, next_seat, received_in, seat_goes_on, seat_goes_to_receive, seat_receives, frame_addressee, taken, vat_turn_by}
use Rattle.picture.specs.declared.order.flow.VatTurn.{VatTurn}
use Rattle.picture.proofs.Coming.{bit, count_on, heard_on, hears, is_counted, is_counted_first, passes_so, taken_on}
use Rattle.picture.proofs.Underway.{came_other, came_own, hears_as, is_it, passed_other, passed_own, sent_more}

-- a seat behind these steps: its log is one of the case, its records that came are as many as there are steps of its vat, and on
-- each connection as many frames are under way to it as were sent to it and not received
pub record Sits (held : Contents) (before : List ℕ) (seat : Seat) : Type 0 where
  pub its : log_by_vat held.logs seat.log.vat ≡ Some seat.log
  pub came_is : seat.came ≡ came before seat.log
  pub coming_are : (connection : ℕ) → count_on connection seat.coming + frames_passed_by false connection before seat.log ≡ frames_sent_to held before connection seat.log.vat

-- ---- what may come

takes_same : (one other : ℕ → Bool) → ((on : ℕ) → one on ≡ other on) → (passage : Option (Bool × ℕ)) → takes_frame one passage ≡ takes_frame other passage
takes_same one other same None = refl
takes_same one other same (Some passage) = ap (λ b. not passage.0 && b) (same passage.1)

pass_same : (one other : ℕ → Bool) → ((on : ℕ) → one on ≡ other on) → (passage : Option (Bool × ℕ)) → may_pass one passage ≡ may_pass other passage
pass_same one other same None = refl
pass_same one other same (Some passage) = ap (λ b. passage.0 || b) (same passage.1)

come_same : (one other : ℕ → Bool) → ((on : ℕ) → one on ≡ other on) → (o : Option Body) → is_free_to_come one o ≡ is_free_to_come other o
come_same one other same None = refl
come_same one other same (Some event) = pass_same one other same (passage_of event)

passes_if : (aw : ℕ → Bool) (passage : Option (Bool × ℕ)) → takes_frame aw passage ≡ true → may_pass aw passage ≡ true
passes_if aw None takes = absurd (false≢true takes)
passes_if aw (Some passage) takes = or_right passage.0 (aw passage.1) ((and_parts (not passage.0) (aw passage.1) takes).1)

-- whoever receives goes on
comes_if : (aw : ℕ → Bool) (o : Option Body) → takes_frame aw (option_and_then passage_of o) ≡ true → is_free_to_come aw o ≡ true
comes_if aw None takes = absurd (false≢true takes)
comes_if aw (Some event) takes = passes_if aw (passage_of event) takes

-- who goes on has a record
pub comes_with : (aw : ℕ → Bool) (o : Option Body) → is_free_to_come aw o ≡ true → (event : Body) × (o ≡ Some event) × (may_pass aw (passage_of event) ≡ true)
comes_with aw None may = absurd (false≢true may)
comes_with aw (Some event) may = (event, refl, may)

-- a frame that it receives is under way
received_is : (aw : ℕ → Bool) (passage : Option (Bool × ℕ)) (on : ℕ) → may_pass aw passage ≡ true → passes_so false on passage ≡ true → aw on ≡ true
received_is aw None on may is = absurd (false≢true is)
received_is aw (Some passage) on may is =
    let parts = and_parts (not passage.0) (passage.1 == on) is in
    elim (or_cases passage.0 (aw passage.1) may) [
      | inl sent ↦ absurd (false≢true (sym (not-true passage.0 parts.0) ∙ sent))
      | inr under_way ↦ ap aw (sym (eqb-true passage.1 on parts.1)) ∙ under_way
    ]

minus_is : (a b c : ℕ) → a + b ≡ c → a ≡ c - b
minus_is a b c is = omega (arith, is)

-- ---- who goes on

module _ (held : Contents) (before : List ℕ) where
  any_linked : (test : ℕ → Bool) (connection : ℕ) (links : List Link) → test connection ≡ true → is_some (find (λ link. link.connection == connection) links) ≡ true
      → list_any (λ link. test link.connection) links ≡ true
  any_linked test connection [] passes there = absurd (false≢true there)
  any_linked test connection (link ∷ links) passes there =
      let rest = find (λ (other : Link). other.connection == connection) links in
      elim (cases_Bool (link.connection == connection)) [
        | inl here ↦ or_left (test link.connection) (list_any (λ other. test other.connection) links) (ap test (eqb-true link.connection connection here) ∙ passes)
        | inr later ↦
            or_right (test link.connection) (list_any (λ other. test other.connection) links)
            (any_linked test connection links passes (ap is_some (sym (cond-false (link.connection == connection) (Some link) rest later)) ∙ there))
      ]

  none_linked : (test : ℕ → Bool) (links : List Link) → ((on : ℕ) → false ≡ test on) → false ≡ list_any (λ link. test link.connection) links
  none_linked test [] none = refl
  none_linked test (link ∷ links) none = none_linked test links none ∙ ap (λ b. b || list_any (λ other. test other.connection) links) (none link.connection)

  no_less : (a : ℕ) → nat_lt 0 (0 - a) ≡ true → false ≡ true
  no_less a is = absurd (omega (arith, ltb-true 0 (0 - a) is))

  linked_by : (log : Log) (connection : ℕ) (o : Option Link)
      → nat_lt 0 (option_map_or (frames_passed_by true connection before) (option_and_then (log_by_vat held.logs) (option_and_then (other_end_of log.vat) o)) 0 - frames_passed_by false connection before log) ≡ true
      → is_some o ≡ true
  linked_by log connection None awaited = no_less (frames_passed_by false connection before log) awaited
  linked_by log connection (Some link) awaited = refl

  reached_by : (log : Log) (coming : List ℕ) → ((on : ℕ) → nat_lt 0 (count_on on coming) ≡ is_awaited held before log on) → nat_lt 0 (length coming) ≡ is_reached held before log
  reached_by log [] same = none_linked (is_awaited held before log) held.links same
  reached_by log (on ∷ coming) same =
      let awaited : is_awaited held before log on ≡ true = sym (same on) ∙ is_counted_first on coming in
      lt-ltb 0 (length (on ∷ coming)) (omega arith)
      ∙ sym (any_linked (is_awaited held before log) on held.links awaited (linked_by log on (find (λ link. link.connection == on) held.links) awaited))

  module _ (seat : Seat) (sits : Sits held before seat) where
    pub counts_as : (on : ℕ) → nat_lt 0 (count_on on seat.coming) ≡ is_awaited held before seat.log on
    counts_as on = ap (nat_lt 0) (minus_is (count_on on seat.coming) (frames_passed_by false on before seat.log) (frames_sent_to held before on seat.log.vat) (sits.coming_are on))

    pub awaited_as : (on : ℕ) → is_coming seat.coming on ≡ is_awaited held before seat.log on
    awaited_as on = is_counted on seat.coming ∙ counts_as on

    next_as : next_of_seat seat ≡ next_record_in before seat.log
    next_as = ap (λ n. slice_get seat.log.records n) sits.came_is

    receives_as : seat_receives seat ≡ receives_sent_frame held before seat.log
    receives_as =
        takes_same (is_coming seat.coming) (is_awaited held before seat.log) awaited_as (option_and_then passage_of (next_of_seat seat))
        ∙ ap (λ o. takes_frame (is_awaited held before seat.log) (option_and_then passage_of o)) next_as

    goes_on_as : seat_goes_on seat ≡ goes_on held before seat.log
    goes_on_as =
        come_same (is_coming seat.coming) (is_awaited held before seat.log) awaited_as (next_of_seat seat)
        ∙ ap (λ o. is_free_to_come (is_awaited held before seat.log) o) next_as

    goes_to_receive_as : seat_goes_to_receive seat ≡ goes_to_receive held before seat.log
    goes_to_receive_as =
        ap (λ b. b && nat_lt 0 (length seat.coming)) goes_on_as
        ∙ ap (λ b. goes_on held before seat.log && b) (reached_by seat.log seat.coming counts_as)

  picked : (b : Bool) (seat : Seat) (o : Option Log) (r : Option Seat) → o ≡ option_map (λ s. s.log) r → cond b (Some seat.log) o ≡ option_map (λ s. s.log) (cond b (Some seat) r)
  picked true seat o r is = refl
  picked false seat o r is = is

  found_as : (p : Seat → Bool) (q : Log → Bool) → ((seat : Seat) → Sits held before seat → p seat ≡ q seat.log) → (seats : List Seat) → AllByRecursion (Sits held before) seats
      → find q (map (λ s. s.log) seats) ≡ option_map (λ s. s.log) (find p seats)
  found_as p q same [] each = refl
  found_as p q same (seat ∷ seats) each =
      ap (λ b. cond b (Some seat.log) (find q (map (λ (s : Seat). s.log) seats))) (sym (same seat each.0))
      ∙ picked (p seat) seat (find q (map (λ (s : Seat). s.log) seats)) (find p seats) (found_as p q same seats each.1)

  either_as : (a b : Option Seat) (x y : Option Log) → x ≡ option_map (λ s. s.log) a → y ≡ option_map (λ s. s.log) b → or_else x y ≡ option_map (λ s. s.log) (or_else a b)
  either_as None b x y one other = ap (λ z. or_else z y) one ∙ other
  either_as (Some seat) b x y one other = ap (λ z. or_else z y) one

  next_found : (seats : List Seat) → AllByRecursion (Sits held before) seats
      → or_else (find (receives_sent_frame held before) (map (λ s. s.log) seats)) (or_else (find (goes_to_receive held before) (map (λ s. s.log) seats)) (find (goes_on held before) (map (λ s. s.log) seats)))
      ≡ option_map (λ s. s.log) (next_seat seats)
  next_found seats each =
      either_as (find seat_receives seats) (or_else (find seat_goes_to_receive seats) (find seat_goes_on seats)) _ _
      (found_as seat_receives (receives_sent_frame held before) receives_as seats each)
      (either_as (find seat_goes_to_receive seats) (find seat_goes_on seats) _ _
      (found_as seat_goes_to_receive (goes_to_receive held before) goes_to_receive_as seats each)
      (found_as seat_goes_on (goes_on held before) goes_on_as seats each))

  -- the seat that goes on has the log whose record comes next
  pub next_log_as : (seats : List Seat) → map (λ s. s.log) seats ≡ held.logs → AllByRecursion (Sits held before) seats → next_log held before ≡ option_map (λ s. s.log) (next_seat seats)
  next_log_as seats are each =
      ap (λ (logs : List Log). or_else (find (receives_sent_frame held before) logs) (or_else (find (goes_to_receive held before) logs) (find (goes_on held before) logs))) (sym are)
      ∙ next_found seats each

  found_in : (p : Seat → Bool) (seats : List Seat) (seat : Seat) → find p seats ≡ Some seat → AllByRecursion (Sits held before) seats → Sits held before seat × (p seat ≡ true)
  found_in p [] seat is each = absurd (none-some seat is)
  found_in p (s ∷ seats) seat is each =
      elim (cases_Bool (p s)) [
        | inl here ↦
            let same : s ≡ seat = same_Some s seat (sym (cond-true (p s) (Some s) (find p seats) here) ∙ is) in
            subst (λ (t : Seat). Sits held before t × (p t ≡ true)) same (each.0, here)
        | inr later ↦ found_in p seats seat (sym (cond-false (p s) (Some s) (find p seats) later) ∙ is) each.1
      ]

  either_is : (a b : Option Seat) (seat : Seat) → or_else a b ≡ Some seat → (a ≡ Some seat) ⊎ (b ≡ Some seat)
  either_is None b seat is = inr is
  either_is (Some s) b seat is = inl is

  -- it goes on
  pub next_goes_on : (seats : List Seat) (seat : Seat) → next_seat seats ≡ Some seat → AllByRecursion (Sits held before) seats → Sits held before seat × (seat_goes_on seat ≡ true)
  next_goes_on seats seat is each =
      elim (either_is (find seat_receives seats) (or_else (find seat_goes_to_receive seats) (find seat_goes_on seats)) seat is) [
        | inl first ↦
            let found = found_in seat_receives seats seat first each in
            (found.0, comes_if (is_coming seat.coming) (next_of_seat seat) found.1)
        | inr others ↦
            elim (either_is (find seat_goes_to_receive seats) (find seat_goes_on seats) seat others) [
              | inl second ↦
                  let found = found_in seat_goes_to_receive seats seat second each in
                  (found.0, (and_parts (seat_goes_on seat) (nat_lt 0 (length seat.coming)) found.1).0)
              | inr third ↦ found_in seat_goes_on seats seat third each
            ]
      ]

-- ---- a turn

own_adds : (a b c r r' s s' x y z : ℕ) → b + x ≡ a → c ≡ b + y → r' ≡ r + x → s' ≡ s + z → y ≡ z → a + r ≡ s → c + r' ≡ s'
own_adds a b c r r' s s' x y z one two three four five six = omega (arith, one, two, three, four, five, six)

other_adds : (a c r r' s s' y z : ℕ) → c ≡ a + y → r' ≡ r → s' ≡ s + z → y ≡ z → a + r ≡ s → c + r' ≡ s'
other_adds a c r r' s s' y z one two three four five = omega (arith, one, two, three, four, five)

module _ (held : Contents) (before : List ℕ) (mover : Seat) (event : Body) (sits : Sits held before mover) (next : next_of_seat mover ≡ Some event)
    (may : may_pass (is_coming mover.coming) (passage_of event) ≡ true) where
  abbrev vat : ℕ
  vat = mover.log.vat

  abbrev passage : Option (Bool × ℕ)
  passage = passage_of event

  abbrev turn : VatTurn
  turn = vat_turn_by held.links vat passage

  abbrev later : List ℕ
  later = before ++ vat ∷ []

  next_is : next_record_in before mover.log ≡ Some event
  next_is = ap (λ n. slice_get mover.log.records n) (sym sits.came_is) ∙ next

  module _ (seat : Seat) (its : Sits held before seat) where
    -- the connections of what is heard are those of what is sent
    abbrev heard_bit : ℕ → ℕ
    heard_bit on = bit (hears seat.log.vat on (frame_addressee held.links vat passage))

    abbrev sent_bit : ℕ → ℕ
    sent_bit on = bit (is_it vat (vat_at_other_end held.links on seat.log.vat) && passes_so true on passage)

    bits_are : (on : ℕ) → heard_bit on ≡ sent_bit on
    bits_are on = ap bit (hears_as held.links seat.log.vat vat on passage)

    sent_are : (on : ℕ) → frames_sent_to held later on seat.log.vat ≡ frames_sent_to held before on seat.log.vat + sent_bit on
    sent_are on = sent_more held before mover.log event on sits.its next_is seat.log.vat

    module _ (own : (vat == seat.log.vat) ≡ true) where
      same_log : seat.log ≡ mover.log
      same_log = same_Some seat.log mover.log (sym its.its ∙ ap (log_by_vat held.logs) (sym (eqb-true vat seat.log.vat own)) ∙ sits.its)

      own_next : next_record_in before seat.log ≡ Some event
      own_next = ap (next_record_in before) same_log ∙ next_is

      within : seat.came < length seat.log.records
      within = slice_get_within seat.log.records seat.came event (ap (λ n. slice_get seat.log.records n) its.came_is ∙ own_next)

      came_more : next_position seat.came (length seat.log.records) ≡ came later seat.log
      came_more =
          cond-true (nat_lt seat.came (length seat.log.records)) (seat.came + 1) seat.came (lt-ltb seat.came (length seat.log.records) within)
          ∙ ap (λ n. n + 1) its.came_is ∙ sym (came_own before vat seat.log own)

      some_are : (on : ℕ) → passes_so false on passage ≡ true → 0 < count_on on seat.coming
      some_are on receives =
          ltb-true 0 (count_on on seat.coming) (counts_as held before seat its on ∙ ap (λ (l : Log). is_awaited held before l on) same_log
          ∙ sym (awaited_as held before mover sits on) ∙ received_is (is_coming mover.coming) passage on may receives)

      own_are : (on : ℕ) → count_on on (heard seat.log.vat turn.sent (taken turn.received seat.coming)) + frames_passed_by false on later seat.log ≡ frames_sent_to held later on seat.log.vat
      own_are on =
          own_adds (count_on on seat.coming) (count_on on (taken (received_in passage) seat.coming)) _ (frames_passed_by false on before seat.log) _
          (frames_sent_to held before on seat.log.vat) _ (bit (passes_so false on passage)) (heard_bit on) (sent_bit on)
          (taken_on on passage seat.coming some_are)
          (heard_on on seat.log.vat (frame_addressee held.links vat passage) (taken (received_in passage) seat.coming))
          (passed_own before vat seat.log event false on own own_next) (sent_are on) (bits_are on) (its.coming_are on)

      own_sits : Sits held later (hearing turn (gone_on turn seat))
      own_sits = record { its = its.its; came_is = came_more; coming_are = own_are }

    module _ (other : (vat == seat.log.vat) ≡ false) where
      other_are : (on : ℕ) → count_on on (heard seat.log.vat turn.sent seat.coming) + frames_passed_by false on later seat.log ≡ frames_sent_to held later on seat.log.vat
      other_are on =
          other_adds (count_on on seat.coming) _ (frames_passed_by false on before seat.log) _ (frames_sent_to held before on seat.log.vat) _ (heard_bit on) (sent_bit on)
          (heard_on on seat.log.vat (frame_addressee held.links vat passage) seat.coming)
          (passed_other before vat seat.log false on other) (sent_are on) (bits_are on) (its.coming_are on)

      other_sits : Sits held later (hearing turn seat)
      other_sits = record { its = its.its; came_is = its.came_is ∙ sym (came_other before vat seat.log other); coming_are = other_are }

    sits_by : (b : Bool) → (vat == seat.log.vat) ≡ b → Sits held later (hearing turn (cond b (gone_on turn seat) seat))
    sits_by true own = own_sits own
    sits_by false other = other_sits other

    -- each seat after the turn
    pub sits_later : Sits held later (followed turn seat)
    sits_later = sits_by (vat == seat.log.vat) refl
