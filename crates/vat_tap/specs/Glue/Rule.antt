-- For the code's contracts, and no part of the meaning: what each seat at the ticket word knows, and what always holds of all
-- of them together. The word is the number of tickets that were drawn.
use Rattle.std.specs.Prelude.{◌≡◌, ℕ, ◌+◌, ◌-◌, ◌<◌, ◌≤◌, List, [], ◌∷◌, ◌++◌, length, All, replicate}
use Rattle.std.specs.List.{sum_by}
use mathlib.Core.Option.{some}
use lib.ListN.{get_elem?}
use Rattle.atomic_table.specs.Table.{State, Me}
use Rattle.vat_tap.specs.declared.ticket_word.SeatKnowledge.{SeatKnowledge}
use Rattle.vat_tap.specs.Tickets.{times, once_below}

-- how many tickets a seat may have, how many each lane gets of these, and those that it has
abbrev pub view : ℕ → ℕ → List ℕ → SeatKnowledge
view room share tickets = record { room = room; share = share; tickets = tickets }

-- The seats have room for so many tickets in all, and each has no more than it has room for. The tickets of all seats are
-- those from 0 to below the word, each once.
pub record Counted (limit word : ℕ) (views : List SeatKnowledge) : Type 0 where
  pub rooms : sum_by (λ v. v.room) views ≡ limit
  pub drawn : sum_by (λ v. length v.tickets) views ≡ word
  pub once : (ticket : ℕ) → sum_by (λ v. times ticket v.tickets) views ≡ once_below word ticket
  pub within : (seat : ℕ) (v : SeatKnowledge) → get_elem? views seat ≡ some v → length v.tickets ≤ v.room

-- The ticket word lies between words that are never used, 15 to either side, so that no other memory shares its cache lines.
abbrev pub apart : ℕ → List ℕ
apart word = replicate 15 0 ++ word ∷ replicate 15 0

-- what holds between any two steps on the word
abbrev pub Kept : {S : Type 0} → ℕ → State S SeatKnowledge → Type 0
Kept limit state = (word : ℕ) × (state.words ≡ apart word) × Counted limit word state.views

-- a lane's seat takes its share of the room along, and no ticket
abbrev pub without_share : SeatKnowledge → SeatKnowledge
without_share v = view (v.room - v.share) v.share v.tickets

abbrev pub a_share : SeatKnowledge → SeatKnowledge
a_share v = view v.share v.share []

-- a lane's seat comes back with its room and its tickets, and is spent
abbrev pub together : SeatKnowledge → SeatKnowledge → SeatKnowledge
together v w = view (v.room + w.room) v.share (v.tickets ++ w.tickets)

abbrev pub spent_seat : SeatKnowledge
spent_seat = view 0 0 []

-- a ticket is drawn: it is the word as it was, and the seat's last
abbrev pub Draws : {S : Type 0} → ℕ → Me S SeatKnowledge → ℕ → Me S SeatKnowledge → Type 0
Draws limit me found after =
    (after ≡ (view me.0.room me.0.share (me.0.tickets ++ found ∷ []), me.1)) × All (λ n. n < found) me.0.tickets × (found < limit)

-- a seat that has all the room looks: its tickets are all that were drawn
abbrev pub Looks : {S : Type 0} → Me S SeatKnowledge → ℕ → Me S SeatKnowledge → Type 0
Looks me found after = (after ≡ me) × ((ticket : ℕ) → times ticket me.0.tickets ≡ once_below found ticket) × (length me.0.tickets ≡ found)
