-- Each step on the ticket word keeps the rule, and tells what it is to tell.
use Rattle.std.proofs.Common.{◌≡◌, ◌≢◌, ℕ, zero, suc, ◌+◌, ◌%◌, ◌^◌, ◌<◌, ◌≤◌, Bool, true, false, cond, eqb, List, [], ◌∷◌, ◌++◌, length, get_or, set, All, refl, sym, ap, ◌∙◌, subst, ⊎_elim, arith, inl, inr, length-append}
use Rattle.std.specs.Prelude.{slice_index, replicate}
use Rattle.std.specs.List.{sum_by}
use Rattle.std.proofs.Math.Nat.{mod-eq_of_lt}
use Rattle.std.proofs.lemmas.Bool.{cases_lt, le-ltb}
use Rattle.std.proofs.lemmas.List.Sums.{sum_by-cons, sum_by-append, sum_by_push, get_or-le-sum_by}
use mathlib.Core.Option.{some, some-ne-none, some-injective}
use lib.ListN.{get_elem?}
use Rattle.atomic_table.specs.Table.{keeps, Allows, Splits, Joins, opening}
use Rattle.atomic_table.proofs.Lists.{at_set, at_snoc}
use Rattle.vat_tap.specs.declared.ticket_word.SeatKnowledge.{SeatKnowledge}
use Rattle.vat_tap.specs.Tickets.{times, once_below}
use Rattle.vat_tap.specs.Glue.Rule.{view, apart, Counted, Kept, without_share, a_share, together, spent_seat, Draws, Looks}

-- ---- sums over seats

module _ {A : Type 0} where
  -- a sum after one element became another
  pub sum_set : (f : A → ℕ) (xs : List A) (i : ℕ) (v w : A) → get_elem? xs i ≡ some v → sum_by f (set xs i w) + f v ≡ sum_by f xs + f w
  sum_set f [] i v w at = absurd (some-ne-none v (sym at))
  sum_set f (x ∷ xs) zero v w at =
      let same : f x ≡ f v = ap f (some-injective x v at) in
      omega (arith, sum_by-cons f w xs, sum_by-cons f x xs, same)
  sum_set f (x ∷ xs) (suc i) v w at =
      omega (arith, sum_by-cons f x (set xs i w), sum_by-cons f x xs, sum_set f xs i v w at)

  -- where f is nowhere above g, the gap at one place is no more than the gap of the sums
  pub sum_gap : (f g : A → ℕ) (xs : List A) (i : ℕ) (v : A) → ((j : ℕ) (u : A) → get_elem? xs j ≡ some u → f u ≤ g u) → get_elem? xs i ≡ some v
      → sum_by f xs + g v ≤ sum_by g xs + f v
  sum_gap f g [] i v le at = absurd (some-ne-none v (sym at))
  sum_gap f g (x ∷ xs) zero v le at =
      let here : f x ≡ f v = ap f (some-injective x v at) in
      let there : g x ≡ g v = ap g (some-injective x v at) in
      omega (arith, sum_by-cons f x xs, sum_by-cons g x xs, here, there, sum_below f g xs (λ j u e. le (suc j) u e))
    where
      sum_below : (f g : A → ℕ) (xs : List A) → ((j : ℕ) (u : A) → get_elem? xs j ≡ some u → f u ≤ g u) → sum_by f xs ≤ sum_by g xs
      sum_below f g [] le = omega arith
      sum_below f g (x ∷ xs) le = omega (arith, sum_by-cons f x xs, sum_by-cons g x xs, le 0 x refl, sum_below f g xs (λ j u e. le (suc j) u e))
  sum_gap f g (x ∷ xs) (suc i) v le at =
      omega (arith, sum_by-cons f x xs, sum_by-cons g x xs, le 0 x refl, sum_gap f g xs i v (λ j u e. le (suc j) u e) at)

  pub sum_has : (f : A → ℕ) (xs : List A) (i : ℕ) (v : A) → get_elem? xs i ≡ some v → f v ≤ sum_by f xs
  sum_has f [] i v at = absurd (some-ne-none v (sym at))
  sum_has f (x ∷ xs) zero v at = omega (arith, sum_by-cons f x xs, ap f (some-injective x v at))
  sum_has f (x ∷ xs) (suc i) v at = omega (arith, sum_by-cons f x xs, sum_has f xs i v at)

-- ---- tickets

one_if : ℕ → ℕ → ℕ
one_if n ticket = cond (eqb n ticket) 1 0

pub times_push : (ticket : ℕ) (tickets : List ℕ) (n : ℕ) → times ticket (tickets ++ n ∷ []) ≡ times ticket tickets + cond (eqb n ticket) 1 0
times_push ticket tickets n = sum_by_push (λ k. cond (eqb k ticket) 1 0) tickets n

pub times_append : (ticket : ℕ) (a b : List ℕ) → times ticket (a ++ b) ≡ times ticket a + times ticket b
times_append ticket a b = sum_by-append (λ k. cond (eqb k ticket) 1 0) a b

-- no ticket stands in a list more often than the list is long
pub times_few : (ticket : ℕ) (tickets : List ℕ) → times ticket tickets ≤ length tickets
times_few ticket [] = omega arith
times_few ticket (n ∷ ns) = omega (arith, sum_by-cons (λ k. cond (eqb k ticket) 1 0) n ns, one_most (eqb n ticket), times_few ticket ns)
  where
    one_most : (b : Bool) → cond b 1 0 ≤ 1
    one_most true = omega arith
    one_most false = omega arith

-- one more ticket was drawn
pub once_more : (word ticket : ℕ) → once_below word ticket + cond (eqb word ticket) 1 0 ≡ once_below (word + 1) ticket
once_more word ticket = grind (arith, Rattle.std.proofs.lemmas.Bool.Decides.nat_tests)

-- a ticket that a list has is there once or more
pub times_has : (tickets : List ℕ) (i d : ℕ) → i < length tickets → 1 ≤ times (get_or tickets i d) tickets
times_has tickets i d lt =
    let n = get_or tickets i d in
    let unit : ℕ = 1 in
    let one : cond (eqb n n) unit 0 ≡ unit = ap (λ (b : Bool). cond b unit 0) (Rattle.std.proofs.Common.eq-eqb n n refl) in
    omega (arith, get_or-le-sum_by (λ k. cond (eqb k n) 1 0) tickets i d lt, one)

pub once_is_below : (word ticket : ℕ) → 1 ≤ once_below word ticket → ticket < word
once_is_below word ticket le =
    elim (cases_lt ticket word) [
      | inl lt ↦ lt
      | inr past ↦ (let none : once_below word ticket ≡ 0 = ap (λ (b : Bool). cond b 1 0) (le-ltb _ _ past) in absurd (omega arith))
    ]

-- the rule says of a seat's tickets that they were drawn
pub drawn_below : (limit word : ℕ) (views : List SeatKnowledge) (seat : ℕ) (v : SeatKnowledge) → Counted limit word views → get_elem? views seat ≡ some v → All (λ n. n < word) v.tickets
drawn_below limit word views seat v c at i d lt =
    let n = get_or v.tickets i d in
    once_is_below word n (omega (arith, times_has v.tickets i d lt, sum_has (λ u. times n u.tickets) views seat v at, c.once n))

-- ---- the steps

pub begins : (limit share : ℕ) → Kept {S = Unit {0}} limit (opening (replicate 31 0) [] (view limit share []))
begins limit share = (0, refl, record { rooms = omega arith; drawn = refl; once = λ ticket. sym (none ticket); within = only })
  where
    only : (seat : ℕ) (v : SeatKnowledge) → get_elem? (view limit share [] ∷ []) seat ≡ some v → length v.tickets ≤ v.room
    only zero v at = subst (λ (u : SeatKnowledge). length u.tickets ≤ u.room) (some-injective _ _ at) (omega arith)
    only (suc seat) v at = absurd (some-ne-none v (sym at))

    none : (ticket : ℕ) → once_below 0 ticket ≡ 0
    none ticket = ap (λ (b : Bool). cond b 1 0) (le-ltb ticket 0 (omega arith))

within_set : (views : List SeatKnowledge) (seat : ℕ) (w : SeatKnowledge) → ((j : ℕ) (u : SeatKnowledge) → get_elem? views j ≡ some u → length u.tickets ≤ u.room) → length w.tickets ≤ w.room
    → (j : ℕ) (u : SeatKnowledge) → get_elem? (set views seat w) j ≡ some u → length u.tickets ≤ u.room
within_set views seat w others mine j u at =
    ⊎_elim (λ (x : (j ≡ seat) × (w ≡ u)). subst (λ (y : SeatKnowledge). length y.tickets ≤ y.room) x.1 mine) (λ (x : (j ≢ seat) × (get_elem? views j ≡ some u)). others j u x.1) (at_set views seat j w u at)

counted_draw : (limit word : ℕ) (views : List SeatKnowledge) (seat : ℕ) (v : SeatKnowledge) → length v.tickets < v.room → Counted limit word views → get_elem? views seat ≡ some v
    → Counted limit ((word + 1)) (set views seat (view v.room v.share (v.tickets ++ word ∷ [])))
counted_draw limit word views seat v more c at =
    let w = view v.room v.share (v.tickets ++ word ∷ []) in
    let longer = length-append v.tickets (word ∷ []) in
    record {
      rooms = omega (arith, sum_set (λ u. u.room) views seat v w at, c.rooms);
      drawn = omega (arith, sum_set (λ u. length u.tickets) views seat v w at, c.drawn, longer);
      once = λ ticket. omega (arith, sum_set (λ u. times ticket u.tickets) views seat v w at, c.once ticket, times_push ticket v.tickets word, once_more word ticket);
      within = within_set views seat w c.within (omega (arith, longer));
    }

-- a word below its limit, where the seat has room left
pub word_small : (limit word : ℕ) (views : List SeatKnowledge) (seat : ℕ) (v : SeatKnowledge) → length v.tickets < v.room → Counted limit word views → get_elem? views seat ≡ some v → word < limit
word_small limit word views seat v more c at = omega (arith, sum_gap (λ u. length u.tickets) (λ u. u.room) views seat v c.within at, c.rooms, c.drawn)

pub draws : (limit slots seat : ℕ) (v : SeatKnowledge) → length v.tickets < v.room → limit < 2 ^ 64
    → Allows {S = Unit {0}} (Kept limit) slots seat (v, []) 15 (λ n. (n + 1) % 2 ^ 64) (Draws limit (v, []))
draws limit slots seat v more small s h homes at fits =
    let word = h.0 in
    let c = h.2 in
    let w = view v.room v.share (v.tickets ++ word ∷ []) in
    let lt = word_small limit word s.views seat v more c at in
    let now : (slice_index s.words 15 + 1) % 2 ^ 64 ≡ (word + 1) = ap (λ (ws : List ℕ). (slice_index ws 15 + 1) % 2 ^ 64) h.1 ∙ mod-eq_of_lt (omega arith) in
    let found : slice_index s.words 15 ≡ word = ap (λ (ws : List ℕ). slice_index ws 15) h.1 in
    let words : set s.words 15 ((slice_index s.words 15 + 1) % 2 ^ 64) ≡ apart (word + 1) = ap (λ (n : ℕ). set s.words 15 n) now ∙ ap (λ (ws : List ℕ). set ws 15 ((word + 1))) h.1 in (
      w,
      keeps,
      tt,
      ((word + 1), words, counted_draw limit word s.views seat v more c at),
      subst (λ (n : ℕ). Draws {S = Unit {0}} limit (v, []) n (w, [])) (sym found) (refl, drawn_below limit word s.views seat v c at, lt),
    )

pub splits : (limit seat : ℕ) (v : SeatKnowledge) → v.share + length v.tickets ≤ v.room → Splits {S = Unit {0}} (Kept limit) seat v (without_share v) (a_share v)
splits limit seat v enough s h at =
    let word = h.0 in
    let c = h.2 in
    let left = without_share v in
    let right = a_share v in
    let views = set s.views seat left in (
      word,
      h.1,
      record {
        rooms = omega (arith, sum_by_push (λ (u : SeatKnowledge). u.room) views right, sum_set (λ u. u.room) s.views seat v left at, c.rooms);
        drawn = omega (arith, sum_by_push (λ (u : SeatKnowledge). length u.tickets) views right, sum_set (λ u. length u.tickets) s.views seat v left at, c.drawn);
        once = λ ticket. omega (arith, sum_by_push (λ (u : SeatKnowledge). times ticket u.tickets) views right, sum_set (λ u. times ticket u.tickets) s.views seat v left at, c.once ticket);
        within = λ j u e. ⊎_elim
            (λ was. within_set s.views seat left c.within (omega arith) j u was)
            (λ (same : right ≡ u). subst (λ (y : SeatKnowledge). length y.tickets ≤ y.room) same (omega arith))
            (at_snoc views right u j e);
      },
    )

pub joins : (limit seat : ℕ) (v : SeatKnowledge) (other : ℕ) (w : SeatKnowledge) → Joins {S = Unit {0}} (Kept limit) seat v other w (together v w) spent_seat
joins limit seat v other w s h at apart there =
    let word = h.0 in
    let c = h.2 in
    let both = together v w in
    let views = set s.views seat both in
    let theirs : get_elem? s.views other ≡ some w = ⊎_elim (λ (x : (other ≡ seat) × (both ≡ w)). absurd (apart x.0)) (λ (x : (other ≢ seat) × (get_elem? s.views other ≡ some w)). x.1) (at_set s.views seat other both w there) in
    let longer = length-append v.tickets w.tickets in (
      word,
      h.1,
      record {
        rooms = omega (arith, sum_set (λ (u : SeatKnowledge). u.room) views other w spent_seat there, sum_set (λ u. u.room) s.views seat v both at, c.rooms);
        drawn = omega (arith, sum_set (λ (u : SeatKnowledge). length u.tickets) views other w spent_seat there, sum_set (λ u. length u.tickets) s.views seat v both at, c.drawn, longer);
        once = λ ticket. omega (arith, sum_set (λ (u : SeatKnowledge). times ticket u.tickets) views other w spent_seat there, sum_set (λ u. times ticket u.tickets) s.views seat v both at, c.once ticket, times_append ticket v.tickets w.tickets);
        within = within_set views other spent_seat (within_set s.views seat both c.within (omega (arith, longer, c.within seat v at, c.within other w theirs))) (omega arith);
      },
    )

few_of : (views : List SeatKnowledge) → ((j : ℕ) (u : SeatKnowledge) → get_elem? views j ≡ some u → length u.tickets ≤ u.room) → (ticket j : ℕ) (u : SeatKnowledge) → get_elem? views j ≡ some u → times ticket u.tickets ≤ u.room
few_of views within ticket j u e = omega (arith, times_few ticket u.tickets, within j u e)

pub looks : (limit slots seat : ℕ) (v : SeatKnowledge) → v.room ≡ limit → Allows {S = Unit {0}} (Kept limit) slots seat (v, []) 15 (λ n. n) (Looks (v, []))
looks limit slots seat v all s h homes at fits =
    let word = h.0 in
    let c = h.2 in
    let found : slice_index s.words 15 ≡ word = ap (λ (ws : List ℕ). slice_index ws 15) h.1 in
    let words : set s.words 15 (slice_index s.words 15) ≡ apart word = ap (λ (n : ℕ). set s.words 15 n) found ∙ ap (λ (ws : List ℕ). set ws 15 word) h.1 in
    let views : set s.views seat v ≡ s.views = Rattle.atomic_table.proofs.Lists.set_again s.views seat v at in
    let few = few_of s.views c.within in
    let once : (ticket : ℕ) → times ticket v.tickets ≡ once_below word ticket = λ ticket. omega (arith, sum_gap (λ u. times ticket u.tickets) (λ u. u.room) s.views seat v (few ticket) at, sum_has (λ u. times ticket u.tickets) s.views seat v at, c.rooms, c.once ticket) in
    let drawn : length v.tickets ≡ word = omega (arith, sum_gap (λ u. length u.tickets) (λ u. u.room) s.views seat v c.within at, sum_has (λ u. length u.tickets) s.views seat v at, c.rooms, c.drawn) in (
      v,
      keeps,
      tt,
      (word, words, subst (Counted limit word) (sym views) c),
      subst (λ (n : ℕ). Looks {S = Unit {0}} (v, []) n (v, [])) (sym found) (refl, once, drawn),
    )
