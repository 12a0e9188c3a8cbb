-- The order of the queue of received calls, and what is found in a part of it.
use Rattle.std.proofs.Common.{◌≡◌, inl, inr, refl, sym, ◌∙◌, ap, ap₂, subst, ℕ, zero, suc, ◌==◌, ◌<◌, List, [], ◌∷◌, cond, Bool, true, false, not, ◌&&◌, Option, Some, None, option_and_then, arith}
use Rattle.std.specs.Prelude.{is_some}
use Rattle.std.specs.List.{filter, list_any}
use Rattle.std.specs.Map.{lookup}
use Rattle.std.specs.declared.cmp.Ordering.{Ordering}
use Rattle.std.specs.declared.cmp.Ordering.TheVariants.{Less, Equal, Greater}
use Rattle.std.specs.declared.ops.Bound.TheVariants.{Included, Excluded}
use Rattle.std.specs.Ordering.{nat_cmp, ordering_then, ordering_reverse, is_eq, is_le}
use Rattle.std.specs.Cmp.{Equal-is, nat_cmp_total, tied_itself, alike_right, unsigned_ties}
use Rattle.std.specs.BTreeMap.{get}
use Rattle.std.specs.BTreeMap.Range.{range_contains}
use Rattle.std.proofs.lemmas.Bool.{cases_Bool, or_left, or_right, false≢true, eqb-true, lt-ltb}
use Rattle.vat_view.specs.declared.tables.turns.goal_key.GoalKey.{GoalKey}
use Rattle.vat_view.specs.declared.tables.waits.queued_call.QueuedCall.{QueuedCall}
use Rattle.vat_view.specs.contracts.tables.turns.goal_key.GoalKeyOrd.TheImpl as heading_order
use Rattle.vat_view.specs.contracts.tables.turns.goal_key.GoalKeyOrd.TheImpl.Laws as heading_laws
use Rattle.vat_view.specs.contracts.tables.waits.queued_call.QueuedCallOrd.TheImpl.Laws as queued_laws
use Rattle.vat_view.specs.declared.tables.waits.waiting_calls.Receipt.{Receipt}
use Rattle.vat_view.specs.declared.tables.waits.waiting_calls.WaitingCalls.{WaitingCalls}
use Rattle.decoded_records.specs.Past.{is as taken_is}
use Rattle.vat_view.specs.Glue.Queues.{queued_under, queued_cmp, is_queued, ahead_of}
use Rattle.vat_view.specs.Glue.LoopTables.{receipt_at, HasLeft}

some_same : {A : Type 0} {x y : A} → Some x ≡ Some y → x ≡ y
some_same e = cc

-- ---- what is found in a part of a table

-- an entry that lies in the part, and passes
pub found_within : {K X : Type 0} (test : K → Bool) (inside passes : K → Bool) → ((k : K) → test k ≡ true → (inside k ≡ true) × (passes k ≡ true)) →
    (es : List (K × X)) → is_some (lookup test es) ≡ true → list_any (λ e. passes e.0) (filter (λ e. inside e.0) es) ≡ true
found_within test inside passes good [] h = absurd (false≢true h)
found_within test inside passes good (e ∷ es) h = elim (cases_Bool (test e.0)) [
  | inl here ↦
      let both = good e.0 here in
      ap (λ b. list_any (λ x. passes x.0) (cond b (e ∷ filter (λ x. inside x.0) es) (filter (λ x. inside x.0) es))) both.0
      ∙ or_left (passes e.0) (list_any (λ x. passes x.0) (filter (λ x. inside x.0) es)) both.1
  | inr apart ↦ later (inside e.0) (found_within test inside passes good es (sym (ap (λ b. is_some (cond b (Some e.1) (lookup test es))) apart) ∙ h))
]
  where
    later : (b : Bool) → list_any (λ x. passes x.0) (filter (λ x. inside x.0) es) ≡ true →
        list_any (λ x. passes x.0) (cond b (e ∷ filter (λ x. inside x.0) es) (filter (λ x. inside x.0) es)) ≡ true
    later true rest = or_right (passes e.0) (list_any (λ x. passes x.0) (filter (λ x. inside x.0) es)) rest
    later false rest = rest

-- ---- the order

abbrev heading_cmp : GoalKey → GoalKey → Ordering
heading_cmp = (heading_order.ghosts).cmp

-- of two that stand under one connection and heading
level : (k : ℕ) (h : GoalKey) (rest : Ordering) → ordering_then (nat_cmp k k) (ordering_then (heading_cmp h h) rest) ≡ rest
level k h rest = ap₂ (λ a b. ordering_then a (ordering_then b rest)) (tied_itself nat_cmp_total k) (tied_itself heading_laws.total-law h)

below : (n m : ℕ) → n < m → nat_cmp n m ≡ Less
below n m early = ap (λ b. cond b Less (cond (n == m) Equal Greater)) (lt-ltb n m early)

above : (m n : ℕ) → n < m → nat_cmp m n ≡ Greater
above m n early = nat_cmp_total.antisymm m n ∙ ap ordering_reverse (below n m early)

-- nothing stands before 0
from_zero : (n : ℕ) (rest : Ordering) → is_le rest ≡ true → is_le (ordering_then (nat_cmp 0 n) rest) ≡ true
from_zero zero rest h = h
from_zero (suc n) rest h = ap (λ o. is_le (ordering_then o rest)) (below 0 (suc n) (let early : 0 < suc n = omega arith in early))

zero_first : (n : ℕ) → is_le (nat_cmp 0 n) ≡ true
zero_first zero = refl
zero_first (suc n) = ap is_le (below 0 (suc n) (let early : 0 < suc n = omega arith in early))

-- a call that was received before a record lies in the part of its goal up to that record
within : (k : ℕ) (h : GoalKey) (m n c : ℕ) → n < m →
    range_contains queued_cmp (Included (ahead_of k h 0)) (Excluded (ahead_of k h m)) (record { connection = k; heading = h; number = n; call = c }) ≡ true
within k h m n c early =
    ap₂ (λ a b. is_le a && not (is_le b)) (level k h (ordering_then (nat_cmp 0 n) (nat_cmp 0 c))) (level k h (ordering_then (nat_cmp m n) (nat_cmp 0 c)) ∙ ap (λ o. ordering_then o (nat_cmp 0 c)) (above m n early))
    ∙ ap (λ b. b && true) (from_zero n (nat_cmp 0 c) (zero_first c))

-- so does each that the order takes for it
pub tied_within : (k : ℕ) (h : GoalKey) (m n c : ℕ) → n < m → (q : QueuedCall) → is_eq (queued_cmp (record { connection = k; heading = h; number = n; call = c }) q) ≡ true →
    range_contains queued_cmp (Included (ahead_of k h 0)) (Excluded (ahead_of k h m)) q ≡ true
tied_within k h m n c early q tied =
    let p : QueuedCall = record { connection = k; heading = h; number = n; call = c } in
    let alike = alike_right queued_laws.total-law p q in
    let equal : queued_cmp p q ≡ Equal = (Equal-is (queued_cmp p q)).0 tied in
    ap₂ (λ a b. is_le a && not (is_le b)) (sym (alike (ahead_of k h 0) equal)) (sym (alike (ahead_of k h m) equal)) ∙ within k h m n c early

last : (a b : Ordering) → is_eq (ordering_then a b) ≡ true → is_eq b ≡ true
last Less b h = absurd (false≢true h)
last Equal b h = h
last Greater b h = absurd (false≢true h)

-- and it has this call
pub tied_call : (p q : QueuedCall) → is_eq (queued_cmp p q) ≡ true → p.call ≡ q.call
tied_call p q tied =
    let numbers : Ordering = ordering_then (nat_cmp p.number q.number) (nat_cmp p.call q.call) in
    eqb-true p.call q.call
    (unsigned_ties p.call q.call ∙ last (nat_cmp p.number q.number) (nat_cmp p.call q.call)
    (last (heading_cmp p.heading q.heading) numbers (last (nat_cmp p.connection q.connection) (ordering_then (heading_cmp p.heading q.heading) numbers) tied)))

-- a call that is taken out of both tables has left the queue
pub has_left : (old : WaitingCalls) (heading : GoalKey) (taken : Option ℕ) (c : ℕ) → taken ≡ Some c → (found : Receipt) → get nat_cmp old.entries c ≡ Some (Some found) →
    (new : WaitingCalls) (q : QueuedCall) → q ≡ queued_under c found heading → get queued_cmp new.queue q ≡ None → HasLeft taken old heading new
has_left old heading taken c is found there new q named gone call r same was =
    let one : c ≡ call = eqb-true c call (sym (ap (λ o. taken_is call o) is) ∙ same) in
    let had : receipt_at old c ≡ Some r = subst (λ x. receipt_at old x ≡ Some r) (sym one) was in
    let first : found ≡ r = some_same (sym (ap (λ o. option_and_then (λ y. y) o) there) ∙ had) in
    subst (λ x. is_queued new (queued_under x r heading) ≡ false) one
    (subst (λ y. is_queued new (queued_under c y heading) ≡ false) first (subst (λ x. is_queued new x ≡ false) named (ap (λ o. is_some o) gone)))
