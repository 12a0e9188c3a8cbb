-- What turns tell of orders.
use Rattle.std.proofs.Common.{◌≡◌, ℕ, zero, suc, ◌+◌, ◌<◌, ◌≤◌, Bool, true, false, List, [], ◌∷◌, ◌++◌, length, refl, sym, ap, subst, ◌∙◌, inl, inr, arith, append_assoc, cond, get_or, length-append}
use Rattle.std.specs.Prelude.{◌⊎◌, ◌==◌, All, Contains, nat_le, map}
use Rattle.std.specs.Option.{option_map}
use Rattle.std.proofs.lemmas.Bool.{false≢true, cases_eq, eq-eqb, le-leb, lt-leb}
use Rattle.std.proofs.lemmas.List.{append-nil, reverse-append}
use Rattle.std.proofs.lemmas.List.Elements.{All-head, All-tail, Contains-get_or}
use Rattle.vat_log.specs.Log.{Log}
use Rattle.vat_log.specs.declared.body.Body.{Body}
use Rattle.merge_order.specs.declared.order_check.OrderFinding.TheVariants as findings
use Rattle.merge_order.specs.Fits.{Part, may_come, after, used_up, begin, IsRising, FitsFrom, IsFitting, TakesLeastFrom, TakesLeast, fault_from, finding_at, finding_of_order}
use Rattle.merge_order.proofs.Greedy.{bool_cases, front}
use Rattle.merge_order.proofs.Steps.{left, falls, checked_none, checked_more, checked_fails, checked_left, finding_fits}
use Rattle.turn_taking.specs.Turns.{Turns, records_taken, order_of, may_follow, AreInOrder, AreOf, AreAll}
use Rattle.turn_taking.specs.Orders.{GoesOnWith, AreLeft, IsHeldUp, AreStuck}
use Rattle.turn_taking.proofs.Parts.{behind, after_turn, comes, held_up}
use Rattle.turn_taking.proofs.Counting.{records_more}

-- ---- the least order

none_more : (p : ℕ → Bool) (n : ℕ) → ((s : ℕ) → s < n → p s ≡ false) → p n ≡ false → (s : ℕ) → s < suc n → p s ≡ false
none_more p n none here s lt =
    elim (cases_eq s n) [
      | inl same ↦ ap p same ∙ here
      | inr other ↦ none s (omega arith)
    ]

-- what holds of a number holds of a least one
least_below : (p : ℕ → Bool) (n : ℕ) → ((s : ℕ) → s < n → p s ≡ false) ⊎ ((m : ℕ) × (p m ≡ true) × ((s : ℕ) → s < m → p s ≡ false))
least_below p zero = inl (λ s lt. absurd (omega arith))
least_below p (suc n) =
    elim (least_below p n) [
      | inr found ↦ inr found
      | inl none ↦ elim (bool_cases (p n)) [
        | inl here ↦ inr (n, here, none)
        | inr fails ↦ inl (none_more p n none fails)
      ]
    ]

least_of : (p : ℕ → Bool) (n : ℕ) → p n ≡ true → (m : ℕ) × (p m ≡ true) × ((s : ℕ) → s < m → p s ≡ false)
least_of p n holds =
    elim (least_below p n) [
      | inr found ↦ found
      | inl none ↦ (n, holds, none)
    ]

least_from : (n : ℕ) (ps : List Part) (order : List ℕ) → left ps ≤ n → FitsFrom ps order → (least : List ℕ) × TakesLeastFrom ps least × FitsFrom ps least
least_from n ps [] le fits = ([], fits, fits)
least_from zero ps (v ∷ order) le fits = absurd (let lt = falls v ps fits.0 in omega arith)
least_from (suc n) ps (v ∷ order) le fits =
    let m = least_of (may_come ps) v fits.0 in
    let rest = front m.0 ps (v ∷ order) m.1 fits in
    let lt = falls m.0 ps m.1 in
    let later = least_from n (after m.0 ps) rest.0 (omega arith) rest.1 in
    (m.0 ∷ later.0, (m.1, m.2, later.1), (m.1, later.2))

pub least_exists : (logs : List Log) (order : List ℕ) → IsFitting logs order → (least : List ℕ) × TakesLeast logs least × IsFitting logs least
least_exists logs order fits = least_from (left (begin logs)) (begin logs) order (omega arith) fits

-- ---- turns in order are steps that may come

-- the turns before the last one are of the logs too
of_before : (logs : List Log) (v : ℕ) (b : Body) (turns : Turns) → AreOf logs ((v, b) ∷ turns) → AreOf logs turns
of_before logs v b turns are = record {
  taken = λ log there. (
      let begins = are.taken log there in
      let one = cond (v == log.vat) (b ∷ []) [] in
      (one ++ begins.0, begins.1 ∙ ap (λ (l : List Body). l ++ begins.0) (records_more log.vat v b turns) ∙ append_assoc (records_taken log.vat turns) one begins.0));
  known = λ turn (i, lt, is). are.known turn (suc i, omega (arith, lt), is);
}

own_next : (logs : List Log) (v : ℕ) (b : Body) (turns : Turns) (log : Log) → AreOf logs ((v, b) ∷ turns) → Contains logs log → log.vat ≡ v → GoesOnWith turns log b
own_next logs v b turns log are there vat =
    let begins = are.taken log there in
    let own : records_taken log.vat ((v, b) ∷ turns) ≡ records_taken log.vat turns ++ b ∷ [] = records_more log.vat v b turns ∙ ap (λ (t : Bool). records_taken log.vat turns ++ cond t (b ∷ []) []) (eq-eqb v log.vat (sym vat)) in
    (begins.0, begins.1 ∙ ap (λ (l : List Body). l ++ begins.0) own ∙ append_assoc (records_taken log.vat turns) (b ∷ []) begins.0)

-- the last turn may come next behind those before it
turn_comes : (logs : List Log) (v : ℕ) (b : Body) (turns : Turns) → IsRising logs → AreInOrder ((v, b) ∷ turns) → AreOf logs ((v, b) ∷ turns) → may_come (behind turns logs) v ≡ true
turn_comes logs v b turns rising ordered are =
    let own = are.known (v, b) (0, omega arith, refl) in
    let log = own.0 in
    let vat = own.2 in
    let comes_next = comes logs turns log b rising (of_before logs v b turns are) own.1 (own_next logs v b turns log are own.1 vat) in
    subst (λ (u : ℕ). may_come (behind turns logs) u ≡ may_follow turns u b) vat comes_next ∙ ordered.0

-- an order one turn further
pub order_more : (v : ℕ) (b : Body) (turns : Turns) (rest : List ℕ) → order_of ((v, b) ∷ turns) ++ rest ≡ order_of turns ++ v ∷ rest
order_more v b turns rest =
    ap (λ (l : List ℕ). l ++ rest) (reverse-append (v ∷ []) (map (λ (turn : ℕ × Body). turn.0) turns)) ∙ append_assoc (order_of turns) (v ∷ []) rest

-- what holds behind turns in order: what is left decides
pub record AreSteps (logs : List Log) (turns : Turns) : Type 0 where
  pub fit : (rest : List ℕ) → FitsFrom (behind turns logs) rest → FitsFrom (begin logs) (order_of turns ++ rest)
  pub kept : (order : List ℕ) → FitsFrom (begin logs) order → (rest : List ℕ) × FitsFrom (behind turns logs) rest
  pub fault : (rest : List ℕ) → fault_from (begin logs) (order_of turns ++ rest) ≡ option_map (λ k. length turns + k) (fault_from (behind turns logs) rest)

pub steps : (logs : List Log) (turns : Turns) → IsRising logs → AreInOrder turns → AreOf logs turns → AreSteps logs turns
steps logs [] rising ordered are = record {
  fit = λ rest fits. fits;
  kept = λ order fits. (order, fits);
  fault = λ rest. checked_none (begin logs) rest;
}
steps logs (turn ∷ turns) rising ordered are =
    let v = turn.0 in
    let b = turn.1 in
    let before = steps logs turns rising ordered.1 (of_before logs v b turns are) in
    let may = turn_comes logs v b turns rising ordered are in
    let now = after_turn v b turns logs in
    record {
      fit = λ rest fits. (
          let here : FitsFrom (after v (behind turns logs)) rest = subst (λ (ps : List Part). FitsFrom ps rest) (sym now) fits in
          subst (λ (l : List ℕ). FitsFrom (begin logs) l) (sym (order_more v b turns rest)) (before.fit (v ∷ rest) (may, here)));
      kept = λ order fits. (
          let left_over = before.kept order fits in
          let later = front v (behind turns logs) left_over.0 may left_over.1 in
          (later.0, subst (λ (ps : List Part). FitsFrom ps later.0) now later.1));
      fault = λ rest. (
          let more = checked_more (behind turns logs) (length turns) v (v ∷ rest) rest (fault_from (begin logs) (order_of turns ++ v ∷ rest)) (before.fault (v ∷ rest)) refl may in
          let count : length turns + 1 ≡ length (turn ∷ turns) = omega arith in
          ap (fault_from (begin logs)) (order_more v b turns rest) ∙ more ∙ ap (λ (ps : List Part). option_map (λ k. length turns + 1 + k) (fault_from ps rest)) now
          ∙ ap (λ (n : ℕ). option_map (λ k. n + k) (fault_from (behind (turn ∷ turns) logs) rest)) count);
    }

-- ---- what is left

all_of : (logs : List Log) (turns : Turns) → AreAll logs turns → AreOf logs turns
all_of logs turns all = record {
  taken = λ log there. ([], all.taken log there ∙ sym (append-nil (records_taken log.vat turns)));
  known = all.known;
}

used : (turns : Turns) (logs : List Log) → All (λ log. log.records ≡ records_taken log.vat turns) logs → used_up (behind turns logs) ≡ true
unfolding used_up
used turns [] all = refl
used turns (log ∷ logs) all =
    let P = λ (l : Log). l.records ≡ records_taken l.vat turns in
    let head : nat_le (length log.records) (length (records_taken log.vat turns)) ≡ true = le-leb _ _ (let same = ap length (All-head P log logs all) in omega arith) in
    rw head (used turns logs (All-tail P log logs all))

all_used : (logs : List Log) (turns : Turns) → AreAll logs turns → used_up (behind turns logs) ≡ true
all_used logs turns all = used turns logs (λ i d lt. all.taken (get_or logs i d) (Contains-get_or logs i d lt))

unused : (turns : Turns) (logs : List Log) (i : ℕ) (d : Log) → i < length logs → length (records_taken (get_or logs i d).vat turns) < length (get_or logs i d).records → used_up (behind turns logs) ≡ false
unfolding used_up
unused turns [] i d lt more = absurd (omega arith)
unused turns (log ∷ logs) zero d lt more = rw (lt-leb _ _ more) refl
unused turns (log ∷ logs) (suc i) d lt more =
    let later = unused turns logs i d (omega arith) more in
    elim (bool_cases (nat_le (length log.records) (length (records_taken log.vat turns)))) [
      | inl le ↦ rw le later
      | inr gt ↦ rw gt refl
    ]

left_unused : (logs : List Log) (turns : Turns) → AreLeft logs turns → used_up (behind turns logs) ≡ false
left_unused logs turns (log, (i, lt, is), b, (rest, goes)) =
    let more : length (records_taken log.vat turns) < length log.records = omega (arith, ap length goes, length-append (records_taken log.vat turns) (b ∷ rest)) in
    unused turns logs i log lt (subst (λ (l : Log). length (records_taken l.vat turns) < length l.records) (sym is) more)

-- ---- the laws

pub turns_fit : (logs : List Log) (turns : Turns) → IsRising logs → AreInOrder turns → AreAll logs turns → IsFitting logs (order_of turns)
turns_fit logs turns rising ordered all =
    let whole = (steps logs turns rising ordered (all_of logs turns all)).fit [] (all_used logs turns all) in
    subst (λ (l : List ℕ). FitsFrom (begin logs) l) (append-nil (order_of turns)) whole

stuck_here : (ps : List Part) (rest : List ℕ) → ((v : ℕ) → may_come ps v ≡ false) → used_up ps ≡ false → FitsFrom ps rest → ⊥
stuck_here ps [] none some fits = false≢true (sym some ∙ fits)
stuck_here ps (v ∷ rest) none some fits = false≢true (sym (none v) ∙ fits.0)

pub stuck_turns : (logs : List Log) (turns : Turns) → IsRising logs → AreInOrder turns → AreOf logs turns → AreStuck logs turns → AreLeft logs turns → (order : List ℕ) → IsFitting logs order → ⊥
stuck_turns logs turns rising ordered are stuck some order fits =
    let rest = (steps logs turns rising ordered are).kept order fits in
    stuck_here (behind turns logs) rest.0 (λ v. held_up logs turns v rising are (stuck v)) (left_unused logs turns some) rest.1

pub order_of_all : (logs : List Log) (turns : Turns) → IsRising logs → AreInOrder turns → AreAll logs turns → finding_of_order logs (order_of turns) ≡ findings.Fits
order_of_all logs turns rising ordered all = (finding_fits logs (order_of turns)).1 (turns_fit logs turns rising ordered all)

pub order_held : (logs : List Log) (turns : Turns) (v : ℕ) (rest : List ℕ) → IsRising logs → AreInOrder turns → AreOf logs turns → IsHeldUp logs turns v → finding_of_order logs (order_of turns ++ v ∷ rest) ≡ findings.Fails (length turns)
order_held logs turns v rest rising ordered are held =
    let fault = (steps logs turns rising ordered are).fault (v ∷ rest) in
    ap finding_at (checked_fails (behind turns logs) (length turns) v (v ∷ rest) rest _ fault refl (held_up logs turns v rising are held))

pub order_ends : (logs : List Log) (turns : Turns) → IsRising logs → AreInOrder turns → AreOf logs turns → AreLeft logs turns → finding_of_order logs (order_of turns) ≡ findings.Fails (length turns)
order_ends logs turns rising ordered are some =
    let fault = (steps logs turns rising ordered are).fault [] in
    let here = ap (fault_from (begin logs)) (sym (append-nil (order_of turns))) ∙ fault in
    ap finding_at (checked_left (behind turns logs) (length turns) [] _ here refl (left_unused logs turns some))
