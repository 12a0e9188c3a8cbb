-- What turns of all records of some logs count to.
use Rattle.std.proofs.Common.{◌≡◌, ℕ, zero, suc, ◌+◌, ◌<◌, Bool, true, cond, List, [], ◌∷◌, length, get_or, refl, sym, ap, ◌∙◌, arith}
use Rattle.std.specs.Prelude.{◌≢◌, ◌==◌, ◌&&◌, map, count_by, sum_by, All, Contains}
use Rattle.std.proofs.lemmas.Bool.{eq-eqb}
use Rattle.std.proofs.lemmas.List.Elements.{All-head, All-tail, Contains-get_or}
use Rattle.std.proofs.lemmas.List.Sums.{sum_by-cons}
use Rattle.merge_order.specs.Fits.{IsRising}
use Rattle.merge_order.proofs.Greedy.{eqb_apart}
use Rattle.merge_order.proofs.Steps.{rising_tail}
use Rattle.vat_log.specs.Log.{Log}
use Rattle.vat_log.specs.declared.body.Body.{Body}
use Rattle.turn_taking.specs.Turns.{Turns, records_taken, AreAll}
use Rattle.turn_taking.proofs.Counting.{count_of_vat}
use Rattle.lock_step.specs.Taking.{count_turns}
use Rattle.lock_step.proofs.Rising.{above_first}

-- ---- the logs of one vat

-- as many as the logs of a vat, if a record passes
abbrev hits : ℕ → Bool → List Log → ℕ
hits v passes logs = sum_by (λ log. cond ((v == log.vat) && passes) 1 0) logs

no_hits : (v : ℕ) (passes : Bool) (logs : List Log) → All (λ log. v ≢ log.vat) logs → hits v passes logs ≡ 0
no_hits v passes [] others = refl
no_hits v passes (log ∷ logs) others =
    let P = λ (l : Log). v ≢ l.vat in
    let none = ap {B = ℕ} (λ (t : Bool). cond (t && passes) 1 0) (eqb_apart v log.vat (All-head P log logs others)) in
    omega (arith, none, no_hits v passes logs (All-tail P log logs others), sum_by-cons (λ (l : Log). cond ((v == l.vat) && passes) 1 0) log logs)

behind_others : (log : Log) (logs : List Log) → IsRising (log ∷ logs) → All (λ l. log.vat ≢ l.vat) logs
behind_others log logs rising i d lt same = omega (arith, above_first (λ (l : Log). l.vat) log logs i d rising lt, same)

one_hit : (v : ℕ) (passes : Bool) (logs : List Log) (i : ℕ) (d : Log) → IsRising logs → i < length logs → (get_or logs i d).vat ≡ v → hits v passes logs ≡ cond passes 1 0
one_hit v passes [] i d rising lt vat = absurd (omega arith)
one_hit v passes (log ∷ logs) zero d rising lt vat =
    let this = ap {B = ℕ} (λ (t : Bool). cond (t && passes) 1 0) (eq-eqb v log.vat (sym vat)) in
    let others : All (λ l. v ≢ l.vat) logs = λ j e fits same. behind_others log logs rising j e fits (vat ∙ same) in
    omega (arith, this, no_hits v passes logs others, sum_by-cons (λ (l : Log). cond ((v == l.vat) && passes) 1 0) log logs)
one_hit v passes (log ∷ logs) (suc i) d rising lt vat =
    let other : v ≢ log.vat = λ same. behind_others log logs rising i d (omega arith) (sym (vat ∙ same)) in
    let none = ap {B = ℕ} (λ (t : Bool). cond (t && passes) 1 0) (eqb_apart v log.vat other) in
    let later = one_hit v passes logs i d (rising_tail log.vat (map (λ l. l.vat) logs) rising) (omega arith) vat in
    omega (arith, none, later, sum_by-cons (λ (l : Log). cond ((v == l.vat) && passes) 1 0) log logs)

-- ---- the turns of each log

abbrev own : (Body → Bool) → Turns → Log → ℕ
own test turns log = count_by test (records_taken log.vat turns)

own_none : (test : Body → Bool) (logs : List Log) → sum_by (own test []) logs ≡ 0
own_none test [] = refl
own_none test (log ∷ logs) = omega (arith, own_none test logs, sum_by-cons (own test []) log logs)

own_more : (test : Body → Bool) (v : ℕ) (b : Body) (turns : Turns) (logs : List Log) → sum_by (own test ((v, b) ∷ turns)) logs ≡ hits v (test b) logs + sum_by (own test turns) logs
own_more test v b turns [] = refl
own_more test v b turns (log ∷ logs) =
    omega (
      arith,
      own_more test v b turns logs,
      count_of_vat test log.vat ((v, b) ∷ turns),
      count_of_vat test log.vat turns,
      sum_by-cons (λ (t : ℕ × Body). cond ((t.0 == log.vat) && test t.1) 1 0) (v, b) turns,
      sum_by-cons (own test ((v, b) ∷ turns)) log logs,
      sum_by-cons (λ (l : Log). cond ((v == l.vat) && test b) 1 0) log logs,
      sum_by-cons (own test turns) log logs,
    )

-- each turn is of one of the logs
abbrev AreKnown : List Log → Turns → Type 0
AreKnown logs turns = (turn : ℕ × Body) → Contains turns turn → (log : Log) × Contains logs log × (log.vat ≡ turn.0)

known_before : (logs : List Log) (turn : ℕ × Body) (turns : Turns) → AreKnown logs (turn ∷ turns) → AreKnown logs turns
known_before logs turn turns known t (k, lt, is) = known t (suc k, omega arith, is)

all_own : (test : Body → Bool) (logs : List Log) (turns : Turns) → IsRising logs → AreKnown logs turns → sum_by (own test turns) logs ≡ count_turns test turns
all_own test logs [] rising known = own_none test logs
all_own test logs (turn ∷ turns) rising known =
    let of = known turn (zero, omega arith, refl) in
    let one = one_hit turn.0 (test turn.1) logs of.1.0 of.0 rising of.1.1 (ap (λ (l : Log). l.vat) of.1.2 ∙ of.2) in
    omega (
      arith,
      one,
      own_more test turn.0 turn.1 turns logs,
      all_own test logs turns rising (known_before logs turn turns known),
      sum_by-cons (λ (t : ℕ × Body). cond (test t.1) 1 0) turn turns,
    )

same_sums : (f g : Log → ℕ) (logs : List Log) → All (λ log. f log ≡ g log) logs → sum_by f logs ≡ sum_by g logs
same_sums f g [] same = refl
same_sums f g (log ∷ logs) same =
    let P = λ (l : Log). f l ≡ g l in
    omega (arith, All-head P log logs same, same_sums f g logs (All-tail P log logs same), sum_by-cons f log logs, sum_by-cons g log logs)

-- ---- all records

-- the turns that pass a test are the records that do
pub counted : (test : Body → Bool) (logs : List Log) (turns : Turns) → IsRising logs → AreAll logs turns → count_turns test turns ≡ sum_by (λ log. count_by test log.records) logs
counted test logs turns rising all =
    sym (all_own test logs turns rising all.known)
    ∙ same_sums (own test turns) (λ log. count_by test log.records) logs (λ i d lt. ap (count_by test) (sym (all.taken (get_or logs i d) (Contains-get_or logs i d lt))))

count_all : {X : Type 0} (xs : List X) → count_by (λ _. true) xs ≡ length xs
count_all [] = refl
count_all {X} (x ∷ xs) = omega (arith, count_all xs, sum_by-cons (λ (y : X). 1) x xs)

-- there are as many turns as records
pub counted_all : (logs : List Log) (turns : Turns) → IsRising logs → AreAll logs turns → length turns ≡ sum_by (λ log. length log.records) logs
counted_all logs turns rising all =
    sym (count_all turns) ∙ counted (λ _. true) logs turns rising all ∙ same_sums (λ log. count_by (λ _. true) log.records) (λ log. length log.records) logs (λ i d lt. count_all (get_or logs i d).records)
