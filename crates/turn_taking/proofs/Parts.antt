-- Turns of several logs, seen as the parts of these logs that came.
use Rattle.std.proofs.Common.{◌≡◌, ℕ, zero, suc, ◌+◌, ◌<◌, ◌≤◌, Bool, true, false, cond, List, [], ◌∷◌, ◌++◌, length, get_or, take, Option, Some, None, refl, sym, ap, subst, ◌∙◌, inl, inr, arith, length-append}
use Rattle.std.specs.Prelude.{◌≢◌, ◌==◌, ◌&&◌, not, map, nat_lt, slice_get, count_by, All, Contains}
use Rattle.std.specs.List.Sorted.{IsStrictlyIncreasing}
use Rattle.std.proofs.lemmas.Bool.{false≢true, eqb-true, eq-eqb, cases_eq}
use Rattle.std.proofs.lemmas.List.{append-nil, take_at, get_or_at, get_or-map, length-map}
use Rattle.std.proofs.lemmas.List.Elements.{All-head, All-tail, Contains-get_or}
use Rattle.std.proofs.lemmas.List.Sums.{sum_by-cons}
use Rattle.std.proofs.lemmas.Map.Keys.{sorted_from_strictly_increasing, below_from_sorted}
use Rattle.std.proofs.lemmas.Option.{slice_get-get_or, slice_get_past}
use Rattle.vat_log.specs.Log.{Log}
use Rattle.vat_log.specs.declared.body.Body.{Body}
use Rattle.vat_log.specs.declared.body.Body.TheVariants.{Receive}
use Rattle.vat_log.specs.Passages.{sends_frame, receives_frame}
use Rattle.merge_order.specs.Fits as fits
use Rattle.merge_order.specs.Fits.{Part, sent_so_far, received_so_far, part_of, sent_by_the_others, may_come_from, may_come, further, after, IsRising}
use Rattle.merge_order.proofs.Greedy.{bool_cases, eqb_apart, further_cases, others_own, others_more}
use Rattle.merge_order.proofs.Steps.{rising_tail, all_passed}
use Rattle.merge_order.proofs.Totals.{part_at}
use Rattle.turn_taking.specs.Turns.{Turns, records_taken, received_by, sent_by_others, may_follow, AreOf}
use Rattle.turn_taking.specs.Orders.{GoesOnWith, IsHeldUp}
use Rattle.turn_taking.proofs.Counting.{count_records, count_of_vat}

-- a log with as many of its records as its vat took
abbrev pub part_behind : Turns → Log → Part
part_behind turns log = record { log = log; came = length (records_taken log.vat turns) }

abbrev pub behind : Turns → List Log → List Part
behind turns logs = map (part_behind turns) logs

-- ---- a turn is a step

further_part : (v : ℕ) (b : Body) (turns : Turns) (log : Log) → further v (part_behind turns log) ≡ part_behind ((v, b) ∷ turns) log
further_part v b turns log =
    let old = length (records_taken log.vat turns) in
    let new = length (records_taken log.vat ((v, b) ∷ turns)) in
    let came : new ≡ old + cond (v == log.vat) 1 0 = count_records log.vat v b turns in
    let part : ℕ → Part = λ n. record { log = log; came = n } in
    elim (further_cases v (part_behind turns log)) [
      | inl stays ↦
          let other : (v == log.vat) ≡ false = eqb_apart v log.vat (λ e. false≢true (sym stays.1 ∙ eq-eqb log.vat v (sym e))) in
          let none : new ≡ old + 0 = came ∙ ap (λ (t : Bool). old + cond t 1 0) other in
          let same : old ≡ new = omega arith in
          stays.0 ∙ ap part same
      | inr moves ↦
          let one : new ≡ old + 1 = came ∙ ap (λ (t : Bool). old + cond t 1 0) (eq-eqb v log.vat (sym moves.1)) in
          moves.0 ∙ ap part (sym one)
    ]

pub after_turn : (v : ℕ) (b : Body) (turns : Turns) (logs : List Log) → after v (behind turns logs) ≡ behind ((v, b) ∷ turns) logs
after_turn v b turns [] = refl
after_turn v b turns (log ∷ logs) =
    let one = further_part v b turns log in
    let others = after_turn v b turns logs in
    cc

-- ---- the records that came

-- each log begins with the records that its vat took
abbrev pub AreBegun : Turns → List Log → Type 0
AreBegun turns logs = All (λ log. (rest : List Body) × (log.records ≡ records_taken log.vat turns ++ rest)) logs

pub begun : (logs : List Log) (turns : Turns) → AreOf logs turns → AreBegun turns logs
begun logs turns are i d lt = are.taken (get_or logs i d) (Contains-get_or logs i d lt)

taken : (log : Log) (turns : Turns) → (rest : List Body) × (log.records ≡ records_taken log.vat turns ++ rest) → take (length (records_taken log.vat turns)) log.records ≡ records_taken log.vat turns
taken log turns (rest, is) = ap (take (length (records_taken log.vat turns))) is ∙ take_at (records_taken log.vat turns) rest _ refl

sent_part : (k : ℕ) (log : Log) (turns : Turns) → (rest : List Body) × (log.records ≡ records_taken log.vat turns ++ rest) → sent_so_far k (part_behind turns log) ≡ count_by (sends_frame k) (records_taken log.vat turns)
sent_part k log turns begins = ap (count_by (sends_frame k)) (taken log turns begins)

received_part : (k : ℕ) (log : Log) (turns : Turns) → (rest : List Body) × (log.records ≡ records_taken log.vat turns ++ rest) → received_so_far k (part_behind turns log) ≡ received_by log.vat k turns
received_part k log turns begins = ap (count_by (receives_frame k)) (taken log turns begins) ∙ count_of_vat (receives_frame k) log.vat turns

-- the frames that the vats of some logs sent, but for one vat
abbrev sent_of : ℕ → ℕ → Turns → List Log → ℕ
sent_of v k turns [] = 0
sent_of v k turns (log ∷ logs) = cond (log.vat == v) 0 (count_by (sends_frame k) (records_taken log.vat turns)) + sent_of v k turns logs

sent_is : (v k : ℕ) (turns : Turns) (logs : List Log) → AreBegun turns logs → sent_by_the_others v k (behind turns logs) ≡ sent_of v k turns logs
sent_is v k turns [] begins = refl
sent_is v k turns (log ∷ logs) begins =
    let P = λ (l : Log). (rest : List Body) × (l.records ≡ records_taken l.vat turns ++ rest) in
    let later = sent_is v k turns logs (All-tail P log logs begins) in
    let own = sent_part k log turns (All-head P log logs begins) in
    let count : Bool → ℕ = λ t. cond t 0 (count_by (sends_frame k) (records_taken log.vat turns)) in
    elim (cases_eq log.vat v) [
      | inl same ↦ let head : count (log.vat == v) ≡ 0 = ap count (eq-eqb _ _ same) in omega (arith, head, later, others_own v k (part_behind turns log) (behind turns logs) same)
      | inr other ↦
          let head : count (log.vat == v) ≡ count_by (sends_frame k) (records_taken log.vat turns) = ap count (eqb_apart _ _ other) in
          omega (arith, head, later, own, others_more v k (part_behind turns log) (behind turns logs) other)
    ]

-- ---- one turn further, one of the logs goes on

sent_by_one : (k u w : ℕ) (b : Body) (turns : Turns) → count_by (sends_frame k) (records_taken u ((w, b) ∷ turns)) ≡ cond ((w == u) && sends_frame k b) 1 0 + count_by (sends_frame k) (records_taken u turns)
sent_by_one k u w b turns =
    omega (
      arith,
      count_of_vat (sends_frame k) u ((w, b) ∷ turns),
      count_of_vat (sends_frame k) u turns,
      sum_by-cons (λ (t : ℕ × Body). cond ((t.0 == u) && sends_frame k t.1) 1 0) (w, b) turns,
    )

sent_by_other : (k u w : ℕ) (b : Body) (turns : Turns) → w ≢ u → count_by (sends_frame k) (records_taken u ((w, b) ∷ turns)) ≡ count_by (sends_frame k) (records_taken u turns)
sent_by_other k u w b turns other = sent_by_one k u w b turns ∙ ap (λ (t : Bool). cond (t && sends_frame k b) 1 0 + count_by (sends_frame k) (records_taken u turns)) (eqb_apart w u other) ∙ omega arith

sent_by_own : (k u w : ℕ) (b : Body) (turns : Turns) → w ≡ u → count_by (sends_frame k) (records_taken u ((w, b) ∷ turns)) ≡ cond (sends_frame k b) 1 0 + count_by (sends_frame k) (records_taken u turns)
sent_by_own k u w b turns same = sent_by_one k u w b turns ∙ ap (λ (t : Bool). cond (t && sends_frame k b) 1 0 + count_by (sends_frame k) (records_taken u turns)) (eq-eqb w u same)

-- no log is the vat's
abbrev IsOfNone : ℕ → List Log → Type 0
IsOfNone w logs = All (λ log. w ≢ log.vat) logs

sent_by_none : (v k w : ℕ) (b : Body) (turns : Turns) (logs : List Log) → IsOfNone w logs → sent_of v k ((w, b) ∷ turns) logs ≡ sent_of v k turns logs
sent_by_none v k w b turns [] none = refl
sent_by_none v k w b turns (log ∷ logs) none =
    let P = λ (l : Log). w ≢ l.vat in
    let head = ap (cond (log.vat == v) 0) (sent_by_other k log.vat w b turns (All-head P log logs none)) in
    omega (arith, head, sent_by_none v k w b turns logs (All-tail P log logs none))

below_head : (log : Log) (logs : List Log) → IsRising (log ∷ logs) → IsOfNone log.vat logs
below_head log logs rising i d lt same =
    let vat = λ (l : Log). l.vat in
    let fits : suc i < length (map vat (log ∷ logs)) = omega (arith, length-map logs vat) in
    let below = below_from_sorted (map vat (log ∷ logs)) 0 (suc i) 0 (sorted_from_strictly_increasing (map vat (log ∷ logs)) rising) (omega arith) fits in
    omega (arith, below, get_or-map vat logs i d 0 lt, same)

sent_here : (its own sends : Bool) (new old later rest : ℕ) → own ≡ its → new ≡ cond sends 1 0 + old → later ≡ rest → cond its 0 new + later ≡ cond (not own && sends) 1 0 + (cond its 0 old + rest)
sent_here true true sends new old later rest same more e = omega arith
sent_here true false sends new old later rest same more e = absurd cc
sent_here false true sends new old later rest same more e = absurd cc
sent_here false false sends new old later rest same more e = omega arith

sent_more : (v k w : ℕ) (b : Body) (turns : Turns) (logs : List Log) (i : ℕ) (d : Log) → IsRising logs → i < length logs → (get_or logs i d).vat ≡ w → sent_of v k ((w, b) ∷ turns) logs ≡ cond (not (w == v) && sends_frame k b) 1 0 + sent_of v k turns logs
sent_more v k w b turns [] i d rising lt vat = absurd (omega arith)
sent_more v k w b turns (log ∷ logs) zero d rising lt vat =
    let rest = sent_by_none v k w b turns logs (subst (λ (u : ℕ). IsOfNone u logs) vat (below_head log logs rising)) in
    let own = sent_by_own k log.vat w b turns (sym vat) in
    sent_here (log.vat == v) (w == v) (sends_frame k b) _ _ _ _ (ap (λ (u : ℕ). u == v) (sym vat)) own rest
sent_more v k w b turns (log ∷ logs) (suc i) d rising lt vat =
    let later = sent_more v k w b turns logs i d (rising_tail log.vat (map (λ l. l.vat) logs) rising) (omega arith) vat in
    let other : w ≢ log.vat = λ same. below_head log logs rising i d (omega arith) (sym (vat ∙ same)) in
    let head = ap (cond (log.vat == v) 0) (sent_by_other k log.vat w b turns other) in
    omega (arith, head, later)

nothing : (t : Bool) → cond {A = ℕ} t 0 0 ≡ 0
nothing true = refl
nothing false = refl

sent_none : (v k : ℕ) (logs : List Log) → sent_of v k [] logs ≡ 0
sent_none v k [] = refl
sent_none v k (log ∷ logs) = omega (arith, sent_none v k logs, nothing (log.vat == v))

-- each turn is of one of the logs
abbrev AreKnown : List Log → Turns → Type 0
AreKnown logs turns = All (λ (turn : ℕ × Body). (log : Log) × Contains logs log × (log.vat ≡ turn.0)) turns

pub known : (logs : List Log) (turns : Turns) → AreOf logs turns → AreKnown logs turns
known logs turns are i d lt = are.known (get_or turns i d) (Contains-get_or turns i d lt)

sent_turns : (v k : ℕ) (logs : List Log) (turns : Turns) → IsRising logs → AreKnown logs turns → sent_of v k turns logs ≡ sent_by_others v k turns
sent_turns v k logs [] rising are = sent_none v k logs
sent_turns v k logs (turn ∷ turns) rising are =
    let P = λ (t : ℕ × Body). (log : Log) × Contains logs log × (log.vat ≡ t.0) in
    let own = All-head P turn turns are in
    let place = own.1 in
    let vat : (get_or logs place.0 own.0).vat ≡ turn.0 = ap (λ (l : Log). l.vat) place.2 ∙ own.2 in
    omega (
      arith,
      sent_more v k turn.0 turn.1 turns logs place.0 own.0 rising place.1 vat,
      sent_turns v k logs turns rising (All-tail P turn turns are),
      sum_by-cons (λ (t : ℕ × Body). cond (not (t.0 == v) && sends_frame k t.1) 1 0) turn turns,
    )

pub sent_others : (v k : ℕ) (logs : List Log) (turns : Turns) → IsRising logs → AreOf logs turns → sent_by_the_others v k (behind turns logs) ≡ sent_by_others v k turns
sent_others v k logs turns rising are = sent_is v k turns logs (begun logs turns are) ∙ sent_turns v k logs turns rising (known logs turns are)

-- ---- what may come

vats_behind : (turns : Turns) (logs : List Log) → map (λ (q : Part). q.log.vat) (behind turns logs) ≡ map (λ log. log.vat) logs
vats_behind turns [] = refl
vats_behind turns (log ∷ logs) = ap (λ (l : List ℕ). log.vat ∷ l) (vats_behind turns logs)

rising_behind : (turns : Turns) (logs : List Log) → IsRising logs → IsStrictlyIncreasing (map (λ (q : Part). q.log.vat) (behind turns logs))
rising_behind turns logs rising = subst (λ (l : List ℕ). IsStrictlyIncreasing l) (sym (vats_behind turns logs)) rising

part_there : (turns : Turns) (logs : List Log) (log : Log) → IsRising logs → Contains logs log → part_of log.vat (behind turns logs) ≡ Some (part_behind turns log)
part_there turns logs log rising (i, lt, is) =
    let p = part_behind turns log in
    let there : i < length (behind turns logs) = omega (arith, length-map logs (part_behind turns)) in
    let same : p ≡ get_or (behind turns logs) i p = sym (get_or-map (part_behind turns) logs i log p lt ∙ ap (part_behind turns) is) in
    part_at (behind turns logs) i p (rising_behind turns logs rising) there same

-- what may come next by the parts is what may follow the turns
follows : (logs : List Log) (turns : Turns) (log : Log) (b : Body) → IsRising logs → AreOf logs turns → Contains logs log
    → fits.may_come_behind log.vat (behind turns logs) (part_behind turns log) (Some b) ≡ may_follow turns log.vat b
follows logs turns log (Receive k call references frame) rising are there =
    let received = received_part k log turns (are.taken log there) in
    let sent = sent_others log.vat k logs turns rising are in
    ap (λ n. nat_lt n (sent_by_the_others log.vat k (behind turns logs))) received ∙ ap (nat_lt (received_by log.vat k turns)) sent
follows logs turns log _ rising are there = refl

next_there : (turns : Turns) (log : Log) (b : Body) → GoesOnWith turns log b → slice_get log.records (length (records_taken log.vat turns)) ≡ Some b
next_there turns log b (rest, is) =
    let n = length (records_taken log.vat turns) in
    let lt : n < length log.records = omega (arith, ap length is, length-append (records_taken log.vat turns) (b ∷ rest)) in
    slice_get-get_or log.records n b lt ∙ ap Some (ap (λ (l : List Body). get_or l n b) is ∙ get_or_at (records_taken log.vat turns) b rest b n refl)

pub comes : (logs : List Log) (turns : Turns) (log : Log) (b : Body) → IsRising logs → AreOf logs turns → Contains logs log → GoesOnWith turns log b → may_come (behind turns logs) log.vat ≡ may_follow turns log.vat b
unfolding may_come
comes logs turns log b rising are there next =
    let ps = behind turns logs in
    ap (may_come_from log.vat ps) (part_there turns logs log rising there)
    ∙ ap (fits.may_come_behind log.vat ps (part_behind turns log)) (next_there turns log b next)
    ∙ follows logs turns log b rising are there

-- a log that has no more may not come
ended : (logs : List Log) (turns : Turns) (log : Log) → IsRising logs → Contains logs log → log.records ≡ records_taken log.vat turns → may_come (behind turns logs) log.vat ≡ false
unfolding may_come
ended logs turns log rising there is =
    let ps = behind turns logs in
    let le : length log.records ≤ length (records_taken log.vat turns) = omega (arith, ap length is) in
    ap (may_come_from log.vat ps) (part_there turns logs log rising there)
    ∙ ap (fits.may_come_behind log.vat ps (part_behind turns log)) (slice_get_past log.records (length (records_taken log.vat turns)) le)

held_log : (logs : List Log) (turns : Turns) (log : Log) → IsRising logs → AreOf logs turns → Contains logs log → IsHeldUp logs turns log.vat → (rest : List Body) → log.records ≡ records_taken log.vat turns ++ rest → may_come (behind turns logs) log.vat ≡ false
held_log logs turns log rising are there held [] is = ended logs turns log rising there (is ∙ append-nil (records_taken log.vat turns))
held_log logs turns log rising are there held (b ∷ rest) is = comes logs turns log b rising are there (rest, is) ∙ held log there refl b (rest, is)

-- the log of a part
log_of : (v : ℕ) (turns : Turns) (logs : List Log) (own : Part) → part_of v (behind turns logs) ≡ Some own → (log : Log) × Contains logs log × (log.vat ≡ v)
log_of v turns [] own e = absurd cc
log_of v turns (log ∷ logs) own e =
    elim (bool_cases (log.vat == v)) [
      | inl same ↦ (log, (0, omega arith, refl), eqb-true _ _ same)
      | inr other ↦
          let later = log_of v turns logs own (rw other at e) in
          (later.0, (suc later.1.0, omega (arith, later.1.1), later.1.2), later.2)
    ]

held_from : (logs : List Log) (turns : Turns) (v : ℕ) → IsRising logs → AreOf logs turns → IsHeldUp logs turns v → (o : Option Part) → part_of v (behind turns logs) ≡ o → may_come (behind turns logs) v ≡ false
held_from logs turns v rising are held None e = all_passed (behind turns logs) v e
held_from logs turns v rising are held (Some own) e =
    let found = log_of v turns logs own e in
    let log = found.0 in
    let vat = found.2 in
    let begins = are.taken log found.1 in
    let own_held : IsHeldUp logs turns log.vat = subst (λ (u : ℕ). IsHeldUp logs turns u) (sym vat) held in
    subst (λ (u : ℕ). may_come (behind turns logs) u ≡ false) vat (held_log logs turns log rising are found.1 own_held begins.0 begins.1)

-- a vat that is held up may not come
pub held_up : (logs : List Log) (turns : Turns) (v : ℕ) → IsRising logs → AreOf logs turns → IsHeldUp logs turns v → may_come (behind turns logs) v ≡ false
held_up logs turns v rising are held = held_from logs turns v rising are held (part_of v (behind turns logs)) refl
