-- Logs read one after another.
use Rattle.std.proofs.Common.{◌≡◌, ◌+◌, ◌<◌, ◌≤◌, ◌++◌, ℕ, zero, suc, List, [], ◌∷◌, map, length, drop, get_or, Result, Ok, Err, Global, refl, sym, ap, subst, arith, append_assoc, append-nil}
use Rattle.std.specs.Arc.{arc_value}
use Rattle.std.specs.declared.sync.Arc.{Arc}
use Rattle.vat_log.specs.Log.{Log}
use Rattle.vat_log.specs.declared.log.VatLog.{VatLog}
use Rattle.case_files.specs.CaseReading.{After, Done, LogComes, LogsCome, Reads}
use Rattle.case_files.specs.declared.case_fault.CaseFault.{CaseFault}

-- these logs, and then those that come of the rest
abbrev pub before : List Log → Result (List Log) CaseFault → Result (List Log) CaseFault
before logs (Ok rest) = Ok (logs ++ rest)
before logs (Err fault) = Err fault

-- these logs came of the names up to an index: whatever comes of the rest comes behind them
abbrev pub Came : {S A : Type 0} → (A → List ℕ) → Reads S → S → S → List A → ℕ → List Log → Type 0
Came {S} text gives old now names i logs =
    (rest : Result (List Log) CaseFault) (new : S) → LogsCome gives (map text (drop i names)) now rest new → LogsCome gives (map text names) old (before logs rest) new

pub none_yet : {S A : Type 0} (text : A → List ℕ) (gives : Reads S) (old : S) (names : List A) (logs : List Log) → logs ≡ [] → Came text gives old old names 0 logs
none_yet text gives old names [] none (Ok rest) new come = come
none_yet text gives old names [] none (Err fault) new come = come
none_yet text gives old names (log ∷ logs) none rest new come = absurd cc

-- the name at an index, before those after it
name_at : {A : Type 0} (text : A → List ℕ) (names : List A) (i : ℕ) (name : A) → i < length names → name ≡ get_or names i name
    → map text (drop i names) ≡ text name ∷ map text (drop (i + 1) names)
name_at text [] i name h is = absurd (omega arith)
name_at text (x ∷ names) zero name h is = ap (λ n. text n ∷ map text names) (sym is)
name_at text (x ∷ names) (suc i) name h is = let e : suc i + 1 ≡ suc (i + 1) = omega arith in rw e (name_at text names i name (omega arith) is)

behind : {S : Type 0} (log : Log) (rest : Result (List Log) CaseFault) (new : S) → After {S = S} rest (λ logs. Done (log ∷ logs)) new (before (log ∷ []) rest) new
behind log (Ok rest) new = (refl, refl)
behind log (Err fault) new = (refl, refl)

joined : (logs : List Log) (log : Log) (rest : Result (List Log) CaseFault) → before logs (before (log ∷ []) rest) ≡ before (logs ++ log ∷ []) rest
joined logs log (Ok rest) = ap (λ ls. Ok ls) (sym (append_assoc logs (log ∷ []) rest))
joined logs log (Err fault) = refl

pub one_more : {S A : Type 0} (text : A → List ℕ) (gives : Reads S) (old between now : S) (names : List A) (i : ℕ) (name : A) (logs : List Log) (log : Log)
    → i < length names → name ≡ get_or names i name → Came text gives old between names i logs → LogComes gives (text name) between (Ok log) now
    → Came text gives old now names (i + 1) (logs ++ log ∷ [])
one_more {S} text gives old between now names i name logs log h is came comes rest new come =
    let next : LogsCome gives (map text (drop i names)) between (before (log ∷ []) rest) new =
    rw (name_at text names i name h is) (Ok log, (now, (comes, (rest, (new, (come, behind log rest new)))))) in
    subst (λ answer. LogsCome gives (map text names) old answer new) (joined logs log rest) (came (before (log ∷ []) rest) new next)

pub goes_wrong : {S A : Type 0} (text : A → List ℕ) (gives : Reads S) (old between now : S) (names : List A) (i : ℕ) (name : A) (logs : List Log) (fault : CaseFault)
    → i < length names → name ≡ get_or names i name → Came text gives old between names i logs → LogComes gives (text name) between (Err fault) now
    → LogsCome gives (map text names) old (Err fault) now
goes_wrong text gives old between now names i name logs fault h is came comes =
    let next : LogsCome gives (map text (drop i names)) between (Err fault) now = rw (name_at text names i name h is) (Err fault, (now, (comes, (refl, refl)))) in
    came (Err fault) now next

none_left : {A : Type 0} (names : List A) (i : ℕ) → length names ≤ i → drop i names ≡ []
none_left [] zero h = refl
none_left [] (suc i) h = refl
none_left (x ∷ names) zero h = absurd (omega arith)
none_left (x ∷ names) (suc i) h = none_left names i (omega arith)

pub all_came : {S A : Type 0} (text : A → List ℕ) (gives : Reads S) (old now : S) (names : List A) (i : ℕ) (logs : List Log) → length names ≤ i → Came text gives old now names i logs
    → LogsCome gives (map text names) old (Ok logs) now
all_came {S} text gives old now names i logs h came =
    let last : LogsCome gives (map text (drop i names)) now (Ok []) now = rw (none_left names i h) (refl, refl) in
    subst (λ (ls : List Log). LogsCome gives (map text names) old (Ok ls) now) (append-nil logs) (came (Ok []) now last)

pub values_more : (logs : List (Arc VatLog Global)) (log : Arc VatLog Global) → map arc_value (logs ++ log ∷ []) ≡ map arc_value logs ++ arc_value log ∷ []
values_more [] log = refl
values_more (x ∷ logs) log = ap (λ ls. arc_value x ∷ ls) (values_more logs log)
