-- What turns tell of the orders of whole logs.
use Rattle.std.specs.Prelude.{◌≡◌, ℕ, false, List, ◌∷◌, ◌++◌, Contains}
use Rattle.vat_log.specs.Log.{Log}
use Rattle.vat_log.specs.declared.body.Body.{Body}
use Rattle.turn_taking.specs.Turns.{Turns, records_taken, may_follow}

-- a log goes on with this record behind the turns of its vat
abbrev pub GoesOnWith : Turns → Log → Body → Type 0
GoesOnWith turns log next = (rest : List Body) × (log.records ≡ records_taken log.vat turns ++ next ∷ rest)

-- records are left: one of the logs goes on
abbrev pub AreLeft : List Log → Turns → Type 0
AreLeft logs turns = (log : Log) × Contains logs log × (next : Body) × GoesOnWith turns log next

-- no record of the vat may come next: it has no log, or its log has no more, or goes on with a record that may not follow
abbrev pub IsHeldUp : List Log → Turns → ℕ → Type 0
IsHeldUp logs turns v = (log : Log) → Contains logs log → log.vat ≡ v → (next : Body) → GoesOnWith turns log next → may_follow turns v next ≡ false

-- no record may come next
abbrev pub AreStuck : List Log → Turns → Type 0
AreStuck logs turns = (v : ℕ) → IsHeldUp logs turns v
