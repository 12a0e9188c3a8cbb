-- Turns that vats took, each with the next record of its log: what is known of several logs that are read side by side.
use Rattle.std.specs.Prelude.{◌≡◌, ℕ, ◌==◌, ◌&&◌, ⊤, Bool, true, not, IsTrue, List, [], ◌∷◌, ◌++◌, ◌-◌, Option, Some, None, if◌then◌else◌, Contains, count_by, map, nat_lt, reverse}
use Rattle.std.specs.List.{filter_map}
use Rattle.vat_log.specs.Log.{Log}
use Rattle.vat_log.specs.Passages.{sends_frame, receives_frame}
use Rattle.vat_log.specs.declared.body.Body.{Body}
use Rattle.vat_log.specs.declared.body.Body.TheVariants.{Receive}

-- the turns so far, each a vat and its record, the newest first
abbrev pub Turns : Type 0
Turns = List (ℕ × Body)

-- the record of a turn of this vat
abbrev pub of_vat : ℕ → ℕ × Body → Option Body
of_vat v turn = if turn.0 == v then Some turn.1 else None

-- the records that a vat took, in their order
abbrev pub records_taken : ℕ → Turns → List Body
records_taken v turns = reverse (filter_map (of_vat v) turns)

-- the vat of each turn, in their order
abbrev pub order_of : Turns → List ℕ
order_of turns = reverse (map (λ turn. turn.0) turns)

-- how many frames a vat received on the connection
abbrev pub received_by : ℕ → ℕ → Turns → ℕ
received_by v k turns = count_by (λ turn. (turn.0 == v) && receives_frame k turn.1) turns

-- how many frames the other vats sent there
abbrev pub sent_by_others : ℕ → ℕ → Turns → ℕ
sent_by_others v k turns = count_by (λ turn. not (turn.0 == v) && sends_frame k turn.1) turns

-- how many frames are under way to a vat there: the others sent them, and it didn't receive them
abbrev pub under_way : ℕ → ℕ → Turns → ℕ
under_way v k turns = sent_by_others v k turns - received_by v k turns

-- A record may come next of a vat: a RECV where the others sent more frames on the connection than the vat received there, any
-- other record always.
abbrev pub may_follow : Turns → ℕ → Body → Bool
may_follow turns v (Receive k call references frame) = nat_lt (received_by v k turns) (sent_by_others v k turns)
may_follow turns v body = true

-- each turn might come next after those before it
abbrev pub AreInOrder : Turns → Type 0
AreInOrder [] = ⊤
AreInOrder (turn ∷ before) = IsTrue (may_follow before turn.0 turn.1) × AreInOrder before

-- the turns are of these logs: each log begins with the records that its vat took, and each turn is of one of the logs
pub record AreOf (logs : List Log) (turns : Turns) : Type 0 where
  pub taken : (log : Log) → Contains logs log → (rest : List Body) × (log.records ≡ records_taken log.vat turns ++ rest)
  pub known : (turn : ℕ × Body) → Contains turns turn → (log : Log) × Contains logs log × (log.vat ≡ turn.0)

-- they are all the records of these logs
pub record AreAll (logs : List Log) (turns : Turns) : Type 0 where
  pub taken : (log : Log) → Contains logs log → log.records ≡ records_taken log.vat turns
  pub known : (turn : ℕ × Body) → Contains turns turn → (log : Log) × Contains logs log × (log.vat ≡ turn.0)
