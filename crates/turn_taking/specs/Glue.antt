-- For the code's contracts, and no part of the meaning: tables of how many records vats took, and how many frames passed.
use Rattle.std.specs.Prelude.{◌≡◌, ℕ, ◌+◌, ◌<◌, ◌^◌, ◌==◌, ◌&&◌, ◌||◌, Bool, length, Option, Some, None, unwrap_or, count_by, if◌then◌else◌}
use Rattle.std.specs.BTreeMap.{get}
use Rattle.std.specs.Ordering.{nat_cmp}
use Rattle.vat_log.specs.Passages.{sends_frame, receives_frame}
use Rattle.vat_log.specs.declared.body.Body.{Body}
use Rattle.turn_taking.specs.declared.vat_counts.VatCounts.{VatCounts}
use Rattle.turn_taking.specs.declared.frame_counts.EndCount.{EndCount}
use Rattle.turn_taking.specs.declared.frame_counts.FrameCounts.{FrameCounts}
use Rattle.turn_taking.specs.declared.pass_tables.PassTables.{PassTables}
use Rattle.turn_taking.specs.Turns.{Turns, records_taken}

-- ---- counts

-- how often a vat came up
abbrev pub count_of : VatCounts → ℕ → ℕ
count_of table v = unwrap_or (get nat_cmp table.counts v) 0

-- none came up
abbrev pub AreEmptyCounts : VatCounts → Type 0
AreEmptyCounts table = (v : ℕ) → count_of table v ≡ 0

-- one came up once more
abbrev pub IsRaised : ℕ → VatCounts → VatCounts → Type 0
IsRaised vat old new = (v : ℕ) → count_of new v ≡ count_of old v + (if vat == v then 1 else 0)

-- every count is as it was
abbrev pub HaveSameCounts : VatCounts → VatCounts → Type 0
HaveSameCounts old new = (v : ℕ) → count_of new v ≡ count_of old v

-- ---- connections

-- how many frames a vat sent or received at an end
abbrev pub passed_at : EndCount → ℕ → ℕ
passed_at end v = if end.vat == v then end.passed else 0

-- the same, where there is an end
abbrev pub passed_if : Option EndCount → ℕ → ℕ
passed_if None v = 0
passed_if (Some end) v = passed_at end v

-- how many frames of a connection a vat sent or received
abbrev pub passed_of : FrameCounts → ℕ → ℕ
passed_of frames v = passed_at frames.first v + passed_if frames.second v + count_of frames.others v

-- the counts of a connection say what they said
pub record IsSameFrames (old new : FrameCounts) : Type 0 where
  pub passed : (v : ℕ) → passed_of new v ≡ passed_of old v
  pub sent : new.sent ≡ old.sent

-- a vat passed one frame more
pub record IsRaisedFrames (vat : ℕ) (old new : FrameCounts) : Type 0 where
  pub passed : (v : ℕ) → passed_of new v ≡ passed_of old v + (if vat == v then 1 else 0)
  pub sent : new.sent ≡ old.sent

-- a vat sent a frame, or received one
pub record IsPassedFrames (vat : ℕ) (sends : Bool) (old new : FrameCounts) : Type 0 where
  pub passed : (v : ℕ) → passed_of new v ≡ passed_of old v + (if vat == v then 1 else 0)
  pub sent : new.sent ≡ old.sent + (if sends then 1 else 0)

-- the same of the first frame
pub record IsBegun (vat : ℕ) (sends : Bool) (frames : FrameCounts) : Type 0 where
  pub passed : (v : ℕ) → passed_of frames v ≡ (if vat == v then 1 else 0)
  pub sent : frames.sent ≡ (if sends then 1 else 0)

-- ---- tables

-- how many frames of a connection a vat sent or received, and how many all vats sent, where it has counts
abbrev pub passed_in : Option FrameCounts → ℕ → ℕ
passed_in None v = 0
passed_in (Some frames) v = passed_of frames v

abbrev pub sent_in : Option FrameCounts → ℕ
sent_in None = 0
sent_in (Some frames) = frames.sent

-- the same on a connection
abbrev pub passed_on : PassTables → ℕ → ℕ → ℕ
passed_on tables v k = passed_in (get nat_cmp tables.connections k) v

abbrev pub sent_count_on : PassTables → ℕ → ℕ
sent_count_on tables k = sent_in (get nat_cmp tables.connections k)

-- every count is as it was
pub record AreSameTables (old new : PassTables) : Type 0 where
  pub records : HaveSameCounts old.records new.records
  pub passed : (v k : ℕ) → passed_on new v k ≡ passed_on old v k
  pub sent : (k : ℕ) → sent_count_on new k ≡ sent_count_on old k

-- nothing is counted
pub record AreEmpty (tables : PassTables) : Type 0 where
  pub records : AreEmptyCounts tables.records
  pub passed : (v k : ℕ) → passed_on tables v k ≡ 0
  pub sent : (k : ℕ) → sent_count_on tables k ≡ 0

-- no count of frames is full
pub record AreRoomy (tables : PassTables) : Type 0 where
  pub passed : (v k : ℕ) → passed_on tables v k + 1 < 2 ^ 64
  pub sent : (k : ℕ) → sent_count_on tables k + 1 < 2 ^ 64

-- a vat sent a frame on a connection, or received one
pub record IsPassed (vat connection : ℕ) (sends : Bool) (old new : PassTables) : Type 0 where
  pub records : HaveSameCounts old.records new.records
  pub passed : (v k : ℕ) → passed_on new v k ≡ passed_on old v k + (if (vat == v) && (connection == k) then 1 else 0)
  pub sent : (k : ℕ) → sent_count_on new k ≡ sent_count_on old k + (if sends && (connection == k) then 1 else 0)

-- a record sends or receives a frame on the connection
abbrev pub passes_frame : ℕ → Body → Bool
passes_frame k body = sends_frame k body || receives_frame k body

-- a vat passed the frame of its record, if it has one
pub record IsNoted (vat : ℕ) (body : Body) (old new : PassTables) : Type 0 where
  pub records : HaveSameCounts old.records new.records
  pub passed : (v k : ℕ) → passed_on new v k ≡ passed_on old v k + (if (vat == v) && passes_frame k body then 1 else 0)
  pub sent : (k : ℕ) → sent_count_on new k ≡ sent_count_on old k + (if sends_frame k body then 1 else 0)

-- a vat took a record
pub record IsTaken (vat : ℕ) (body : Body) (old new : PassTables) : Type 0 where
  pub records : IsRaised vat old.records new.records
  pub passed : (v k : ℕ) → passed_on new v k ≡ passed_on old v k + (if (vat == v) && passes_frame k body then 1 else 0)
  pub sent : (k : ℕ) → sent_count_on new k ≡ sent_count_on old k + (if sends_frame k body then 1 else 0)

-- how many frames a vat sent or received on the connection
abbrev pub passed_by : ℕ → ℕ → Turns → ℕ
passed_by v k turns = count_by (λ turn. (turn.0 == v) && passes_frame k turn.1) turns

-- how many frames all vats sent there
abbrev pub sent_by_any : ℕ → Turns → ℕ
sent_by_any k turns = count_by (λ turn. sends_frame k turn.1) turns

-- the tables count these turns
pub record AreTables (turns : Turns) (count : ℕ) (tables : PassTables) : Type 0 where
  pub counted : length turns ≡ count
  pub few : count < 2 ^ 64
  pub records : (v : ℕ) → count_of tables.records v ≡ length (records_taken v turns)
  pub passed : (v k : ℕ) → passed_on tables v k ≡ passed_by v k turns
  pub sent : (k : ℕ) → sent_count_on tables k ≡ sent_by_any k turns
