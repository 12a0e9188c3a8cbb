-- Which records a log can have (docs/FORMATS.md, on limits).
use Rattle.std.specs.Prelude.{◌≡◌, ℕ, ◌^◌, ◌<◌, ◌≤◌, length, Result, Ok, Err, nat_lt, if◌then◌else◌}
use Rattle.std.specs.List.{All}
use Rattle.vat_log.specs.declared.body.Body.{Body}
use Rattle.vat_log.specs.declared.body.Body.TheVariants.{Host, Vow, Fulfil, Break, Make, Field, Deliver, Answer, Fault, Send, Receive, AnswerBy}
use Rattle.vat_log.specs.declared.error.LogError.{LogError}
use Rattle.vat_log.specs.declared.error.LogError.TheVariants.{ZeroNumber, TooLong, OutOfMemory}
use Rattle.vat_log.specs.declared.version.LogVersion.{LogVersion}
use Rattle.vat_log.specs.declared.version.LogVersion.TheVariants.{One, Two, Three}
use Rattle.vat_log.specs.Log.{Log}

-- how many references, results or path elements a list may have
abbrev pub count_limit : ℕ
count_limit = 1048576

-- how many of its counts a version tells apart, from 0 on
abbrev pub count_reach : LogVersion → ℕ
count_reach One = 2 ^ 16
count_reach Two = 2 ^ 32
count_reach Three = 2 ^ 32

-- how many bytes a frame may have
abbrev pub frame_limit : ℕ
frame_limit = 67108864

-- how many records a log may have
unfoldable pub record_limit : ℕ
record_limit = 4294967295

-- No reference is 0, and no call is 0 but the one noted beside a frame, where 0 stands for no call.
abbrev pub IsNumbered : Body → Type 0
IsNumbered (Host reference object) = 0 < reference
IsNumbered (Vow reference) = 0 < reference
IsNumbered (Fulfil reference to) = (0 < reference) × (0 < to)
IsNumbered (Break reference) = 0 < reference
IsNumbered (Make call reference interface method) = (0 < call) × (0 < reference)
IsNumbered (Field reference call path) = (0 < reference) × (0 < call)
IsNumbered (Deliver call object) = 0 < call
IsNumbered (Answer call results) = (0 < call) × All (λ answered. 0 < answered.0) results
IsNumbered (Fault call) = 0 < call
IsNumbered (Send connection call references frame) =
    All (λ reference. 0 < reference) references
IsNumbered (Receive connection call references frame) =
    All (λ reference. 0 < reference) references
IsNumbered (AnswerBy call by) = (0 < call) × (0 < by)

-- No list is past the limit of its count, and no frame past that of its bytes.
abbrev pub IsCounted : Body → Type 0
IsCounted (Field reference call path) = length path ≤ count_limit
IsCounted (Answer call results) =
    (length results ≤ count_limit) × All (λ answered. length answered.1 ≤ count_limit) results
IsCounted (Send connection call references frame) =
    (length references ≤ count_limit) × (length frame ≤ frame_limit)
IsCounted (Receive connection call references frame) =
    (length references ≤ count_limit) × (length frame ≤ frame_limit)
IsCounted (Host reference object) = Unit {0}
IsCounted (Vow reference) = Unit {0}
IsCounted (Fulfil reference to) = Unit {0}
IsCounted (Break reference) = Unit {0}
IsCounted (Make call reference interface method) = Unit {0}
IsCounted (Deliver call object) = Unit {0}
IsCounted (Fault call) = Unit {0}
IsCounted (AnswerBy call by) = Unit {0}

-- The count of each list is one that this version can spell.
abbrev pub IsListed : LogVersion → Body → Type 0
IsListed version (Field reference call path) = length path < count_reach version
IsListed version (Answer call results) =
    (length results < count_reach version) × All (λ answered. length answered.1 < count_reach version) results
IsListed version (Send connection call references frame) = length references < count_reach version
IsListed version (Receive connection call references frame) = length references < count_reach version
IsListed version (Host reference object) = Unit {0}
IsListed version (Vow reference) = Unit {0}
IsListed version (Fulfil reference to) = Unit {0}
IsListed version (Break reference) = Unit {0}
IsListed version (Make call reference interface method) = Unit {0}
IsListed version (Deliver call object) = Unit {0}
IsListed version (Fault call) = Unit {0}
IsListed version (AnswerBy call by) = Unit {0}

-- Each number is within the width of its field, as the types of the fields keep it.
abbrev pub IsWide : Body → Type 0
IsWide (Host reference object) = (reference < 2 ^ 64) × (object < 2 ^ 64)
IsWide (Vow reference) = reference < 2 ^ 64
IsWide (Fulfil reference to) = (reference < 2 ^ 64) × (to < 2 ^ 64)
IsWide (Break reference) = reference < 2 ^ 64
IsWide (Make call reference interface method) =
    (call < 2 ^ 64) × (reference < 2 ^ 64) × (interface < 2 ^ 64) × (method < 2 ^ 16)
IsWide (Field reference call path) =
    (reference < 2 ^ 64) × (call < 2 ^ 64) × All (λ field. field < 2 ^ 16) path
IsWide (Deliver call object) = (call < 2 ^ 64) × (object < 2 ^ 64)
IsWide (Answer call results) =
    (call < 2 ^ 64) × All (λ answered. (answered.0 < 2 ^ 64) × All (λ field. field < 2 ^ 16) answered.1) results
IsWide (Fault call) = call < 2 ^ 64
IsWide (Send connection call references frame) =
    (connection < 2 ^ 32) × (call < 2 ^ 64) × All (λ reference. reference < 2 ^ 64) references
IsWide (Receive connection call references frame) =
    (connection < 2 ^ 32) × (call < 2 ^ 64) × All (λ reference. reference < 2 ^ 64) references
IsWide (AnswerBy call by) = (call < 2 ^ 64) × (by < 2 ^ 64)

-- what a record can say
pub record Fits (body : Body) : Type 0 where
  pub numbered : IsNumbered body
  pub counted : IsCounted body

-- Why a body is refused: a number that may not be 0 first, then a count.
abbrev pub RefusedFor : LogError → Body → Type 0
RefusedFor (ZeroNumber at) body = (at ≡ 0) × (IsNumbered body → ⊥)
RefusedFor TooLong body = IsNumbered body × (IsCounted body → ⊥)
RefusedFor _ body = ⊥

-- what a log can say
pub record LogFits (limit : ℕ) (log : Log) : Type 0 where
  pub vat : log.vat < 2 ^ 32
  pub counted : length log.records ≤ limit
  pub fit : All Fits log.records
  pub wide : All IsWide log.records
  pub listed : All (IsListed log.version) log.records

-- What is written: the log that is handed in, unless it has too many records.
abbrev pub stored_log : Log → Result Log LogError
stored_log log = if nat_lt record_limit (length log.records) then Err TooLong else Ok log

-- Why a record isn't taken in: the log has as many as it may have, or memory was refused.
abbrev pub NotPushed : Log → LogError → Type 0
NotPushed log TooLong = length log.records ≡ record_limit
NotPushed log OutOfMemory = length log.records < record_limit
NotPushed log _ = ⊥
