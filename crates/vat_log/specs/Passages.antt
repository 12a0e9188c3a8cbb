-- What passes on the connections of a log: the frames that its records send and receive.
use Rattle.std.specs.Prelude.{ℕ, ◌==◌, Bool, true, false, List, Option, Some, None, if◌then◌else◌}
use Rattle.vat_log.specs.declared.body.Body.{Body}
use Rattle.vat_log.specs.declared.body.Body.TheVariants.{Send, Receive}

-- whether a record sends a frame (true), or receives one, and on which connection
abbrev pub passage_of : Body → Option (Bool × ℕ)
passage_of (Send connection call references frame) = Some (true, connection)
passage_of (Receive connection call references frame) = Some (false, connection)
passage_of _ = None

-- the frame that a record sends or receives
abbrev pub frame_of : Body → Option (List ℕ)
frame_of (Send connection call references frame) = Some frame
frame_of (Receive connection call references frame) = Some frame
frame_of _ = None

-- the connection that a record uses
abbrev pub used_by : Body → Option ℕ
used_by (Send connection call references frame) = Some connection
used_by (Receive connection call references frame) = Some connection
used_by _ = None

-- a record sends a frame
abbrev pub sends : Body → Bool
sends (Send connection call references frame) = true
sends _ = false

-- a record receives a frame
abbrev pub receives : Body → Bool
receives (Receive connection call references frame) = true
receives _ = false

-- a record sends a frame on the connection
abbrev pub sends_frame : ℕ → Body → Bool
sends_frame connection (Send on call references frame) = on == connection
sends_frame connection _ = false

-- a record receives a frame on the connection
abbrev pub receives_frame : ℕ → Body → Bool
receives_frame connection (Receive on call references frame) = on == connection
receives_frame connection _ = false

-- a record sends (true), or receives (false), a frame on the connection
abbrev pub passes : Bool → ℕ → Body → Bool
passes true connection b = sends_frame connection b
passes false connection b = receives_frame connection b

-- the frame that a record sends on the connection
abbrev pub frame_sent : ℕ → Body → Option (List ℕ)
frame_sent connection (Send on call references frame) = if on == connection then Some frame else None
frame_sent connection _ = None

-- the frame that a record receives on the connection
abbrev pub frame_received : ℕ → Body → Option (List ℕ)
frame_received connection (Receive on call references frame) = if on == connection then Some frame else None
frame_received connection _ = None
