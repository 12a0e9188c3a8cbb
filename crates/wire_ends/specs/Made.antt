-- What the two logs that are made have of the two files.
use Rattle.std.specs.Prelude.{◌≡◌, ◌⊎◌, ℕ, List, length, IsTrue}
use Rattle.std.specs.Arc.{arc_value}
use Rattle.vat_log.specs.Fits.{record_limit}
use Rattle.vat_log.specs.Log.{Log}
use Rattle.link_check.specs.Prefix.{frames_sent, frames_received}
use Rattle.wire_cut.specs.declared.end.End.{End}
use Rattle.wire_cut.specs.declared.end.End.TheVariants.{A, B}
use Rattle.wire_steps.specs.Parts.{connection, HasParts, HasAll}
use Rattle.wire_ends.specs.declared.made_logs.MadeLogs.{MadeLogs}
use Rattle.wire_ends.specs.declared.made_logs.Making.{Making}
use Rattle.wire_ends.specs.declared.made_logs.Making.TheVariants.{Made, Full}

-- the log of vat 1 sends the frames of the first file from the first one on, and receives those of the second; that of vat 2
-- the other way round. Where they are said to be whole, they have all frames
pub record AreLogs (a b : List (List ℕ)) (made : MadeLogs) : Type 0 where
  pub vat_of_a : (arc_value made.log_of_a).vat ≡ 1
  pub vat_of_b : (arc_value made.log_of_b).vat ≡ 2
  pub parts_of_a : HasParts a b (arc_value made.log_of_a)
  pub parts_of_b : HasParts b a (arc_value made.log_of_b)
  pub all_of_a : IsTrue made.is_whole → HasAll a b (arc_value made.log_of_a)
  pub all_of_b : IsTrue made.is_whole → HasAll b a (arc_value made.log_of_b)

-- the frames of an end (the second one) that the log of an end (the first one) has
abbrev pub frames_in : End → Log → End → List (List ℕ)
frames_in A log A = frames_sent connection log
frames_in A log B = frames_received connection log
frames_in B log A = frames_received connection log
frames_in B log B = frames_sent connection log

-- an end's log has as many records as a log may have, and this message would come next in it
pub record IsFullLog (of : End) (log : Log) (end : End) (message : ℕ) : Type 0 where
  pub full : length log.records ≡ record_limit
  pub next : message ≡ length (frames_in of log end)

-- so it is with the log of one of both ends, which has the frames of both files from the first ones on
pub record IsFullOf (own peer : List (List ℕ)) (of : End) (vat : ℕ) (log : Log) (end : End) (message : ℕ) : Type 0 where
  pub vat_is : log.vat ≡ vat
  pub parts : HasParts own peer log
  pub full : IsFullLog of log end message

abbrev pub IsFullAt : (a b : List (List ℕ)) → Log → End → ℕ → Type 0
IsFullAt a b log end message = IsFullOf a b A 1 log end message ⊎ IsFullOf b a B 2 log end message

-- what is made
abbrev pub HasMade : (a b : List (List ℕ)) → Making → Type 0
HasMade a b (Made logs) = AreLogs a b logs
HasMade a b (Full end message log) = IsFullAt a b (arc_value log) end message
