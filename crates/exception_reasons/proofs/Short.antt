-- How long a reason is at most.
use Rattle.std.proofs.Common.{ℕ, ◌≤◌, List, length, Option, Some, None, Result, Ok, Err, arith, length-take}
use Rattle.std.specs.Prelude.{IfSome}
use Rattle.cap_frame.specs.declared.frame_error.FrameError.{FrameError}
use Rattle.cap_reader.specs.declared.limits.Limits.{Limits}
use Rattle.cap_reader.specs.declared.read_error.ReadError.{ReadError}
use Rattle.cap_reader.specs.Tree.{root_tree}
use Rattle.cap_reader.specs.Reading.{run}
use Rattle.exception_reasons.specs.Reasons.{if_read, reason_in, reason_in_frame}

abbrev IsShort : Option (List ℕ) → Type 0
IsShort found = IfSome found (λ reason. length reason ≤ 1024)

short : (read : Result (Option (List ℕ)) ReadError) → IsShort (if_read read)
short (Ok None) = tt
short (Ok (Some text)) = omega (arith, length-take 1024 text)
short (Err e) = tt

pub short_in_frame : (frame : Result (List (List ℕ)) FrameError) (limits : Limits) → IsShort (reason_in_frame frame limits)
short_in_frame (Ok segments) limits = short (run (reason_in (root_tree limits.depth segments)) limits.words).0
short_in_frame (Err e) limits = tt
