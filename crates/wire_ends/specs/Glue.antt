-- From what comes next in a log to a message.
use Rattle.std.specs.Prelude.{◌≡◌, ℕ}
use Rattle.wire_cut.specs.declared.end.End.{End}
use Rattle.wire_cut.specs.Ends.{other_end}
use Rattle.wire_steps.specs.declared.end_log.NextMessage.{NextMessage}
use Rattle.wire_steps.specs.declared.end_log.NextMessage.TheVariants.{Own, Peers}

-- what comes next in the log of an end is this message
abbrev pub IsMessageAt : End → NextMessage → End × ℕ → Type 0
IsMessageAt end (Own message) at = at ≡ (end, message)
IsMessageAt end (Peers message) at = at ≡ (other_end end, message)
