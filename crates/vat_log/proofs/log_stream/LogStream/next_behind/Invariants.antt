use Rattle.std.proofs.Common.{◌≡◌, ◌+◌, ◌-◌, ◌^◌, length}
use Rattle.byte_pieces.specs.Coming.{ComesOn}
use Rattle.vat_log.specs.Spelling.{log_bytes}
use Rattle.vat_log.proofs.log_stream.LogStream.next_behind.Given as goal

abbrev pub invariant-loop-entry : goal.invariant-loop-entry
invariant-loop-entry g l = record {
  log : l.self.log ≡ l.initial.self.log;
  on : ComesOn l.initial.self.came l.self.came;
}

abbrev pub decreases-loop-entry : goal.decreases-loop-entry
decreases-loop-entry g l = length (log_bytes l.self.log) + 2 ^ 63 - length l.self.came.bytes
