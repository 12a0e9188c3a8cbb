use Rattle.std.proofs.Common.{take}
use Rattle.std.specs.List.{flat_map}
use Rattle.std.specs.Io.KnownBytes.{Appends}
use Rattle.vat_log.specs.Spelling.{log_bytes}
use Rattle.command_run.proofs.commands.join_logs.save_logs.Given as goal

abbrev pub invariant-loop-log : goal.invariant-loop-log
invariant-loop-log g l = Appends (g.F.Output.contents l.initial.file) (g.F.Output.contents l.file) (flat_map log_bytes (take l.log-index l.logs)) × g.F.Output.can_write l.file
