use Rattle.std.proofs.Common.{◌-◌, length}
use Rattle.byte_pieces.specs.Coming.{ComesOn}
use Rattle.vat_log.specs.Fits.{record_limit}
use Rattle.command_run.proofs.Listing.{IsListed}
use Rattle.command_run.proofs.commands.log_records.list_stream.Given as goal

abbrev pub invariant-loop-event : goal.invariant-loop-event
invariant-loop-event g l =
    IsListed l.range.from l.range.count l.edition l.stream (g.O.Output.contents l.initial.out) (g.O.Output.contents l.out) × g.O.Output.can_write l.out × ComesOn l.initial.stream.came l.stream.came

abbrev pub decreases-loop-event : goal.decreases-loop-event
decreases-loop-event g l = record_limit - length l.stream.log.records
