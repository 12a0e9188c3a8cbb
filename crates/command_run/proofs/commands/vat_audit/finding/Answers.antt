use Rattle.command_run.proofs.Listing.{header_empty}
use Rattle.command_run.proofs.commands.vat_audit.finding.Goals as goal

pub audit_stream-found-requires : goal.audit_stream-found-requires
audit_stream-found-requires g c = header_empty c.in-Ok.stream.came.bytes c.in-Ok.stream.log c.in-Ok.ensures.header
