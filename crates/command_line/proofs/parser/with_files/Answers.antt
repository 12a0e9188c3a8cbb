use Rattle.std.proofs.Common.{codes}
use Rattle.command_line.specs.Parser.{frame, judging, reader, records}
use Rattle.command_line.proofs.parser.with_files.Goals as goal

pub returns : goal.returns
returns c =
    let auditing = c.with_command-auditing.ensures judging (reader (codes "vat")) c.with_cases.ensures c.reader_command-vat.ensures in
    let listing = c.with_command-listing.ensures _ records auditing c.records_command.ensures in
    let framing = c.with_command-framing.ensures _ frame listing c.frame_command.ensures in
    c.with_command.ensures _ (reader (codes "frames")) framing c.reader_command-frames.ensures
