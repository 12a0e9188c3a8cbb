use Rattle.std.proofs.Common.{codes}
use Rattle.command_line.specs.Parser.{join, migrate, reading, salvaging, wire, wiring, writer, writing}
use Rattle.command_line.proofs.parser.command_line.Goals as goal

pub returns : goal.returns
returns c =
    let migrated = c.with_command-migrated.ensures reading migrate c.with_files.ensures c.migrate_command.ensures in
    let salvaged = c.with_command-salvaged.ensures writing (writer (codes "salvage")) migrated c.writer_command-salvage.ensures in
    let wired = c.with_command-wired.ensures salvaging wire salvaged c.wire_command.ensures in
    c.with_command.ensures wiring join wired c.join_command.ensures
