use Rattle.std.proofs.Common.{◌+◌, ◌<◌, ◌^◌, Option, sym, subst}
use Rattle.turn_taking.specs.Glue.{passed_in}
use Rattle.turn_taking.specs.declared.frame_counts.FrameCounts.{FrameCounts}
use Rattle.turn_taking.proofs.pass_tables.PassTables.pass.Goals as goal

pub pass-requires-clause-room : goal.pass-requires-clause-room
pass-requires-clause-room c =
    subst (λ (frames : Option FrameCounts). passed_in frames c.args.vat + 1 < 2 ^ 64) (sym c.in-Some.ensures.value) (c.requires.passed c.args.vat c.args.connection)
