use Rattle.std.proofs.Common.{◌≡◌, ◌⊎◌, map, refl}
use Rattle.clap.specs.Words.{kind_of}
use Rattle.clap.specs.declared.error.ErrorKind.TheVariants.{OutOfMemory, ValueValidation}
use Rattle.clap.proofs.TakesLemmas.{passed_up}
use Rattle.command_line.proofs.Matched.{fails_by_memory, fails_by_value, handed_on, refused_never}
use Rattle.command_line.proofs.Taken.{refuses, takes}
use Rattle.command_line.proofs.command.command_of.Goals as goal

pub returns-in_err-command-clause-taken : goal.returns-in_err-command-clause-taken
returns-in_err-command-clause-taken g c is =
    let words = map g.S.AsStr.text c.args.words.now in
    passed_up c.from_residual.result c.in_err-command.field-0.0 (λ e. kind_of e ≡ OutOfMemory) c.from_residual.ensures.1
    (fails_by_memory words words c.in_err-command.field-0.0 c.in_err-command.ensures.kinds refl (takes words is))

pub returns-in_err-command-clause-refused : goal.returns-in_err-command-clause-refused
returns-in_err-command-clause-refused g c is =
    let words = map g.S.AsStr.text c.args.words.now in
    handed_on c.from_residual.result c.in_err-command.field-0.0 (λ e. (kind_of e ≡ OutOfMemory) ⊎ (kind_of e ≡ ValueValidation)) c.from_residual.ensures.1
    (fails_by_value words words c.in_err-command.field-0.0 c.in_err-command.ensures.kinds refl (refuses words is))

pub returns-clause-refused : goal.returns-clause-refused
returns-clause-refused g c is =
    let words = map g.S.AsStr.text c.args.words.now in
    absurd (refused_never words words c.in_ok-command.ensures.kinds refl (refuses words is))
