use Rattle.std.proofs.Common.{◌∙◌, sym, subst}
use Rattle.vat_log.specs.Log.{Log}
use Rattle.wire_steps.specs.Parts.{HasParts}
use Rattle.wire_steps.proofs.Coming.{come_so_far}
use Rattle.wire_steps.proofs.end_log.ended.Goals as goal

pub returns-in-Ok-clause-parts : goal.returns-in-Ok-clause-parts
returns-in-Ok-clause-parts c =
    let P : Log → Type 0 = λ log. HasParts c.args.own.now c.args.peer.now log in
    subst P (sym (c.in_ok-new-in-Ok.ensures.ok ∙ c.in-Ok.ensures.ok)) (come_so_far c.args.own.now c.args.peer.now c.args.counts c.args.writer c.requires.come)
