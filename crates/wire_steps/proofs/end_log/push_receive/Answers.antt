use Rattle.std.proofs.Common.{◌≡◌, ◌∙◌, Some, ap, sym}
use Rattle.std.specs.Prelude.{slice_get}
use Rattle.std.proofs.lemmas.Option.{slice_get-get_or}
use Rattle.wire_steps.proofs.Coming.{receives_next}
use Rattle.wire_steps.proofs.end_log.push_receive.Goals as goal

pub returns-clause-come : goal.returns-clause-come
returns-clause-come c =
    let found = c.in-Some.ensures.lookup in
    let same = c.in_ok-clone.ensures.cases in
    let there : slice_get c.args.peer.now c.args.counts.received ≡ Some c.in_ok-clone.field-0 =
    slice_get-get_or c.args.peer.now c.args.counts.received c.in-Some.frame.now found.3.0 ∙ ap Some (sym (same ∙ found.1)) in
    receives_next c.args.own.now c.args.peer.now c.args.counts c.args.writer.now c.push.new.writer _ _ _ c.requires there c.in_ok-push.ensures.ok
