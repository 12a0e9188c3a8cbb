use Rattle.std.proofs.Common.{refl}
use Rattle.wire_steps.proofs.Coming.{notes_one}
use Rattle.wire_steps.proofs.end_log.push_step.Goals as goal

pub returns-in_ok-push-in-Note-clause-come : goal.returns-in_ok-push-in-Note-clause-come
returns-in_ok-push-in-Note-clause-come c =
    notes_one c.args.own.now c.args.peer.now c.args.counts c.args.writer.now c.push.new.writer c.in-Note.body c.requires (c.if-not-is_frame.ensures.sent refl) (c.if-not-is_frame.ensures.received refl) (c.if-not-is_frame.ensures.unused refl) c.in_ok-push-in-Note.ensures.ok
