use Rattle.log_ends.specs.Glue.{sequence_number}
use Rattle.log_ends.proofs.Numbering.{traced_later}
use Rattle.log_ends.proofs.Passing.{has_received, put_back}
use Rattle.log_ends.proofs.passages.push_received.Goals as goal

pub returns-clause-ok : goal.returns-clause-ok
returns-clause-ok c =
    λ sent received has.
    let is = c.taken-passed.ensures.passed (sequence_number c.args.sequences.now) sent received has in
    has_received (sequence_number c.args.sequences.now) (sequence_number c.push.new.sequences) c.push.ensures.keeps c.args.table.now c.insert.new.self c.args.connection c.args.frame.now (record { sent = c.taken-passed.result.sent; received = c.push.new.self }) sent received has
    (put_back c.args.table.now c.taken-passed.new.table c.insert.new.self c.args.connection (record { sent = c.taken-passed.result.sent; received = c.push.new.self }) c.taken-passed.ensures.others c.in_ok-insert.ensures.updates.0)
    (traced_later (sequence_number c.args.sequences.now) (sequence_number c.push.new.sequences) c.push.ensures.keeps c.taken-passed.result.sent.numbers.items (sent c.args.connection) is.out) (c.in_ok-push.ensures.ok (received c.args.connection) is.into)
