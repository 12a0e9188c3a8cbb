use Rattle.call_trace.proofs.Receipts.{message_read}
use Rattle.call_trace.proofs.laws.messages_are_read_as_sent.Goals as goal

pub returns : goal.returns
returns c = λ k v w d one its_steps other steps references m from sent message bound met linked good passed there.
    message_read k v w d one its_steps other steps references m from sent message bound met linked good passed there
