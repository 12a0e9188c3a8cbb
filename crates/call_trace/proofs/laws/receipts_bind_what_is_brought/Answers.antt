use Rattle.call_trace.proofs.Binding.{receipts_bind}
use Rattle.call_trace.proofs.laws.receipts_bind_what_is_brought.Goals as goal

pub returns : goal.returns
returns c = receipts_bind
