use Rattle.rpc_view.proofs.Prices.{is_message}
use Rattle.rpc_view.proofs.Memory.{of_message}
use Rattle.rpc_view.proofs.reading.read_bytes.Goals as goal

pub returns-clause-exact : goal.returns-clause-exact
returns-clause-exact c =
    rw (← c.as_slice.ensures, ← c.in_ok-frame.ensures.exact) (is_message c.args.edition c.in_ok-frame.frame c.args.limits c.message.new.limits.words c.message.result c.message.ensures)

pub returns-clause-memory : goal.returns-clause-memory
returns-clause-memory c =
    of_message c.args.edition c.in_ok-frame.frame c.args.limits c.message.result (is_message c.args.edition c.in_ok-frame.frame c.args.limits c.message.new.limits.words c.message.result c.message.ensures)
