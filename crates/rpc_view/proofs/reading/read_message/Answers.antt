use Rattle.rpc_view.proofs.Prices.{is_message, has_price}
use Rattle.rpc_view.proofs.Spelled.{spelled_again}
use Rattle.rpc_view.proofs.Memory.{of_message}
use Rattle.rpc_view.proofs.reading.read_message.Goals as goal

pub returns-clause-exact : goal.returns-clause-exact
returns-clause-exact c = is_message c.args.edition c.args.frame.now c.args.limits c.message.new.limits.words c.message.result c.message.ensures

pub returns-clause-priced : goal.returns-clause-priced
returns-clause-priced c =
    has_price c.args.edition c.args.frame.now c.args.limits c.message.result (is_message c.args.edition c.args.frame.now c.args.limits c.message.new.limits.words c.message.result c.message.ensures)

pub returns-clause-spelled : goal.returns-clause-spelled
returns-clause-spelled c words message cost depth spells same enough deep =
    rw (spelled_again c.args.edition c.args.frame.now c.args.limits words message cost depth spells same enough deep) at (is_message c.args.edition c.args.frame.now c.args.limits c.message.new.limits.words c.message.result c.message.ensures)

pub returns-clause-memory : goal.returns-clause-memory
returns-clause-memory c =
    of_message c.args.edition c.args.frame.now c.args.limits c.message.result (is_message c.args.edition c.args.frame.now c.args.limits c.message.new.limits.words c.message.result c.message.ensures)
