use Rattle.std.proofs.Common.{rules}
use Rattle.cap_reader.specs.Tree.{root_tree}
use Rattle.cap_reader.specs.Reading.{pay_for}
use Rattle.rpc_view.specs.Glue.{sections_of}
use Rattle.rpc_view.specs.Message.{body_in}
use Rattle.rpc_view.proofs.Judged.{message_goes}
use Rattle.rpc_view.proofs.reading.message.Goals as goal

pub returns-in_default : goal.returns-in_default
unfolding body_in pay_for
returns-in_default c =
    rw (message_goes c.args.edition (root_tree c.args.limits.now.depth c.args.frame.now) c.args.limits.now.words c.root_struct.new.limits.words (sections_of c.args.frame.now c.in_ok-message.message) c.in_ok-message.ensures) (search rules)

pub returns-in-7-to-12 : goal.returns-in-7-to-12
unfolding body_in pay_for
returns-in-7-to-12 c =
    rw (message_goes c.args.edition (root_tree c.args.limits.now.depth c.args.frame.now) c.args.limits.now.words c.root_struct.new.limits.words (sections_of c.args.frame.now c.in_ok-message.message) c.in_ok-message.ensures) (search rules)
