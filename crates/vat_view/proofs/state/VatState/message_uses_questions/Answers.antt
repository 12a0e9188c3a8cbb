use Rattle.vat_view.proofs.Using.{uses_from}
use Rattle.vat_view.proofs.state.VatState.message_uses_questions.Goals as goal

pub returns : goal.returns
returns c =
    uses_from c.args.self.now c.args.event.now c.all_three.result c.returns_once.result c.takes_once.result c.uses_unfinished.result
    c.all_three.ensures c.returns_once.ensures c.takes_once.ensures c.uses_unfinished.ensures
