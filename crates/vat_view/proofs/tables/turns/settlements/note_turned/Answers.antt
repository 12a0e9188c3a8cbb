use Rattle.vat_view.proofs.Turned.{turned_noted}
use Rattle.vat_view.proofs.tables.turns.settlements.note_turned.Goals as goal

pub returns : goal.returns
returns c = turned_noted c.args.table.now c.replace.new.self c.args.call c.args.turned c.replace.result c.requires c.replace.ensures.last c.replace.ensures.values
