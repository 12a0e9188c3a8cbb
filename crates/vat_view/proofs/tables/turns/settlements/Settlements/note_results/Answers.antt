use Rattle.std.proofs.Common.{refl}
use Rattle.vat_view.proofs.Turned.{call_settled}
use Rattle.vat_view.proofs.tables.turns.settlements.Settlements.note_results.Goals as goal

pub returns-clause-settlers : goal.returns-clause-settlers
returns-clause-settlers c =
    call_settled c.args.self.now
    (record {
      promises = c.args.self.now.promises;
      results = c.note_in.new.table;
      turned = c.note_turned.new.table;
      imports = c.args.self.now.imports;
      handovers = c.args.self.now.handovers;
    })
    c.args.call c.args.number c.args.turned refl refl c.note_in.ensures c.note_turned.ensures
