use Rattle.std.proofs.Common.{sym, refl, subst, ◌+◌}
use Rattle.vat_view.specs.Glue.TurnTables.{turns_of, IsCallAhead}
use Rattle.vat_view.proofs.Hopping.{further_call_ahead}
use Rattle.vat_view.proofs.walks.shortcuts.longer_for_call.Goals as goal

pub returns : goal.returns
returns c =
    subst (λ leap. IsCallAhead (turns_of c.args.turns.now c.args.bound.now) c.args.call leap) (sym c.in_ok-leap.ensures)
    (further_call_ahead c.args.turns.now c.args.bound.now c.requires.ahead c.args.call c.args.next (c.call_ahead-near.result.turns + c.call_ahead-far.result.turns + 1) c.call_ahead-near.result
    c.call_ahead-far.result c.requires.lands c.call_ahead-near.ensures c.call_ahead-far.ensures refl)
