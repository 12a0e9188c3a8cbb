use Rattle.std.proofs.Common.{◌≡◌, ℕ, Some}
use Rattle.vat_view.specs.Types.{View}
use Rattle.vat_view.specs.Glue.Tables.{bound_at}
use Rattle.vat_view.specs.Glue.TurnTables.{turns_of}
use Rattle.vat_view.proofs.Binding.{none_ahead}
use Rattle.vat_view.proofs.Hopping.{ahead_carried, calls_remembered}
use Rattle.vat_view.proofs.Ahead.{turns_same}
use Rattle.vat_view.proofs.walks.shortcuts.lengthen_for_call.Goals as goal

pub returns-clause-ahead : goal.returns-clause-ahead
returns-clause-ahead c =
    let bound = c.args.bound.now in let old = c.args.turns.now in let new = c.remember_call.new.self in
    let named : (r : ℕ) (w : View) → bound_at bound r ≡ Some w → bound_at bound r ≡ Some w = λ r w e. e in
    let more : (v w : View) → turns_of old bound v ≡ Some w → turns_of new bound v ≡ Some w = turns_same old new c.remember_call.ensures.same bound bound named in (
      ahead_carried (turns_of old bound) (turns_of new bound) bound bound more named (none_ahead bound) c.requires.ahead.0,
      calls_remembered (turns_of old bound) (turns_of new bound) old.handovers new.handovers more c.args.call c.in-Some.leap c.remember_call.ensures.ahead c.in-Some.ensures c.requires.ahead.1,
    )
