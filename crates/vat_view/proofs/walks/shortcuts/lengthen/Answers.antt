use Rattle.std.proofs.Common.{◌≡◌, ◌∙◌, ◌+◌, ℕ, inl, Some, sym, refl, subst}
use Rattle.vat_view.specs.Types.{View}
use Rattle.vat_view.specs.Glue.Tables.{bound_at}
use Rattle.vat_view.specs.Glue.TurnTables.{turns_of, IsAhead}
use Rattle.vat_view.proofs.Hopping.{turns_more, ahead_remembered, calls_carried, further_ahead, onward_kept}
use Rattle.vat_view.proofs.walks.shortcuts.lengthen.Goals as goal

pub returns-in-Some-clause-ahead : goal.returns-in-Some-clause-ahead
returns-in-Some-clause-ahead c =
    let turns = c.args.turns.now in let old = c.args.bound.now in let new = c.remember.new.self in
    let near = c.in-Some.ensures.1.0 in let far = c.in-Some.ensures.1.1 in
    let named : (r : ℕ) (w : View) → bound_at old r ≡ Some w → bound_at new r ≡ Some w = λ r w e. c.remember.ensures.views r ∙ e in
    let more : (v w : View) → turns_of turns old v ≡ Some w → turns_of turns new v ≡ Some w = turns_more turns turns old new named (λ v l e. e) in
    let there : IsAhead (turns_of turns old) old c.args.reference c.in-Some.leap =
    subst (λ leap. IsAhead (turns_of turns old) old c.args.reference leap) (sym c.in-Some.ensures.1.4)
    (further_ahead turns old c.requires.ahead c.args.reference c.args.next (near.turns + far.turns + 1) near far c.requires.lands c.in-Some.ensures.1.2 c.in-Some.ensures.1.3 refl) in (
      ahead_remembered (turns_of turns old) (turns_of turns new) old new more named c.args.reference c.in-Some.leap c.remember.ensures.ahead there c.requires.ahead.0,
      calls_carried (turns_of turns old) (turns_of turns new) turns.handovers turns.handovers more (λ c q e. inl e) c.requires.ahead.1,
    )

pub returns-in-Some-clause-after : goal.returns-in-Some-clause-after
returns-in-Some-clause-after c =
    onward_kept c.args.turns.now c.args.bound.now c.remember.new.self c.args.reference c.in-Some.leap c.remember.ensures.views c.remember.ensures.ahead c.args.next c.in_ok-after.after
    c.in-Some.ensures.0 (sym c.onward.ensures ∙ c.in_ok-after.was)
