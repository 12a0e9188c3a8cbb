use Rattle.std.proofs.Common.{◌∙◌, Option, ap, sym, subst, set, arith}
use Rattle.merge_order.specs.Fits.{Part, after}
use Rattle.merge_order.specs.Glue.{RisesWith, came_by_all}
use Rattle.merge_order.specs.Waits.{next_from, sent_by}
use Rattle.merge_order.proofs.Places.{found_part}
use Rattle.merge_order.proofs.Steps.{rising_after}
use Rattle.merge_order.proofs.Totals.{no_part, own_at, all_le_came, totals_set}
use Rattle.merge_order.proofs.order_progress.Progress.take.Goals as goal

pub unreachable-requires : goal.unreachable-requires
unreachable-requires c = no_part c.args.vat c.args.self.now c.in_default.ensures c.requires.may

pub go_on-requires-clause-left : goal.go_on-requires-clause-left
go_on-requires-clause-left c =
    let own = own_at c.args.vat c.self.inside.cursors.items c.args.self.now c.in-Some.at c.index_mut.result.now c.self.view_is c.self.invariant.rising c.requires.may c.in-Some.ensures c.index_mut.ensures.value in
    own.left

pub go_on-requires-clause-roomy : goal.go_on-requires-clause-roomy
go_on-requires-clause-roomy c =
    λ connection. omega (arith, c.self.invariant.sum connection, all_le_came connection c.self.inside.cursors.items, ap came_by_all c.self.view_is, c.requires.few)

pub invariant_of-self : goal.invariant_of-self
invariant_of-self c =
    let parts = c.self.inside.cursors.items in
    let own = own_at c.args.vat parts c.args.self.now c.in-Some.at c.index_mut.result.now c.self.view_is c.self.invariant.rising c.requires.may c.in-Some.ensures c.index_mut.ensures.value in
    let rises = subst (λ (part : Part). RisesWith part c.go_on.new.self c.self.inside.totals c.go_on.new.totals) c.index_mut.ensures.value c.in-Ok.ensures.adds in
    record {
      rising = rising_after c.args.vat parts (set parts c.in-Some.at c.go_on.new.self) (ap (set parts c.in-Some.at) c.in-Ok.ensures.goes ∙ sym own.after) c.self.invariant.rising;
      sum = totals_set parts c.in-Some.at c.go_on.new.self c.index_mut.result.now c.self.inside.totals c.go_on.new.totals own.there rises c.self.invariant.sum;
    }

pub returns-in-Ok-clause-later : goal.returns-in-Ok-clause-later
returns-in-Ok-clause-later c =
    let parts = c.self.inside.cursors.items in
    let own = own_at c.args.vat parts c.args.self.now c.in-Some.at c.index_mut.result.now c.self.view_is c.self.invariant.rising c.requires.may c.in-Some.ensures c.index_mut.ensures.value in
    ap (set parts c.in-Some.at) c.in-Ok.ensures.goes ∙ sym own.after ∙ ap (after c.args.vat) c.self.view_is

pub returns-in-Ok-clause-sent : goal.returns-in-Ok-clause-sent
returns-in-Ok-clause-sent c =
    let own = found_part c.args.vat c.self.inside.cursors.items c.args.self.now c.in-Some.at c.index_mut.result.now c.self.view_is c.self.invariant.rising c.in-Some.ensures c.index_mut.ensures.value in
    c.in-Ok.ensures.sent ∙ ap (λ (o : Option Part). sent_by (next_from o)) own
