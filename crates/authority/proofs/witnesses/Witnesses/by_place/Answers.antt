use Rattle.std.proofs.Common.{◌≡◌, ◌∙◌, ap, subst, List, map}
use Rattle.std.proofs.lemmas.Map.Iter.{rest_all}
use Rattle.run_model.specs.Edges.{Edge}
use Rattle.authority.specs.Glue.Keys.{entry_edge}
use Rattle.authority.specs.Glue.EdgePlaces.{IsByPlace}
use Rattle.authority.proofs.Placing.{Found, IsPlaced, placed_none, placed_turn, placed_all}
use Rattle.authority.proofs.witnesses.Witnesses.by_place.Goals as goal

pub loop-key-init : goal.loop-key-init
loop-key-init c = placed_none c.into_iter-key-iterator.result c.new-table.result c.new-table.ensures.ordered c.new-table.ensures.empty

pub loop-key-preserved-in_ok-insert : goal.loop-key-preserved-in_ok-insert
loop-key-preserved-in_ok-insert c =
    placed_turn c.args.self c.self.inside.entries.entries c.into_iter-key-iterator.result c.loop-key.key-iterator c.next.new.self c.next.result (c.in-Some.key, (c.in-Some.at_record, c.in-Some.place))
    c.in_ok-vat.vat c.in_ok-vat.cap c.loop-key.table c.insert.new.self c.requires c.self.view_is c.into_iter-key-iterator.ensures.into_iter_gives.0 c.in-Some.is c.next.ensures.steps
    c.in_ok-vat.ensures c.loop-key.invariant c.in_ok-insert.ensures.ordered c.in_ok-insert.ensures.entries

pub loop-key-preserved-in_ok-insert-2 : goal.loop-key-preserved-in_ok-insert-2
loop-key-preserved-in_ok-insert-2 c =
    placed_turn c.args.self c.self.inside.entries.entries c.into_iter-key-iterator.result c.loop-key.key-iterator c.next.new.self c.next.result (c.in-Some.key, (c.in-Some.at_record, c.in-Some.place))
    c.in_ok-vat.vat c.in_ok-vat.cap c.loop-key.table c.insert.new.self c.requires c.self.view_is c.into_iter-key-iterator.ensures.into_iter_gives.0 c.in-Some.is c.next.ensures.steps
    c.in_ok-vat.ensures c.loop-key.invariant c.in_ok-insert.ensures.ordered c.in_ok-insert.ensures.entries

pub loop-key-preserved-in_ok-insert-3 : goal.loop-key-preserved-in_ok-insert-3
loop-key-preserved-in_ok-insert-3 c =
    placed_turn c.args.self c.self.inside.entries.entries c.into_iter-key-iterator.result c.loop-key.key-iterator c.next.new.self c.next.result (c.in-Some.key, (c.in-Some.at_record, c.in-Some.place))
    c.in_ok-vat.vat c.in_ok-vat.cap c.loop-key.table c.insert.new.self c.requires c.self.view_is c.into_iter-key-iterator.ensures.into_iter_gives.0 c.in-Some.is c.next.ensures.steps
    c.in_ok-vat.ensures c.loop-key.invariant c.in_ok-insert.ensures.ordered c.in_ok-insert.ensures.entries

pub loop-key-preserved : goal.loop-key-preserved
loop-key-preserved c =
    placed_turn c.args.self c.self.inside.entries.entries c.into_iter-key-iterator.result c.loop-key.key-iterator c.next.new.self c.next.result (c.in-Some.key, (c.in-Some.at_record, c.in-Some.place))
    c.in_ok-vat.vat c.in_ok-vat.cap c.loop-key.table c.insert.new.self c.requires c.self.view_is c.into_iter-key-iterator.ensures.into_iter_gives.0 c.in-Some.is c.next.ensures.steps
    c.in_ok-vat.ensures c.loop-key.invariant c.in_ok-insert.ensures.ordered c.in_ok-insert.ensures.entries

pub returns : goal.returns
returns c =
    let all : List Found = c.into_iter-key-iterator.result in
    let gives : all ≡ c.self.inside.entries.entries = c.into_iter-key-iterator.ensures.into_iter_gives.0 in
    let none = rest_all (λ (x : Found). x) c.loop-key.key-iterator c.next.new.self c.next.result c.in-None.is c.next.ensures.steps in
    subst (λ (l : List Edge). IsByPlace l c.loop-key.table) (ap (map entry_edge) gives ∙ c.self.view_is)
    (placed_all all c.loop-key.table (subst (λ (l : List Found). IsPlaced all l c.loop-key.table) none c.loop-key.invariant))
