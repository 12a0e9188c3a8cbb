use Rattle.std.proofs.Common.{◌≡◌, ◌∙◌, sym, subst, reverse, take, length, List, arith}
use Rattle.std.proofs.lemmas.List.{take_all}
use Rattle.std.proofs.lemmas.Result.{IfOk-weaker}
use Rattle.run_model.specs.Edges.{AreEdges}
use Rattle.run_model.specs.declared.step.Step.{Step}
use Rattle.authority.specs.Glue.EdgeTables.{IsBoundIn, IsFound}
use Rattle.authority.proofs.Exact.{single, are_edges}
use Rattle.authority.proofs.edge_search.graph.Goals as goal

pub by_place-requires : goal.by_place-requires
by_place-requires c = single (reverse (take (length c.steps.result.now) c.steps.result.now)) c.in_ok-found.found c.in_ok-found.ensures

pub returns : goal.returns
returns c =
    let all : take (length c.steps.result.now) c.steps.result.now ≡ c.args.run.now = take_all (length c.steps.result.now) c.steps.result.now (omega arith) ∙ c.steps.ensures in
    let found = subst (λ (l : List Step). IsFound (IsBoundIn (reverse l)) c.in_ok-found.found) all c.in_ok-found.ensures in
    IfOk-weaker c.new.result _ (AreEdges c.args.run.now)
    (λ g is. subst (AreEdges c.args.run.now) (sym is) (are_edges c.args.run.now c.in_ok-found.found c.in_ok-by_place.field-0 found c.in_ok-by_place.ensures)) c.new.ensures
