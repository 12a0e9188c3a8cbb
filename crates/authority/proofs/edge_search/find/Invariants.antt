use Rattle.authority.specs.Glue.EdgeTables.{IsFoundBefore}
use Rattle.run_model.proofs.Numbers.{IsNumbered}
use Rattle.authority.proofs.edge_search.find.Given as goal

abbrev pub invariant-loop-index : goal.invariant-loop-index
invariant-loop-index l = IsNumbered l.steps l.index l.numbers × IsFoundBefore l.steps l.index l.found
