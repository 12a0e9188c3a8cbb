use Rattle.std.proofs.Common.{◌≡◌, take, map}
use Rattle.vat_view.specs.Glue.ArrivalTables.{field_back}
use Rattle.vat_view.proofs.tables.arrivals.fields_back.Given as goal

abbrev pub invariant-loop-path : goal.invariant-loop-path
invariant-loop-path l = l.fields.items ≡ map (field_back l.payload.descriptors) (take l.path-index l.path-items)
