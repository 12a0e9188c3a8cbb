use Rattle.std.proofs.Common.{◌≡◌, drop}
use Rattle.vat_view.specs.Glue.ArrivalTables.{back_among}
use Rattle.vat_view.proofs.tables.arrivals.back_among.Given as goal

abbrev pub invariant-loop-back : goal.invariant-loop-back
invariant-loop-back l = back_among l.path l.fields ≡ back_among l.path (drop l.back-index l.fields)
