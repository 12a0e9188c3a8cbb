use Rattle.std.proofs.Common.{drop}
use Rattle.std.specs.Prelude.{◌↔◌}
use Rattle.std.specs.List.{AllByRecursion}
use Rattle.vat_rules.specs.OfCaps.{NotesView}
use Rattle.vat_rules.proofs.rules.of_caps.notes_views.Given as goal

abbrev pub invariant-loop-reference : goal.invariant-loop-reference
invariant-loop-reference l =
    AllByRecursion (NotesView l.edition l.state l.event) l.noted ↔ AllByRecursion (NotesView l.edition l.state l.event) (drop l.reference-index l.noted)
