-- For the code's contracts, and no part of the meaning: how the facts of a record are kept.
use Rattle.std.specs.Prelude.{List, [], ◌∷◌, false, Option, Some, None}
use Rattle.vat_rules.specs.Types.{View}
use Rattle.vat_rules.specs.LogFacts.{Facts}
use Rattle.vat_rules.specs.Glue.Facts.{with_references}
use Rattle.vat_rules.specs.Glue.Roles.{facts_by}
use Rattle.vat_rules.specs.declared.facts.role.Role.{Role}
use Rattle.vat_rules.specs.declared.facts.role.Role.TheVariants as role
use Rattle.vat_rules.specs.declared.facts.compact.Lists.{Lists}
use Rattle.vat_rules.specs.declared.facts.compact.Shape.{Shape}
use Rattle.vat_rules.specs.declared.facts.compact.Shape.TheVariants as shape
use Rattle.vat_rules.specs.declared.facts.compact.Compact.{Compact}
use Rattle.vat_rules.specs.declared.facts.compact.Compact.TheVariants as kept

-- the view of the number in a role
abbrev pub in_role : Role → Facts → Option View
in_role role.Question facts = facts.question
in_role role.Promise facts = facts.promise
in_role role.Target facts = facts.target
in_role role.Released facts = facts.released

-- references and descriptors that are kept so
abbrev pub lists_of : Shape → Lists
lists_of (shape.Both v) = record { references = v ∷ []; caps = v ∷ [] }
lists_of (shape.Listed lists) = lists

-- references and descriptors, with one number in a role or none, of a record that takes no results and isn't a late Return
abbrev pub facts_in : Option (Role × View) → List (Option View) → List (Option View) → Facts
facts_in number references caps = with_references references (facts_by number None caps false)

-- the facts that are kept of a record
abbrev pub facts_kept : Compact → Facts
facts_kept kept.Nothing = facts_in None [] []
facts_kept (kept.Reference v) = facts_in None (v ∷ []) []
facts_kept (kept.References vs) = facts_in None vs.items []
facts_kept (kept.Both v) = facts_in None (v ∷ []) (v ∷ [])
facts_kept (kept.Listed lists) = facts_in None lists.value.references lists.value.caps
facts_kept (kept.Alone r v) = facts_in (Some (r, v)) [] []
facts_kept (kept.WithBoth r v both) = facts_in (Some (r, v)) (both.value ∷ []) (both.value ∷ [])
facts_kept (kept.WithLists r v lists) = facts_in (Some (r, v)) lists.value.references lists.value.caps
facts_kept (kept.Several parts) = with_references parts.value.references parts.value.facts
