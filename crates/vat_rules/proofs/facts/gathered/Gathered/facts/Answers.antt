use Rattle.std.proofs.Common.{sym, ◌∙◌, ap, List, map}
use Rattle.vat_rules.specs.LogFacts.{Entry}
use Rattle.vat_rules.proofs.Entries.{facts_of_entries}
use Rattle.vat_rules.proofs.facts.gathered.Gathered.facts.Goals as goal

pub returns : goal.returns
returns c =
    c.deref.ensures.value ∙ sym (facts_of_entries c.self.inside.events.items c.self.inside.facts.items c.self.invariant)
    ∙ ap (λ (told : List Entry). map (λ (entry : Entry). entry.facts) told) c.self.view_is
