use Rattle.std.proofs.Common.{sym, ◌∙◌, ap, List, map}
use Rattle.vat_rules.specs.LogFacts.{Entry}
use Rattle.vat_rules.proofs.Entries.{events_of}
use Rattle.vat_rules.proofs.facts.gathered.Gathered.events.Goals as goal

pub returns : goal.returns
returns c =
    c.deref.ensures.value ∙ sym (events_of c.self.inside.events.items c.self.inside.facts.items c.self.invariant)
    ∙ ap (λ (told : List Entry). map (λ (entry : Entry). entry.event) told) c.self.view_is
