use Rattle.std.proofs.Common.{length, ◌∙◌, ap}
use Rattle.vat_rules.specs.LogFacts.{Told}
use Rattle.vat_rules.proofs.SlimOutcomes.{records_told}
use Rattle.vat_rules.proofs.slim.story.SlimStory.records.Goals as goal

pub returns : goal.returns
returns c = records_told c.self.inside.past.items c.self.inside.records c.self.invariant ∙ ap (λ (t : Told). length t.entries) c.self.view_is
