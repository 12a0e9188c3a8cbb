use Rattle.std.proofs.Common.{sym, ◌∙◌, ap, slice_get}
use Rattle.std.specs.Option.{option_copied}
use Rattle.call_trace.proofs.Storied.{facts_told}
use Rattle.call_trace.proofs.records.stories.facts_at.Goals as goal

pub returns : goal.returns
returns c =
    c.nth_facts.ensures ∙ ap (λ items. slice_get items c.args.number) c.facts.ensures
    ∙ facts_told c.args.finding.now c.in_ok-story.field-0.now c.story.ensures.of_the_log (sym c.story.ensures.story ∙ ap option_copied c.in_ok-story.was) c.args.number
