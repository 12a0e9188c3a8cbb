use Rattle.std.proofs.Common.{◌≡◌, ◌∙◌, ap, ap₂, ◌++◌, ◌∷◌, []}
use Rattle.vat_rules.specs.Glue.Facts.{entries_with}
use Rattle.vat_rules.proofs.Entries.{one_behind}
use Rattle.vat_rules.proofs.facts.gathered.Gathered.push.Goals as goal

pub returns-clause-ok : goal.returns-clause-ok
returns-clause-ok c =
    let events : c.push_reserved.new.self.items ≡ c.self.inside.events.items ++ c.args.event ∷ [] = c.push_reserved.ensures.items ∙ ap (λ l. l ++ c.args.event ∷ []) c.in_ok-reserve.ensures.items in
    let facts : c.push.new.self.items ≡ c.self.inside.facts.items ++ c.args.facts ∷ [] = c.in_ok-push.ensures.items in
    ap₂ (λ es ss. entries_with es ss) events facts
    ∙ one_behind c.self.inside.events.items c.self.inside.facts.items c.args.event c.args.facts c.self.invariant
    ∙ ap (λ l. l ++ record { event = c.args.event; facts = c.args.facts } ∷ []) c.self.view_is
