use Rattle.std.proofs.Common.{List, ap, drop, sym, ◌∙◌}
use Rattle.std.proofs.lemmas.List.{drop-drop}
use Rattle.vat_log.specs.declared.body.Body.{Body}
use Rattle.log_lane.proofs.records_ahead.RecordsAhead.leave.Goals as goal

pub returns-then-self-len : goal.returns-then-self-len
returns-then-self-len c =
    let inside = c.self.inside in
    sym (drop-drop 1 inside.taken inside.records.items) ∙ ap (λ (l : List Body). drop 1 l) c.self.view_is
