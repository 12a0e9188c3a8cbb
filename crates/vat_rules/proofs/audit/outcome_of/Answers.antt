use Rattle.vat_rules.specs.Audit.{reads_by, edition_of}
use Rattle.vat_rules.proofs.Firsts.{is_first-Good}
use Rattle.vat_rules.proofs.audit.outcome_of.Goals as goal

pub returns : goal.returns
returns c =
    let all = rw c.in-None.is at c.in_ok-outcome.ensures in
    let edition = edition_of c.args.log.now in
    is_first-Good edition (reads_by edition c.args.limits) c.args.log.now.records c.judge_each.new.state c.judge_each.new.gathered c.story_of.result all.0 all.1 all.2 c.story_of.ensures
