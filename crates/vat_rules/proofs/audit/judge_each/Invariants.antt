use Rattle.std.proofs.Common.{◌≡◌, ℕ, ◌<◌}
use Rattle.std.specs.Prelude.{reverse}
use Rattle.vat_rules.specs.Events.{past_at}
use Rattle.vat_rules.specs.First.{IsGoodAt}
use Rattle.vat_rules.specs.Audit.{reads_by, edition_of}
use Rattle.vat_rules.specs.Telling.{entries_back}
use Rattle.vat_rules.proofs.audit.judge_each.Given as goal

abbrev pub invariant-loop-at : goal.invariant-loop-at
invariant-loop-at l = record {
  read : l.state ≡ past_at (reads_by (edition_of l.log) l.limits) l.log.records l.at;
  gathered : l.gathered ≡ reverse (entries_back l.state);
  good : (i : ℕ) → i < l.at → IsGoodAt (edition_of l.log) (reads_by (edition_of l.log) l.limits) l.log.records i;
}
