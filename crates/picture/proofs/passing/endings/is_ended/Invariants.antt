use Rattle.std.proofs.Common.{◌≡◌, drop}
use Rattle.std.specs.List.{list_any}
use Rattle.vat_rules.specs.Audit.{edition_of}
use Rattle.picture.specs.Endings.{ends_call}
use Rattle.picture.proofs.passing.endings.is_ended.Given as goal

-- none of those before ends it
abbrev pub invariant-loop-at : goal.invariant-loop-at
invariant-loop-at l = list_any (ends_call (edition_of l.log) l.begun) (drop l.number l.log.records) ≡ list_any (ends_call (edition_of l.log) l.begun) (drop l.at l.log.records)
