use Rattle.std.proofs.Common.{drop}
use Rattle.vat_rules.proofs.Sufficing.{Remain, HereFirst}
use Rattle.vat_rules.proofs.judge.rule_broken.Given as goal

abbrev pub invariant-loop-rule : goal.invariant-loop-rule
invariant-loop-rule l =
    let rest = drop l.rule-index l.asked in
    record {
      remain : Remain l.edition l.state l.event rest l.asked;
      here : HereFirst l.state l.event rest;
    }
