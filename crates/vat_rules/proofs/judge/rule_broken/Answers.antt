use Rattle.std.proofs.Common.{◌+◌, drop, arith}
use Rattle.std.proofs.lemmas.Bool.Decides.{not_from_Decides}
use Rattle.std.proofs.lemmas.List.{drop_more, drop_all}
use Rattle.vat_rules.specs.declared.rule.Rule.TheVariants as rule
use Rattle.vat_rules.proofs.Sufficing.{remain_all, remain_next, remain_none, remain_broken, here_first, here_next, here_at_goal, suffice_broken, suffice_good}
use Rattle.vat_rules.proofs.judge.rule_broken.Goals as goal

pub loop-rule-init : goal.loop-rule-init
loop-rule-init c =
    let asked = c.asked-asked.result.now in
    record {
      remain = remain_all c.args.edition c.args.state.now c.args.event.now asked;
      here = here_first c.args.edition c.args.state.now c.args.event.now asked c.asked-asked.ensures;
    }

pub meets-requires-clause-here : goal.meets-requires-clause-here
meets-requires-clause-here c =
    let asked = c.asked-asked.result.now in
    let at = c.loop-rule.rule-index in
    here_at_goal c.args.state.now c.args.event.now _ (drop at asked) (drop (at + 1) asked) (drop_more asked at rule.Closed (omega (arith, c.loop-rule-test.true))) c.loop-rule.invariant.here

pub returns-then-not-branch : goal.returns-then-not-branch
returns-then-not-branch c =
    let asked = c.asked-asked.result.now in
    let at = c.loop-rule.rule-index in
    suffice_broken c.args.edition c.args.state.now c.args.event.now asked _ c.asked-asked.ensures
    (remain_broken c.args.edition c.args.state.now c.args.event.now _ (drop at asked) (drop (at + 1) asked) asked (drop_more asked at rule.Closed (omega (arith, c.loop-rule-test.true)))
    (not_from_Decides _ c.in_ok-meets.ensures c.if-not-branch.true) c.loop-rule.invariant.remain)

pub returns : goal.returns
returns c =
    let asked = c.asked-asked.result.now in
    let at = c.loop-rule.rule-index in
    suffice_good c.args.edition c.args.state.now c.args.event.now asked c.asked-asked.ensures
    (remain_none c.args.edition c.args.state.now c.args.event.now (drop at asked) asked (drop_all at asked (omega (arith, c.loop-rule-test.false))) c.loop-rule.invariant.remain)

pub loop-rule-preserved : goal.loop-rule-preserved
loop-rule-preserved c =
    let asked = c.asked-asked.result.now in
    let at = c.loop-rule.rule-index in
    let next = drop_more asked at rule.Closed (omega (arith, c.loop-rule-test.true)) in
    let met = c.in_ok-meets.ensures.0 c.if-not-branch.false in
    record {
      remain = remain_next c.args.edition c.args.state.now c.args.event.now _ (drop at asked) (drop (at + 1) asked) asked next met c.loop-rule.invariant.remain;
      here = here_next c.args.edition c.args.state.now c.args.event.now _ (drop at asked) (drop (at + 1) asked) next met c.loop-rule.invariant.here;
    }
