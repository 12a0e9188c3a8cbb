use Rattle.std.proofs.Common.{◌≡◌, true, false, arith}
use Rattle.undelivered.specs.Places.{has_at_most}
use Rattle.undelivered.proofs.Lowering.{none_yet, one_more, all_lowered, rest_is_low}
use Rattle.std.specs.BTreeMap.{get}
use Rattle.undelivered.specs.Glue.{key_cmp}
use Rattle.undelivered.proofs.waits.lower_before.Goals as goal

pub loop-earlier-init : goal.loop-earlier-init
loop-earlier-init c = record {
  within = omega arith;
  lowered = λ r t. none_yet c.args.reference c.args.turn c.args.place r t (get key_cmp c.args.waiting.now (r, t));
}

pub returns-then-has_at_most : goal.returns-then-has_at_most
returns-then-has_at_most c = λ rising.
    let low : has_at_most c.in-Some.until c.args.place ≡ true = cc in
    rest_is_low c.args.waiting.now c.loop-earlier.waiting c.args.reference c.loop-earlier.below c.args.turn c.in-Some.earlier c.args.place c.in-Some.until rising c.loop-earlier.invariant.within c.loop-earlier.invariant.lowered c.in-Some.ensures low

pub loop-earlier-preserved : goal.loop-earlier-preserved
loop-earlier-preserved c =
    let above : has_at_most c.in-Some.until c.args.place ≡ false = cc in
    record {
      within = omega (arith, c.in-Some.ensures.0, c.loop-earlier.invariant.within);
      lowered = one_more c.args.waiting.now c.loop-earlier.waiting c.note.new.waiting c.args.reference c.loop-earlier.below c.args.turn c.in-Some.earlier c.args.place c.in-Some.until c.loop-earlier.invariant.within c.loop-earlier.invariant.lowered c.in-Some.ensures above
          (c.note.ensures c.in-Some.until c.in-Some.ensures.1);
    }

pub returns : goal.returns
returns c = λ rising. all_lowered c.args.waiting.now c.loop-earlier.waiting c.args.reference c.loop-earlier.below c.args.turn c.args.place c.loop-earlier.invariant.within c.loop-earlier.invariant.lowered c.in_default.ensures
