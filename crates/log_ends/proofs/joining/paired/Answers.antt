use Rattle.std.proofs.Common.{◌≡◌, ◌∙◌, ◌+◌, List, Bool, false, inr, replicate, sym, ap, subst, arith}
use Rattle.std.specs.Prelude.{vec_len}
use Rattle.std.proofs.lemmas.Bool.{MatchBool-at_false}
use Rattle.log_ends.specs.Ends.{IsEnd}
use Rattle.log_ends.specs.Joining.{IsLeftOver}
use Rattle.log_ends.specs.Glue.{end_at, HasPaired}
use Rattle.log_ends.specs.declared.log_end.LogEnd.{LogEnd}
use Rattle.log_ends.specs.declared.log_end.EndPair.{EndPair}
use Rattle.log_ends.proofs.Pairing.{none_paired, joined}
use Rattle.log_ends.proofs.Places.{just_at}
use Rattle.log_ends.proofs.joining.paired.Goals as goal

pub loop-place-init : goal.loop-place-init
loop-place-init c =
    let flags : c.in_ok-taken.taken.items ≡ replicate (vec_len c.args.rows.now.rows) false = c.in_ok-taken.ensures.items_if_clones_equal (λ y is. is) ∙ ap (λ n. replicate n false) c.len.ensures in
    subst (λ (taken : List Bool). HasPaired c.args.rows.now 0 taken c.new-pairs.result.items) (sym flags)
    (subst (λ (pairs : List EndPair). HasPaired c.args.rows.now 0 (replicate (vec_len c.args.rows.now.rows) false) pairs) (sym c.new-pairs.ensures.items) (none_paired c.args.rows.now))

pub returns-then-not-branch : goal.returns-then-not-branch
returns-then-not-branch c =
    let left : IsLeftOver c.args.rows.now.logs.now (end_at c.args.rows.now c.loop-place.place) = MatchBool-at_false (HasPaired c.args.rows.now (c.loop-place.place + 1) c.pair.new.taken.items c.pair.new.pairs.items) (IsLeftOver c.args.rows.now.logs.now (end_at c.args.rows.now c.loop-place.place)) c.if-not-branch.true c.in_ok-pair.ensures in (
      subst (λ (e : LogEnd). IsEnd c.args.rows.now.logs.now e) (sym c.end.ensures) (just_at c.args.rows.now c.requires.rows c.loop-place.place (omega (arith, c.loop-place-test.true, c.len-place-end.ensures))),
      inr (subst (λ (e : LogEnd). IsLeftOver c.args.rows.now.logs.now e) (sym c.end.ensures) left),
    )

pub returns : goal.returns
returns c = joined c.args.rows.now c.requires.rows c.requires.clear c.loop-place.place c.loop-place.taken.items c.loop-place.pairs.items (omega (arith, c.loop-place-test.false, c.len-place-end.ensures)) c.loop-place.invariant
