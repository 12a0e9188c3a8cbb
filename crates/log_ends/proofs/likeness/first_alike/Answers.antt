use Rattle.std.proofs.Common.{◌≡◌, ap₂, sym, subst, arith}
use Rattle.log_ends.specs.Joining.{AreFirstAlike}
use Rattle.log_ends.specs.Glue.{end_at}
use Rattle.log_ends.specs.declared.log_end.LogEnd.{LogEnd}
use Rattle.log_ends.specs.declared.log_end.EndPair.{EndPair}
use Rattle.log_ends.proofs.Places.{none_alike, first_alike}
use Rattle.log_ends.proofs.likeness.first_alike.Goals as goal

pair_of : LogEnd → LogEnd → EndPair
pair_of a b = record { first = a; second = b }

pub returns-in-Some : goal.returns-in-Some
unfolding pair_of
returns-in-Some c =
    let same : pair_of (end_at c.args.rows.now c.loop-place.place) (end_at c.args.rows.now c.in-Some.other) ≡ pair_of c.end.result c.end-in-Some.result = ap₂ pair_of (sym c.end.ensures) (sym c.end-in-Some.ensures) in
    subst (λ (p : EndPair). AreFirstAlike c.args.rows.now.logs.now p) same
    (first_alike c.args.rows.now c.requires c.loop-place.place c.in-Some.other c.in-Some.ensures.0 c.in-Some.ensures.1 c.in-Some.ensures.2 c.loop-place.invariant)

pub returns : goal.returns
returns c = none_alike c.args.rows.now c.requires c.loop-place.place (omega (arith, c.loop-place-test.false, c.len-place-end.ensures)) c.loop-place.invariant
