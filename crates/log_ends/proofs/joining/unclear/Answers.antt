use Rattle.std.proofs.Common.{inl, below_more, sym, subst, arith, ◌<◌}
use Rattle.std.specs.Prelude.{vec_len}
use Rattle.log_ends.specs.Ends.{IsEnd}
use Rattle.log_ends.specs.Joining.{IsAlone, IsAmbiguous, IsClear, IsFirstUnclear}
use Rattle.log_ends.specs.Glue.{end_at}
use Rattle.log_ends.specs.declared.log_end.LogEnd.{LogEnd}
use Rattle.log_ends.proofs.Places.{first_unclear, all_clear, just_at}
use Rattle.log_ends.proofs.joining.unclear.Goals as goal

pub returns-in-Alone : goal.returns-in-Alone
returns-in-Alone c =
    let within : c.loop-place.place < vec_len c.args.rows.now.rows = omega (arith, c.loop-place-test.true, c.len-place-end.ensures) in (
      subst (λ (e : LogEnd). IsEnd c.args.rows.now.logs.now e) (sym c.end.ensures) (just_at c.args.rows.now c.requires c.loop-place.place within),
      inl (
        subst (λ (e : LogEnd). IsFirstUnclear c.args.rows.now.logs.now e) (sym c.end.ensures) (first_unclear c.args.rows.now c.requires c.loop-place.place within c.loop-place.invariant),
        subst (λ (e : LogEnd). IsAlone c.args.rows.now.logs.now e) (sym c.end.ensures) c.in-Alone.ensures,
      ),
    )

pub returns-in-Ambiguous : goal.returns-in-Ambiguous
returns-in-Ambiguous c =
    let within : c.loop-place.place < vec_len c.args.rows.now.rows = omega (arith, c.loop-place-test.true, c.len-place-end.ensures) in (
      subst (λ (e : LogEnd). IsEnd c.args.rows.now.logs.now e) (sym c.end-in-Ambiguous.ensures) (just_at c.args.rows.now c.requires c.loop-place.place within),
      subst (λ (e : LogEnd). IsFirstUnclear c.args.rows.now.logs.now e) (sym c.end-in-Ambiguous.ensures) (first_unclear c.args.rows.now c.requires c.loop-place.place within c.loop-place.invariant),
      subst (λ (e : LogEnd). IsAmbiguous c.args.rows.now.logs.now e) (sym c.end-in-Ambiguous.ensures) c.in-Ambiguous.ensures,
    )

pub loop-place-preserved : goal.loop-place-preserved
loop-place-preserved c = below_more (λ k. IsClear c.args.rows.now.logs.now (end_at c.args.rows.now k)) c.loop-place.place c.loop-place.invariant c.in-Clear.ensures

pub returns : goal.returns
returns c = all_clear c.args.rows.now c.requires c.loop-place.place (omega (arith, c.loop-place-test.false, c.len-place-end.ensures)) c.loop-place.invariant
