use Rattle.std.proofs.Common.{sym, ◌∙◌, ap, below_more, add-one, arith}
use Rattle.std.specs.Prelude.{Some, option_and_then}
use Rattle.decoded_records.specs.Borrowed.{as_view}
use Rattle.vat_view.specs.Glue.Tables.{bound_at}
use Rattle.vat_view.specs.Glue.TurnTables.{turn_by}
use Rattle.vat_view.proofs.Walking.{ended, met, reached_more, some_same}
use Rattle.vat_view.proofs.Bounded.{few, turn_number}
use Rattle.vat_view.proofs.Hopping.{on_from}
use Rattle.vat_view.proofs.walks.hops.leads_turn_by_turn.Goals as goal

pub returns-in-None : goal.returns-in-None
returns-in-None c =
    let f = turn_by c.args.turns.now (bound_at c.args.bound.now) in (
      (λ h. let no : ⊥ = cc in absurd no),
      λ l. absurd (ended f (as_view c.args.from) (as_view c.loop-made.view) (as_view c.args.to) c.loop-made._made c.loop-made.invariant.here
          (λ e. let same = c.is_same-else-is_same.ensures.1 e in let no : ⊥ = cc in no) c.loop-made.invariant.before (sym c.in-None.ensures) l.0 l.1),
    )

pub loop-made-preserved : goal.loop-made-preserved
loop-made-preserved c =
    let f = turn_by c.args.turns.now (bound_at c.args.bound.now) in record {
      ahead = on_from f (as_view c.args.from) (as_view c.loop-made.far) (as_view c.further-far.result) c.loop-made.invariant.ahead c.further-far.ensures;
      here = rw (add-one c.loop-made._made)
          (reached_more f c.loop-made._made (Some (as_view c.args.from)) ∙ ap (λ o. option_and_then f o) c.loop-made.invariant.here ∙ sym c.in-Some.ensures);
      before = below_more _ _ c.loop-made.invariant.before
          (λ e. let same = c.is_same-else-is_same.ensures.1 (some_same (as_view c.loop-made.view) (as_view c.args.to) (sym c.loop-made.invariant.here ∙ e)) in let no : ⊥ = cc in no);
    }

pub returns : goal.returns
returns c =
    let f = turn_by c.args.turns.now (bound_at c.args.bound.now) in (
      (λ h. (c.loop-made._made, c.loop-made.invariant.here ∙ ap (λ v. Some v) (c.is_same-2.ensures.0 h))),
      λ l. c.is_same-2.ensures.1
          (met f (as_view c.args.from) (turn_number c.args.turns.now c.args.bound.now (as_view c.args.from)) _
          (few c.args.turns.now c.args.bound.now (as_view c.args.from)) (as_view c.loop-made.view) (as_view c.args.to) c.loop-made._made
          (omega (arith, c.loop-made-test.false, c.most_turns-made-end.ensures)) (omega (arith, c.loop-made.auto._made-end, c.most_turns-made-end.ensures)) c.loop-made.invariant.here c.loop-made.invariant.before l.0 l.1),
    )
