use Rattle.std.proofs.Common.{◌≡◌, refl, sym, ◌∙◌, ap, below_more, add-one, Bool, true, arith}
use Rattle.std.specs.Prelude.{Some, option_and_then}
use Rattle.vat_view.specs.Types.{View}
use Rattle.decoded_records.specs.Borrowed.{as_view}
use Rattle.vat_view.specs.Glue.Tables.{bound_at}
use Rattle.vat_view.specs.Glue.TurnTables.{turn_by}
use Rattle.vat_view.specs.Glue.ConnectionTables.{sought_by}
use Rattle.vat_view.proofs.Walking.{ended, met, reached_more, some_same}
use Rattle.vat_view.proofs.Bounded.{few, turn_number}
use Rattle.vat_view.proofs.Hopping.{on_from}
use Rattle.vat_view.proofs.walks.reachable.leads_to.Goals as goal
use Rattle.vat_view.proofs.walks.reachable.leads_to.Goals.{then-is_sought-via-then-is_sought, then-is_sought-via-else-is_sought+then-is_sought-2}

pub returns-then-is_sought : goal.returns-then-is_sought
returns-then-is_sought c = elim c.then-is_sought.branch [
  | then-is_sought-via-then-is_sought w ↦ let ahead = c.loop-made.invariant.ahead in ((λ h. (ahead.0, as_view c.loop-made.far, ahead.1, sym c.is_sought.ensures ∙ w.if-is_sought.true)), λ l. refl)
  | then-is_sought-via-else-is_sought+then-is_sought-2 w ↦
      ((λ h. (c.loop-made._made, as_view c.loop-made.view, c.loop-made.invariant.here, sym w.is_sought-else-is_sought.ensures ∙ w.if-is_sought-2.true)), λ l. refl)
]

pub returns-in-None : goal.returns-in-None
returns-in-None c =
    let f = turn_by c.args.turns.now (bound_at c.args.bound.now) in
    let test : View → Bool = λ v. sought_by c.args.turns.now (bound_at c.args.bound.now) c.args.arrivals.now c.args.connections.now c.args.sought v in (
      (λ h. let no : ⊥ = cc in absurd no),
      λ l. absurd (ended f (as_view c.args.from) (as_view c.loop-made.view) l.1 c.loop-made._made c.loop-made.invariant.here
          (λ e. let found : c.is_sought-else-is_sought.result ≡ true = c.is_sought-else-is_sought.ensures ∙ ap (λ v. test v) e ∙ l.3 in let no : ⊥ = cc in no)
          (λ m lt e. c.loop-made.invariant.before m lt l.1 e l.3) (sym c.in-None.ensures) l.0 l.2),
    )

pub loop-made-preserved : goal.loop-made-preserved
loop-made-preserved c =
    let f = turn_by c.args.turns.now (bound_at c.args.bound.now) in
    let test : View → Bool = λ v. sought_by c.args.turns.now (bound_at c.args.bound.now) c.args.arrivals.now c.args.connections.now c.args.sought v in record {
      ahead = on_from f (as_view c.args.from) (as_view c.loop-made.far) (as_view c.further-far.result) c.loop-made.invariant.ahead c.further-far.ensures;
      here = rw (add-one c.loop-made._made)
          (reached_more f c.loop-made._made (Some (as_view c.args.from)) ∙ ap (λ o. option_and_then f o) c.loop-made.invariant.here ∙ sym c.in-Some.ensures);
      before = below_more _ _ c.loop-made.invariant.before
          (λ v e good. let found : c.is_sought-else-is_sought.result ≡ true =
          c.is_sought-else-is_sought.ensures ∙ ap (λ w. test w) (some_same (as_view c.loop-made.view) v (sym c.loop-made.invariant.here ∙ e)) ∙ good in let no : ⊥ = cc in no);
    }

pub returns : goal.returns
returns c =
    let f = turn_by c.args.turns.now (bound_at c.args.bound.now) in
    let test : View → Bool = λ v. sought_by c.args.turns.now (bound_at c.args.bound.now) c.args.arrivals.now c.args.connections.now c.args.sought v in (
      (λ h. (c.loop-made._made, (as_view c.loop-made.view), c.loop-made.invariant.here, sym c.is_sought-2.ensures ∙ h)),
      λ l. c.is_sought-2.ensures ∙ ap (λ v. test v)
          (met f (as_view c.args.from) (turn_number c.args.turns.now c.args.bound.now (as_view c.args.from)) _
          (few c.args.turns.now c.args.bound.now (as_view c.args.from)) (as_view c.loop-made.view) l.1 c.loop-made._made
          (omega (arith, c.loop-made-test.false, c.most_turns-made-end.ensures)) (omega (arith, c.loop-made.auto._made-end, c.most_turns-made-end.ensures)) c.loop-made.invariant.here
          (λ m lt e. c.loop-made.invariant.before m lt l.1 e l.3) l.0 l.2) ∙ l.3,
    )
