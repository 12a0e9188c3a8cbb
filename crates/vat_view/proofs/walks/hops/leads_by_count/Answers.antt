use Rattle.std.proofs.Common.{◌-◌, sym, ◌∙◌, ap, Some, arith}
use Rattle.std.proofs.lemmas.Bool.{false≢true}
use Rattle.decoded_records.specs.Borrowed.{as_view}
use Rattle.vat_view.specs.Glue.TurnTables.{turns_of}
use Rattle.vat_view.proofs.Walking.{some_same}
use Rattle.vat_view.proofs.Hopping.{too_far, at_place, at_end}
use Rattle.vat_view.proofs.walks.hops.leads_by_count.Goals as goal

pub returns-then-rest-eq0 : goal.returns-then-rest-eq0
returns-then-rest-eq0 c =
    let f = turns_of c.args.turns.now c.args.bound.now in (
      (λ h. (c.in_ok-last.whole, c.in_ok-last.ensures.count.0 ∙ ap (λ v. Some v) (c.is_same.ensures.0 h))),
      λ l. c.is_same.ensures.1
          (at_end f (as_view c.args.from) (as_view c.args.to) (as_view c.in_ok-last.last) _ _ c.in_ok-last.whole c.in_ok-rest.rest c.in_ok-last.ensures.count (omega (arith, c.in_ok-last.ensures.fits)) c.in_ok-rest.ensures.count (omega arith) l),
    )

pub returns-then-whole-rest : goal.returns-then-whole-rest
returns-then-whole-rest c =
    let f = turns_of c.args.turns.now c.args.bound.now in (
      (λ h. absurd (false≢true h)),
      λ l. absurd
          (too_far f (as_view c.args.from) (as_view c.args.to) (as_view c.in_ok-last.last) _ _ c.in_ok-last.whole c.in_ok-rest.rest c.in_ok-last.ensures.count (omega (arith, c.in_ok-last.ensures.fits)) c.in_ok-rest.ensures.count c.if-whole-rest.true l),
    )

pub returns : goal.returns
returns c =
    let f = turns_of c.args.turns.now c.args.bound.now in (
      (λ h. (c.in_ok-last.whole - c.in_ok-rest.rest, sym c.in_ok-there.ensures ∙ ap (λ v. Some v) (c.is_same-2.ensures.0 h))),
      λ l. c.is_same-2.ensures.1
          (some_same (as_view c.in_ok-there.there) (as_view c.args.to)
          (c.in_ok-there.ensures
          ∙ at_place f (as_view c.args.from) (as_view c.args.to) (as_view c.in_ok-last.last) _ _ c.in_ok-last.whole c.in_ok-rest.rest c.in_ok-last.ensures.count (omega (arith, c.in_ok-last.ensures.fits)) c.in_ok-rest.ensures.count (omega (arith, c.if-whole-rest.false)) l)),
    )
