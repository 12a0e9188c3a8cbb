use Rattle.std.proofs.Common.{◌≡◌, ◌∙◌, ◌+◌, Some, ap, sym}
use Rattle.std.specs.Prelude.{slice_get}
use Rattle.std.specs.Arc.{arc_value}
use Rattle.vat_log.specs.Log.{Log}
use Rattle.merge_order.specs.Fits.{Part}
use Rattle.merge_order.proofs.Tables.{counted_send, counted_receive, counted_other, rises_send, rises_not}
use Rattle.merge_order.proofs.cursor.Cursor.go_on.Goals as goal
use Rattle.merge_order.proofs.cursor.Cursor.go_on.Goals.{in-Send+in_ok-raise-in-Send+in_ok-raise-in-Send-2, in-Receive+in_ok-raise-in-Receive, in_default-body}

pub invariant_of-self-2 : goal.invariant_of-self-2
invariant_of-self-2 c =
    let kept = c.self.inside in
    let part : Part = record { log = arc_value kept.log; came = kept.came } in
    let next : slice_get part.log.records part.came ≡ Some c.in-Some.event.now = ap (λ (log : Log). slice_get log.records kept.came) (sym c.deref.ensures) ∙ sym c.in-Some.ensures in
    let is = sym c.body.ensures.value in
    elim c.match-body.branch [
      | in-Send+in_ok-raise-in-Send+in_ok-raise-in-Send-2 w ↦ rw w.self-inside-is (counted_send part w.in-Send.connection w.in-Send.call w.in-Send.references w.in-Send.frame kept.sent_counts kept.received_counts w.raise-in-Send.new.self c.self.invariant (next ∙ ap Some (is ∙ w.in-Send.is)) w.in_ok-raise-in-Send-2.ensures.ok)
      | in-Receive+in_ok-raise-in-Receive w ↦ rw w.self-inside-is (counted_receive part w.in-Receive.connection w.in-Receive.call w.in-Receive.references w.in-Receive.frame kept.sent_counts kept.received_counts w.raise-in-Receive.new.self c.self.invariant (next ∙ ap Some (is ∙ w.in-Receive.is)) w.in_ok-raise-in-Receive.ensures.ok)
      | in_default-body w ↦ rw w.self-inside-is (counted_other part c.body.result.now kept.sent_counts kept.received_counts c.self.invariant (next ∙ ap Some is) w.in_default-body.not-Send w.in_default-body.not-Receive)
    ]

pub returns-clause-adds : goal.returns-clause-adds
returns-clause-adds c =
    let kept = c.self.inside in
    let part : Part = record { log = arc_value kept.log; came = kept.came } in
    let later : Part = record { log = part.log; came = part.came + 1 } in
    let next : slice_get part.log.records part.came ≡ Some c.in-Some.event.now = ap (λ (log : Log). slice_get log.records kept.came) (sym c.deref.ensures) ∙ sym c.in-Some.ensures in
    let is = sym c.body.ensures.value in
    elim c.match-body.branch [
      | in-Send+in_ok-raise-in-Send+in_ok-raise-in-Send-2 w ↦
          rw (w.self-inside-is, w.totals-is, ← c.self.view_is)
          (rises_send part later w.in-Send.connection kept.sent_counts kept.received_counts w.raise-in-Send.new.self kept.received_counts c.args.totals.now w.raise.new.self c.self.invariant
          (counted_send part w.in-Send.connection w.in-Send.call w.in-Send.references w.in-Send.frame kept.sent_counts kept.received_counts w.raise-in-Send.new.self c.self.invariant (next ∙ ap Some (is ∙ w.in-Send.is)) w.in_ok-raise-in-Send-2.ensures.ok)
          w.in_ok-raise-in-Send-2.ensures.ok w.in_ok-raise-in-Send.ensures.ok)
      | in-Receive+in_ok-raise-in-Receive w ↦
          rw (w.self-inside-is, w.totals-is, ← c.self.view_is)
          (rises_not part later kept.sent_counts kept.received_counts w.raise-in-Receive.new.self c.args.totals.now c.self.invariant
          (counted_receive part w.in-Receive.connection w.in-Receive.call w.in-Receive.references w.in-Receive.frame kept.sent_counts kept.received_counts w.raise-in-Receive.new.self c.self.invariant (next ∙ ap Some (is ∙ w.in-Receive.is)) w.in_ok-raise-in-Receive.ensures.ok))
      | in_default-body w ↦
          rw (w.self-inside-is, w.totals-is, ← c.self.view_is)
          (rises_not part later kept.sent_counts kept.received_counts kept.received_counts c.args.totals.now c.self.invariant
          (counted_other part c.body.result.now kept.sent_counts kept.received_counts c.self.invariant (next ∙ ap Some is) w.in_default-body.not-Send w.in_default-body.not-Receive))
    ]
