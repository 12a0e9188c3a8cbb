use Rattle.std.proofs.Common.{◌∙◌, ◌≡◌, sym, ap, Some, List, reverse, take}
use Rattle.std.proofs.lemmas.Option.{slice_get-get_or}
use Rattle.run_model.specs.declared.cap.Cap.{Cap}
use Rattle.run_model.specs.declared.step.Step.TheVariants.{Receive}
use Rattle.authority.proofs.Stepping.{partly_start, partly_more, partly_own, partly_all, partly_none, number_at}
use Rattle.authority.proofs.edge_search.with_step.Goals as goal
use Rattle.authority.proofs.edge_search.with_step.Goals.{then-is_foreign+in_ok-found, else-is_foreign, in-Receive+else-loop-place-test, in_default}

pub loop-place-init : goal.loop-place-init
loop-place-init c = partly_start (reverse (take c.args.index c.args.steps.now)) c.in-Receive.vat c.args.number c.as_slice-cap-items.result.now c.args.found c.requires.so_far

pub loop-place-preserved : goal.loop-place-preserved
loop-place-preserved c =
    let run = c.args.steps.now in
    let caps = c.as_slice-cap-items.result.now in
    let a = c.cap-item.result in
    let at = slice_get-get_or caps c.loop-place.place a c.loop-place-test.true ∙ ap Some (sym c.cap-item.is) in
    let number = number_at run c.args.index c.args.number c.in-Receive.vat c.in-Receive.connection c.in-Receive.message c.in-Receive.bound c.index-steps-index.result c.requires.number c.requires.within c.index-steps-index.is c.in-Receive.is in
    elim c.if-is_foreign.branch [
      | then-is_foreign+in_ok-found w ↦
          rw w.found-is (partly_more (reverse (take c.args.index run)) c.in-Receive.vat c.args.number caps c.loop-place.place a at c.loop-place.found w.in_ok-found.found number (sym c.is_foreign.ensures ∙ w.if-is_foreign.true) w.in_ok-found.ensures c.loop-place.invariant)
      | else-is_foreign w ↦
          rw w.found-is (partly_own (reverse (take c.args.index run)) c.in-Receive.vat c.args.number caps c.loop-place.place a at c.loop-place.found (sym c.is_foreign.ensures ∙ w.if-is_foreign.false) c.loop-place.invariant)
    ]

pub returns : goal.returns
returns c =
    let run = c.args.steps.now in
    let s = c.index-steps-index.result in
    elim c.match-steps-index.branch [
      | in-Receive+else-loop-place-test w ↦
          let is : s ≡ Receive w.in-Receive.vat w.in-Receive.connection w.in-Receive.message w.as_slice-cap-items.result.now =
          w.in-Receive.is ∙ ap (λ (l : List Cap). Receive w.in-Receive.vat w.in-Receive.connection w.in-Receive.message l) (sym w.as_slice-cap-items.ensures) in
          let number = number_at run c.args.index c.args.number w.in-Receive.vat w.in-Receive.connection w.in-Receive.message w.as_slice-cap-items.result.now s c.requires.number c.requires.within c.index-steps-index.is is in
          rw w.found-is
          (partly_all run c.args.index s w.in-Receive.vat w.in-Receive.connection w.in-Receive.message w.as_slice-cap-items.result.now c.args.number w.loop-place.place w.loop-place.found c.requires.within c.index-steps-index.is is number w.loop-place-test.false w.loop-place.invariant)
      | in_default w ↦ rw w.found-is (partly_none run c.args.index s c.args.found c.requires.within c.index-steps-index.is w.in_default.not-Receive c.requires.so_far)
    ]
