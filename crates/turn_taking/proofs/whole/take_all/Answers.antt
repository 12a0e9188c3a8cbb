use Rattle.std.proofs.Common.{◌≡◌, Bool, length, map, refl, sym, ap, subst, ◌∙◌, arith}
use Rattle.std.specs.Prelude.{not, option_map}
use Rattle.std.proofs.lemmas.List.{length-map}
use Rattle.turn_taking.specs.Turned.{given_up}
use Rattle.turn_taking.specs.WholeCase.{AreTaken}
use Rattle.turn_taking.proofs.Ordered.{further_on}
use Rattle.turn_taking.proofs.Over.{all_in_order, pass_given_up, rest_is_left}
use Rattle.turn_taking.proofs.whole.take_all.Goals as goal

pub returns-in_ok-take_in_step-2 : goal.returns-in_ok-take_in_step-2
returns-in_ok-take_in_step-2 g c = λ taken kept free pass.
    let f = g.L.CaseLane.so_far in
    let lanes = map f c.take_in_step.new.lanes in
    let later = map f c.take_in_step-then-not-fits.new.lanes in
    let first = c.in_ok-take_in_step.ensures taken kept pass in
    let left = c.if-not-fits.true in
    let found = c.are_left-fits.ensures.some first.5.there left in
    let rest = c.in_ok-take_in_step-2.ensures (given_up first.0) (c.give_up.ensures ∙ ap (option_map given_up) first.1) (pass_given_up lanes first.0 first.5) in
    let same = c.take_in_step-then-not-fits.auto.lanes in
    let long : length later ≡ length lanes = omega (arith, same, length-map c.take_in_step.new.lanes f, length-map c.take_in_step-then-not-fits.new.lanes f) in (
      rest.0,
      rest.1,
      subst (λ (b : Bool). AreTaken later rest.0 (not b)) (sym left)
          (rest_is_left lanes later first.0 rest.0 (first.2 ∙ free) first.5 first.6 long rest.4 rest.5 rest.2 (rest.3 refl) rest.6 found.0 found.1 found.2 found.3),
      further_on (map f c.args.lanes.now) lanes later first.4 rest.4,
    )

pub returns-else-not-fits : goal.returns-else-not-fits
returns-else-not-fits g c = λ taken kept free pass.
    let f = g.L.CaseLane.so_far in
    let lanes = map f c.take_in_step.new.lanes in
    let first = c.in_ok-take_in_step.ensures taken kept pass in
    let left = c.if-not-fits.false in (
      first.0,
      first.1,
      subst (λ (b : Bool). AreTaken lanes first.0 (not b)) (sym left) (all_in_order lanes first.0 (first.2 ∙ free) first.5 first.6 (c.are_left-fits.ensures.none first.5.there left)),
      first.4,
    )
