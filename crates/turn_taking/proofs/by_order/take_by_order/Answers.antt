use Rattle.std.proofs.Common.{◌≡◌, length, map, refl, sym, ap, ◌∙◌, arith}
use Rattle.std.specs.Prelude.{option_map}
use Rattle.std.proofs.lemmas.List.{length-map}
use Rattle.turn_taking.specs.Turned.{given_up}
use Rattle.turn_taking.proofs.Ordered.{further_on}
use Rattle.turn_taking.proofs.Over.{filled_further, order_fits, order_ends, order_stops, pass_given_up, read_on}
use Rattle.turn_taking.proofs.Stepping.{none_refused, filled}
use Rattle.turn_taking.proofs.by_order.take_by_order.Goals.{else-count-as_slice-via-then-count-as_slice+else-not-are_left, else-count-as_slice-via-else-count-as_slice}
use Rattle.turn_taking.proofs.by_order.take_by_order.Goals as goal

pub returns-then-not-are_left : goal.returns-then-not-are_left
returns-then-not-are_left g c = λ taken kept free none pass.
    let f = g.L.CaseLane.so_far in
    let ended = c.in_ok-count.ensures taken kept free pass in
    let grown = filled f c.follow.new.lanes c.fill_round.new.lanes c.fill_round.auto.lanes c.fill_round.ensures in
    let there = none_refused f c.fill_round.new.lanes (sym c.are_refused.ensures ∙ c.if-are_refused.false) in (
      ended.0,
      ended.1,
      order_fits (map f c.args.lanes.now) (map f c.follow.new.lanes) (map f c.fill_round.new.lanes) taken ended.0 c.args.order.now c.in_ok-count.count free none ended.2 grown there
          (c.if-count-as_slice.true ∙ ap length c.as_slice.ensures) (c.are_left.ensures.none there c.if-not-are_left.true),
      further_on (map f c.args.lanes.now) (map f c.follow.new.lanes) (map f c.fill_round.new.lanes) ended.2.followed.further
          (filled_further (map f c.follow.new.lanes) (map f c.fill_round.new.lanes) ended.0 ended.2.followed.pass grown there),
    )

pub returns : goal.returns
returns g c = λ taken kept free none pass.
    let f = g.L.CaseLane.so_far in
    let lanes = map f c.args.lanes.now in
    let now = map f c.follow.new.lanes in
    let longer = map f c.fill_round.new.lanes in
    let later = map f c.take_in_step.new.lanes in
    let ended = c.in_ok-count.ensures taken kept free pass in
    let grown = filled f c.follow.new.lanes c.fill_round.new.lanes c.fill_round.auto.lanes c.fill_round.ensures in
    let there = none_refused f c.fill_round.new.lanes (sym c.are_refused.ensures ∙ c.if-are_refused.false) in
    let order = c.args.order.now in
    let count = c.in_ok-count.count in
    let rest = c.in_ok-take_in_step.ensures (given_up ended.0) (c.give_up.ensures ∙ ap (option_map given_up) ended.1) (pass_given_up longer ended.0 (read_on lanes now longer taken ended.0 order count free none ended.2 grown there)) in
    let same = c.take_in_step.auto.lanes in
    let same_too = c.fill_round.auto.lanes in
    let long : length later ≡ length longer = omega (arith, same, length-map c.fill_round.new.lanes f, length-map c.take_in_step.new.lanes f) in
    let long_too : length longer ≡ length now = omega (arith, same_too, length-map c.follow.new.lanes f, length-map c.fill_round.new.lanes f) in (
      rest.0,
      rest.1,
      elim c.else-count-as_slice.branch [
        | else-count-as_slice-via-then-count-as_slice+else-not-are_left w ↦
            let found = w.are_left.ensures.some there w.if-not-are_left.false in
            order_ends lanes now longer taken ended.0 order count free none ended.2 grown there later rest.0 long long_too rest.4 rest.5 rest.2 (rest.3 refl) rest.6 (w.if-count-as_slice.true ∙ ap length c.as_slice.ensures)
            found.0 found.1 found.2 found.3
        | else-count-as_slice-via-else-count-as_slice w ↦
            order_stops lanes now longer taken ended.0 order count free none ended.2 grown there later rest.0 long long_too rest.4 rest.5 rest.2 (rest.3 refl) rest.6
            (λ e. w.if-count-as_slice.false (e ∙ sym (ap length c.as_slice.ensures)))
      ],
      further_on lanes longer later (further_on lanes now longer ended.2.followed.further (filled_further now longer ended.0 ended.2.followed.pass grown there)) rest.4,
    )
