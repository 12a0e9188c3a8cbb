use Rattle.std.proofs.lemmas.Bool.{both_ways, not-true, not_from_false, false_from_ne_true}
use Rattle.log_ends.specs.Ends.{Fits, sent_at, received_at}
use Rattle.log_ends.proofs.Fitting.{are_at, not_there, is_there, at_rows, yes, no, met_first, met_second, unmet}
use Rattle.log_ends.proofs.passages.Rows.fit.Goals as goal

pub returns-then-one-two : goal.returns-then-one-two
returns-then-one-two c =
    let at = are_at c.args.self.now c.args.place c.args.other c.index-one.result.now c.index-two.result.now c.requires.rows c.requires.place c.requires.other c.index-one.ensures c.index-two.ensures in
    no (not_there c.args.self.now c.args.place c.args.other c.index-one.result.now c.index-two.result.now (Fits c.args.self.now.logs.now) at (λ fits. fits.apart c.if-one-two.true))

pub returns-then-not-is_prefix_of : goal.returns-then-not-is_prefix_of
returns-then-not-is_prefix_of c =
    let at = are_at c.args.self.now c.args.place c.args.other c.index-one.result.now c.index-two.result.now c.requires.rows c.requires.place c.requires.other c.index-one.ensures c.index-two.ensures in
    no (not_there c.args.self.now c.args.place c.args.other c.index-one.result.now c.index-two.result.now (Fits c.args.self.now.logs.now) at
    (λ fits. both_ways c.is_prefix_of.result c.if-not-is_prefix_of.true ((c.is_prefix_of.ensures at.numbers (received_at c.args.self.now.logs.now c.index-one.result.now.end) (sent_at c.args.self.now.logs.now c.index-two.result.now.end) at.told at.one_passed.into at.other_passed.out).1 fits.at_first)))

pub returns-then-not-is_prefix_of-2 : goal.returns-then-not-is_prefix_of-2
returns-then-not-is_prefix_of-2 c =
    let at = are_at c.args.self.now c.args.place c.args.other c.index-one.result.now c.index-two.result.now c.requires.rows c.requires.place c.requires.other c.index-one.ensures c.index-two.ensures in
    no (not_there c.args.self.now c.args.place c.args.other c.index-one.result.now c.index-two.result.now (Fits c.args.self.now.logs.now) at
    (λ fits. both_ways c.is_prefix_of-2.result c.if-not-is_prefix_of-2.true ((c.is_prefix_of-2.ensures at.numbers (received_at c.args.self.now.logs.now c.index-two.result.now.end) (sent_at c.args.self.now.logs.now c.index-one.result.now.end) at.told at.other_passed.into at.one_passed.out).1 fits.at_second)))

pub returns-then-not-is_empty : goal.returns-then-not-is_empty
returns-then-not-is_empty c =
    let at = are_at c.args.self.now c.args.place c.args.other c.index-one.result.now c.index-two.result.now c.requires.rows c.requires.place c.requires.other c.index-one.ensures c.index-two.ensures in
    let first = (c.is_prefix_of.ensures at.numbers (received_at c.args.self.now.logs.now c.index-one.result.now.end) (sent_at c.args.self.now.logs.now c.index-two.result.now.end) at.told at.one_passed.into at.other_passed.out).0 c.if-not-is_prefix_of.false in
    let second = (c.is_prefix_of-2.ensures at.numbers (received_at c.args.self.now.logs.now c.index-two.result.now.end) (sent_at c.args.self.now.logs.now c.index-one.result.now.end) at.told at.other_passed.into at.one_passed.out).0 c.if-not-is_prefix_of-2.false in
    yes (is_there c.args.self.now c.args.place c.args.other c.index-one.result.now c.index-two.result.now (Fits c.args.self.now.logs.now) at
    (record { apart = c.if-one-two.false; at_first = first; at_second = second; met = met_first c.args.self.now.logs.now c.index-one.result.now.end c.index-two.result.now.end c.index-one.result.now.passed.received.numbers.items at.one_passed.into.count (λ e. both_ways c.is_empty.result c.if-not-is_empty.true (c.is_empty.ensures.1 e)) }))

pub returns : goal.returns
returns c =
    let at = are_at c.args.self.now c.args.place c.args.other c.index-one.result.now c.index-two.result.now c.requires.rows c.requires.place c.requires.other c.index-one.ensures c.index-two.ensures in
    let first = (c.is_prefix_of.ensures at.numbers (received_at c.args.self.now.logs.now c.index-one.result.now.end) (sent_at c.args.self.now.logs.now c.index-two.result.now.end) at.told at.one_passed.into at.other_passed.out).0 c.if-not-is_prefix_of.false in
    let second = (c.is_prefix_of-2.ensures at.numbers (received_at c.args.self.now.logs.now c.index-two.result.now.end) (sent_at c.args.self.now.logs.now c.index-one.result.now.end) at.told at.other_passed.into at.one_passed.out).0 c.if-not-is_prefix_of-2.false in
    let none = c.is_empty.ensures.0 c.if-not-is_empty.false in (
      (λ t. is_there c.args.self.now c.args.place c.args.other c.index-one.result.now c.index-two.result.now (Fits c.args.self.now.logs.now) at
          (record { apart = c.if-one-two.false; at_first = first; at_second = second; met = met_second c.args.self.now.logs.now c.index-one.result.now.end c.index-two.result.now.end c.index-two.result.now.passed.received.numbers.items at.other_passed.into.count (λ e. both_ways c.is_empty-2.result (not-true c.is_empty-2.result t) (c.is_empty-2.ensures.1 e)) })),
      (λ fits. not_from_false c.is_empty-2.result (false_from_ne_true c.is_empty-2.result (λ e. unmet c.args.self.now.logs.now c.index-one.result.now.end c.index-two.result.now.end c.index-one.result.now.passed.received.numbers.items c.index-two.result.now.passed.received.numbers.items at.one_passed.into.count at.other_passed.into.count none (c.is_empty-2.ensures.0 e)
          (at_rows c.args.self.now c.args.place c.args.other c.index-one.result.now c.index-two.result.now (Fits c.args.self.now.logs.now) at.one_there at.other_there fits)))),
    )
