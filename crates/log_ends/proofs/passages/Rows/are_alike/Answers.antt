use Rattle.std.proofs.lemmas.Bool.{both_ways}
use Rattle.log_ends.specs.Ends.{AreAlike, sent_at, received_at}
use Rattle.log_ends.proofs.Fitting.{are_at, not_there, is_there, at_rows, no}
use Rattle.log_ends.proofs.passages.Rows.are_alike.Goals as goal

pub returns-then-not-is_same : goal.returns-then-not-is_same
returns-then-not-is_same c =
    let at = are_at c.args.self.now c.args.place c.args.other c.index-one.result.now c.index-two.result.now c.requires.rows c.requires.place c.requires.other c.index-one.ensures c.index-two.ensures in
    no (not_there c.args.self.now c.args.place c.args.other c.index-one.result.now c.index-two.result.now (AreAlike c.args.self.now.logs.now) at
    (λ alike. both_ways c.is_same.result c.if-not-is_same.true ((c.is_same.ensures at.numbers (sent_at c.args.self.now.logs.now c.index-one.result.now.end) (sent_at c.args.self.now.logs.now c.index-two.result.now.end) at.told at.one_passed.out at.other_passed.out).1 alike.sent)))

pub returns : goal.returns
returns c =
    let at = are_at c.args.self.now c.args.place c.args.other c.index-one.result.now c.index-two.result.now c.requires.rows c.requires.place c.requires.other c.index-one.ensures c.index-two.ensures in
    let out = (c.is_same.ensures at.numbers (sent_at c.args.self.now.logs.now c.index-one.result.now.end) (sent_at c.args.self.now.logs.now c.index-two.result.now.end) at.told at.one_passed.out at.other_passed.out).0 c.if-not-is_same.false in
    let into = c.is_same-2.ensures at.numbers (received_at c.args.self.now.logs.now c.index-one.result.now.end) (received_at c.args.self.now.logs.now c.index-two.result.now.end) at.told at.one_passed.into at.other_passed.into in (
      (λ t. is_there c.args.self.now c.args.place c.args.other c.index-one.result.now c.index-two.result.now (AreAlike c.args.self.now.logs.now) at (record { sent = out; received = into.0 t })),
      (λ alike. into.1 (at_rows c.args.self.now c.args.place c.args.other c.index-one.result.now c.index-two.result.now (AreAlike c.args.self.now.logs.now) at.one_there at.other_there alike).received),
    )
