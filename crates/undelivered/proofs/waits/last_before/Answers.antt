use Rattle.std.proofs.Common.{◌≡◌, []}
use Rattle.undelivered.proofs.Keys.{none_before, last_before}
use Rattle.undelivered.proofs.waits.last_before.Goals as goal

pub returns-in_err-key : goal.returns-in_err-key
returns-in_err-key c =
    let within = c.range-earlier.ensures.in_range tt in
    let empty : c.range-earlier.result ≡ [] = c.in_err-key.ensures.steps.0 in
    rw c.from_residual.ensures (none_before c.args.waiting.now c.args.reference c.args.turn (λ k h. within.5 empty k h))

pub returns : goal.returns
returns c =
    let within = c.range-earlier.ensures.in_range tt in
    let last = c.in_ok-key.ensures.steps in
    let here = within.3 (c.in_ok-key.key.now, c.in_ok-key.until.now) c.next_back.new.self last in
    last_before c.args.waiting.now c.args.reference c.args.turn c.in_ok-key.key.now c.in_ok-key.until.now here.0 here.1
    (λ q h there. within.4 (c.in_ok-key.key.now, c.in_ok-key.until.now) c.next_back.new.self last q h there)
