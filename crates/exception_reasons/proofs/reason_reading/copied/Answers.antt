use Rattle.std.proofs.Common.{◌∙◌, ◌≡◌, ◌<◌, length, min, arith}
use Rattle.cap_reader.specs.Places.{text_at}
use Rattle.exception_reasons.proofs.Taking.{one_more, all_taken}
use Rattle.exception_reasons.proofs.reason_reading.copied.Goals as goal

pub loop-i-preserved : goal.loop-i-preserved
loop-i-preserved c =
    let lt : c.loop-i.i < length (text_at c.args.frame.now c.args.text.now) = omega (arith, c.len.ensures c.args.frame.now) in
    rw c.in_ok-push.ensures.items (one_more (text_at c.args.frame.now c.args.text.now) c.loop-i.bytes.items c.loop-i.i c.byte.result lt c.byte.ensures c.loop-i.invariant)

pub returns : goal.returns
returns c =
    let all : c.loop-i.i ≡ min 1024 (length (text_at c.args.frame.now c.args.text.now)) = omega (arith, c.len.ensures c.args.frame.now) in
    c.new.ensures ∙ all_taken (text_at c.args.frame.now c.args.text.now) c.loop-i.bytes.items c.loop-i.i 1024 all c.loop-i.invariant
