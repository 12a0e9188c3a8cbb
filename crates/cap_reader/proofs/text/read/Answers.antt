use Rattle.std.proofs.Common.{◌-◌, sym, ◌∙◌, arith}
use Rattle.cap_reader.proofs.Texts.{no_extent, none_to_end, no_zero, text_refused, text_paid}
use Rattle.cap_reader.proofs.text.read.Goals as goal

pub returns-in_default-clause-value : goal.returns-in_default-clause-value
returns-in_default-clause-value c =
    no_extent c.args.frame.now c.args.segment c.args.limits.now.words c.args.count _
    (rw (← c.plain_size-size.ensures) (sym c.extent.ensures.value ∙ c.in_default.is))

pub returns-then-count-eq0-clause-value : goal.returns-then-count-eq0-clause-value
returns-then-count-eq0-clause-value c =
    none_to_end c.args.frame.now c.args.segment c.args.limits.now.words c.args.count c.in-Some.start _
    (rw (← c.plain_size-size.ensures) (sym c.extent.ensures.value ∙ c.in-Some.is)) c.if-count-eq0.true

pub returns-then-byte_from-ne0-clause-value : goal.returns-then-byte_from-ne0-clause-value
returns-then-byte_from-ne0-clause-value c =
    no_zero c.args.frame.now c.args.segment c.args.limits.now.words c.args.count (c.args.count - 1) c.in-Some.start _
    (rw (← c.plain_size-size.ensures) (sym c.extent.ensures.value ∙ c.in-Some.is)) (omega (arith, c.if-count-eq0.false))
    (rw (← c.byte_from.ensures) c.if-byte_from-ne0.true)

pub returns-then-limits-size-clause-value : goal.returns-then-limits-size-clause-value
returns-then-limits-size-clause-value c =
    text_refused c.args.frame.now c.args.segment c.args.limits.now.words c.args.count (c.args.count - 1) c.in-Some.start c.plain_size-size.result _
    (rw (← c.plain_size-size.ensures) (sym c.extent.ensures.value ∙ c.in-Some.is)) (omega (arith, c.if-count-eq0.false))
    (sym c.byte_from.ensures ∙ c.if-byte_from-ne0.false) c.plain_size-size.ensures c.if-limits-size.true

pub returns-clause-value : goal.returns-clause-value
returns-clause-value c =
    text_paid c.args.frame.now c.args.segment c.args.limits.now.words c.args.count (c.args.count - 1) c.in-Some.start c.plain_size-size.result _
    (rw (← c.plain_size-size.ensures) (sym c.extent.ensures.value ∙ c.in-Some.is)) (omega (arith, c.if-count-eq0.false))
    (sym c.byte_from.ensures ∙ c.if-byte_from-ne0.false) c.plain_size-size.ensures c.if-limits-size.false
