use Rattle.std.proofs.Common.{ℕ, ◌<◌, ◌∷◌, [], arith}
use Rattle.std.proofs.lemmas.Result.{err_from_is_err_and}
use Rattle.cap_reader.specs.Places.{element_at, elements_at}
use Rattle.rpc_view.specs.Reading.{run}
use Rattle.rpc_view.specs.Message.{descriptor_in, descriptors_in}
use Rattle.rpc_view.proofs.Loops.{alone, one, none, goes_on, ends, is_done}
use Rattle.rpc_view.proofs.table.entries.Goals as goal

pub returns-in_err-entry : goal.returns-in_err-entry
returns-in_err-entry c =
    let p = err_from_is_err_and c.from_residual.result c.from_residual.ensures.1 in
    let lt : c.loop-i.i < c.args.table.now.count = omega arith in
    let f = λ (i : ℕ). descriptor_in (element_at c.args.frame.now c.args.table.now i) in
    rw (p.1, p.2) (ends (alone f) c.in_err-entry.field-0.0 c.loop-i.items.items c.args.table.now.count c.loop-i.i c.loop-i.limits.words c.entry.new.limits.words (run (descriptors_in (elements_at c.args.frame.now c.args.table.now)) c.args.limits.now.words) lt (none f c.loop-i.i c.loop-i.limits.words c.entry.new.limits.words c.in_err-entry.field-0.0 c.in_err-entry.ensures) c.loop-i.invariant)

pub loop-i-preserved : goal.loop-i-preserved
loop-i-preserved c =
    let lt : c.loop-i.i < c.args.table.now.count = omega arith in
    let f = λ (i : ℕ). descriptor_in (element_at c.args.frame.now c.args.table.now i) in
    rw c.in_ok-put.ensures (goes_on (alone f) c.loop-i.items.items (c.in_ok-entry.field-0 ∷ []) c.args.table.now.count c.loop-i.i c.loop-i.limits.words c.entry.new.limits.words _ lt (one f c.loop-i.i c.loop-i.limits.words c.entry.new.limits.words c.in_ok-entry.field-0 c.in_ok-entry.ensures) c.loop-i.invariant)

pub returns : goal.returns
returns c =
    rw c.new.ensures (is_done (alone (λ i. descriptor_in (element_at c.args.frame.now c.args.table.now i))) c.loop-i.items.items c.args.table.now.count c.loop-i.i c.loop-i.limits.words _ (omega arith) c.loop-i.invariant)
