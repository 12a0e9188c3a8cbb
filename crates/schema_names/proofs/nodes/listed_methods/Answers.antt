use Rattle.std.proofs.Common.{ℕ, ◌<◌, ◌∷◌, [], arith}
use Rattle.std.proofs.lemmas.Result.{err_from_is_err_and}
use Rattle.cap_reader.specs.Places.{element_at, elements_at}
use Rattle.schema_names.specs.Reading.{run_schema}
use Rattle.schema_names.specs.Names.{method_in, methods_in}
use Rattle.schema_names.proofs.Loops.{alone, one, none, goes_on, ends, is_done}
use Rattle.schema_names.proofs.nodes.listed_methods.Goals as goal

pub returns-in_err-method : goal.returns-in_err-method
returns-in_err-method c =
    let p = err_from_is_err_and c.from_residual.result c.from_residual.ensures.1 in
    let lt : c.loop-i.i < c.args.list.now.count = omega arith in
    let f = λ (i : ℕ). method_in (element_at c.args.frame.now c.args.list.now i) in
    rw (p.1, p.2) (ends (alone f) c.in_err-method.field-0.0 c.loop-i.names.items c.args.list.now.count c.loop-i.i c.loop-i.limits.words c.method.new.limits.words (run_schema (methods_in (elements_at c.args.frame.now c.args.list.now)) c.args.limits.now.words) lt (none f c.loop-i.i c.loop-i.limits.words c.method.new.limits.words c.in_err-method.field-0.0 c.in_err-method.ensures) c.loop-i.invariant)

pub loop-i-preserved : goal.loop-i-preserved
loop-i-preserved c =
    let lt : c.loop-i.i < c.args.list.now.count = omega arith in
    let f = λ (i : ℕ). method_in (element_at c.args.frame.now c.args.list.now i) in
    rw c.in_ok-push.ensures.items (goes_on (alone f) c.loop-i.names.items (c.in_ok-method.field-0 ∷ []) c.args.list.now.count c.loop-i.i c.loop-i.limits.words c.method.new.limits.words _ lt (one f c.loop-i.i c.loop-i.limits.words c.method.new.limits.words c.in_ok-method.field-0 c.in_ok-method.ensures) c.loop-i.invariant)

pub returns : goal.returns
returns c =
    rw c.new.ensures (is_done (alone (λ i. method_in (element_at c.args.frame.now c.args.list.now i))) c.loop-i.names.items c.args.list.now.count c.loop-i.i c.loop-i.limits.words _ (omega arith) c.loop-i.invariant)
