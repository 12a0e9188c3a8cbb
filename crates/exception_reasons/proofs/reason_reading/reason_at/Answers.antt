use Rattle.std.proofs.Common.{rules, ◌∙◌, sym}
use Rattle.std.proofs.lemmas.Result.{err_from_is_err_and}
use Rattle.cap_reader.specs.Tree.{root_tree}
use Rattle.cap_reader.specs.Places.{sections_at}
use Rattle.rpc_view.specs.Layouts.{message_tag}
use Rattle.exception_reasons.proofs.Stepping.{reason_refused, reason_goes, body_of_abort, body_of_return, body_of_resolve, body_of_other}
use Rattle.exception_reasons.proofs.reason_reading.reason_at.Goals as goal

pub returns-in_err-message : goal.returns-in_err-message
returns-in_err-message c =
    let p = err_from_is_err_and c.from_residual.result c.from_residual.ensures.1 in
    rw (p.1, p.2) (reason_refused (root_tree c.args.limits.now.depth c.args.frame.now) c.args.limits.now.words c.root.new.limits.words c.in_err-message.field-0.0 c.in_err-message.ensures.value)

pub returns-in-1 : goal.returns-in-1
returns-in-1 c =
    let s = sections_at c.args.frame.now c.in_ok-message.message in
    let goes = reason_goes (root_tree c.args.limits.now.depth c.args.frame.now) c.args.limits.now.words c.root.new.limits.words s c.in_ok-message.ensures.value in
    let body = body_of_abort (message_tag s) (s.child 0) c.root.new.limits.words (sym c.u16_at.ensures ∙ c.in-1.is) in
    rw (goes ∙ body) c.exception.ensures

pub returns-in-3 : goal.returns-in-3
returns-in-3 c =
    let s = sections_at c.args.frame.now c.in_ok-message.message in
    let goes = reason_goes (root_tree c.args.limits.now.depth c.args.frame.now) c.args.limits.now.words c.root.new.limits.words s c.in_ok-message.ensures.value in
    let body = body_of_return (message_tag s) (s.child 0) c.root.new.limits.words (sym c.u16_at.ensures ∙ c.in-3.is) in
    rw (goes ∙ body) c.told.ensures

pub returns-in-5 : goal.returns-in-5
returns-in-5 c =
    let s = sections_at c.args.frame.now c.in_ok-message.message in
    let goes = reason_goes (root_tree c.args.limits.now.depth c.args.frame.now) c.args.limits.now.words c.root.new.limits.words s c.in_ok-message.ensures.value in
    let body = body_of_resolve (message_tag s) (s.child 0) c.root.new.limits.words (sym c.u16_at.ensures ∙ c.in-5.is) in
    rw (goes ∙ body) c.told-in-5.ensures

pub returns-in_default : goal.returns-in_default
returns-in_default c =
    let s = sections_at c.args.frame.now c.in_ok-message.message in
    let goes = reason_goes (root_tree c.args.limits.now.depth c.args.frame.now) c.args.limits.now.words c.root.new.limits.words s c.in_ok-message.ensures.value in
    let others = c.in_default in
    goes ∙ rw (sym c.u16_at.ensures) (body_of_other c.u16_at.result (s.child 0) c.root.new.limits.words (search rules) (search rules) (search rules))
