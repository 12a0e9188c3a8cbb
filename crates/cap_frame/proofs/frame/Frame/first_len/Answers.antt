use Rattle.std.proofs.Common.{sym, ◌∙◌}
use Rattle.std.proofs.lemmas.Result.{err_from_is_err_and}
use Rattle.cap_frame.proofs.First.{cut_off, only_cut, refused_whole, none_cut, some_bytes}
use Rattle.cap_frame.proofs.frame.Frame.first_len.Goals as goal

pub returns-in_err-len-clause-only : goal.returns-in_err-len-clause-only
returns-in_err-len-clause-only c len within one =
    absurd (none_cut c.args.bytes.now c.in_err-len.field-0.0 (sym c.in_err-len.ensures.exact) len within one)

pub returns-in_err-len-clause-refused : goal.returns-in_err-len-clause-refused
returns-in_err-len-clause-refused c =
    let p = err_from_is_err_and c.from_residual.result c.from_residual.ensures.1 in
    rw (p.1, p.2) (refused_whole c.args.bytes.now c.in_err-len.field-0.0 (sym c.in_err-len.ensures.exact))

pub returns-clause-cut : goal.returns-clause-cut
returns-clause-cut c = cut_off c.args.bytes.now c.in_ok-len.len (sym c.in_ok-len.ensures.exact)

pub returns-clause-only : goal.returns-clause-only
returns-clause-only c len within one = c.in_ok-len.ensures.exact ∙ only_cut c.args.bytes.now len within one

pub returns-clause-some : goal.returns-clause-some
returns-clause-some c = some_bytes c.args.bytes.now c.in_ok-len.len (sym c.in_ok-len.ensures.exact)
