use Rattle.std.proofs.Common.{sym}
use Rattle.std.proofs.lemmas.Result.{err_from_is_err_and}
use Rattle.vat_log.proofs.ReadOn.{cut_is}
use Rattle.vat_log.proofs.Runs.{header_is, vat_fails, version_fails}
use Rattle.vat_log.proofs.log_stream.read_header.Goals as goal

pub returns-in_err-version-clause-err : goal.returns-in_err-version-clause-err
returns-in_err-version-clause-err c =
    let p = err_from_is_err_and c.from_residual.result c.from_residual.ensures.1 in
    rw (p.1, p.2) (version_fails c.args.bytes.now c.in_err-version.field-0.0 (sym c.in_err-version.ensures.value)).0

pub returns-in_err-vat-clause-err : goal.returns-in_err-vat-clause-err
returns-in_err-vat-clause-err c =
    let p = err_from_is_err_and c.from_residual-in_err-vat.result c.from_residual-in_err-vat.ensures.1 in
    let e = c.in_err-vat.field-0.0 in
    rw (p.1, p.2) (vat_fails c.args.bytes.now c.in_ok-version.version e (sym c.in_ok-version.ensures.value) (cut_is e 8 _ c.in_err-vat.ensures.cut c.in_err-vat.ensures.gives)).0

pub returns-clause-ok : goal.returns-clause-ok
returns-clause-ok c = header_is c.args.bytes.now c.in_ok-version.version c.in_ok-vat.vat c.in_ok-vat.field-0-1 (sym c.in_ok-version.ensures.value) c.in_ok-vat.ensures.gives
