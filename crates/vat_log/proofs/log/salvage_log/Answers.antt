use Rattle.std.proofs.Common.{◌≡◌, ◌∙◌, Ok, Err, sym, subst}
use Rattle.std.proofs.lemmas.Result.{err_from_is_err_and}
use Rattle.std.specs.Prelude.{MatchOption}
use Rattle.vat_log.specs.Log.{Log}
use Rattle.vat_log.specs.Parsed.{IsParsed}
use Rattle.vat_log.specs.Reading.{header_of, log_of}
use Rattle.vat_log.specs.Runs.{IsLongestRun}
use Rattle.vat_log.proofs.ReadOn.{ends_means, fails_by, spelled_is}
use Rattle.vat_log.proofs.Respelled.{same_version}
use Rattle.vat_log.proofs.log.salvage_log.Goals as goal

pub returns-in_err-reader-clause-err : goal.returns-in_err-reader-clause-err
returns-in_err-reader-clause-err c =
    let p = err_from_is_err_and c.from_residual.result c.from_residual.ensures.1 in
    let e = c.in_err-reader.field-0.0 in
    rw (p.1, p.2) (fails_by e (header_of c.args.bytes) c.in_err-reader.ensures.err.0, fails_by e (log_of c.args.bytes) c.in_err-reader.ensures.err.1)

pub spelled_in-log-requires : goal.spelled_in-log-requires
spelled_in-log-requires c =
    let log = c.read_through.new.reader.log in
    let is = same_version c.log_version-version.result log c.log_version-version.ensures in
    subst (IsParsed c.in_ok-bytes.bytes) (sym is) (spelled_is c.in_ok-bytes.bytes log c.in_ok-fault.ensures.begun.fits c.in_ok-bytes.ensures)

pub returns-clause-longest : goal.returns-clause-longest
returns-clause-longest c =
    let read = c.read_through.new.reader in
    let same = c.in_ok-fault.ensures.bytes ∙ c.in_ok-reader.ensures.bytes in
    let is = c.spelled_in-log.ensures ∙ same_version c.log_version-version.result read.log c.log_version-version.ensures in
    subst (IsLongestRun c.args.bytes) (sym is) (ends_means c.in_ok-fault.fault c.args.bytes read same c.in_ok-fault.ensures.ended).1

pub returns-clause-fault : goal.returns-clause-fault
returns-clause-fault c =
    let read = c.read_through.new.reader in
    let same = c.in_ok-fault.ensures.bytes ∙ c.in_ok-reader.ensures.bytes in
    let is = c.spelled_in-log.ensures ∙ same_version c.log_version-version.result read.log c.log_version-version.ensures in
    subst (λ (l : Log). MatchOption c.in_ok-fault.fault (log_of c.args.bytes ≡ Ok l) (λ e. log_of c.args.bytes ≡ Err e)) (sym is)
    (ends_means c.in_ok-fault.fault c.args.bytes read same c.in_ok-fault.ensures.ended).0
