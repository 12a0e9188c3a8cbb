use Rattle.std.proofs.Common.{◌≡◌, ◌∙◌, Ok, sym, subst}
use Rattle.std.proofs.lemmas.Result.{err_from_is_err_and}
use Rattle.vat_log.specs.Fits.{record_limit, LogFits}
use Rattle.vat_log.specs.Log.{Log}
use Rattle.vat_log.specs.Parsed.{IsParsed}
use Rattle.vat_log.specs.Reading.{log_of}
use Rattle.vat_log.specs.Spelling.{log_bytes}
use Rattle.vat_log.proofs.LogLaws.{log_again}
use Rattle.vat_log.proofs.ReadOn.{ended_by, ended_none, fails_by, has_magic, magic_is, not_bad, parsed_is, read_as, whole_is}
use Rattle.vat_log.proofs.log.parse_log.Goals as goal

-- no header

pub returns-in_err-reader-clause-exact : goal.returns-in_err-reader-clause-exact
returns-in_err-reader-clause-exact c =
    let p = err_from_is_err_and c.from_residual.result c.from_residual.ensures.1 in
    rw (p.1, p.2) (fails_by c.in_err-reader.field-0.0 (log_of c.args.bytes) c.in_err-reader.ensures.err.1)

pub returns-in_err-reader-clause-only : goal.returns-in_err-reader-clause-only
returns-in_err-reader-clause-only c = λ log fits spelled. absurd (not_bad c.args.bytes c.in_err-reader.field-0.0 log fits spelled c.in_err-reader.ensures.err.1)

pub returns-in_err-reader-clause-early : goal.returns-in_err-reader-clause-early
returns-in_err-reader-clause-early c = λ version.
    let p = err_from_is_err_and c.from_residual.result c.from_residual.ensures.1 in
    rw (p.1, p.2) (magic_is c.args.bytes c.in_err-reader.field-0.0 version c.in_err-reader.ensures.err.1)

-- want of memory

pub returns-in_err-records-clause-early : goal.returns-in_err-records-clause-early
returns-in_err-records-clause-early c = λ version. absurd (has_magic c.args.bytes c.in_ok-reader.reader.log c.in_ok-reader.ensures.header version)

-- a fault

pub returns-in-Some-clause-exact : goal.returns-in-Some-clause-exact
returns-in-Some-clause-exact c =
    let same = c.in_ok-records.ensures.bytes ∙ c.in_ok-reader.ensures.bytes in
    fails_by c.in-Some.fault (log_of c.args.bytes) (ended_by c.in_ok-records.fault c.in-Some.fault c.args.bytes c.records_left.new.reader same c.in-Some.is c.in_ok-records.ensures.ended)

pub returns-in-Some-clause-only : goal.returns-in-Some-clause-only
returns-in-Some-clause-only c = λ log fits spelled.
    let same = c.in_ok-records.ensures.bytes ∙ c.in_ok-reader.ensures.bytes in
    absurd (not_bad c.args.bytes c.in-Some.fault log fits spelled (ended_by c.in_ok-records.fault c.in-Some.fault c.args.bytes c.records_left.new.reader same c.in-Some.is c.in_ok-records.ensures.ended))

pub returns-in-Some-clause-early : goal.returns-in-Some-clause-early
returns-in-Some-clause-early c = λ version. absurd (has_magic c.args.bytes c.in_ok-reader.reader.log c.in_ok-reader.ensures.header version)

-- the end

pub invariant_of-result : goal.invariant_of-result
invariant_of-result c =
    let read = c.records_left.new.reader in
    let same = c.in_ok-records.ensures.bytes ∙ c.in_ok-reader.ensures.bytes in
    let log = ended_none c.in_ok-records.fault c.args.bytes read same c.in_default.is c.in_ok-records.ensures.ended in
    let is = whole_is c.args.bytes c.in_ok-reader.reader.log read.log c.in_ok-records.records.items c.log_version.result c.vat.result c.in_ok-reader.ensures.header c.in_ok-records.ensures.records c.log_version.ensures c.vat.ensures in
    subst (IsParsed c.into_bytes.result) (sym is) (parsed_is c.args.bytes c.into_bytes.result read.log c.into_bytes.ensures.octets (c.into_bytes.ensures.same ∙ same) log)

pub returns-clause-exact : goal.returns-clause-exact
returns-clause-exact c =
    let read = c.records_left.new.reader in
    let same = c.in_ok-records.ensures.bytes ∙ c.in_ok-reader.ensures.bytes in
    let log = ended_none c.in_ok-records.fault c.args.bytes read same c.in_default.is c.in_ok-records.ensures.ended in
    let is = whole_is c.args.bytes c.in_ok-reader.reader.log read.log c.in_ok-records.records.items c.log_version.result c.vat.result c.in_ok-reader.ensures.header c.in_ok-records.ensures.records c.log_version.ensures c.vat.ensures in
    subst (λ (l : Log). log_of c.args.bytes ≡ Ok l) (sym is) log

pub returns-clause-found : goal.returns-clause-found
returns-clause-found c =
    let read = c.records_left.new.reader in
    let same = c.in_ok-records.ensures.bytes ∙ c.in_ok-reader.ensures.bytes in
    let log = ended_none c.in_ok-records.fault c.args.bytes read same c.in_default.is c.in_ok-records.ensures.ended in
    let is = whole_is c.args.bytes c.in_ok-reader.reader.log read.log c.in_ok-records.records.items c.log_version.result c.vat.result c.in_ok-reader.ensures.header c.in_ok-records.ensures.records c.log_version.ensures c.vat.ensures in
    let parsed = parsed_is c.args.bytes c.into_bytes.result read.log c.into_bytes.ensures.octets (c.into_bytes.ensures.same ∙ same) log in
    subst (λ (l : Log). LogFits record_limit l × (c.args.bytes ≡ log_bytes l)) (sym is) (parsed.fits, sym (c.into_bytes.ensures.same ∙ same) ∙ parsed.spelled)

pub returns-clause-only : goal.returns-clause-only
returns-clause-only c = λ wanted fits spelled.
    let read = c.records_left.new.reader in
    let same = c.in_ok-records.ensures.bytes ∙ c.in_ok-reader.ensures.bytes in
    let log = ended_none c.in_ok-records.fault c.args.bytes read same c.in_default.is c.in_ok-records.ensures.ended in
    let is = whole_is c.args.bytes c.in_ok-reader.reader.log read.log c.in_ok-records.records.items c.log_version.result c.vat.result c.in_ok-reader.ensures.header c.in_ok-records.ensures.records c.log_version.ensures c.vat.ensures in
    subst (λ (l : Log). read_as wanted ≡ read_as l) (sym is) (sym (log_again record_limit c.args.bytes wanted fits spelled) ∙ log)
