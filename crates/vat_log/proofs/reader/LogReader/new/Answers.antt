use Rattle.std.proofs.Common.{◌≡◌, ◌^◌, ◌<◌, ℕ, List, All, Ok, Err, refl, sym, subst}
use Rattle.std.proofs.lemmas.Result.{err_from_is_err_and}
use Rattle.std.specs.Int.{w32}
use Rattle.vat_log.specs.Reading.{number_at, version_at}
use Rattle.vat_log.proofs.ReadOn.{cut_is}
use Rattle.vat_log.proofs.Runs.{header_is, read_begins, read_none, vat_fails, version_fails}
use Rattle.vat_log.proofs.reader.LogReader.new.Goals as goal

pub returns-in_err-version-clause-err : goal.returns-in_err-version-clause-err
returns-in_err-version-clause-err c =
    let p = err_from_is_err_and c.from_residual.result c.from_residual.ensures.1 in
    let read = subst (λ (bytes : List ℕ). version_at bytes ≡ Err c.in_err-version.field-0.0) c.as_slice.ensures (sym c.in_err-version.ensures.value) in
    rw (p.1, p.2) (version_fails c.args.bytes c.in_err-version.field-0.0 read)

pub returns-in_err-vat-clause-err : goal.returns-in_err-vat-clause-err
returns-in_err-vat-clause-err c =
    let p = err_from_is_err_and c.from_residual-in_err-vat.result c.from_residual-in_err-vat.ensures.1 in
    let e = c.in_err-vat.field-0.0 in
    let version = subst (λ (bytes : List ℕ). version_at bytes ≡ Ok c.in_ok-version.version) c.as_slice.ensures (sym c.in_ok-version.ensures.value) in
    let read = subst (λ (bytes : List ℕ). number_at w32 bytes 8 ≡ Err e) c.as_slice-2.ensures (cut_is e 8 _ c.in_err-vat.ensures.cut c.in_err-vat.ensures.gives) in
    rw (p.1, p.2) (vat_fails c.args.bytes c.in_ok-version.version e version read)

pub invariant_of-result : goal.invariant_of-result
invariant_of-result c =
    let version = subst (λ (bytes : List ℕ). version_at bytes ≡ Ok c.in_ok-version.version) c.as_slice.ensures (sym c.in_ok-version.ensures.value) in
    let octets = subst (All (λ octet. octet < 2 ^ 8)) c.as_slice.ensures c.in_ok-version.ensures.octets in
    let vat = subst (λ (bytes : List ℕ). number_at w32 bytes 8 ≡ Ok (c.in_ok-vat.vat, c.in_ok-vat.at)) c.as_slice-2.ensures c.in_ok-vat.ensures.gives in
    rw c.new.ensures (refl, octets, read_none c.args.bytes c.in_ok-version.version c.in_ok-vat.vat c.in_ok-vat.at octets version vat)

pub returns-clause-header : goal.returns-clause-header
returns-clause-header c =
    let version = subst (λ (bytes : List ℕ). version_at bytes ≡ Ok c.in_ok-version.version) c.as_slice.ensures (sym c.in_ok-version.ensures.value) in
    let vat = subst (λ (bytes : List ℕ). number_at w32 bytes 8 ≡ Ok (c.in_ok-vat.vat, c.in_ok-vat.at)) c.as_slice-2.ensures c.in_ok-vat.ensures.gives in
    rw c.new.ensures (header_is c.args.bytes c.in_ok-version.version c.in_ok-vat.vat c.in_ok-vat.at version vat)

pub returns-clause-begun : goal.returns-clause-begun
returns-clause-begun c =
    let version = subst (λ (bytes : List ℕ). version_at bytes ≡ Ok c.in_ok-version.version) c.as_slice.ensures (sym c.in_ok-version.ensures.value) in
    let octets = subst (All (λ octet. octet < 2 ^ 8)) c.as_slice.ensures c.in_ok-version.ensures.octets in
    let vat = subst (λ (bytes : List ℕ). number_at w32 bytes 8 ≡ Ok (c.in_ok-vat.vat, c.in_ok-vat.at)) c.as_slice-2.ensures c.in_ok-vat.ensures.gives in
    rw c.new.ensures (read_begins c.args.bytes _ c.in_ok-vat.at (read_none c.args.bytes c.in_ok-version.version c.in_ok-vat.vat c.in_ok-vat.at octets version vat))
