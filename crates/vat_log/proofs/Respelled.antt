-- A log that is read record by record, and spelled in another version.
use Rattle.std.proofs.Common.{◌≡◌, ℕ, List, [], ◌++◌, Option, None, Result, Ok, Err, refl, sym, ap, subst, ◌∙◌}
use Rattle.std.proofs.lemmas.List.{append-nil}
use Rattle.std.specs.Prelude.{MatchOption}
use Rattle.std.specs.Int.{w32}
use Rattle.std.specs.List.{flat_map}
use Rattle.vat_log.specs.declared.body.Body.{Body}
use Rattle.vat_log.specs.declared.error.LogError.{LogError}
use Rattle.vat_log.specs.declared.version.LogVersion.{LogVersion}
use Rattle.vat_log.specs.Fits.{record_limit, LogFits}
use Rattle.vat_log.specs.Log.{Log, written_version}
use Rattle.vat_log.specs.Migrated.{migrated_version, migrated}
use Rattle.vat_log.specs.Parsed.{IsParsed}
use Rattle.vat_log.specs.Reading.{◌>>=◌, records_at, header_of, log_within, log_of}
use Rattle.vat_log.specs.Runs.{with_record}
use Rattle.vat_log.specs.Spelling.{log_magic, count_width, number_bytes, record_bytes, log_bytes}
use Rattle.vat_log.proofs.BodyLaws.{listed_as_written, record_alike}
use Rattle.vat_log.proofs.ReadOn.{spelled_is}
use Rattle.vat_log.proofs.Runs.{header_parts, more_spelled}
use Rattle.vat_log.proofs.Spans.{ok_is}

-- the log in another version
abbrev pub in_version : LogVersion → Log → Log
in_version version log = record log { version = version }

-- in the version in which it was read it is the same
pub same_version : (version : LogVersion) (log : Log) → version ≡ log.version → in_version version log ≡ log
same_version version log is = ap (λ (v : LogVersion). in_version v log) is

-- ---- what is spelled so far

-- the header
pub header_spelled : (bytes out : List ℕ) (version : LogVersion) (start : Log) → header_of bytes ≡ Ok start → out ≡ log_magic version ++ number_bytes w32 start.vat → out ≡ log_bytes (in_version version start)
header_spelled bytes out version start header is =
    let empty : [] ≡ start.records = ap (λ (l : Log). l.records) (header_parts bytes start header).4 in
    is ∙ ap (λ (rest : List ℕ). log_magic version ++ rest) (sym (append-nil (number_bytes w32 start.vat)))
    ∙ ap (λ (xs : List Body). log_magic version ++ (number_bytes w32 start.vat ++ flat_map (record_bytes version) xs)) empty

-- one record more
pub one_spelled : (version : LogVersion) → count_width version ≡ w32 → (log : Log) (x : Body) (out more : List ℕ) → out ≡ log_bytes (in_version version log) → more ≡ out ++ record_bytes written_version x
    → more ≡ log_bytes (in_version version (with_record x log))
one_spelled version wide log x out more so_far step =
    step ∙ ap (λ o. o ++ record_bytes written_version x) so_far ∙ ap (λ r. log_bytes (in_version version log) ++ r) (sym (record_alike version wide x)) ∙ more_spelled (in_version version log) x

-- at the end
pub at_none : {A : Type 0} (o : Option A) (none : Type 0) (some : A → Type 0) → o ≡ None → MatchOption o none some → none
at_none {A = A} o none some is h = subst (λ (p : Option A). MatchOption p none some) is h

-- all of it
pub parsed_in : (version : LogVersion) → count_width version ≡ w32 → (log : Log) (bytes : List ℕ) → LogFits record_limit log → bytes ≡ log_bytes (in_version version log) → IsParsed bytes (in_version version log)
parsed_in version wide log bytes fits is = spelled_is bytes (in_version version log) (record {
  vat = fits.vat;
  counted = fits.counted;
  fit = fits.fit;
  wide = fits.wide;
  listed = λ k d lt. listed_as_written version wide _ (fits.fit k d lt).counted;
}) is

-- ---- the version that was read

-- the log whose header was read, and then its records
abbrev headed : LogVersion → ℕ → Result (List Body) LogError → Result Log LogError
headed version vat read = read >>= λ records. Ok (record { version = version; vat = vat; records = records })

headed_version : (version : LogVersion) (vat : ℕ) (read : Result (List Body) LogError) (log : Log) → headed version vat read ≡ Ok log → log.version ≡ version
headed_version version vat (Ok xs) log is = sym (ap (λ (l : Log). l.version) (ok_is (record { version = version; vat = vat; records = xs }) log is))
headed_version version vat (Err e) log is = absurd cc

-- a log is of the version that its header says
pub version_by_header : (bytes : List ℕ) (start log : Log) → header_of bytes ≡ Ok start → log_of bytes ≡ Ok log → log.version ≡ start.version
unfolding log_within
version_by_header bytes start log header is =
    let parts = header_parts bytes start header in
    let read = records_at parts.0 bytes record_limit parts.1.1 in
    let one : log_of bytes ≡ headed parts.0 parts.1.0 read = rw (parts.2, parts.3) refl in
    headed_version parts.0 parts.1.0 read log (sym one ∙ is) ∙ ap (λ (l : Log). l.version) parts.4

-- so it is migrated by its header
pub migrated_by_header : (bytes : List ℕ) (start log : Log) (version : LogVersion) → header_of bytes ≡ Ok start → log_of bytes ≡ Ok log → version ≡ migrated_version start.version → in_version version log ≡ migrated log
migrated_by_header bytes start log version header is wanted =
    ap (λ (v : LogVersion). in_version v log) (wanted ∙ ap migrated_version (sym (version_by_header bytes start log header is)))
