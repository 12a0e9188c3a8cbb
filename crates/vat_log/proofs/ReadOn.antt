-- A log that is read record by record, as its reader keeps it: the records that were given, the newest first.
use Rattle.std.proofs.Common.{◌≡◌, ℕ, ◌+◌, ◌<◌, ◌≤◌, ◌^◌, List, [], ◌∷◌, ◌++◌, length, reverse, All, Option, Some, None, Result, Ok, Err, sym, ap, ap₂, subst, ◌∙◌, append_assoc, arith}
use Rattle.std.proofs.lemmas.List.{append-nil, length-reverse, reverse-append}
use Rattle.std.specs.Prelude.{MatchOption}
use Rattle.std.specs.List.{slice_range}
use Rattle.vat_log.specs.declared.body.Body.{Body}
use Rattle.vat_log.specs.declared.error.LogError.{LogError}
use Rattle.vat_log.specs.declared.error.LogError.TheVariants.{BadMagic, Short, BadKind, ZeroNumber, TooLong, OutOfMemory}
use Rattle.vat_log.specs.declared.spelling.kind.RecordKind.{RecordKind}
use Rattle.vat_log.specs.declared.version.LogVersion.{LogVersion}
use Rattle.vat_log.specs.Fits.{record_limit, LogFits}
use Rattle.vat_log.specs.Log.{Log}
use Rattle.vat_log.specs.Parsed.{IsParsed}
use Rattle.vat_log.specs.Reader.{EndsBy, IsReadTo}
use Rattle.vat_log.specs.Runs.{IsLongestRun, ReadSoFar, StopsBy, with_record, with_records}
use Rattle.vat_log.specs.Reading.{Fails, fields_at, kind_at, version_at, header_of, log_of}
use Rattle.vat_log.specs.Spelling.{log_bytes}
use Rattle.vat_log.proofs.Spans.{IsBytes-from_all, Spans-range}
use Rattle.vat_log.proofs.LogLaws.{log_again, log_takes}
use Rattle.vat_log.proofs.Runs.{all_read, limit_is, read_on, read_spans, version_fails}

-- the log of which these records were given
abbrev pub log_given : LogVersion → ℕ → List Body → Log
log_given version vat given = record { version = version; vat = vat; records = reverse given }

abbrev pub Keeps : List ℕ → LogVersion → ℕ → List Body → ℕ → ℕ → Type 0
Keeps bytes version vat given count at = (length given ≡ count) × All (λ octet. octet < 2 ^ 8) bytes × IsReadTo record_limit bytes (log_given version vat given) at

-- one more record behind the others
pub one_given : (version : LogVersion) (vat : ℕ) (given : List Body) (x : Body) → log_given version vat (x ∷ given) ≡ with_record x (log_given version vat given)
one_given version vat given x = ap (λ (xs : List Body). record { version = version; vat = vat; records = xs }) (reverse-append (x ∷ []) given)

pub has_room : (bytes : List ℕ) (version : LogVersion) (vat : ℕ) (given : List Body) (count at : ℕ) → Keeps bytes version vat given count at → count < 4294967295 → length (reverse given) < record_limit
has_room bytes version vat given count at kept few = omega (arith, kept.0, length-reverse given, limit_is, few)

pub is_full : (bytes : List ℕ) (version : LogVersion) (vat : ℕ) (given : List Body) (count at : ℕ) → Keeps bytes version vat given count at → 4294967295 ≤ count → record_limit ≤ length (reverse given)
is_full bytes version vat given count at kept many = omega (arith, kept.0, length-reverse given, limit_is, many)

pub given_on : (bytes : List ℕ) (version : LogVersion) (vat : ℕ) (given : List Body) (count at : ℕ) (kind : RecordKind) (x : Body) (after : ℕ) → Keeps bytes version vat given count at → at < length bytes → count < 4294967295
    → kind_at bytes at ≡ Ok kind → fields_at version kind bytes (at + 1) ≡ Ok (x, after) → Keeps bytes version vat (x ∷ given) (count + 1) after
given_on bytes version vat given count at kind x after kept lt few k f =
    let read = read_on bytes (log_given version vat given) at kind x after kept.1 kept.2 lt (has_room bytes version vat given count at kept few) k f in (
      omega (arith, kept.0),
      kept.1,
      subst (λ (l : Log). IsReadTo record_limit bytes l after) (sym (one_given version vat given x)) read,
    )

-- what was read is spelled in front
pub front_is : (bytes : List ℕ) (log : Log) (at : ℕ) → IsReadTo record_limit bytes log at → slice_range bytes 0 at ≡ log_bytes log
front_is bytes log at r = Spans-range bytes 0 (log_bytes log) at (read_spans bytes log at r)

-- ---- faults

pub fails_by : {Y : Type 0} (e : LogError) (read : Result Y LogError) → read ≡ Err e → Fails e read
fails_by BadMagic read is = is
fails_by (Short at) read is = is
fails_by (BadKind at) read is = is
fails_by (ZeroNumber at) read is = is
fails_by TooLong read is = is
fails_by OutOfMemory read is = tt

-- a fault that isn't want of memory is the reading's
pub cut_is : {Y : Type 0} (e : LogError) (at : ℕ) (read : Result Y LogError) → e ≡ Short at → Fails e read → read ≡ Err e
cut_is e at read is = subst (λ (x : LogError). Fails x read → read ≡ Err x) (sym is) (λ h. h)

-- why reading stops is the fault of the log, or want of memory
pub stop_fails : (e : LogError) (bytes : List ℕ) (log : Log) → StopsBy e (record { bytes = bytes; log = log }) → Fails e (log_of bytes)
stop_fails BadMagic bytes log h = h.0
stop_fails (Short at) bytes log h = h.0
stop_fails (BadKind at) bytes log h = h.0
stop_fails (ZeroNumber at) bytes log h = h.0
stop_fails TooLong bytes log h = h.0
stop_fails OutOfMemory bytes log h = tt

-- the fault of the magic is the log's
pub magic_is : (bytes : List ℕ) (e : LogError) → version_at bytes ≡ Err BadMagic → log_of bytes ≡ Err e → e ≡ BadMagic
magic_is bytes e v is = let same : Err e ≡ Err BadMagic = sym is ∙ (version_fails bytes BadMagic v).1 in cc

-- where there is a header, the magic is one of a log
pub has_magic : (bytes : List ℕ) (log : Log) → header_of bytes ≡ Ok log → version_at bytes ≡ Err BadMagic → ⊥
has_magic bytes log is v = let clash : Ok log ≡ Err BadMagic = sym is ∙ (version_fails bytes BadMagic v).0 in cc

-- a log that is spelled so isn't a fault
pub not_bad : (bytes : List ℕ) (e : LogError) (log : Log) → LogFits record_limit log → bytes ≡ log_bytes log → log_of bytes ≡ Err e → ⊥
not_bad bytes e log fits spelled is = let clash : Ok log ≡ Err e = sym (log_again record_limit bytes log fits spelled) ∙ is in cc

-- ---- many records

pub none_more : (log : Log) → log ≡ with_records [] log
none_more log = ap (λ (xs : List Body). record { version = log.version; vat = log.vat; records = xs }) (sym (append-nil log.records))

pub one_more : (x : Body) (xs : List Body) (log : Log) → with_record x (with_records xs log) ≡ with_records (xs ++ x ∷ []) log
one_more x xs log = ap (λ (ys : List Body). record { version = log.version; vat = log.vat; records = ys }) (append_assoc log.records xs (x ∷ []))

-- ---- logs that were read from their header on

-- how reading ended, of the bytes that were read
pub ends_means : (o : Option LogError) (bytes : List ℕ) (read : ReadSoFar) → read.bytes ≡ bytes → EndsBy o read → MatchOption o (log_of bytes ≡ Ok read.log) (λ e. log_of bytes ≡ Err e) × IsLongestRun bytes read.log
ends_means None bytes read same h = (
  subst (λ (b : List ℕ). log_of b ≡ Ok read.log) same h.0,
  subst (λ (b : List ℕ). IsLongestRun b read.log) same h.1,
)
ends_means (Some e) bytes read same h = (
  subst (λ (b : List ℕ). log_of b ≡ Err e) same h.0,
  subst (λ (b : List ℕ). IsLongestRun b read.log) same h.1,
)

pub ended_none : (o : Option LogError) (bytes : List ℕ) (read : ReadSoFar) → read.bytes ≡ bytes → o ≡ None → EndsBy o read → log_of bytes ≡ Ok read.log
ended_none o bytes read same is h = (ends_means None bytes read same (subst (λ (x : Option LogError). EndsBy x read) is h)).0

pub ended_by : (o : Option LogError) (e : LogError) (bytes : List ℕ) (read : ReadSoFar) → read.bytes ≡ bytes → o ≡ Some e → EndsBy o read → log_of bytes ≡ Err e
ended_by o e bytes read same is h = (ends_means (Some e) bytes read same (subst (λ (x : Option LogError). EndsBy x read) is h)).0

-- its parts are those that were read
pub whole_is : (bytes : List ℕ) (start log : Log) (more : List Body) (version : LogVersion) (vat : ℕ) → header_of bytes ≡ Ok start → log ≡ with_records more start → version ≡ log.version → vat ≡ log.vat
    → record { version = version; vat = vat; records = more } ≡ log
whole_is bytes start log more version vat header is v w =
    ap₂ (λ (a : LogVersion) (b : ℕ). record { version = a; vat = b; records = more }) v w ∙ all_read bytes start log more header is

-- bytes that read as the log are its spelling
pub parsed_is : (bytes kept : List ℕ) (log : Log) → All (λ octet. octet < 2 ^ 8) kept → kept ≡ bytes → log_of bytes ≡ Ok log → IsParsed kept log
parsed_is bytes kept log octets same is =
    let read : log_of kept ≡ Ok log = subst (λ (b : List ℕ). log_of b ≡ Ok log) (sym same) is in
    let laws = log_takes record_limit kept log (IsBytes-from_all kept octets) read in
    record { read = read; spelled = laws.0; fits = laws.1 }

pub spelled_is : (kept : List ℕ) (log : Log) → LogFits record_limit log → kept ≡ log_bytes log → IsParsed kept log
spelled_is kept log fits same = record { read = log_again record_limit kept log fits same; spelled = same; fits = fits }

abbrev pub read_as : Log → Result Log LogError
read_as log = Ok log

pub at_some : {A : Type 0} (o : Option A) (x : A) (none : Type 0) (some : A → Type 0) → o ≡ Some x → MatchOption o none some → some x
at_some {A = A} o x none some is h = subst (λ (p : Option A). MatchOption p none some) is h
