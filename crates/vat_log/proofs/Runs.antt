-- What bytes begin with: a run that was read so far is the front of each longer one, and where reading stops no longer one is.
use Rattle.std.proofs.Common.{◌≡◌, ℕ, ◌+◌, ◌-◌, ◌^◌, ◌<◌, ◌≤◌, List, [], ◌∷◌, ◌++◌, length, drop, All, Result, Ok, Err, refl, sym, ap, subst, ◌∙◌, append_assoc, arith, inl, inr}
use Rattle.std.specs.List.{flat_map, AllByRecursion}
use Rattle.std.specs.Int.{w32}
use Rattle.std.proofs.lemmas.Bool.{cases_lt}
use Rattle.std.proofs.lemmas.List.{append-nil, drop_at, length-append, flat_map_more}
use Rattle.std.proofs.lemmas.List.Concat.{flat_map-cons}
use Rattle.std.proofs.lemmas.List.Elements.{recursion_from_All, All-push}
use Rattle.vat_log.specs.declared.body.Body.{Body}
use Rattle.vat_log.specs.declared.error.LogError.{LogError}
use Rattle.vat_log.specs.declared.error.LogError.TheVariants.{BadMagic, Short, BadKind, ZeroNumber, TooLong, OutOfMemory}
use Rattle.vat_log.specs.declared.spelling.kind.RecordKind.{RecordKind}
use Rattle.vat_log.specs.declared.version.LogVersion.{LogVersion}
use Rattle.vat_log.specs.Fits.{record_limit, Fits, IsListed, IsWide, LogFits}
use Rattle.vat_log.specs.Log.{Log}
use Rattle.vat_log.specs.Reader.{IsReadTo}
use Rattle.vat_log.specs.Runs.{BeginsWith, GoesOn, IsLongestRun, StopsBy, with_record, with_records}
use Rattle.vat_log.specs.Reading.{◌>>=◌, Fails, number_at, fields_at, kind_at, records_at, version_at, header_of, log_within, log_of}
use Rattle.vat_log.specs.Spelling.{log_magic, kind_byte, number_bytes, kind_in, fields_bytes, record_bytes, log_bytes}
use Rattle.vat_log.proofs.Loop.{record_goes_on, kind_ends, record_ends, limit_ends, records_are_done, Fails-then}
use Rattle.vat_log.proofs.Spans.{IsBytes-from_all, bind_ok, ok_is, Spans, Spans-join, Spans-first, Spans-second}
use Rattle.vat_log.proofs.FieldLaws.{u32_field}
use Rattle.vat_log.proofs.BodyLaws.{FitsWide, fields_again}
use Rattle.vat_log.proofs.LogLaws.{kind_again, record_takes, begins, version_was, magic_long, version_again}

abbrev pub Text : LogVersion → List Body → List ℕ
Text version xs = flat_map (record_bytes version) xs

-- ---- what stands at a place

-- a whole record that stands at a place is read there
pub record IsNext (version : LogVersion) (bytes : List ℕ) (at : ℕ) (x : Body) : Type 0 where
  pub after : ℕ
  pub before_end : at < length bytes
  pub kind : kind_at bytes at ≡ Ok (kind_in x)
  pub fields : fields_at version (kind_in x) bytes (at + 1) ≡ Ok (x, after)

pub next_at : (version : LogVersion) (bytes : List ℕ) (at : ℕ) (x : Body) (end : ℕ) → FitsWide version x → Spans bytes at (record_bytes version x) end → (at < length bytes) × (kind_at bytes at ≡ Ok (kind_in x)) × (fields_at version (kind_in x) bytes (at + 1) ≡ Ok (x, end))
next_at version bytes at x end fit p =
    let code = kind_byte (kind_in x) ∷ [] in
    let k = kind_again bytes at (kind_in x) (at + 1) (Spans-first bytes at code (fields_bytes version x) end p) in
    (k.0, k.1, fields_again version x bytes (at + 1) end fit (Spans-second bytes at code (fields_bytes version x) end p))

abbrev pub first_end : LogVersion → ℕ → Body → ℕ
first_end version at x = at + length (record_bytes version x)

pub first_of : (version : LogVersion) (bytes : List ℕ) (at : ℕ) (x : Body) (xs : List Body) (end : ℕ) → Spans bytes at (Text version (x ∷ xs)) end
    → Spans bytes at (record_bytes version x) (first_end version at x) × Spans bytes (first_end version at x) (Text version xs) end
first_of version bytes at x xs end p =
    let all : Spans bytes at (record_bytes version x ++ Text version xs) end = rw flat_map-cons at p in
    (Spans-first bytes at (record_bytes version x) (Text version xs) end all, Spans-second bytes at (record_bytes version x) (Text version xs) end all)

-- two whole records at one place are one
one_record : (version : LogVersion) (bytes : List ℕ) (at : ℕ) (x y : Body) (a b : ℕ) → FitsWide version x → FitsWide version y → Spans bytes at (record_bytes version x) a → Spans bytes at (record_bytes version y) b → x ≡ y
one_record version bytes at x y a b fx fy p q =
    let n = next_at version bytes at x a fx p in
    let m = next_at version bytes at y b fy q in
    let kinds : kind_in x ≡ kind_in y = ok_is (kind_in x) (kind_in y) (sym n.1 ∙ m.1) in
    let read : fields_at version (kind_in x) bytes (at + 1) ≡ Ok (y, b) = rw kinds m.2 in
    ap (λ (p : Body × ℕ). p.0) (ok_is (x, a) (y, b) (sym n.2 ∙ read))

-- of two runs at one place the shorter is the front of the longer, and what follows it stands behind
pub record IsAhead (version : LogVersion) (bytes : List ℕ) (mid end : ℕ) (xs ys : List Body) : Type 0 where
  pub more : List Body
  pub parts : ys ≡ xs ++ more
  pub fit : AllByRecursion (FitsWide version) more
  pub behind : Spans bytes mid (Text version more) end

pub ahead : (version : LogVersion) (bytes : List ℕ) (xs ys : List Body) (at mid end : ℕ) → AllByRecursion (FitsWide version) xs → AllByRecursion (FitsWide version) ys
    → Spans bytes at (Text version xs) mid → Spans bytes at (Text version ys) end → length xs ≤ length ys → IsAhead version bytes mid end xs ys
ahead version bytes [] ys at mid end fx fy p q le =
    let here : at ≡ mid = omega (arith, p.places) in
    record { more = ys; parts = refl; fit = fy; behind = subst (λ (n : ℕ). Spans bytes n (Text version ys) end) here q }
ahead version bytes (x ∷ xs) [] at mid end fx fy p q le = absurd (omega (arith, le))
ahead version bytes (x ∷ xs) (y ∷ ys) at mid end fx fy p q le =
    let a = first_of version bytes at x xs mid p in
    let b = first_of version bytes at y ys end q in
    let same : x ≡ y = one_record version bytes at x y (first_end version at x) (first_end version at y) fx.0 fy.0 a.0 b.0 in
    let rest = ahead version bytes xs ys (first_end version at x) mid end fx.1 fy.1 a.1 (subst (λ (z : Body). Spans bytes (first_end version at z) (Text version ys) end) (sym same) b.1) (omega (arith, le)) in
    record { more = rest.more; parts = ap (λ (z : Body). z ∷ ys) (sym same) ∙ ap (λ (zs : List Body). x ∷ zs) rest.parts; fit = rest.fit; behind = rest.behind }

-- ---- logs at the begin of bytes

pub vat_long : (vat : ℕ) → 8 + length (number_bytes w32 vat) ≡ 12
unfolding number_bytes
vat_long vat = refl

-- the parts of a log with which the bytes begin
pub record Stands (bytes : List ℕ) (log : Log) (end : ℕ) : Type 0 where
  pub version : version_at bytes ≡ Ok log.version
  pub vat : number_at w32 bytes 8 ≡ Ok (log.vat, 12)
  pub records : Spans bytes 12 (Text log.version log.records) end
  pub fit : AllByRecursion (FitsWide log.version) log.records

fit_records : (limit : ℕ) (log : Log) → LogFits limit log → AllByRecursion (FitsWide log.version) log.records
fit_records limit log fits = recursion_from_All (FitsWide log.version) log.records (λ k d lt. record { fits = fits.fit k d lt; wide = fits.wide k d lt; listed = fits.listed k d lt })

pub stands : (limit : ℕ) (bytes : List ℕ) (log : Log) (end : ℕ) → LogFits limit log → Spans bytes 0 (log_bytes log) end → Stands bytes log end
stands limit bytes log end fits p =
    let version = log.version in
    let magic = log_magic version in
    let vat = number_bytes w32 log.vat in
    let records = Text version log.records in
    let eight : 0 + length magic ≡ 8 = omega (arith, magic_long version) in
    let front : Spans bytes 0 magic 8 = subst (Spans bytes 0 magic) eight (Spans-first bytes 0 magic (vat ++ records) end p) in
    let tail : Spans bytes 8 (vat ++ records) end = subst (λ (n : ℕ). Spans bytes n (vat ++ records) end) eight (Spans-second bytes 0 magic (vat ++ records) end p) in
    let first = Spans-first bytes 8 vat records end tail in
    let v = (u32_field bytes).again 8 log.vat (8 + length vat) fits.vat first in
    let twelve : 8 + length vat ≡ 12 = vat_long log.vat in
    record {
      version = version_again bytes version 8 front;
      vat = subst (λ (n : ℕ). number_at w32 bytes 8 ≡ Ok (log.vat, n)) twelve v;
      records = subst (λ (n : ℕ). Spans bytes n records end) twelve (Spans-second bytes 8 vat records end tail);
      fit = fit_records limit log fits;
    }

-- ---- a log that was read up to a place

abbrev Reads : List ℕ → Log → ℕ → Type 0
Reads bytes log at = IsReadTo record_limit bytes log at

pub limit_is : record_limit ≡ 4294967295
unfolding record_limit
limit_is = refl

pub read_spans : (bytes : List ℕ) (log : Log) (at : ℕ) → Reads bytes log at → Spans bytes 0 (log_bytes log) at
read_spans bytes log at r = record { parts = r.parts; places = omega (arith, r.places); within = r.within }

pub read_begins : (bytes : List ℕ) (log : Log) (at : ℕ) → Reads bytes log at → BeginsWith bytes log
read_begins bytes log at r = record { rest = drop at bytes; parts = r.parts; fits = r.fits }

begins_spans : (bytes : List ℕ) (log : Log) → BeginsWith bytes log → Spans bytes 0 (log_bytes log) (length (log_bytes log))
begins_spans bytes log b =
    let rest : drop (length (log_bytes log)) bytes ≡ b.rest = ap (drop (length (log_bytes log))) b.parts ∙ drop_at (log_bytes log) b.rest (length (log_bytes log)) refl in
    record { parts = b.parts ∙ ap (λ t. log_bytes log ++ t) (sym rest); places = omega arith; within = omega (arith, ap length b.parts, length-append (log_bytes log) b.rest) }

pub more_spelled : (log : Log) (x : Body) → log_bytes log ++ record_bytes log.version x ≡ log_bytes (with_record x log)
more_spelled log x =
    let magic = log_magic log.version in
    let vat = number_bytes w32 log.vat in
    ap (λ o. o ++ record_bytes log.version x) (sym (append_assoc magic vat (Text log.version log.records)))
    ∙ flat_map_more (record_bytes log.version) (magic ++ vat) log.records x
    ∙ append_assoc magic vat (Text log.version (log.records ++ x ∷ []))

pub read_on : (bytes : List ℕ) (log : Log) (at : ℕ) (kind : RecordKind) (x : Body) (after : ℕ) → All (λ octet. octet < 2 ^ 8) bytes → Reads bytes log at → at < length bytes → length log.records < record_limit
    → kind_at bytes at ≡ Ok kind → fields_at log.version kind bytes (at + 1) ≡ Ok (x, after) → Reads bytes (with_record x log) after
read_on bytes log at kind x after octets r lt room k f =
    let version = log.version in
    let one = record_takes version bytes (IsBytes-from_all bytes octets) at kind (x, after) lt k f in
    let joined = Spans-join bytes 0 (log_bytes log) at (record_bytes version x) after (read_spans bytes log at r) one.0 in
    let all : Spans bytes 0 (log_bytes (with_record x log)) after = subst (λ (t : List ℕ). Spans bytes 0 t after) (more_spelled log x) joined in
    record {
      parts = all.parts;
      places = omega (arith, all.places);
      within = all.within;
      fits = record {
        vat = r.fits.vat;
        counted = omega (arith, length-append log.records (x ∷ []));
        fit = All-push Fits log.records x r.fits.fit one.1.fits;
        wide = All-push IsWide log.records x r.fits.wide one.1.wide;
        listed = All-push (IsListed version) log.records x r.fits.listed one.1.listed;
      };
      version = r.version;
      vat = r.vat;
      so_far = record_goes_on version bytes log.records record_limit at kind x after (records_at version bytes record_limit 12) lt room k f r.so_far;
    }

pub nothing_before : (read : Result (List Body) LogError) → (read >>= λ others. Ok ([] ++ others)) ≡ read
nothing_before (Ok xs) = refl
nothing_before (Err e) = refl

pub read_none : (bytes : List ℕ) (version : LogVersion) (vat at : ℕ) → All (λ octet. octet < 2 ^ 8) bytes → version_at bytes ≡ Ok version → number_at w32 bytes 8 ≡ Ok (vat, at)
    → Reads bytes (record { version = version; vat = vat; records = [] }) at
read_none bytes version vat at octets v n =
    let fits = IsBytes-from_all bytes octets in
    let magic = log_magic version in
    let front = begins bytes version (version_was bytes version v) in
    let number = (u32_field bytes).takes fits 8 vat at front.within n in
    let twelve : at ≡ 12 = omega (arith, number.0.places, vat_long vat) in
    let joined = Spans-join bytes 0 magic 8 (number_bytes w32 vat) at front number.0 in
    let all : Spans bytes 0 (magic ++ (number_bytes w32 vat ++ [])) at = subst (λ (t : List ℕ). Spans bytes 0 (magic ++ t) at) (sym (append-nil (number_bytes w32 vat))) joined in
    let whole : record_limit - 0 ≡ record_limit = omega arith in
    record {
      parts = all.parts;
      places = omega (arith, all.places);
      within = all.within;
      fits = record { vat = number.1; counted = omega arith; fit = λ k d lt. absurd (omega (arith, lt)); wide = λ k d lt. absurd (omega (arith, lt)); listed = λ k d lt. absurd (omega (arith, lt)) };
      version = v;
      vat = subst (λ (n : ℕ). number_at w32 bytes 8 ≡ Ok (vat, n)) twelve n;
      so_far = nothing_before (records_at version bytes (record_limit - 0) at) ∙ ap (λ (n : ℕ). records_at version bytes n at) whole ∙ ap (λ (n : ℕ). records_at version bytes record_limit n) twelve;
    }

-- ---- how reading ends

pub read_fails : (e : LogError) (bytes : List ℕ) (log : Log) (at : ℕ) → Reads bytes log at → Fails e (records_at log.version bytes record_limit 12) → Fails e (log_of bytes)
unfolding log_within
read_fails e bytes log at r h = rw (r.version, r.vat) (Fails-then e (records_at log.version bytes record_limit 12) _ h)

pub read_whole : (bytes : List ℕ) (log : Log) (at : ℕ) → Reads bytes log at → length bytes ≤ at → log_of bytes ≡ Ok log
unfolding log_within
read_whole bytes log at r past =
    let done = records_are_done log.version bytes log.records record_limit at (records_at log.version bytes record_limit 12) past r.so_far in
    rw (r.version, r.vat, done) refl

-- a whole record that stands at a place, where one is
next_of : (version : LogVersion) (bytes : List ℕ) (at : ℕ) (more : List Body) (end : ℕ) → AllByRecursion (FitsWide version) more → Spans bytes at (Text version more) end → 0 < length more → (x : Body) × IsNext version bytes at x
next_of version bytes at [] end fit p lt = absurd (omega (arith, lt))
next_of version bytes at (x ∷ xs) end fit p lt =
    let n = next_at version bytes at x (first_end version at x) fit.0 (first_of version bytes at x xs end p).0 in
    (x, record { after = first_end version at x; before_end = n.0; kind = n.1; fields = n.2 })

one_version : (bytes : List ℕ) (a b : LogVersion) → version_at bytes ≡ Ok a → version_at bytes ≡ Ok b → a ≡ b
one_version bytes a b p q = ok_is a b (sym p ∙ q)

fits_version : (a b : LogVersion) (xs : List Body) → a ≡ b → AllByRecursion (FitsWide b) xs → AllByRecursion (FitsWide a) xs
fits_version a b xs same h = subst (λ (v : LogVersion). AllByRecursion (FitsWide v) xs) (sym same) h

spans_version : (bytes : List ℕ) (a b : LogVersion) (xs : List Body) (at end : ℕ) → a ≡ b → Spans bytes at (Text b xs) end → Spans bytes at (Text a xs) end
spans_version bytes a b xs at end same h = subst (λ (v : LogVersion). Spans bytes at (Text v xs) end) (sym same) h

two_runs : (bytes : List ℕ) (a b : Log) (mid end : ℕ) → Stands bytes a mid → Stands bytes b end → length a.records ≤ length b.records → IsAhead a.version bytes mid end a.records b.records
two_runs bytes a b mid end p q le =
    let same = one_version bytes a.version b.version p.version q.version in
    ahead a.version bytes a.records b.records 12 mid end p.fit (fits_version a.version b.version b.records same q.fit) p.records (spans_version bytes a.version b.version b.records 12 end same q.records) le

longer_has_next : (bytes : List ℕ) (log : Log) (at : ℕ) (other : Log) → Reads bytes log at → BeginsWith bytes other → length log.records < length other.records → (x : Body) × IsNext log.version bytes at x
longer_has_next bytes log at other r b lt =
    let p = stands record_limit bytes log at r.fits (read_spans bytes log at r) in
    let end = length (log_bytes other) in
    let q = stands record_limit bytes other end b.fits (begins_spans bytes other b) in
    let t = two_runs bytes log other at end p q (omega (arith, lt)) in
    next_of log.version bytes at t.more end t.fit t.behind (omega (arith, lt, ap length t.parts, length-append log.records t.more))

longest_of : (bytes : List ℕ) (log : Log) (at : ℕ) → Reads bytes log at → ((other : Log) → BeginsWith bytes other → length log.records < length other.records → ⊥) → IsLongestRun bytes log
longest_of bytes log at r none = record {
  begins = read_begins bytes log at r;
  longest = λ other b. elim (cases_lt (length log.records) (length other.records)) [
    | inl lt ↦ absurd (none other b lt)
    | inr le ↦ le
  ];
}

pub longest_at_the_end : (bytes : List ℕ) (log : Log) (at : ℕ) → Reads bytes log at → length bytes ≤ at → IsLongestRun bytes log
longest_at_the_end bytes log at r past = longest_of bytes log at r (λ other b lt. let n = (longer_has_next bytes log at other r b lt).1 in omega (arith, n.before_end))

pub longest_at_the_limit : (bytes : List ℕ) (log : Log) (at : ℕ) → Reads bytes log at → record_limit ≤ length log.records → IsLongestRun bytes log
longest_at_the_limit bytes log at r full = longest_of bytes log at r (λ other b lt. omega (arith, b.fits.counted))

-- a fault that isn't want of memory
abbrev Known : LogError → Type 0
Known OutOfMemory = ⊥
Known e = Unit {0}

not_ok : {A : Type 0} (e : LogError) (read : Result A LogError) (x : A) → Known e → Fails e read → read ≡ Ok x → ⊥
not_ok BadMagic read x k h r = cc
not_ok (Short at) read x k h r = cc
not_ok (BadKind at) read x k h r = cc
not_ok (ZeroNumber at) read x k h r = cc
not_ok TooLong read x k h r = cc
not_ok OutOfMemory read x k h r = absurd k

stops_by : (e : LogError) (bytes : List ℕ) (log : Log) → Fails e (log_of bytes) → (Known e → IsLongestRun bytes log) → StopsBy e (record { bytes = bytes; log = log })
stops_by BadMagic bytes log h run = (h, run tt)
stops_by (Short at) bytes log h run = (h, run tt)
stops_by (BadKind at) bytes log h run = (h, run tt)
stops_by (ZeroNumber at) bytes log h run = (h, run tt)
stops_by TooLong bytes log h run = (h, run tt)
stops_by OutOfMemory bytes log h run = tt

pub stops_at_kind : (e : LogError) (bytes : List ℕ) (log : Log) (at : ℕ) → Reads bytes log at → at < length bytes → Fails e (kind_at bytes at) → StopsBy e (record { bytes = bytes; log = log })
stops_at_kind e bytes log at r lt h =
    let fails = kind_ends log.version e bytes log.records record_limit at (records_at log.version bytes record_limit 12) lt h r.so_far in
    stops_by e bytes log (read_fails e bytes log at r fails) (λ known. longest_of bytes log at r (λ other b longer.
    let n = longer_has_next bytes log at other r b longer in
    not_ok e (kind_at bytes at) (kind_in n.0) known h n.1.kind))

pub stops_at_fields : (e : LogError) (bytes : List ℕ) (log : Log) (at : ℕ) (kind : RecordKind) → Reads bytes log at → at < length bytes → length log.records < record_limit → kind_at bytes at ≡ Ok kind
    → Fails e (fields_at log.version kind bytes (at + 1)) → StopsBy e (record { bytes = bytes; log = log })
stops_at_fields e bytes log at kind r lt room k h =
    let fails = record_ends log.version e bytes log.records record_limit at kind (records_at log.version bytes record_limit 12) lt room k h r.so_far in
    stops_by e bytes log (read_fails e bytes log at r fails) (λ known. longest_of bytes log at r (λ other b longer.
    let n = longer_has_next bytes log at other r b longer in
    let same : kind ≡ kind_in n.0 = ok_is kind (kind_in n.0) (sym k ∙ n.1.kind) in
    let read : fields_at log.version kind bytes (at + 1) ≡ Ok (n.0, n.1.after) = rw same n.1.fields in
    not_ok e (fields_at log.version kind bytes (at + 1)) (n.0, n.1.after) known h read))

pub stops_at_limit : (bytes : List ℕ) (log : Log) (at : ℕ) (kind : RecordKind) → Reads bytes log at → at < length bytes → record_limit ≤ length log.records → kind_at bytes at ≡ Ok kind → StopsBy TooLong (record { bytes = bytes; log = log })
stops_at_limit bytes log at kind r lt full k =
    let fails = limit_ends log.version bytes log.records record_limit at kind (records_at log.version bytes record_limit 12) lt full k r.so_far in
    (read_fails TooLong bytes log at r fails, longest_at_the_limit bytes log at r full)

-- ---- laws

pub runs_go_on : (bytes : List ℕ) (a b : Log) → BeginsWith bytes a → BeginsWith bytes b → length a.records ≤ length b.records → GoesOn a b
runs_go_on bytes a b p q le =
    let mid = length (log_bytes a) in
    let end = length (log_bytes b) in
    let x = stands record_limit bytes a mid p.fits (begins_spans bytes a p) in
    let y = stands record_limit bytes b end q.fits (begins_spans bytes b q) in
    let t = two_runs bytes a b mid end x y le in
    record {
      version = sym (one_version bytes a.version b.version x.version y.version);
      vat = ap (λ (n : ℕ × ℕ). n.0) (ok_is (b.vat, 12) (a.vat, 12) (sym y.vat ∙ x.vat));
      more = t.more;
      records = t.parts;
    }

pub runs_have_headers : (bytes : List ℕ) (log : Log) → BeginsWith bytes log → header_of bytes ≡ Ok (record { version = log.version; vat = log.vat; records = [] })
unfolding header_of
runs_have_headers bytes log b =
    let x = stands record_limit bytes log (length (log_bytes log)) b.fits (begins_spans bytes log b) in
    rw (x.version, x.vat) refl

-- ---- what a header is

abbrev header : LogVersion → ℕ → Log
header version vat = record { version = version; vat = vat; records = [] }

pub header_parts : (bytes : List ℕ) (log : Log) → header_of bytes ≡ Ok log → (version : LogVersion) × (vat : ℕ × ℕ) × (version_at bytes ≡ Ok version) × (number_at w32 bytes 8 ≡ Ok vat) × (record { version = version; vat = vat.0; records = [] } ≡ log)
unfolding header_of
header_parts bytes log e =
    let v = bind_ok (version_at bytes) (λ version. number_at w32 bytes 8 >>= λ vat. Ok (header version vat.0)) log e in
    let n = bind_ok (number_at w32 bytes 8) (λ vat. Ok (header v.0 vat.0)) log v.2 in
    (v.0, n.0, v.1, n.1, ok_is (header v.0 n.0.0) log n.2)

-- a log that was read from its header on has the records that were read
pub all_read : (bytes : List ℕ) (start log : Log) (more : List Body) → header_of bytes ≡ Ok start → log ≡ with_records more start → record { version = log.version; vat = log.vat; records = more } ≡ log
all_read bytes start log more h e =
    let parts = header_parts bytes start h in
    let empty : [] ≡ start.records = ap (λ (l : Log). l.records) parts.4 in
    let records : log.records ≡ more = ap (λ (l : Log). l.records) e ∙ ap (λ (xs : List Body). xs ++ more) (sym empty) in
    ap (λ (xs : List Body). record { version = log.version; vat = log.vat; records = xs }) (sym records)

-- the header where the version and the vat are read
pub header_is : (bytes : List ℕ) (version : LogVersion) (vat at : ℕ) → version_at bytes ≡ Ok version → number_at w32 bytes 8 ≡ Ok (vat, at) → header_of bytes ≡ Ok (record { version = version; vat = vat; records = [] })
unfolding header_of
header_is bytes version vat at v n = rw (v, n) refl

-- the fault of the version, and of the vat, is that of the header and of the log
pub version_fails : (bytes : List ℕ) (e : LogError) → version_at bytes ≡ Err e → (header_of bytes ≡ Err e) × (log_of bytes ≡ Err e)
unfolding header_of log_within
version_fails bytes e v = (rw v refl, rw v refl)

pub vat_fails : (bytes : List ℕ) (version : LogVersion) (e : LogError) → version_at bytes ≡ Ok version → number_at w32 bytes 8 ≡ Err e → (header_of bytes ≡ Err e) × (log_of bytes ≡ Err e)
unfolding header_of log_within
vat_fails bytes version e v n = (rw (v, n) refl, rw (v, n) refl)
