-- A log that comes in pieces, as its stream keeps it: the records that were given, the newest first, and the window.
use Rattle.std.proofs.Common.{◌≡◌, ℕ, ◌+◌, ◌-◌, ◌^◌, ◌<◌, ◌≤◌, Bool, true, List, [], ◌∷◌, ◌++◌, length, take, drop, reverse, All, Option, Some, Result, Ok, Err, refl, sym, ap, subst, ◌∙◌, ap₂, append_assoc, arith, inl, inr}
use Rattle.byte_pieces.specs.Coming.{Brings, CameSoFar, MayBeAll}
use Rattle.std.specs.Int.{w32}
use Rattle.std.specs.Prelude.{IfSome}
use Rattle.std.proofs.lemmas.Bool.{cases_lt, le-ltb}
use Rattle.std.proofs.lemmas.List.{append-nil, length-append, length-reverse, take-append-le}
use Rattle.vat_log.specs.declared.body.Body.{Body}
use Rattle.vat_log.specs.declared.error.LogError.{LogError}
use Rattle.vat_log.specs.declared.error.LogError.TheVariants.{BadMagic, Short, BadKind, ZeroNumber, TooLong, OutOfMemory}
use Rattle.vat_log.specs.declared.read_fault.ReadFault.{ReadFault}
use Rattle.vat_log.specs.declared.read_fault.ReadFault.TheVariants as fault
use Rattle.vat_log.specs.declared.read_fault.Stop.{Stop}
use Rattle.vat_log.specs.declared.read_fault.Stop.TheVariants as stop
use Rattle.vat_log.specs.declared.version.LogVersion.{LogVersion}
use Rattle.vat_log.specs.Fits.{record_limit}
use Rattle.vat_log.specs.Log.{Log}
use Rattle.vat_log.specs.Reader.{IsReadTo}
use Rattle.vat_log.specs.Reading.{◌>>=◌, Fails, number_at, version_at, header_of, log_within, log_of}
use Rattle.vat_log.specs.Runs.{IsLongestRun, StopsBy}
use Rattle.vat_log.specs.Spelling.{log_magic, number_bytes, log_bytes}
use Rattle.vat_log.specs.Streams.{CannotBeRead, StreamStopsBy}
use Rattle.vat_log.specs.Windows.{counted_from, record_at, FaultFrom, IsCut, IsOfBytes, StopFrom, StopsHere}
use Rattle.vat_log.proofs.LogLaws.{magic_long}
use Rattle.vat_log.proofs.Moved.{around_range}
use Rattle.vat_log.proofs.Placed.{fault_placed, record_stays}
use Rattle.vat_log.proofs.ReadOn.{log_given, one_given}
use Rattle.vat_log.proofs.Runs.{header_parts, read_none, vat_long}
use Rattle.vat_log.proofs.Windows.{Holds, bind_err, came_long, record_taken, stops_in_all, window_filled}

-- ---- headers

version_longer : (bytes more : List ℕ) → 8 ≤ length bytes → version_at (bytes ++ more) ≡ version_at bytes
unfolding version_at
version_longer bytes more le =
    let same : take 8 (bytes ++ more) ≡ take 8 bytes = take-append-le 8 bytes more le in
    rw same refl

vat_longer : (bytes more : List ℕ) → 12 ≤ length bytes → number_at w32 (bytes ++ more) 8 ≡ number_at w32 bytes 8
unfolding number_at
vat_longer bytes more le = rw (le-ltb (length bytes) 12 le, le-ltb (length (bytes ++ more)) 12 (omega (arith, length-append bytes more)), around_range [] bytes more 8 12 (omega arith) le) refl

abbrev pub headed : LogVersion → ℕ → Log
headed version vat = record { version = version; vat = vat; records = [] }

header_longer : (bytes more : List ℕ) → 12 ≤ length bytes → header_of (bytes ++ more) ≡ header_of bytes
unfolding header_of
header_longer bytes more le = rw (version_longer bytes more (omega arith), vat_longer bytes more le) refl

header_fails : (bytes : List ℕ) (e : LogError) → header_of bytes ≡ Err e → log_of bytes ≡ Err e
unfolding header_of log_within
header_fails bytes e h =
    elim (bind_err (version_at bytes) (λ version. number_at w32 bytes 8 >>= λ vat. Ok (headed version vat.0)) e h) [
      | inl v ↦ rw v refl
      | inr v ↦ elim (bind_err (number_at w32 bytes 8) (λ vat. Ok (headed v.0 vat.0)) e v.2) [
        | inl n ↦ rw (v.1, n) refl
        | inr n ↦ absurd (cc n.2)
      ]
    ]

-- no log begins with bytes that begin so
pub no_log_begins : (window : List ℕ) (is_over : Bool) (e : LogError) → header_of window ≡ Err e → (length window < 12 → is_over ≡ true) → (all : List ℕ) → MayBeAll window is_over all → (header_of all ≡ Err e) × (log_of all ≡ Err e)
no_log_begins window is_over e h whole all m =
    let failed : header_of all ≡ Err e = elim (cases_lt (length window) 12) [
      | inl lt ↦
          let same : all ≡ window = m.parts ∙ ap (λ (rest : List ℕ). window ++ rest) (m.over (whole lt)) ∙ append-nil window in
          ap header_of same ∙ h
      | inr le ↦ ap header_of m.parts ∙ header_longer window m.more le ∙ h
    ] in
    (failed, header_fails all e failed)

header_long : (version : LogVersion) (vat : ℕ) → length (log_bytes (headed version vat)) ≡ 12
header_long version vat = omega (arith, length-append (log_magic version) (number_bytes w32 vat ++ []), length-append (number_bytes w32 vat) [], magic_long version, vat_long vat)

pub holds_header : (window : List ℕ) (version : LogVersion) (vat : ℕ) → All (λ octet. octet < 2 ^ 8) window → header_of window ≡ Ok (headed version vat) → Holds window window (headed version vat) 0 12
holds_header window version vat octets h =
    let p = header_parts window (headed version vat) h in
    let first = read_none window p.0 p.1.0 p.1.1 octets p.2 p.3 in
    let r : IsReadTo record_limit window (headed version vat) p.1.1 = subst (λ (l : Log). IsReadTo record_limit window l p.1.1) p.4 first in
    let twelve : p.1.1 ≡ 12 = omega (arith, r.places, header_long version vat) in
    record {
      octets = octets;
      within = omega (arith, r.within);
      from_begin = refl;
      parts = subst (λ (n : ℕ). window ≡ log_bytes (headed version vat) ++ drop n window) twelve r.parts;
      places = header_long version vat;
      fits = r.fits;
    }

-- ---- one record

-- what the stream keeps
abbrev pub KeepsWindow : List ℕ → List ℕ → LogVersion → ℕ → List Body → ℕ → ℕ → ℕ → Type 0
KeepsWindow came window version vat given count begin at = (length given ≡ count) × Holds came window (log_given version vat given) begin at

counted : (given : List Body) (count : ℕ) → length given ≡ count → count ≡ length (reverse given)
counted given count is = omega (arith, is, length-reverse given)

pub taken_on : (came window : List ℕ) (version : LogVersion) (vat : ℕ) (given : List Body) (count begin at : ℕ) (x : Body) (after : ℕ) → KeepsWindow came window version vat given count begin at
    → record_at version count window at ≡ Ok (x, after) → KeepsWindow came window version vat (x ∷ given) (count + 1) begin after
taken_on came window version vat given count begin at x after kept is =
    let log = log_given version vat given in
    let read = subst (λ (n : ℕ). record_at version n window at ≡ Ok (x, after)) (counted given count kept.0) is in
    (omega (arith, kept.0), subst (λ (l : Log). Holds came window l begin after) (sym (one_given version vat given x)) (record_taken came window log begin at x after kept.1 read))

known_fails : {Y : Type 0} (e : LogError) (read : Result Y LogError) → IsOfBytes e → Fails e read → read ≡ Err e
known_fails BadMagic read k h = h
known_fails (Short at) read k h = h
known_fails (BadKind at) read k h = h
known_fails (ZeroNumber at) read k h = h
known_fails TooLong read k h = h
known_fails OutOfMemory read k h = absurd k

known_stops : (n : ℕ) (e : LogError) (bytes : List ℕ) (log : Log) → IsOfBytes e → StopsBy (counted_from n e) (record { bytes = bytes; log = log }) → (log_of bytes ≡ Err (counted_from n e)) × IsLongestRun bytes log
known_stops n BadMagic bytes log k h = h
known_stops n (Short at) bytes log k h = h
known_stops n (BadKind at) bytes log k h = h
known_stops n (ZeroNumber at) bytes log k h = h
known_stops n TooLong bytes log k h = h
known_stops n OutOfMemory bytes log k h = absurd k

-- the fault of the window is the fault of all bytes
bad_in_all : (came window : List ℕ) (version : LogVersion) (vat : ℕ) (given : List Body) (count begin at : ℕ) (e : LogError) (is_over : Bool) → KeepsWindow came window version vat given count begin at → at < length window
    → Fails e (record_at version count window at) → IsOfBytes e → (IsCut e → is_over ≡ true) → (all : List ℕ) → MayBeAll came is_over all
    → (log_of all ≡ Err (counted_from begin e)) × IsLongestRun all (log_given version vat given)
bad_in_all came window version vat given count begin at e is_over kept lt fails known cut all m =
    let log = log_given version vat given in
    let is = known_fails e (record_at version count window at) known fails in
    let read = subst (λ (n : ℕ). record_at version n window at ≡ Err e) (counted given count kept.0) is in
    let stops = stops_in_all came window log begin at e m.more kept.1 lt read (λ c. m.over (cut c)) in
    let both = known_stops begin e (came ++ m.more) log known stops in
    subst (λ (b : List ℕ). (log_of b ≡ Err (counted_from begin e)) × IsLongestRun b log) (sym m.parts) both

stream_stops : (so_far : CameSoFar) (window : List ℕ) (version : LogVersion) (vat : ℕ) (given : List Body) (count begin at : ℕ) (e : LogError) (told : ReadFault) → KeepsWindow so_far.bytes window version vat given count begin at → at < length window
    → Fails e (record_at version count window at) → (IsCut e → so_far.is_over ≡ true) → FaultFrom begin e told → StreamStopsBy told (record { came = so_far; log = log_given version vat given })
stream_stops so_far window version vat given count begin at e (fault.Bad f) kept lt fails cut from = λ all m.
    let both = bad_in_all so_far.bytes window version vat given count begin at e so_far.is_over kept lt fails from.1 cut all m in
    (both.0 ∙ ap (λ (d : LogError). Err d) (sym from.0), both.1)
stream_stops so_far window version vat given count begin at e fault.CannotRead kept lt fails cut from =
    inr (omega (arith, from, fault_placed begin (length window) e (record_at version count window at) (record_stays version count window at lt) fails, came_long so_far.bytes window (log_given version vat given) begin at kept.1))
stream_stops so_far window version vat given count begin at e fault.OutOfMemory kept lt fails cut from = tt

pub stops_here : (so_far : CameSoFar) (window : List ℕ) (version : LogVersion) (vat : ℕ) (given : List Body) (count begin at : ℕ) (e : LogError) (why : Stop) → KeepsWindow so_far.bytes window version vat given count begin at → at < length window
    → Fails e (record_at version count window at) → StopFrom begin e why → StopsHere why (record { came = so_far; log = log_given version vat given })
stops_here so_far window version vat given count begin at e stop.Ends kept lt fails from = absurd from
stops_here so_far window version vat given count begin at e (stop.Cut told) kept lt fails from =
    stream_stops (record so_far { is_over = true }) window version vat given count begin at e told kept lt fails (λ c. refl) from
stops_here so_far window version vat given count begin at e (stop.Fault told) kept lt fails from =
    stream_stops so_far window version vat given count begin at e told kept lt fails (λ c. absurd (from.1 c)) from.0

-- ---- what comes

pub at_piece : {A : Type 0} (o : Option A) (x : A) (some : A → Type 0) → o ≡ Some x → IfSome o some → some x
at_piece {A = A} o x some is h = subst (λ (p : Option A). IfSome p some) is h

-- one more piece came behind the rest of the window
pub filled : (came window : List ℕ) (version : LogVersion) (vat : ℕ) (given : List Body) (count begin at : ℕ) (later longer : List ℕ) (begin' : ℕ) → KeepsWindow came window version vat given count begin at → Brings (drop at window) came longer later
    → begin' ≡ begin + at → All (λ octet. octet < 2 ^ 8) longer → KeepsWindow later longer version vat given count begin' 0
filled came window version vat given count begin at later longer begin' kept b is octets =
    let log = log_given version vat given in
    let there = window_filled came window log begin at b.piece kept.1 (subst (All (λ octet. octet < 2 ^ 8)) b.behind_rest octets) in
    (kept.0, subst (λ (n : ℕ). Holds later longer log n 0) (sym is) (subst (λ (w : List ℕ). Holds later w log (begin + at) 0) (sym b.behind_rest) (subst (λ (c : List ℕ). Holds c (drop at window ++ b.piece) log (begin + at) 0) (sym b.behind_all) there)))

-- so many more bytes came
pub came_more : (rest came longer later : List ℕ) → Brings rest came longer later → length later ≡ length came + (length longer - length rest)
came_more rest came longer later b = omega (arith, ap length b.behind_rest, length-append rest b.piece, ap length b.behind_all, length-append came b.piece)

-- where the next record begins 2^64 bytes from the begin, there are so many
pub too_long : (so_far : CameSoFar) (window : List ℕ) (log : Log) (begin at : ℕ) → Holds so_far.bytes window log begin at → 2 ^ 64 ≤ begin + at → CannotBeRead so_far
too_long so_far window log begin at h far = inr (omega (arith, far, came_long so_far.bytes window log begin at h, h.within))
