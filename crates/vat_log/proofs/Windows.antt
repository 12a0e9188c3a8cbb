-- A log that is read through a window: what is read there is what is read of all bytes, whatever comes behind those that came.
use Rattle.std.proofs.Common.{◌≡◌, ℕ, zero, suc, ◌+◌, ◌-◌, ◌^◌, ◌<◌, ◌≤◌, Bool, true, false, cond, ltb, List, [], ◌∷◌, ◌++◌, length, take, drop, All, Result, Ok, Err, refl, sym, ap, subst, ◌∙◌, append_assoc, arith, inl, inr, ◌⊎◌}
use Rattle.std.specs.List.{AllByRecursion}
use Rattle.std.proofs.lemmas.Bool.{cases_lt, lt-ltb, le-ltb, ltb-true}
use Rattle.std.proofs.lemmas.List.{append-nil, drop_at, drop_all, length-append, length-drop, length-reverse, length-take-le, take-append-drop}
use Rattle.std.proofs.lemmas.List.Elements.{All-push}
use Rattle.vat_log.specs.declared.body.Body.{Body}
use Rattle.vat_log.specs.declared.error.LogError.{LogError}
use Rattle.vat_log.specs.declared.error.LogError.TheVariants.{BadMagic, Short, BadKind, ZeroNumber, TooLong, OutOfMemory}
use Rattle.vat_log.specs.declared.spelling.kind.RecordKind.{RecordKind}
use Rattle.vat_log.specs.declared.version.LogVersion.{LogVersion}
use Rattle.vat_log.specs.Fits.{record_limit, Fits, IsListed, IsWide, LogFits}
use Rattle.vat_log.specs.Log.{Log}
use Rattle.vat_log.specs.Reader.{IsReadTo}
use Rattle.vat_log.specs.Reading.{◌>>=◌, Fails, kind_at, fields_at, records_at, log_of}
use Rattle.vat_log.specs.Runs.{BeginsWith, IsLongestRun, ReadSoFar, StopsBy, with_record}
use Rattle.vat_log.specs.Spelling.{record_bytes, log_bytes}
use Rattle.vat_log.specs.Windows.{counted_from, record_at, HoldsRest, IsCut}
use Rattle.vat_log.proofs.BodyLaws.{FitsWide}
use Rattle.vat_log.proofs.LogLaws.{log_again, record_takes}
use Rattle.vat_log.proofs.Loop.{with_records}
use Rattle.vat_log.proofs.Moved.{Moves, around, record_moves}
use Rattle.vat_log.proofs.ReadOn.{Keeps, fails_by, given_on, log_given}
use Rattle.vat_log.proofs.Runs.{Text, first_end, first_of, limit_is, longest_at_the_end, more_spelled, next_at, nothing_before, stands, stops_at_fields, stops_at_kind, stops_at_limit}
use Rattle.vat_log.proofs.Spans.{IsBytes-from_all, bind_ok, Spans}

-- ---- bytes that begin with a log were read to its end

regroup_front : (x : Body) (xs : List Body) (read : Result (List Body) LogError) → with_records (x ∷ xs) read ≡ (with_records xs read >>= λ others. Ok (x ∷ others))
regroup_front x xs (Ok ys) = refl
regroup_front x xs (Err e) = refl

records_from : (version : LogVersion) (bytes : List ℕ) (xs : List Body) (limit at mid : ℕ) → length xs ≤ limit → AllByRecursion (FitsWide version) xs → Spans bytes at (Text version xs) mid
    → with_records xs (records_at version bytes (limit - length xs) mid) ≡ records_at version bytes limit at
unfolding records_at
records_from version bytes [] limit at mid le fit p =
    let here : mid ≡ at = omega (arith, p.places) in
    let whole : limit - 0 ≡ limit = omega arith in
    nothing_before (records_at version bytes (limit - 0) mid) ∙ ap (λ (n : ℕ). records_at version bytes n mid) whole ∙ ap (λ (n : ℕ). records_at version bytes limit n) here
records_from version bytes (x ∷ xs) zero at mid le fit p = absurd (omega (arith, le))
records_from version bytes (x ∷ xs) (suc left) at mid le fit p =
    let after = first_end version at x in
    let both = first_of version bytes at x xs mid p in
    let n = next_at version bytes at x after fit.0 both.0 in
    let rest = records_from version bytes xs left after mid (omega (arith, le)) fit.1 both.1 in
    let less : suc left - length (x ∷ xs) ≡ left - length xs = omega arith in
    let one : records_at version bytes (suc left) at ≡ (records_at version bytes left after >>= λ others. Ok (x ∷ others)) = rw (lt-ltb at (length bytes) n.0, n.1, n.2) refl in
    ap (λ (k : ℕ). with_records (x ∷ xs) (records_at version bytes k mid)) less ∙ regroup_front x xs (records_at version bytes (left - length xs) mid)
    ∙ ap (λ (r : Result (List Body) LogError). r >>= λ others. Ok (x ∷ others)) rest ∙ sym one

read_to : (all : List ℕ) (log : Log) (at : ℕ) → LogFits record_limit log → Spans all 0 (log_bytes log) at → IsReadTo record_limit all log at
read_to all log at fits p =
    let s = stands record_limit all log at fits p in
    record {
      parts = p.parts;
      places = omega (arith, p.places);
      within = p.within;
      fits = fits;
      version = s.version;
      vat = s.vat;
      so_far = records_from log.version all log.records record_limit 12 at fits.counted s.fit s.records;
    }

-- ---- one record

pub bind_err : {A B : Type 0} (r : Result A LogError) (f : A → Result B LogError) (e : LogError) → (r >>= f) ≡ Err e → (r ≡ Err e) ⊎ ((x : A) × (r ≡ Ok x) × (f x ≡ Err e))
bind_err (Ok x) f e h = inr (x, refl, h)
bind_err (Err d) f e h = let same : d ≡ e = cc in inl (ap (λ (c : LogError). Err c) same)

-- what stands at the place where a record was read
pub record IsRecord (version : LogVersion) (count : ℕ) (bytes : List ℕ) (at : ℕ) (x : Body × ℕ) : Type 0 where
  pub before_end : at < length bytes
  pub room : count < record_limit
  pub kind : RecordKind
  pub kind_there : kind_at bytes at ≡ Ok kind
  pub fields : fields_at version kind bytes (at + 1) ≡ Ok x

-- a test that was met
allowed : {A : Type 0} (b : Bool) (d : LogError) (r : Result A LogError) (y : A) → cond b r (Err d) ≡ Ok y → (b ≡ true) × (r ≡ Ok y)
allowed true d r y e = (refl, e)
allowed false d r y e = absurd cc

record_there : (version : LogVersion) (count : ℕ) (bytes : List ℕ) (at : ℕ) (x : Body × ℕ) → record_at version count bytes at ≡ Ok x → IsRecord version count bytes at x
unfolding record_at
record_there version count bytes at x e =
    let read : RecordKind → Result (Body × ℕ) LogError = λ kind. cond (ltb count record_limit) (fields_at version kind bytes (at + 1)) (Err TooLong) in
    let lt = allowed (ltb at (length bytes)) (Short at) (kind_at bytes at >>= read) x e in
    let k = bind_ok (kind_at bytes at) read x lt.1 in
    let room = allowed (ltb count record_limit) TooLong (fields_at version k.0 bytes (at + 1)) x k.2 in
    record { before_end = ltb-true _ _ lt.0; room = ltb-true _ _ room.0; kind = k.0; kind_there = k.1; fields = room.1 }

pub record_found : (version : LogVersion) (count : ℕ) (bytes : List ℕ) (at : ℕ) (kind : RecordKind) (x : Body × ℕ) → at < length bytes → count < record_limit → kind_at bytes at ≡ Ok kind → fields_at version kind bytes (at + 1) ≡ Ok x → record_at version count bytes at ≡ Ok x
unfolding record_at
record_found version count bytes at kind x lt room k f = rw (lt-ltb at (length bytes) lt, k, lt-ltb count record_limit room) f

-- why no record is read at a place in front of the end
stops_at_record : (e : LogError) (bytes : List ℕ) (log : Log) (at : ℕ) → IsReadTo record_limit bytes log at → at < length bytes → record_at log.version (length log.records) bytes at ≡ Err e → StopsBy e (record { bytes = bytes; log = log })
unfolding record_at
stops_at_record e bytes log at r lt h =
    let read : RecordKind → Result (Body × ℕ) LogError = λ kind. cond (ltb (length log.records) record_limit) (fields_at log.version kind bytes (at + 1)) (Err TooLong) in
    elim (bind_err (kind_at bytes at) read e (rw (lt-ltb at (length bytes) lt) at h)) [
      | inl k ↦ stops_at_kind e bytes log at r lt (fails_by e (kind_at bytes at) k)
      | inr k ↦ elim (cases_lt (length log.records) record_limit) [
        | inl room ↦ stops_at_fields e bytes log at k.0 r lt room k.1 (fails_by e (fields_at log.version k.0 bytes (at + 1)) (rw (lt-ltb (length log.records) record_limit room) at k.2))
        | inr full ↦
            let long : Err TooLong ≡ Err e = rw (le-ltb (length log.records) record_limit full) at k.2 in
            let same : TooLong ≡ e = cc in
            subst (λ (d : LogError). StopsBy d (record { bytes = bytes; log = log })) same (stops_at_limit bytes log at k.0 r lt full k.1)
      ]
    ]

-- ---- bytes that are all there

-- one more record was read
pub given_next : (bytes : List ℕ) (version : LogVersion) (vat : ℕ) (given : List Body) (count at : ℕ) (x : Body) (after : ℕ) → Keeps bytes version vat given count at → record_at version count bytes at ≡ Ok (x, after)
    → Keeps bytes version vat (x ∷ given) (count + 1) after
given_next bytes version vat given count at x after kept e =
    let is = record_there version count bytes at (x, after) e in
    given_on bytes version vat given count at is.kind x after kept is.before_end (omega (arith, is.room, limit_is)) is.kind_there is.fields

by_fails : {Y : Type 0} (e : LogError) (read : Result Y LogError) (so_far : ReadSoFar) → (read ≡ Err e → StopsBy e so_far) → Fails e read → StopsBy e so_far
by_fails BadMagic read so_far k h = k h
by_fails (Short at) read so_far k h = k h
by_fails (BadKind at) read so_far k h = k h
by_fails (ZeroNumber at) read so_far k h = k h
by_fails TooLong read so_far k h = k h
by_fails OutOfMemory read so_far k h = tt

-- why none is read
pub stops_next : (e : LogError) (bytes : List ℕ) (version : LogVersion) (vat : ℕ) (given : List Body) (count at : ℕ) → Keeps bytes version vat given count at → at < length bytes → Fails e (record_at version count bytes at)
    → StopsBy e (record { bytes = bytes; log = log_given version vat given })
stops_next e bytes version vat given count at kept lt failed =
    let log = log_given version vat given in
    let counted : count ≡ length log.records = omega (arith, kept.0, length-reverse given) in
    by_fails e (record_at version count bytes at) (record { bytes = bytes; log = log }) (λ h.
    stops_at_record e bytes log at kept.2 lt (subst (λ (n : ℕ). record_at version n bytes at ≡ Err e) counted h)) failed

-- ---- a window

abbrev pub Holds : List ℕ → List ℕ → Log → ℕ → ℕ → Type 0
Holds came window log begin at = HoldsRest record_limit came window log begin at

pub came_long : (came window : List ℕ) (log : Log) (begin at : ℕ) → Holds came window log begin at → length came ≡ begin + length window
came_long came window log begin at h = omega (arith, ap length h.parts, length-append (log_bytes log) (drop at window), length-drop at window, h.places, h.within)

-- the log stands in front of all bytes
log_spans : (came window : List ℕ) (log : Log) (begin at : ℕ) (more : List ℕ) → Holds came window log begin at → Spans (came ++ more) 0 (log_bytes log) (begin + at)
log_spans came window log begin at more h =
    let all : came ++ more ≡ log_bytes log ++ (drop at window ++ more) = ap (λ (c : List ℕ). c ++ more) h.parts ∙ append_assoc (log_bytes log) (drop at window) more in
    let rest : drop (begin + at) (came ++ more) ≡ drop at window ++ more = ap (drop (begin + at)) all ∙ drop_at (log_bytes log) (drop at window ++ more) (begin + at) h.places in
    record {
      parts = all ∙ ap (λ (r : List ℕ). log_bytes log ++ r) (sym rest);
      places = omega (arith, h.places);
      within = omega (arith, length-append came more, came_long came window log begin at h, h.within);
    }

-- and the window in their middle
window_around : (came window : List ℕ) (log : Log) (begin at : ℕ) (more : List ℕ) → Holds came window log begin at → came ++ more ≡ around (take begin came) window more
window_around came window log begin at more h =
    ap (λ (c : List ℕ). c ++ more) (sym (take-append-drop begin came) ∙ ap (λ (w : List ℕ). take begin came ++ w) h.from_begin) ∙ append_assoc (take begin came) window more

pub begins_with : (came window : List ℕ) (log : Log) (begin at : ℕ) → Holds came window log begin at → BeginsWith came log
begins_with came window log begin at h = record { rest = drop at window; parts = h.parts; fits = h.fits }

-- one more record was read
pub record_taken : (came window : List ℕ) (log : Log) (begin at : ℕ) (x : Body) (after : ℕ) → Holds came window log begin at → record_at log.version (length log.records) window at ≡ Ok (x, after) → Holds came window (with_record x log) begin after
record_taken came window log begin at x after h e =
    let version = log.version in
    let is = record_there version (length log.records) window at (x, after) e in
    let one = record_takes version window (IsBytes-from_all window h.octets) at is.kind (x, after) is.before_end is.kind_there is.fields in
    let text = record_bytes version x in
    let parts : came ≡ log_bytes (with_record x log) ++ drop after window =
    h.parts ∙ ap (λ (r : List ℕ). log_bytes log ++ r) one.0.parts ∙ sym (append_assoc (log_bytes log) text (drop after window)) ∙ ap (λ (t : List ℕ). t ++ drop after window) (more_spelled log x) in
    record {
      octets = h.octets;
      within = one.0.within;
      from_begin = h.from_begin;
      parts = parts;
      places = omega (arith, ap length (more_spelled log x), length-append (log_bytes log) text, h.places, one.0.places);
      fits = record {
        vat = h.fits.vat;
        counted = omega (arith, length-append log.records (x ∷ []), is.room);
        fit = All-push Fits log.records x h.fits.fit one.1.fits;
        wide = All-push IsWide log.records x h.fits.wide one.1.wide;
        listed = All-push (IsListed version) log.records x h.fits.listed one.1.listed;
      };
    }

moved_fault : {A : Type 0} (n : ℕ) (whole : Type 0) (e : LogError) (read : Result (A × ℕ) LogError) → Moves n whole (Err e) read → (IsCut e → whole) → read ≡ Err (counted_from n e)
moved_fault n whole BadMagic read h w = h
moved_fault n whole (Short at) read h w = h (w tt)
moved_fault n whole (BadKind at) read h w = h
moved_fault n whole (ZeroNumber at) read h w = h
moved_fault n whole TooLong read h w = h
moved_fault n whole OutOfMemory read h w = h

-- no record is read in the window, so none is read of all bytes: where a field is cut, if nothing comes behind
pub stops_in_all : (came window : List ℕ) (log : Log) (begin at : ℕ) (e : LogError) (more : List ℕ) → Holds came window log begin at → at < length window → record_at log.version (length log.records) window at ≡ Err e → (IsCut e → more ≡ [])
    → StopsBy (counted_from begin e) (record { bytes = came ++ more; log = log })
stops_in_all came window log begin at e more h lt is cut =
    let front = take begin came in
    let long : length front ≡ begin = length-take-le begin came (omega (arith, came_long came window log begin at h)) in
    let count = length log.records in
    let moves = subst (λ (r : Result (Body × ℕ) LogError). Moves (length front) (more ≡ []) r (record_at log.version count (around front window more) (length front + at))) is (record_moves log.version count front window more at) in
    let there = moved_fault (length front) (more ≡ []) e (record_at log.version count (around front window more) (length front + at)) moves cut in
    let placed : record_at log.version count (around front window more) (begin + at) ≡ Err (counted_from begin e) =
    subst (λ (n : ℕ). record_at log.version count (around front window more) (n + at) ≡ Err (counted_from n e)) long there in
    let read : record_at log.version count (came ++ more) (begin + at) ≡ Err (counted_from begin e) =
    subst (λ (bytes : List ℕ). record_at log.version count bytes (begin + at) ≡ Err (counted_from begin e)) (sym (window_around came window log begin at more h)) placed in
    let spans = log_spans came window log begin at more h in
    stops_at_record (counted_from begin e) (came ++ more) log (begin + at) (read_to (came ++ more) log (begin + at) h.fits spans) (omega (arith, length-append came more, came_long came window log begin at h)) read

-- all was read
pub read_to_end : (came window : List ℕ) (log : Log) (begin at : ℕ) → Holds came window log begin at → length window ≤ at → (log_of came ≡ Ok log) × IsLongestRun came log
read_to_end came window log begin at h past =
    let spelled : came ≡ log_bytes log = h.parts ∙ ap (λ (r : List ℕ). log_bytes log ++ r) (drop_all at window past) ∙ append-nil (log_bytes log) in
    let spans : Spans came 0 (log_bytes log) (begin + at) = subst (λ (b : List ℕ). Spans b 0 (log_bytes log) (begin + at)) (append-nil came) (log_spans came window log begin at [] h) in
    (log_again record_limit came log h.fits spelled, longest_at_the_end came log (begin + at) (read_to came log (begin + at) h.fits spans) (omega (arith, came_long came window log begin at h)))

-- one more piece came behind the rest of the window
pub window_filled : (came window : List ℕ) (log : Log) (begin at : ℕ) (piece : List ℕ) → Holds came window log begin at → All (λ octet. octet < 2 ^ 8) (drop at window ++ piece) → Holds (came ++ piece) (drop at window ++ piece) log (begin + at) 0
window_filled came window log begin at piece h octets =
    let all : came ++ piece ≡ log_bytes log ++ (drop at window ++ piece) = ap (λ (c : List ℕ). c ++ piece) h.parts ∙ append_assoc (log_bytes log) (drop at window) piece in
    record {
      octets = octets;
      within = omega arith;
      from_begin = ap (drop (begin + at)) all ∙ drop_at (log_bytes log) (drop at window ++ piece) (begin + at) h.places;
      parts = all;
      places = omega (arith, h.places);
      fits = h.fits;
    }

-- what isn't read yet fits into the window
pub window_bound : (came window : List ℕ) (log : Log) (begin at : ℕ) → Holds came window log begin at → length window < 2 ^ 63 → length came < length (log_bytes log) + 2 ^ 63
window_bound came window log begin at h short = omega (arith, came_long came window log begin at h, h.places, short)
