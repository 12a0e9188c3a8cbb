-- The two laws of logs: what is read is spelled so, and what is spelled so is read.
use Rattle.std.proofs.Common.{◌≡◌, ℕ, zero, suc, ◌+◌, ◌^◌, ◌<◌, ◌≤◌, Bool, true, false, cond, eqb, ltb, List, [], ◌∷◌, ◌++◌, length, get_or, drop, All, Option, Some, None, Result, Ok, Err, refl, sym, ap, subst, ◌∙◌, add-one, arith, inl, inr, ◌⊎◌}
use Rattle.std.specs.List.{flat_map, AllByRecursion, starts_with}
use Rattle.std.specs.Int.{w32}
use Rattle.std.proofs.lemmas.Bool.{eqb-true, ltb-true, ltb-false, lt-ltb, le-ltb}
use Rattle.std.proofs.lemmas.Bool.Decides.{Decides-eqb}
use Rattle.std.proofs.lemmas.List.{append-nil, drop_all, length-append}
use Rattle.std.proofs.Math.Seq.{drop-cons}
use Rattle.std.proofs.lemmas.List.Concat.{flat_map-cons}
use Rattle.std.proofs.lemmas.List.Elements.{All-from_recursion, recursion_from_All}
use Rattle.std.proofs.lemmas.Slice.Eq.{starts_is}
use Rattle.vat_log.specs.declared.body.Body.{Body}
use Rattle.vat_log.specs.declared.error.LogError.{LogError}
use Rattle.vat_log.specs.declared.error.LogError.TheVariants.{BadMagic, TooLong}
use Rattle.vat_log.specs.declared.spelling.kind.RecordKind.{RecordKind}
use Rattle.vat_log.specs.declared.spelling.kind.RecordKind.TheVariants.{Host, Vow, Fulfil, Break, Make, Field, Deliver, Answer, Fault, Send, Receive, AnswerBy}
use Rattle.vat_log.specs.declared.version.LogVersion.{LogVersion}
use Rattle.vat_log.specs.declared.version.LogVersion.TheVariants.{One, Two, Three}
use Rattle.vat_log.specs.Fits.{LogFits}
use Rattle.vat_log.specs.Log.{Log}
use Rattle.vat_log.specs.Reading.{◌>>=◌, number_at, fields_at, kind_with, known_kind, kind_at, records_at, version_at, log_within}
use Rattle.vat_log.specs.Spelling.{log_magic, kind_byte, number_bytes, kind_in, fields_bytes, record_bytes, log_bytes}
use Rattle.vat_log.proofs.Spans.{IsBytes, bind_ok, ok_is, Spans, Spans-nil, Spans-join, Spans-first, Spans-second, then_takes}
use Rattle.vat_log.proofs.FieldLaws.{u32_field}
use Rattle.vat_log.proofs.BodyLaws.{FitsWide, fields_take, fields_again}

-- ---- kinds

chosen : {A : Type 0} (b : Bool) (x y z : A) → cond b x y ≡ z → ((b ≡ true) × (x ≡ z)) ⊎ ((b ≡ false) × (y ≡ z))
chosen true x y z e = inl (refl, e)
chosen false x y z e = inr (refl, e)

abbrev found : RecordKind → Option RecordKind
found kind = Some kind

kind_step : (byte code : ℕ) (k kind : RecordKind) (rest : Option RecordKind) → code ≡ kind_byte k → (rest ≡ found kind → byte ≡ kind_byte kind) → cond (eqb byte code) (found k) rest ≡ found kind → byte ≡ kind_byte kind
kind_step byte code k kind rest is more e =
    elim (chosen (eqb byte code) (found k) rest (found kind) e) [
      | inl p ↦ let same : k ≡ kind = cc p.1 in eqb-true _ _ p.0 ∙ is ∙ ap kind_byte same
      | inr p ↦ more p.1
    ]

kind_was : (byte : ℕ) (kind : RecordKind) → kind_with byte ≡ found kind → byte ≡ kind_byte kind
unfolding kind_with
kind_was byte kind e =
    kind_step byte 1 Host kind _ refl (kind_step byte 2 Vow kind _ refl (kind_step byte 3 Fulfil kind _ refl (kind_step byte 4 Break kind _ refl
    (kind_step byte 5 Make kind _ refl (kind_step byte 6 Field kind _ refl (kind_step byte 7 Deliver kind _ refl (kind_step byte 8 Answer kind _ refl
    (kind_step byte 9 Fault kind _ refl (kind_step byte 10 Send kind _ refl (kind_step byte 11 Receive kind _ refl
    (kind_step byte 12 AnswerBy kind None refl (λ none. absurd cc)))))))))))) e

kind_is : (kind : RecordKind) → kind_with (kind_byte kind) ≡ found kind
unfolding kind_with
kind_is Host = refl
kind_is Vow = refl
kind_is Fulfil = refl
kind_is Break = refl
kind_is Make = refl
kind_is Field = refl
kind_is Deliver = refl
kind_is Answer = refl
kind_is Fault = refl
kind_is Send = refl
kind_is Receive = refl
kind_is AnswerBy = refl

known_ok : (o : Option RecordKind) (at : ℕ) (kind : RecordKind) → known_kind o at ≡ Ok kind → o ≡ found kind
known_ok (Some k) at kind e = ap found (ok_is k kind e)
known_ok None at kind e = absurd cc

kind_takes : (bytes : List ℕ) (at : ℕ) (kind : RecordKind) → at < length bytes → kind_at bytes at ≡ Ok kind → Spans bytes at (kind_byte kind ∷ []) (at + 1)
unfolding kind_at
kind_takes bytes at kind lt e =
    let byte : get_or bytes at 0 ≡ kind_byte kind = kind_was (get_or bytes at 0) kind (known_ok (kind_with (get_or bytes at 0)) at kind e) in
    let cell : drop at bytes ≡ get_or bytes at 0 ∷ drop (at + 1) bytes = rw (add-one) (drop-cons bytes at 0 lt) in
    record { parts = cell ∙ ap (λ b. b ∷ drop (at + 1) bytes) byte; places = refl; within = omega arith }

pub kind_again : (bytes : List ℕ) (at : ℕ) (kind : RecordKind) (after : ℕ) → Spans bytes at (kind_byte kind ∷ []) after → (at < length bytes) × (kind_at bytes at ≡ Ok kind)
unfolding kind_at
kind_again bytes at kind after p =
    let lt : at < length bytes = omega (arith, p.places, p.within) in
    let cell : drop at bytes ≡ get_or bytes at 0 ∷ drop (suc at) bytes = drop-cons bytes at 0 lt in
    let both : get_or bytes at 0 ∷ drop (suc at) bytes ≡ kind_byte kind ∷ drop after bytes = sym cell ∙ p.parts in
    let byte : get_or bytes at 0 ≡ kind_byte kind = cc both in
    (lt, rw (byte, kind_is kind) refl)

-- ---- records

pub record_takes : (version : LogVersion) (bytes : List ℕ) → IsBytes bytes → (at : ℕ) (kind : RecordKind) (x : Body × ℕ) → at < length bytes → kind_at bytes at ≡ Ok kind → fields_at version kind bytes (at + 1) ≡ Ok x → Spans bytes at (record_bytes version x.0) x.1 × FitsWide version x.0
record_takes version bytes fits at kind x lt k e =
    let t = fields_take version kind bytes fits (at + 1) x (omega arith) e in
    let both = Spans-join bytes at (kind_byte kind ∷ []) (at + 1) (fields_bytes version x.0) x.1 (kind_takes bytes at kind lt k) t.0 in
    (subst (λ k. Spans bytes at (kind_byte k ∷ fields_bytes version x.0) x.1) (sym t.2) both, t.1)

abbrev Records : LogVersion → List ℕ → ℕ → ℕ → List Body → Type 0
Records version bytes at limit xs = Spans bytes at (flat_map (record_bytes version) xs) (length bytes) × (length xs ≤ limit) × AllByRecursion (FitsWide version) xs

stops : (version : LogVersion) (bytes : List ℕ) (at limit : ℕ) (xs : List Body) → at ≤ length bytes → length bytes ≤ at → [] ≡ xs → Records version bytes at limit xs
stops version bytes at limit xs le past none =
    let end : at ≡ length bytes = omega arith in
    subst (Records version bytes at limit) none (subst (Spans bytes at []) end (Spans-nil bytes at le), omega arith, tt)

records_take : (version : LogVersion) (limit : ℕ) (bytes : List ℕ) → IsBytes bytes → (at : ℕ) (xs : List Body) → at ≤ length bytes → records_at version bytes limit at ≡ Ok xs → Records version bytes at limit xs
unfolding records_at
records_take version zero bytes fits at xs le e =
    elim (chosen (ltb at (length bytes)) (kind_at bytes at >>= λ kind. Err TooLong) (Ok []) (Ok xs) e) [
      | inl p ↦ let k = bind_ok (kind_at bytes at) (λ kind. Err TooLong) xs p.1 in absurd (cc k.2)
      | inr p ↦ stops version bytes at 0 xs le (ltb-false _ _ p.0) (ok_is [] xs p.1)
    ]
records_take version (suc left) bytes fits at xs le e =
    elim (chosen (ltb at (length bytes)) (kind_at bytes at >>= λ kind. fields_at version kind bytes (at + 1) >>= λ first. records_at version bytes left first.1 >>= λ others. Ok (first.0 ∷ others)) (Ok []) (Ok xs) e) [
      | inl p ↦
          let lt = ltb-true _ _ p.0 in
          let k = bind_ok (kind_at bytes at) (λ kind. fields_at version kind bytes (at + 1) >>= λ first. records_at version bytes left first.1 >>= λ others. Ok (first.0 ∷ others)) xs p.1 in
          let f = bind_ok (fields_at version k.0 bytes (at + 1)) (λ first. records_at version bytes left first.1 >>= λ others. Ok (first.0 ∷ others)) xs k.2 in
          let o = bind_ok (records_at version bytes left f.0.1) (λ others. Ok (f.0.0 ∷ others)) xs f.2 in
          let one = record_takes version bytes fits at k.0 f.0 lt k.1 f.1 in
          let rest = records_take version left bytes fits f.0.1 o.0 one.0.within o.1 in
          let both = Spans-join bytes at (record_bytes version f.0.0) f.0.1 (flat_map (record_bytes version) o.0) (length bytes) one.0 rest.0 in
          subst (Records version bytes at (suc left)) {x = f.0.0 ∷ o.0} (ok_is (f.0.0 ∷ o.0) xs o.2) (rw flat_map-cons both, omega (arith, rest.1), (one.1, rest.2))
      | inr p ↦ stops version bytes at (suc left) xs le (ltb-false _ _ p.0) (ok_is [] xs p.1)
    ]

records_again : (version : LogVersion) (xs : List Body) (limit : ℕ) (bytes : List ℕ) (at : ℕ) → length xs ≤ limit → AllByRecursion (FitsWide version) xs → Spans bytes at (flat_map (record_bytes version) xs) (length bytes) → records_at version bytes limit at ≡ Ok xs
unfolding records_at
records_again version [] zero bytes at le fit p = rw (le-ltb at (length bytes) (omega (arith, p.places))) refl
records_again version [] (suc left) bytes at le fit p = rw (le-ltb at (length bytes) (omega (arith, p.places))) refl
records_again version (x ∷ xs) zero bytes at le fit p = absurd (omega (arith, le))
records_again version (x ∷ xs) (suc left) bytes at le fit p =
    let code = kind_byte (kind_in x) ∷ [] in
    let all : Spans bytes at (record_bytes version x ++ flat_map (record_bytes version) xs) (length bytes) = rw flat_map-cons at p in
    let one = Spans-first bytes at (record_bytes version x) (flat_map (record_bytes version) xs) (length bytes) all in
    let after = at + length (record_bytes version x) in
    let rest = Spans-second bytes at (record_bytes version x) (flat_map (record_bytes version) xs) (length bytes) all in
    let k = kind_again bytes at (kind_in x) (at + 1) (Spans-first bytes at code (fields_bytes version x) after one) in
    let f = fields_again version x bytes (at + 1) after fit.0 (Spans-second bytes at code (fields_bytes version x) after one) in
    let o = records_again version xs left bytes after (omega (arith, le)) fit.1 rest in
    rw (lt-ltb at (length bytes) k.0, k.1, f, o) refl

-- ---- versions

-- the magic of this version stands before all else
abbrev pub Begins : List ℕ → LogVersion → Type 0
Begins bytes version = starts_with eqb bytes (log_magic version) ≡ true

pub version_was : (bytes : List ℕ) (version : LogVersion) → version_at bytes ≡ Ok version → Begins bytes version
unfolding version_at
version_was bytes version e =
    let third : Result LogVersion LogError = cond (starts_with eqb bytes (log_magic Three)) (Ok Three) (Err BadMagic) in
    let second : Result LogVersion LogError = cond (starts_with eqb bytes (log_magic Two)) (Ok Two) third in
    elim (chosen (starts_with eqb bytes (log_magic One)) (Ok One) second (Ok version) e) [
      | inl p ↦ subst (Begins bytes) (ok_is One version p.1) p.0
      | inr p ↦ elim (chosen (starts_with eqb bytes (log_magic Two)) (Ok Two) third (Ok version) p.1) [
        | inl q ↦ subst (Begins bytes) (ok_is Two version q.1) q.0
        | inr q ↦ elim (chosen (starts_with eqb bytes (log_magic Three)) (Ok Three) (Err BadMagic) (Ok version) q.1) [
          | inl r ↦ subst (Begins bytes) (ok_is Three version r.1) r.0
          | inr r ↦ absurd (cc r.1)
        ]
      ]
    ]

-- ---- logs

pub magic_long : (version : LogVersion) → length (log_magic version) ≡ 8
magic_long One = refl
magic_long Two = refl
magic_long Three = refl

pub begins : (bytes : List ℕ) (version : LogVersion) → Begins bytes version → Spans bytes 0 (log_magic version) 8
begins bytes version e =
    let magic = log_magic version in
    let cut : bytes ≡ magic ++ drop (length magic) bytes = (starts_is Decides-eqb bytes magic (starts_with eqb bytes magic) refl).0 e in
    let parts : bytes ≡ magic ++ drop 8 bytes = subst (λ (n : ℕ). bytes ≡ magic ++ drop n bytes) (magic_long version) cut in
    record { parts = parts; places = omega (arith, magic_long version); within = omega (arith, ap length parts, length-append magic (drop 8 bytes), magic_long version) }

begins_again : (bytes : List ℕ) (version : LogVersion) (after : ℕ) → Spans bytes 0 (log_magic version) after → Begins bytes version
begins_again bytes version after p = (starts_is Decides-eqb bytes (log_magic version) (starts_with eqb bytes (log_magic version)) refl).1 (drop after bytes) p.parts

-- bytes that begin with a magic don't begin with one of those before it
two_not_one : (bytes rest : List ℕ) → bytes ≡ log_magic Two ++ rest → starts_with eqb bytes (log_magic One) ≡ false
two_not_one bytes rest e = rw e refl

three_not_one : (bytes rest : List ℕ) → bytes ≡ log_magic Three ++ rest → starts_with eqb bytes (log_magic One) ≡ false
three_not_one bytes rest e = rw e refl

three_not_two : (bytes rest : List ℕ) → bytes ≡ log_magic Three ++ rest → starts_with eqb bytes (log_magic Two) ≡ false
three_not_two bytes rest e = rw e refl

pub version_again : (bytes : List ℕ) (version : LogVersion) (after : ℕ) → Spans bytes 0 (log_magic version) after → version_at bytes ≡ Ok version
unfolding version_at
version_again bytes One after p = rw (begins_again bytes One after p) refl
version_again bytes Two after p = rw (two_not_one bytes (drop after bytes) p.parts, begins_again bytes Two after p) refl
version_again bytes Three after p = rw (three_not_one bytes (drop after bytes) p.parts, three_not_two bytes (drop after bytes) p.parts, begins_again bytes Three after p) refl

whole : (bytes text : List ℕ) → Spans bytes 0 text (length bytes) → bytes ≡ text
whole bytes text p = p.parts ∙ ap (λ rest. text ++ rest) (drop_all (length bytes) bytes (omega arith)) ∙ append-nil text

all_of_it : (bytes text : List ℕ) → bytes ≡ text → Spans bytes 0 text (length bytes)
all_of_it bytes text e = record { parts = e ∙ sym (append-nil text) ∙ ap (λ rest. text ++ rest) (sym (drop_all (length bytes) bytes (omega arith))); places = omega (arith, ap length e); within = omega arith }

abbrev rest_of : ℕ → List ℕ → LogVersion → Result Log LogError
rest_of limit bytes version = number_at w32 bytes 8 >>= λ vat. records_at version bytes limit vat.1 >>= λ records. Ok (record { version = version; vat = vat.0; records = records })

pub log_takes : (limit : ℕ) (bytes : List ℕ) (log : Log) → IsBytes bytes → log_within limit bytes ≡ Ok log → (bytes ≡ log_bytes log) × LogFits limit log
unfolding log_within
log_takes limit bytes log fits e =
    let m = bind_ok (version_at bytes) (rest_of limit bytes) log e in
    let version = m.0 in
    let front = begins bytes version (version_was bytes version m.1) in
    let v = then_takes bytes (number_at w32 bytes) (number_bytes w32) (λ n. n < 2 ^ 32) (u32_field bytes) fits 8 (λ vat. records_at version bytes limit vat.1 >>= λ records. Ok (record { version = version; vat = vat.0; records = records })) log front.within m.2 in
    let r = bind_ok (records_at version bytes limit v.0.1) (λ records. Ok (record { version = version; vat = v.0.0; records = records })) log v.3 in
    let rest = records_take version limit bytes fits v.0.1 r.0 v.1.within r.1 in
    let made : Log = record { version = version; vat = v.0.0; records = r.0 } in
    let tail = Spans-join bytes 8 (number_bytes w32 v.0.0) v.0.1 (flat_map (record_bytes version) r.0) (length bytes) v.1 rest.0 in
    let spelled = whole bytes (log_bytes made) (Spans-join bytes 0 (log_magic version) 8 (number_bytes w32 v.0.0 ++ flat_map (record_bytes version) r.0) (length bytes) front tail) in
    let fit = All-from_recursion (FitsWide version) r.0 rest.2 in
    subst (λ (l : Log). (bytes ≡ log_bytes l) × LogFits limit l) (ok_is made log r.2) (
      spelled,
      record { vat = v.2; counted = rest.1; fit = λ k d lt. (fit k d lt).fits; wide = λ k d lt. (fit k d lt).wide; listed = λ k d lt. (fit k d lt).listed },
    )

pub log_again : (limit : ℕ) (bytes : List ℕ) (log : Log) → LogFits limit log → bytes ≡ log_bytes log → log_within limit bytes ≡ Ok log
unfolding log_within
log_again limit bytes log fit e =
    let version = log.version in
    let magic = log_magic version in
    let vat = number_bytes w32 log.vat in
    let records = flat_map (record_bytes version) log.records in
    let all = all_of_it bytes (magic ++ (vat ++ records)) e in
    let eight : 0 + length magic ≡ 8 = omega (arith, magic_long version) in
    let front : Spans bytes 0 magic 8 = subst (Spans bytes 0 magic) eight (Spans-first bytes 0 magic (vat ++ records) (length bytes) all) in
    let tail : Spans bytes 8 (vat ++ records) (length bytes) = subst (λ (n : ℕ). Spans bytes n (vat ++ records) (length bytes)) eight (Spans-second bytes 0 magic (vat ++ records) (length bytes) all) in
    let v = (u32_field bytes).again 8 log.vat (8 + length vat) fit.vat (Spans-first bytes 8 vat records (length bytes) tail) in
    let both : All (FitsWide version) log.records = λ k d lt. record { fits = fit.fit k d lt; wide = fit.wide k d lt; listed = fit.listed k d lt } in
    let r = records_again version log.records limit bytes (8 + length vat) fit.counted (recursion_from_All (FitsWide version) log.records both) (Spans-second bytes 8 vat records (length bytes) tail) in
    rw (version_again bytes version 8 front, v, r) refl
