-- What is read at a place in some bytes ends in them, and a fault lies in them.
use Rattle.std.proofs.Common.{◌≡◌, ℕ, zero, suc, ◌+◌, ◌<◌, ◌≤◌, Bool, true, false, cond, ltb, eqb, List, ◌∷◌, length, get_or, Option, Some, None, Result, Ok, Err, subst, arith, inl, inr}
use Rattle.std.specs.List.{slice_range}
use Rattle.std.specs.Int.{Width, w16, w32, w64, byte_len}
use Rattle.std.proofs.lemmas.Bool.{cases_lt, lt-ltb, le-ltb}
use Rattle.vat_log.specs.declared.body.Body.{Body}
use Rattle.vat_log.specs.declared.body.Body.TheVariants as body
use Rattle.vat_log.specs.declared.error.LogError.{LogError}
use Rattle.vat_log.specs.declared.error.LogError.TheVariants.{BadMagic, Short, BadKind, ZeroNumber, TooLong, OutOfMemory}
use Rattle.vat_log.specs.declared.spelling.kind.RecordKind.{RecordKind}
use Rattle.vat_log.specs.declared.spelling.kind.RecordKind.TheVariants.{Host, Vow, Fulfil, Break, Make, Field, Deliver, Answer, Fault, Send, Receive, AnswerBy}
use Rattle.vat_log.specs.declared.version.LogVersion.{LogVersion}
use Rattle.vat_log.specs.Fits.{count_limit, frame_limit, record_limit}
use Rattle.vat_log.specs.Reading.{◌>>=◌, Fails, number_at, nonzero_at, count_at, many_at, list_at, path_at, answered_at, frame_at, passage_at, host_at, vow_at, fulfil_at, break_at, make_at, field_at, deliver_at, answer_at, fault_at, send_at, receive_at, answer_by_at, fields_at, kind_at, kind_with, known_kind}
use Rattle.vat_log.specs.Spelling.{count_width}
use Rattle.vat_log.specs.Windows.{counted_from, place_of, record_at}

-- the place behind what is read, or that of its fault, is at most this
abbrev pub StaysIn : {A : Type 0} → ℕ → Result (A × ℕ) LogError → Type 0
StaysIn n (Ok x) = x.1 ≤ n
StaysIn n (Err e) = place_of e ≤ n

then_stays : {A B : Type 0} (n : ℕ) (r : Result (A × ℕ) LogError) (f : A × ℕ → Result (B × ℕ) LogError) → StaysIn n r → ((x : A) (at : ℕ) → at ≤ n → StaysIn n (f (x, at))) → StaysIn n (r >>= f)
then_stays n (Ok x) f h k = k x.0 x.1 h
then_stays n (Err e) f h k = h

cond_stays : {A : Type 0} (n : ℕ) (b : Bool) (r s : Result (A × ℕ) LogError) → StaysIn n r → StaysIn n s → StaysIn n (cond b r s)
cond_stays n true r s h k = h
cond_stays n false r s h k = k

-- ---- fields

number_stays : (bytes : List ℕ) (width : Width) (at : ℕ) → at ≤ length bytes → StaysIn (length bytes) (number_at width bytes at)
unfolding number_at
number_stays bytes width at le = elim (cases_lt (length bytes) (at + byte_len width)) [
  | inl lt ↦ rw (lt-ltb (length bytes) (at + byte_len width) lt) le
  | inr within ↦ rw (le-ltb (length bytes) (at + byte_len width) within) within
]

nonzero_stays : (bytes : List ℕ) (at : ℕ) → at ≤ length bytes → StaysIn (length bytes) (nonzero_at bytes at)
unfolding nonzero_at
nonzero_stays bytes at le =
    then_stays (length bytes) _ (λ number. cond (eqb number.0 0) (Err (ZeroNumber at)) (Ok number)) (number_stays bytes w64 at le) (λ x after within.
    cond_stays (length bytes) (eqb x 0) (Err (ZeroNumber at)) (Ok (x, after)) le within)

many_stays : {A : Type 0} (n : ℕ) (item : ℕ → Result (A × ℕ) LogError) → ((at : ℕ) → at ≤ n → StaysIn n (item at)) → (count at : ℕ) → at ≤ n → StaysIn n (many_at item count at)
unfolding many_at
many_stays n item h zero at le = le
many_stays n item h (suc count) at le =
    then_stays n (item at) (λ first. many_at item count first.1 >>= λ others. Ok (first.0 ∷ others.0, others.1)) (h at le) (λ x after within.
    then_stays n (many_at item count after) (λ others. Ok (x ∷ others.0, others.1)) (many_stays n item h count after within) (λ xs end last. last))

count_stays : (version : LogVersion) (bytes : List ℕ) (at : ℕ) → at ≤ length bytes → StaysIn (length bytes) (count_at version bytes at)
unfolding count_at
count_stays version bytes at le =
    then_stays (length bytes) _ (λ count. cond (ltb count_limit count.0) (Err TooLong) (Ok count)) (number_stays bytes (count_width version) at le) (λ x after within.
    cond_stays (length bytes) (ltb count_limit x) (Err TooLong) (Ok (x, after)) (omega arith) within)

list_stays : {A : Type 0} (version : LogVersion) (bytes : List ℕ) (item : ℕ → Result (A × ℕ) LogError) → ((at : ℕ) → at ≤ length bytes → StaysIn (length bytes) (item at)) → (at : ℕ) → at ≤ length bytes → StaysIn (length bytes) (list_at version item bytes at)
unfolding list_at
list_stays version bytes item h at le =
    then_stays (length bytes) _ (λ count. many_at item count.0 count.1) (count_stays version bytes at le) (λ count after within.
    many_stays (length bytes) item h count after within)

path_stays : (version : LogVersion) (bytes : List ℕ) (at : ℕ) → at ≤ length bytes → StaysIn (length bytes) (path_at version bytes at)
path_stays version bytes at le = list_stays version bytes (number_at w16 bytes) (number_stays bytes w16) at le

answered_stays : (version : LogVersion) (bytes : List ℕ) (at : ℕ) → at ≤ length bytes → StaysIn (length bytes) (answered_at version bytes at)
unfolding answered_at
answered_stays version bytes at le =
    then_stays (length bytes) _ (λ reference. path_at version bytes reference.1 >>= λ path. Ok ((reference.0, path.0), path.1)) (nonzero_stays bytes at le) (λ reference after within.
    then_stays (length bytes) _ (λ path. Ok ((reference, path.0), path.1)) (path_stays version bytes after within) (λ path end last. last))

-- what stands between a length and its end
room_stays : (bytes : List ℕ) (begin size : ℕ) → begin ≤ length bytes → StaysIn (length bytes) (cond (ltb (length bytes) (begin + size)) (Err (Short begin)) (Ok (slice_range bytes begin (begin + size), begin + size)))
room_stays bytes begin size le = elim (cases_lt (length bytes) (begin + size)) [
  | inl lt ↦ rw (lt-ltb (length bytes) (begin + size) lt) le
  | inr within ↦ rw (le-ltb (length bytes) (begin + size) within) within
]

frame_stays : (bytes : List ℕ) (at : ℕ) → at ≤ length bytes → StaysIn (length bytes) (frame_at bytes at)
unfolding frame_at
frame_stays bytes at le =
    then_stays (length bytes) _
    (λ size. cond (ltb frame_limit size.0) (Err TooLong) (cond (ltb (length bytes) (size.1 + size.0)) (Err (Short size.1)) (Ok (slice_range bytes size.1 (size.1 + size.0), size.1 + size.0))))
    (number_stays bytes w32 at le) (λ size begin within.
    cond_stays (length bytes) (ltb frame_limit size) (Err TooLong) _ (omega arith) (room_stays bytes begin size within))

passage_stays : (version : LogVersion) (bytes : List ℕ) (at : ℕ) → at ≤ length bytes → StaysIn (length bytes) (passage_at version bytes at)
unfolding passage_at
passage_stays version bytes at le =
    then_stays (length bytes) _ _ (number_stays bytes w32 at le) (λ connection a in_a.
    then_stays (length bytes) _ _ (number_stays bytes w64 a in_a) (λ call b in_b.
    then_stays (length bytes) _ _ (list_stays version bytes (nonzero_at bytes) (nonzero_stays bytes) b in_b) (λ references c in_c.
    then_stays (length bytes) _ _ (frame_stays bytes c in_c) (λ frame d in_d. in_d))))

-- ---- records

one_stays : {A B : Type 0} (n : ℕ) (r : Result (A × ℕ) LogError) (make : A → B) → StaysIn n r → StaysIn n (r >>= λ a. Ok (make a.0, a.1))
one_stays n r make h = then_stays n r (λ a. Ok (make a.0, a.1)) h (λ x after within. within)

two_stay : {A B C : Type 0} (n : ℕ) (r : ℕ → Result (A × ℕ) LogError) (s : ℕ → Result (B × ℕ) LogError) (make : A → B → C) → ((at : ℕ) → at ≤ n → StaysIn n (r at)) → ((at : ℕ) → at ≤ n → StaysIn n (s at))
    → (at : ℕ) → at ≤ n → StaysIn n (r at >>= λ a. s a.1 >>= λ b. Ok (make a.0 b.0, b.1))
two_stay n r s make h k at le =
    then_stays n (r at) (λ a. s a.1 >>= λ b. Ok (make a.0 b.0, b.1)) (h at le) (λ x after within.
    one_stays n (s after) (make x) (k after within))

-- the fields of a record
fields_stay : (version : LogVersion) (kind : RecordKind) (bytes : List ℕ) (at : ℕ) → at ≤ length bytes → StaysIn (length bytes) (fields_at version kind bytes at)
unfolding host_at vow_at fulfil_at break_at make_at field_at deliver_at answer_at fault_at send_at receive_at answer_by_at
fields_stay version Host bytes at le = two_stay (length bytes) (nonzero_at bytes) (number_at w64 bytes) body.Host (nonzero_stays bytes) (number_stays bytes w64) at le
fields_stay version Vow bytes at le = one_stays (length bytes) _ body.Vow (nonzero_stays bytes at le)
fields_stay version Fulfil bytes at le = two_stay (length bytes) (nonzero_at bytes) (nonzero_at bytes) body.Fulfil (nonzero_stays bytes) (nonzero_stays bytes) at le
fields_stay version Break bytes at le = one_stays (length bytes) _ body.Break (nonzero_stays bytes at le)
fields_stay version Make bytes at le =
    then_stays (length bytes) _ (λ call. nonzero_at bytes call.1 >>= λ reference. number_at w64 bytes reference.1 >>= λ interface. number_at w16 bytes interface.1 >>= λ method. Ok (body.Make call.0 reference.0 interface.0 method.0, method.1)) (nonzero_stays bytes at le) (λ call a in_a.
    then_stays (length bytes) _ (λ reference. number_at w64 bytes reference.1 >>= λ interface. number_at w16 bytes interface.1 >>= λ method. Ok (body.Make call reference.0 interface.0 method.0, method.1)) (nonzero_stays bytes a in_a) (λ reference b in_b.
    two_stay (length bytes) (number_at w64 bytes) (number_at w16 bytes) (body.Make call reference) (number_stays bytes w64) (number_stays bytes w16) b in_b))
fields_stay version Field bytes at le =
    then_stays (length bytes) _ (λ reference. nonzero_at bytes reference.1 >>= λ call. path_at version bytes call.1 >>= λ path. Ok (body.Field reference.0 call.0 path.0, path.1)) (nonzero_stays bytes at le) (λ reference a in_a.
    two_stay (length bytes) (nonzero_at bytes) (path_at version bytes) (body.Field reference) (nonzero_stays bytes) (path_stays version bytes) a in_a)
fields_stay version Deliver bytes at le = two_stay (length bytes) (nonzero_at bytes) (number_at w64 bytes) body.Deliver (nonzero_stays bytes) (number_stays bytes w64) at le
fields_stay version Answer bytes at le =
    let results : ℕ → Result (List (ℕ × List ℕ) × ℕ) LogError = list_at version (answered_at version bytes) bytes in
    two_stay (length bytes) (nonzero_at bytes) results body.Answer (nonzero_stays bytes) (list_stays version bytes (answered_at version bytes) (answered_stays version bytes)) at le
fields_stay version Fault bytes at le = one_stays (length bytes) _ body.Fault (nonzero_stays bytes at le)
fields_stay version Send bytes at le = one_stays (length bytes) _ (λ p. body.Send p.connection p.call p.references p.frame) (passage_stays version bytes at le)
fields_stay version Receive bytes at le = one_stays (length bytes) _ (λ p. body.Receive p.connection p.call p.references p.frame) (passage_stays version bytes at le)
fields_stay version AnswerBy bytes at le = two_stay (length bytes) (nonzero_at bytes) (nonzero_at bytes) body.AnswerBy (nonzero_stays bytes) (nonzero_stays bytes) at le

-- the kind of a record, and what is read of that kind
known_stays : {A : Type 0} (n : ℕ) (o : Option RecordKind) (at : ℕ) (f : RecordKind → Result (A × ℕ) LogError) → at ≤ n → ((kind : RecordKind) → StaysIn n (f kind)) → StaysIn n (known_kind o at >>= f)
known_stays n (Some kind) at f le h = h kind
known_stays n None at f le h = le

kind_stays : {A : Type 0} (bytes : List ℕ) (at : ℕ) (f : RecordKind → Result (A × ℕ) LogError) → at ≤ length bytes → ((kind : RecordKind) → StaysIn (length bytes) (f kind)) → StaysIn (length bytes) (kind_at bytes at >>= f)
unfolding kind_at
kind_stays bytes at f le h = known_stays (length bytes) (kind_with (get_or bytes at 0)) at f le h

-- a record
pub record_stays : (version : LogVersion) (count : ℕ) (bytes : List ℕ) (at : ℕ) → at < length bytes → StaysIn (length bytes) (record_at version count bytes at)
unfolding record_at
record_stays version count bytes at lt =
    rw (lt-ltb at (length bytes) lt) (kind_stays bytes at (λ kind. cond (ltb count record_limit) (fields_at version kind bytes (at + 1)) (Err TooLong)) (omega (arith, lt)) (λ kind.
    cond_stays (length bytes) (ltb count record_limit) _ (Err TooLong) (fields_stay version kind bytes (at + 1) (omega (arith, lt))) (omega arith)))

-- the place of a fault of a window, counted from the begin, lies in the window
fails_in : {A : Type 0} (n : ℕ) (e : LogError) (read : Result (A × ℕ) LogError) → StaysIn n read → read ≡ Err e → place_of e ≤ n
fails_in n e read h is = subst (StaysIn n) is h

pub fault_placed : {A : Type 0} (begin n : ℕ) (e : LogError) (read : Result (A × ℕ) LogError) → StaysIn n read → Fails e read → place_of (counted_from begin e) ≤ begin + n
fault_placed begin n BadMagic read h is = omega arith
fault_placed begin n (Short at) read h is = omega (arith, fails_in n (Short at) read h is)
fault_placed begin n (BadKind at) read h is = omega (arith, fails_in n (BadKind at) read h is)
fault_placed begin n (ZeroNumber at) read h is = omega (arith, fails_in n (ZeroNumber at) read h is)
fault_placed begin n TooLong read h is = omega arith
fault_placed begin n OutOfMemory read h is = omega arith
