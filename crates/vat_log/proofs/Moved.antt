-- What is read at a place in a part of some bytes is read in all of them, as many places further on as bytes stand in
-- front of the part. A field that the part cuts is cut in all of them, too, where nothing stands behind the part.
use Rattle.std.proofs.Common.{◌≡◌, ℕ, zero, suc, ◌+◌, ◌-◌, ◌<◌, ◌≤◌, Bool, true, false, cond, ltb, eqb, List, [], ◌∷◌, ◌++◌, length, get_or, drop, Option, Some, None, Result, Ok, Err, refl, ap, ◌∙◌, arith, inl, inr}
use Rattle.std.specs.List.{slice_range}
use Rattle.std.specs.Int.{Width, w16, w32, w64, byte_len}
use Rattle.std.proofs.lemmas.Bool.{cases_lt, lt-ltb, le-ltb}
use Rattle.std.proofs.lemmas.List.{length-append, length-drop, take-append-le, drop-append-le, get_or_append_left, get_or-append-add}
use Rattle.std.proofs.Math.Seq.{drop-append-add}
use Rattle.vat_log.specs.declared.body.Body.TheVariants as body
use Rattle.vat_log.specs.declared.error.LogError.{LogError}
use Rattle.vat_log.specs.declared.error.LogError.TheVariants.{BadMagic, Short, BadKind, ZeroNumber, TooLong, OutOfMemory}
use Rattle.vat_log.specs.declared.spelling.kind.RecordKind.{RecordKind}
use Rattle.vat_log.specs.declared.spelling.kind.RecordKind.TheVariants.{Host, Vow, Fulfil, Break, Make, Field, Deliver, Answer, Fault, Send, Receive, AnswerBy}
use Rattle.vat_log.specs.declared.version.LogVersion.{LogVersion}
use Rattle.vat_log.specs.Fits.{count_limit, frame_limit, record_limit}
use Rattle.vat_log.specs.Reading.{◌>>=◌, number_at, nonzero_at, count_at, many_at, list_at, path_at, answered_at, frame_at, passage_at, host_at, vow_at, fulfil_at, break_at, make_at, field_at, deliver_at, answer_at, fault_at, send_at, receive_at, answer_by_at, fields_at, kind_with, known_kind, kind_at}
use Rattle.vat_log.specs.Spelling.{count_width}
use Rattle.vat_log.specs.Windows.{record_at}

-- the second reading is the first, so many places further on; where a field is cut it is so if this holds
abbrev pub Moves : {A : Type 0} → ℕ → Type 0 → Result (A × ℕ) LogError → Result (A × ℕ) LogError → Type 0
Moves n whole (Ok x) read = read ≡ Ok (x.0, n + x.1)
Moves n whole (Err BadMagic) read = read ≡ Err BadMagic
Moves n whole (Err (Short at)) read = whole → read ≡ Err (Short (n + at))
Moves n whole (Err (BadKind at)) read = read ≡ Err (BadKind (n + at))
Moves n whole (Err (ZeroNumber at)) read = read ≡ Err (ZeroNumber (n + at))
Moves n whole (Err TooLong) read = read ≡ Err TooLong
Moves n whole (Err OutOfMemory) read = read ≡ Err OutOfMemory

then_moves : {A B : Type 0} (n : ℕ) (whole : Type 0) (r r' : Result (A × ℕ) LogError) (f f' : A × ℕ → Result (B × ℕ) LogError) → Moves n whole r r' → ((x : A) (at : ℕ) → Moves n whole (f (x, at)) (f' (x, n + at)))
    → Moves n whole (r >>= f) (r' >>= f')
then_moves n whole (Ok x) r' f f' h k = rw h (k x.0 x.1)
then_moves n whole (Err BadMagic) r' f f' h k = rw h refl
then_moves n whole (Err (Short at)) r' f f' h k = λ w. rw (h w) refl
then_moves n whole (Err (BadKind at)) r' f f' h k = rw h refl
then_moves n whole (Err (ZeroNumber at)) r' f f' h k = rw h refl
then_moves n whole (Err TooLong) r' f f' h k = rw h refl
then_moves n whole (Err OutOfMemory) r' f f' h k = rw h refl

cond_moves : {A : Type 0} (n : ℕ) (whole : Type 0) (b : Bool) (r r' s s' : Result (A × ℕ) LogError) → Moves n whole r r' → Moves n whole s s' → Moves n whole (cond b r s) (cond b r' s')
cond_moves n whole true r r' s s' h k = h
cond_moves n whole false r r' s s' h k = k

-- ---- a part of some bytes

-- the bytes in front of a part, those of the part, and those behind it
abbrev pub around : List ℕ → List ℕ → List ℕ → List ℕ
around front part behind = front ++ (part ++ behind)

around_long : (front part behind : List ℕ) → length (around front part behind) ≡ length front + (length part + length behind)
around_long front part behind = omega (arith, length-append front (part ++ behind), length-append part behind)

pub around_range : (front part behind : List ℕ) (a b : ℕ) → a ≤ b → b ≤ length part → slice_range (around front part behind) (length front + a) (length front + b) ≡ slice_range part a b
around_range front part behind a b le within =
    let size : length front + b - (length front + a) ≡ b - a = omega arith in
    let rest : drop (length front + a) (around front part behind) ≡ drop a part ++ behind = drop-append-add front (part ++ behind) a ∙ drop-append-le a part behind (omega arith) in
    rw (size, rest) (take-append-le (b - a) (drop a part) behind (omega (arith, length-drop a part)))

around_byte : (front part behind : List ℕ) (at : ℕ) → at < length part → get_or (around front part behind) (length front + at) 0 ≡ get_or part at 0
around_byte front part behind at lt = get_or-append-add front (part ++ behind) at 0 ∙ get_or_append_left part behind 0 at lt

nothing_long : (behind : List ℕ) → behind ≡ [] → length behind ≡ 0
nothing_long behind e = ap length e

-- ---- fields

number_moves : (front part behind : List ℕ) (width : Width) (at : ℕ) → Moves (length front) (behind ≡ []) (number_at width part at) (number_at width (around front part behind) (length front + at))
unfolding number_at
number_moves front part behind width at =
    let end = at + byte_len width in
    let ends : length front + at + byte_len width ≡ length front + end = omega arith in
    elim (cases_lt (length part) end) [
      | inl lt ↦ rw (lt-ltb (length part) end lt) (λ none.
          rw (lt-ltb (length (around front part behind)) (length front + at + byte_len width) (omega (arith, lt, around_long front part behind, nothing_long behind none))) refl)
      | inr le ↦ rw (le-ltb (length part) end le, ends, le-ltb (length (around front part behind)) (length front + end) (omega (arith, le, around_long front part behind)), around_range front part behind at end (omega arith) le) refl
    ]

nonzero_moves : (front part behind : List ℕ) (at : ℕ) → Moves (length front) (behind ≡ []) (nonzero_at part at) (nonzero_at (around front part behind) (length front + at))
unfolding nonzero_at
nonzero_moves front part behind at =
    then_moves (length front) (behind ≡ []) _ _ (λ number. cond (eqb number.0 0) (Err (ZeroNumber at)) (Ok number)) (λ number. cond (eqb number.0 0) (Err (ZeroNumber (length front + at))) (Ok number)) (number_moves front part behind w64 at) (λ x after.
    cond_moves (length front) (behind ≡ []) (eqb x 0) (Err (ZeroNumber at)) (Err (ZeroNumber (length front + at))) (Ok (x, after)) (Ok (x, length front + after)) refl refl)

many_moves : {A : Type 0} (n : ℕ) (whole : Type 0) (item item' : ℕ → Result (A × ℕ) LogError) → ((at : ℕ) → Moves n whole (item at) (item' (n + at))) → (count at : ℕ) → Moves n whole (many_at item count at) (many_at item' count (n + at))
unfolding many_at
many_moves n whole item item' h zero at = refl
many_moves n whole item item' h (suc count) at =
    then_moves n whole (item at) (item' (n + at)) (λ first. many_at item count first.1 >>= λ others. Ok (first.0 ∷ others.0, others.1)) (λ first. many_at item' count first.1 >>= λ others. Ok (first.0 ∷ others.0, others.1)) (h at) (λ x after.
    then_moves n whole (many_at item count after) (many_at item' count (n + after)) (λ others. Ok (x ∷ others.0, others.1)) (λ others. Ok (x ∷ others.0, others.1)) (many_moves n whole item item' h count after) (λ xs end. refl))

count_moves : (version : LogVersion) (front part behind : List ℕ) (at : ℕ) → Moves (length front) (behind ≡ []) (count_at version part at) (count_at version (around front part behind) (length front + at))
unfolding count_at
count_moves version front part behind at =
    then_moves (length front) (behind ≡ []) _ _ (λ count. cond (ltb count_limit count.0) (Err TooLong) (Ok count)) (λ count. cond (ltb count_limit count.0) (Err TooLong) (Ok count)) (number_moves front part behind (count_width version) at) (λ x after.
    cond_moves (length front) (behind ≡ []) (ltb count_limit x) (Err TooLong) (Err TooLong) (Ok (x, after)) (Ok (x, length front + after)) refl refl)

list_moves : {A : Type 0} (version : LogVersion) (front part behind : List ℕ) (item item' : ℕ → Result (A × ℕ) LogError) → ((at : ℕ) → Moves (length front) (behind ≡ []) (item at) (item' (length front + at)))
    → (at : ℕ) → Moves (length front) (behind ≡ []) (list_at version item part at) (list_at version item' (around front part behind) (length front + at))
unfolding list_at
list_moves version front part behind item item' h at =
    then_moves (length front) (behind ≡ []) _ _ (λ count. many_at item count.0 count.1) (λ count. many_at item' count.0 count.1) (count_moves version front part behind at) (λ count after.
    many_moves (length front) (behind ≡ []) item item' h count after)

path_moves : (version : LogVersion) (front part behind : List ℕ) (at : ℕ) → Moves (length front) (behind ≡ []) (path_at version part at) (path_at version (around front part behind) (length front + at))
path_moves version front part behind at = list_moves version front part behind (number_at w16 part) (number_at w16 (around front part behind)) (number_moves front part behind w16) at

answered_moves : (version : LogVersion) (front part behind : List ℕ) (at : ℕ) → Moves (length front) (behind ≡ []) (answered_at version part at) (answered_at version (around front part behind) (length front + at))
unfolding answered_at
answered_moves version front part behind at =
    then_moves (length front) (behind ≡ []) _ _ (λ reference. path_at version part reference.1 >>= λ path. Ok ((reference.0, path.0), path.1)) (λ reference. path_at version (around front part behind) reference.1 >>= λ path. Ok ((reference.0, path.0), path.1)) (nonzero_moves front part behind at) (λ reference after.
    then_moves (length front) (behind ≡ []) _ _ (λ path. Ok ((reference, path.0), path.1)) (λ path. Ok ((reference, path.0), path.1)) (path_moves version front part behind after) (λ path end. refl))

-- what stands between a length and its end
room_moves : (front part behind : List ℕ) (begin size : ℕ) → Moves (length front) (behind ≡ []) (cond (ltb (length part) (begin + size)) (Err (Short begin)) (Ok (slice_range part begin (begin + size), begin + size)))
    (cond (ltb (length (around front part behind)) (length front + begin + size)) (Err (Short (length front + begin))) (Ok (slice_range (around front part behind) (length front + begin) (length front + begin + size), length front + begin + size)))
room_moves front part behind begin size =
    let end = begin + size in
    let ends : length front + begin + size ≡ length front + end = omega arith in
    elim (cases_lt (length part) end) [
      | inl lt ↦ rw (lt-ltb (length part) end lt) (λ none.
          rw (lt-ltb (length (around front part behind)) (length front + begin + size) (omega (arith, lt, around_long front part behind, nothing_long behind none))) refl)
      | inr le ↦ rw (le-ltb (length part) end le, ends, le-ltb (length (around front part behind)) (length front + end) (omega (arith, le, around_long front part behind)), around_range front part behind begin end (omega arith) le) refl
    ]

frame_moves : (front part behind : List ℕ) (at : ℕ) → Moves (length front) (behind ≡ []) (frame_at part at) (frame_at (around front part behind) (length front + at))
unfolding frame_at
frame_moves front part behind at =
    then_moves (length front) (behind ≡ []) _ _
    (λ size. cond (ltb frame_limit size.0) (Err TooLong) (cond (ltb (length part) (size.1 + size.0)) (Err (Short size.1)) (Ok (slice_range part size.1 (size.1 + size.0), size.1 + size.0))))
    (λ size. cond (ltb frame_limit size.0) (Err TooLong) (cond (ltb (length (around front part behind)) (size.1 + size.0)) (Err (Short size.1)) (Ok (slice_range (around front part behind) size.1 (size.1 + size.0), size.1 + size.0))))
    (number_moves front part behind w32 at) (λ size begin.
    cond_moves (length front) (behind ≡ []) (ltb frame_limit size) (Err TooLong) (Err TooLong) _ _ refl (room_moves front part behind begin size))

passage_moves : (version : LogVersion) (front part behind : List ℕ) (at : ℕ) → Moves (length front) (behind ≡ []) (passage_at version part at) (passage_at version (around front part behind) (length front + at))
unfolding passage_at
passage_moves version front part behind at =
    let all = around front part behind in
    then_moves (length front) (behind ≡ []) _ _ _ _ (number_moves front part behind w32 at) (λ connection a.
    then_moves (length front) (behind ≡ []) _ _ _ _ (number_moves front part behind w64 a) (λ call b.
    then_moves (length front) (behind ≡ []) _ _ _ _ (list_moves version front part behind (nonzero_at part) (nonzero_at all) (nonzero_moves front part behind) b) (λ references c.
    then_moves (length front) (behind ≡ []) _ _ _ _ (frame_moves front part behind c) (λ frame d. refl))))

-- ---- records

one_moves : {A B : Type 0} (n : ℕ) (whole : Type 0) (r r' : Result (A × ℕ) LogError) (make : A → B) → Moves n whole r r' → Moves n whole (r >>= λ a. Ok (make a.0, a.1)) (r' >>= λ a. Ok (make a.0, a.1))
one_moves n whole r r' make h = then_moves n whole r r' (λ a. Ok (make a.0, a.1)) (λ a. Ok (make a.0, a.1)) h (λ x after. refl)

two_moves : {A B C : Type 0} (n : ℕ) (whole : Type 0) (r r' : ℕ → Result (A × ℕ) LogError) (s s' : ℕ → Result (B × ℕ) LogError) (make : A → B → C) → ((at : ℕ) → Moves n whole (r at) (r' (n + at))) → ((at : ℕ) → Moves n whole (s at) (s' (n + at)))
    → (at : ℕ) → Moves n whole (r at >>= λ a. s a.1 >>= λ b. Ok (make a.0 b.0, b.1)) (r' (n + at) >>= λ a. s' a.1 >>= λ b. Ok (make a.0 b.0, b.1))
two_moves n whole r r' s s' make h k at =
    then_moves n whole (r at) (r' (n + at)) (λ a. s a.1 >>= λ b. Ok (make a.0 b.0, b.1)) (λ a. s' a.1 >>= λ b. Ok (make a.0 b.0, b.1)) (h at) (λ x after.
    one_moves n whole (s after) (s' (n + after)) (make x) (k after))

-- the fields of a record
fields_moves : (version : LogVersion) (kind : RecordKind) (front part behind : List ℕ) (at : ℕ) → Moves (length front) (behind ≡ []) (fields_at version kind part at) (fields_at version kind (around front part behind) (length front + at))
unfolding host_at vow_at fulfil_at break_at make_at field_at deliver_at answer_at fault_at send_at receive_at answer_by_at
fields_moves version Host front part behind at =
    let all = around front part behind in
    two_moves (length front) (behind ≡ []) (nonzero_at part) (nonzero_at all) (number_at w64 part) (number_at w64 all) body.Host (nonzero_moves front part behind) (number_moves front part behind w64) at
fields_moves version Vow front part behind at = one_moves (length front) (behind ≡ []) _ _ body.Vow (nonzero_moves front part behind at)
fields_moves version Fulfil front part behind at =
    let all = around front part behind in
    two_moves (length front) (behind ≡ []) (nonzero_at part) (nonzero_at all) (nonzero_at part) (nonzero_at all) body.Fulfil (nonzero_moves front part behind) (nonzero_moves front part behind) at
fields_moves version Break front part behind at = one_moves (length front) (behind ≡ []) _ _ body.Break (nonzero_moves front part behind at)
fields_moves version Make front part behind at =
    let all = around front part behind in
    then_moves (length front) (behind ≡ []) _ _ (λ call. nonzero_at part call.1 >>= λ reference. number_at w64 part reference.1 >>= λ interface. number_at w16 part interface.1 >>= λ method. Ok (body.Make call.0 reference.0 interface.0 method.0, method.1))
    (λ call. nonzero_at all call.1 >>= λ reference. number_at w64 all reference.1 >>= λ interface. number_at w16 all interface.1 >>= λ method. Ok (body.Make call.0 reference.0 interface.0 method.0, method.1)) (nonzero_moves front part behind at) (λ call a.
    then_moves (length front) (behind ≡ []) _ _ (λ reference. number_at w64 part reference.1 >>= λ interface. number_at w16 part interface.1 >>= λ method. Ok (body.Make call reference.0 interface.0 method.0, method.1))
    (λ reference. number_at w64 all reference.1 >>= λ interface. number_at w16 all interface.1 >>= λ method. Ok (body.Make call reference.0 interface.0 method.0, method.1)) (nonzero_moves front part behind a) (λ reference b.
    two_moves (length front) (behind ≡ []) (number_at w64 part) (number_at w64 all) (number_at w16 part) (number_at w16 all) (body.Make call reference) (number_moves front part behind w64) (number_moves front part behind w16) b))
fields_moves version Field front part behind at =
    let all = around front part behind in
    then_moves (length front) (behind ≡ []) _ _ (λ reference. nonzero_at part reference.1 >>= λ call. path_at version part call.1 >>= λ path. Ok (body.Field reference.0 call.0 path.0, path.1))
    (λ reference. nonzero_at all reference.1 >>= λ call. path_at version all call.1 >>= λ path. Ok (body.Field reference.0 call.0 path.0, path.1)) (nonzero_moves front part behind at) (λ reference a.
    two_moves (length front) (behind ≡ []) (nonzero_at part) (nonzero_at all) (path_at version part) (path_at version all) (body.Field reference) (nonzero_moves front part behind) (path_moves version front part behind) a)
fields_moves version Deliver front part behind at =
    let all = around front part behind in
    two_moves (length front) (behind ≡ []) (nonzero_at part) (nonzero_at all) (number_at w64 part) (number_at w64 all) body.Deliver (nonzero_moves front part behind) (number_moves front part behind w64) at
fields_moves version Answer front part behind at =
    let all = around front part behind in
    let results : ℕ → Result (List (ℕ × List ℕ) × ℕ) LogError = list_at version (answered_at version part) part in
    let results' : ℕ → Result (List (ℕ × List ℕ) × ℕ) LogError = list_at version (answered_at version all) all in
    two_moves (length front) (behind ≡ []) (nonzero_at part) (nonzero_at all) results results' body.Answer (nonzero_moves front part behind)
    (list_moves version front part behind (answered_at version part) (answered_at version all) (answered_moves version front part behind)) at
fields_moves version Fault front part behind at = one_moves (length front) (behind ≡ []) _ _ body.Fault (nonzero_moves front part behind at)
fields_moves version Send front part behind at = one_moves (length front) (behind ≡ []) _ _ (λ p. body.Send p.connection p.call p.references p.frame) (passage_moves version front part behind at)
fields_moves version Receive front part behind at = one_moves (length front) (behind ≡ []) _ _ (λ p. body.Receive p.connection p.call p.references p.frame) (passage_moves version front part behind at)
fields_moves version AnswerBy front part behind at =
    let all = around front part behind in
    two_moves (length front) (behind ≡ []) (nonzero_at part) (nonzero_at all) (nonzero_at part) (nonzero_at all) body.AnswerBy (nonzero_moves front part behind) (nonzero_moves front part behind) at

-- the kind of a record, and what is read of that kind
known_moves : {A : Type 0} (n : ℕ) (whole : Type 0) (o : Option RecordKind) (at : ℕ) (f f' : RecordKind → Result (A × ℕ) LogError) → ((kind : RecordKind) → Moves n whole (f kind) (f' kind)) → Moves n whole (known_kind o at >>= f) (known_kind o (n + at) >>= f')
known_moves n whole (Some kind) at f f' h = h kind
known_moves n whole None at f f' h = refl

kind_moves : {A : Type 0} (front part behind : List ℕ) (at : ℕ) (f f' : RecordKind → Result (A × ℕ) LogError) → at < length part → ((kind : RecordKind) → Moves (length front) (behind ≡ []) (f kind) (f' kind))
    → Moves (length front) (behind ≡ []) (kind_at part at >>= f) (kind_at (around front part behind) (length front + at) >>= f')
unfolding kind_at
kind_moves front part behind at f f' lt h = rw (around_byte front part behind at lt) (known_moves (length front) (behind ≡ []) (kind_with (get_or part at 0)) at f f' h)

-- a record
pub record_moves : (version : LogVersion) (count : ℕ) (front part behind : List ℕ) (at : ℕ) → Moves (length front) (behind ≡ []) (record_at version count part at) (record_at version count (around front part behind) (length front + at))
unfolding record_at
record_moves version count front part behind at =
    let all = around front part behind in
    let next : length front + at + 1 ≡ length front + (at + 1) = omega arith in
    elim (cases_lt at (length part)) [
      | inl lt ↦ rw (lt-ltb at (length part) lt, lt-ltb (length front + at) (length all) (omega (arith, lt, around_long front part behind)))
          (kind_moves front part behind at (λ kind. cond (ltb count record_limit) (fields_at version kind part (at + 1)) (Err TooLong)) (λ kind. cond (ltb count record_limit) (fields_at version kind all (length front + at + 1)) (Err TooLong)) lt (λ kind.
          cond_moves (length front) (behind ≡ []) (ltb count record_limit) _ _ (Err TooLong) (Err TooLong) (rw next (fields_moves version kind front part behind (at + 1))) refl))
      | inr le ↦ rw (le-ltb at (length part) le) (λ none. rw (le-ltb (length front + at) (length all) (omega (arith, le, around_long front part behind, nothing_long behind none))) refl)
    ]
