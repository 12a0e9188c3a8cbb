-- Each field of a record is spelled as it is read, and read as it is spelled.
use Rattle.std.proofs.Common.{◌≡◌, ℕ, zero, suc, ◌+◌, ◌^◌, ◌<◌, ◌≤◌, false, cond, ltb, eqb, List, [], ◌∷◌, ◌++◌, length, All, Result, Ok, Err, refl, sym, ap, subst, arith}
use Rattle.std.specs.List.{flat_map, AllByRecursion, slice_range}
use Rattle.std.specs.Int.{w16, w32, w64}
use Rattle.std.proofs.lemmas.Bool.{ltb-false, le-ltb, ne_eqb}
use Rattle.std.proofs.lemmas.List.Concat.{flat_map-cons}
use Rattle.std.proofs.lemmas.List.Elements.{All-from_recursion, recursion_from_All}
use Rattle.vat_log.specs.declared.error.LogError.{LogError}
use Rattle.vat_log.specs.declared.error.LogError.TheVariants.{Short, ZeroNumber, TooLong}
use Rattle.vat_log.specs.declared.version.LogVersion.{LogVersion}
use Rattle.vat_log.specs.declared.version.LogVersion.TheVariants.{One, Two, Three}
use Rattle.vat_log.specs.Fits.{count_limit, count_reach, frame_limit}
use Rattle.vat_log.specs.Reading.{◌>>=◌, number_at, nonzero_at, count_at, many_at, list_at, path_at, answered_at, frame_at}
use Rattle.vat_log.specs.Spelling.{number_bytes, count_width, counted_list, path_bytes, answered_bytes, references_bytes, frame_bytes}
use Rattle.vat_log.proofs.Spans.{IsBytes, bind_ok, guard_ok, ok_is, Spans, Spans-nil, Spans-join, Spans-first, Spans-second, Spans-range, Spans-cut, IsWidth, IsField, then_takes, wide16, wide32, wide64, number_field}

pub u16_field : (bytes : List ℕ) → IsField ℕ bytes (number_at w16 bytes) (number_bytes w16) (λ n. n < 2 ^ 16)
u16_field bytes = number_field w16 (2 ^ 16) wide16 bytes

pub u32_field : (bytes : List ℕ) → IsField ℕ bytes (number_at w32 bytes) (number_bytes w32) (λ n. n < 2 ^ 32)
u32_field bytes = number_field w32 (2 ^ 32) wide32 bytes

pub u64_field : (bytes : List ℕ) → IsField ℕ bytes (number_at w64 bytes) (number_bytes w64) (λ n. n < 2 ^ 64)
u64_field bytes = number_field w64 (2 ^ 64) wide64 bytes

-- ---- references, and calls that have to be one

abbrev pub IsNumber : ℕ → Type 0
IsNumber n = (0 < n) × (n < 2 ^ 64)

positive : (n : ℕ) → eqb n 0 ≡ false → 0 < n
positive zero e = absurd cc
positive (suc n) e = omega arith

not_zero : (n : ℕ) → 0 < n → eqb n 0 ≡ false
not_zero n lt = ne_eqb n 0 (λ (e : n ≡ 0). omega arith)

nonzero_takes : (bytes : List ℕ) → IsBytes bytes → (at n after : ℕ) → at ≤ length bytes → nonzero_at bytes at ≡ Ok (n, after) → Spans bytes at (number_bytes w64 n) after × IsNumber n
unfolding nonzero_at
nonzero_takes bytes fits at n after le e =
    let s = bind_ok (number_at w64 bytes at) (λ number. cond (eqb number.0 0) (Err (ZeroNumber at)) (Ok number)) (n, after) e in
    let g = guard_ok (eqb s.0.0 0) (ZeroNumber at) (Ok s.0) (n, after) s.2 in
    let same : s.0 ≡ (n, after) = ok_is s.0 (n, after) g.1 in
    let t = (u64_field bytes).takes fits at s.0.0 s.0.1 le s.1 in
    subst (λ (p : ℕ × ℕ). Spans bytes at (number_bytes w64 p.0) p.1 × IsNumber p.0) same (t.0, (positive s.0.0 g.0, t.1))

nonzero_again : (bytes : List ℕ) (at n after : ℕ) → IsNumber n → Spans bytes at (number_bytes w64 n) after → nonzero_at bytes at ≡ Ok (n, after)
unfolding nonzero_at
nonzero_again bytes at n after is p = rw ((u64_field bytes).again at n after is.1 p, not_zero n is.0) refl

pub nonzero_field : (bytes : List ℕ) → IsField ℕ bytes (nonzero_at bytes) (number_bytes w64) IsNumber
nonzero_field bytes = record {
  takes = λ fits at n after le e. nonzero_takes bytes fits at n after le e;
  again = λ at n after is p. nonzero_again bytes at n after is p;
}

-- ---- counts

abbrev pub IsCount : LogVersion → ℕ → Type 0
IsCount version n = (n ≤ count_limit) × (n < count_reach version)

wide_count : (version : LogVersion) → IsWidth (count_width version) (count_reach version)
wide_count One = wide16
wide_count Two = wide32
wide_count Three = wide32

wide_count_field : (version : LogVersion) (bytes : List ℕ) → IsField ℕ bytes (number_at (count_width version) bytes) (number_bytes (count_width version)) (λ n. n < count_reach version)
wide_count_field version bytes = number_field (count_width version) (count_reach version) (wide_count version) bytes

count_takes : (version : LogVersion) (bytes : List ℕ) → IsBytes bytes → (at n after : ℕ) → at ≤ length bytes → count_at version bytes at ≡ Ok (n, after)
    → Spans bytes at (number_bytes (count_width version) n) after × IsCount version n
unfolding count_at
count_takes version bytes fits at n after le e =
    let s = bind_ok (number_at (count_width version) bytes at) (λ count. cond (ltb count_limit count.0) (Err TooLong) (Ok count)) (n, after) e in
    let g = guard_ok (ltb count_limit s.0.0) TooLong (Ok s.0) (n, after) s.2 in
    let same : s.0 ≡ (n, after) = ok_is s.0 (n, after) g.1 in
    let t = (wide_count_field version bytes).takes fits at s.0.0 s.0.1 le s.1 in
    subst (λ (p : ℕ × ℕ). Spans bytes at (number_bytes (count_width version) p.0) p.1 × IsCount version p.0) same (t.0, (ltb-false _ _ g.0, t.1))

count_again : (version : LogVersion) (bytes : List ℕ) (at n after : ℕ) → IsCount version n → Spans bytes at (number_bytes (count_width version) n) after → count_at version bytes at ≡ Ok (n, after)
unfolding count_at
count_again version bytes at n after is p =
    let small : ltb count_limit n ≡ false = le-ltb _ _ is.0 in
    rw ((wide_count_field version bytes).again at n after is.1 p, small) refl

count_field : (version : LogVersion) (bytes : List ℕ) → IsField ℕ bytes (count_at version bytes) (number_bytes (count_width version)) (IsCount version)
count_field version bytes = record {
  takes = λ fits at n after le e. count_takes version bytes fits at n after le e;
  again = λ at n after is p. count_again version bytes at n after is p;
}

-- ---- lists that come by their count

many_take : {A : Type 0} (bytes : List ℕ) (read : ℕ → Result (A × ℕ) LogError) (spell : A → List ℕ) (Fit : A → Type 0) → IsField A bytes read spell Fit → IsBytes bytes
    → (count at : ℕ) (x : List A × ℕ) → at ≤ length bytes → many_at read count at ≡ Ok x → Spans bytes at (flat_map spell x.0) x.1 × (length x.0 ≡ count) × AllByRecursion Fit x.0
unfolding many_at
many_take {A} bytes read spell Fit field fits zero at x le e =
    subst (λ (y : List A × ℕ). Spans bytes at (flat_map spell y.0) y.1 × (length y.0 ≡ 0) × AllByRecursion Fit y.0) (ok_is ([], at) x e) (Spans-nil bytes at le, refl, tt)
many_take {A} bytes read spell Fit field fits (suc count) at x le e =
    let a = then_takes bytes read spell Fit field fits at (λ first. many_at read count first.1 >>= λ others. Ok (first.0 ∷ others.0, others.1)) x le e in
    let b = bind_ok (many_at read count a.0.1) (λ others. Ok (a.0.0 ∷ others.0, others.1)) x a.3 in
    let second = many_take bytes read spell Fit field fits count a.0.1 b.0 a.1.within b.1 in
    let both = Spans-join bytes at (spell a.0.0) a.0.1 (flat_map spell b.0.0) b.0.1 a.1 second.0 in
    let made : List A × ℕ = (a.0.0 ∷ b.0.0, b.0.1) in
    subst (λ (y : List A × ℕ). Spans bytes at (flat_map spell y.0) y.1 × (length y.0 ≡ suc count) × AllByRecursion Fit y.0) (ok_is made x b.2) (rw flat_map-cons both, ap suc second.1, (a.2, second.2))

many_again : {A : Type 0} (bytes : List ℕ) (read : ℕ → Result (A × ℕ) LogError) (spell : A → List ℕ) (Fit : A → Type 0) → IsField A bytes read spell Fit
    → (xs : List A) (at after : ℕ) → AllByRecursion Fit xs → Spans bytes at (flat_map spell xs) after → many_at read (length xs) at ≡ Ok (xs, after)
unfolding many_at
many_again bytes read spell Fit field [] at after fit p =
    let same : at ≡ after = omega (arith, p.places) in
    rw same refl
many_again bytes read spell Fit field (x ∷ xs) at after fit p =
    let both : Spans bytes at (spell x ++ flat_map spell xs) after = rw flat_map-cons at p in
    let first = Spans-first bytes at (spell x) (flat_map spell xs) after both in
    let second = Spans-second bytes at (spell x) (flat_map spell xs) after both in
    rw (field.again at x (at + length (spell x)) fit.0 first, many_again bytes read spell Fit field xs (at + length (spell x)) after fit.1 second) refl

abbrev pub IsList : {A : Type 0} → LogVersion → (A → Type 0) → List A → Type 0
IsList version Fit xs = IsCount version (length xs) × All Fit xs

list_takes : {A : Type 0} (version : LogVersion) (bytes : List ℕ) (read : ℕ → Result (A × ℕ) LogError) (spell : A → List ℕ) (Fit : A → Type 0) → IsField A bytes read spell Fit → IsBytes bytes
    → (at : ℕ) (xs : List A) (after : ℕ) → at ≤ length bytes → list_at version read bytes at ≡ Ok (xs, after) → Spans bytes at (counted_list version spell xs) after × IsList version Fit xs
unfolding list_at
list_takes version bytes read spell Fit field fits at xs after le e =
    let a = then_takes bytes (count_at version bytes) (number_bytes (count_width version)) (IsCount version) (count_field version bytes) fits at (λ count. many_at read count.0 count.1) (xs, after) le e in
    let b = many_take bytes read spell Fit field fits a.0.0 a.0.1 (xs, after) a.1.within a.3 in
    let both = Spans-join bytes at (number_bytes (count_width version) a.0.0) a.0.1 (flat_map spell xs) after a.1 b.0 in
    (subst (λ n. Spans bytes at (number_bytes (count_width version) n ++ flat_map spell xs) after) (sym b.1) both, (subst (IsCount version) (sym b.1) a.2, All-from_recursion Fit xs b.2))

list_again : {A : Type 0} (version : LogVersion) (bytes : List ℕ) (read : ℕ → Result (A × ℕ) LogError) (spell : A → List ℕ) (Fit : A → Type 0) → IsField A bytes read spell Fit
    → (at : ℕ) (xs : List A) (after : ℕ) → IsList version Fit xs → Spans bytes at (counted_list version spell xs) after → list_at version read bytes at ≡ Ok (xs, after)
unfolding list_at
list_again version bytes read spell Fit field at xs after fit p =
    let count = number_bytes (count_width version) (length xs) in
    let first = Spans-first bytes at count (flat_map spell xs) after p in
    let second = Spans-second bytes at count (flat_map spell xs) after p in
    rw ((count_field version bytes).again at (length xs) (at + length count) fit.0 first) (many_again bytes read spell Fit field xs (at + length count) after (recursion_from_All Fit xs fit.1) second)

pub list_field : {A : Type 0} (version : LogVersion) (bytes : List ℕ) (read : ℕ → Result (A × ℕ) LogError) (spell : A → List ℕ) (Fit : A → Type 0) → IsField A bytes read spell Fit
    → IsField (List A) bytes (list_at version read bytes) (counted_list version spell) (IsList version Fit)
list_field version bytes read spell Fit field = record {
  takes = λ fits at xs after le e. list_takes version bytes read spell Fit field fits at xs after le e;
  again = λ at xs after fit p. list_again version bytes read spell Fit field at xs after fit p;
}

-- ---- paths and results

abbrev pub IsPath : LogVersion → List ℕ → Type 0
IsPath version fields = IsList version (λ field. field < 2 ^ 16) fields

pub path_field : (version : LogVersion) (bytes : List ℕ) → IsField (List ℕ) bytes (path_at version bytes) (path_bytes version) (IsPath version)
path_field version bytes = list_field version bytes (number_at w16 bytes) (number_bytes w16) (λ n. n < 2 ^ 16) (u16_field bytes)

abbrev pub IsAnswered : LogVersion → ℕ × List ℕ → Type 0
IsAnswered version answered = IsNumber answered.0 × IsPath version answered.1

answered_takes : (version : LogVersion) (bytes : List ℕ) → IsBytes bytes → (at : ℕ) (x : ℕ × List ℕ) (after : ℕ) → at ≤ length bytes → answered_at version bytes at ≡ Ok (x, after) → Spans bytes at (answered_bytes version x) after × IsAnswered version x
unfolding answered_at
answered_takes version bytes fits at x after le e =
    let a = then_takes bytes (nonzero_at bytes) (number_bytes w64) IsNumber (nonzero_field bytes) fits at (λ reference. path_at version bytes reference.1 >>= λ path. Ok ((reference.0, path.0), path.1)) (x, after) le e in
    let b = then_takes bytes (path_at version bytes) (path_bytes version) (IsPath version) (path_field version bytes) fits a.0.1 (λ path. Ok ((a.0.0, path.0), path.1)) (x, after) a.1.within a.3 in
    let made : (ℕ × List ℕ) × ℕ = ((a.0.0, b.0.0), b.0.1) in
    subst (λ (y : (ℕ × List ℕ) × ℕ). Spans bytes at (answered_bytes version y.0) y.1 × IsAnswered version y.0) (ok_is made (x, after) b.3) (Spans-join bytes at (number_bytes w64 a.0.0) a.0.1 (path_bytes version b.0.0) b.0.1 a.1 b.1, (a.2, b.2))

answered_again : (version : LogVersion) (bytes : List ℕ) (at : ℕ) (x : ℕ × List ℕ) (after : ℕ) → IsAnswered version x → Spans bytes at (answered_bytes version x) after → answered_at version bytes at ≡ Ok (x, after)
unfolding answered_at
answered_again version bytes at x after fit p =
    let reference = number_bytes w64 x.0 in
    let first = Spans-first bytes at reference (path_bytes version x.1) after p in
    let second = Spans-second bytes at reference (path_bytes version x.1) after p in
    rw ((nonzero_field bytes).again at x.0 (at + length reference) fit.0 first, (path_field version bytes).again (at + length reference) x.1 after fit.1 second) refl

pub answered_field : (version : LogVersion) (bytes : List ℕ) → IsField (ℕ × List ℕ) bytes (answered_at version bytes) (answered_bytes version) (IsAnswered version)
answered_field version bytes = record {
  takes = λ fits at x after le e. answered_takes version bytes fits at x after le e;
  again = λ at x after fit p. answered_again version bytes at x after fit p;
}

pub references_field : (version : LogVersion) (bytes : List ℕ) → IsField (List ℕ) bytes (list_at version (nonzero_at bytes) bytes) (references_bytes version) (IsList version IsNumber)
references_field version bytes = list_field version bytes (nonzero_at bytes) (number_bytes w64) IsNumber (nonzero_field bytes)

pub results_field : (version : LogVersion) (bytes : List ℕ) → IsField (List (ℕ × List ℕ)) bytes (list_at version (answered_at version bytes) bytes) (counted_list version (answered_bytes version)) (IsList version (IsAnswered version))
results_field version bytes = list_field version bytes (answered_at version bytes) (answered_bytes version) (IsAnswered version) (answered_field version bytes)

-- ---- frames

abbrev pub IsFrame : List ℕ → Type 0
IsFrame frame = length frame ≤ frame_limit

frame_takes : (bytes : List ℕ) → IsBytes bytes → (at : ℕ) (x : List ℕ) (after : ℕ) → at ≤ length bytes → frame_at bytes at ≡ Ok (x, after) → Spans bytes at (frame_bytes x) after × IsFrame x
unfolding frame_at
frame_takes bytes fits at x after le e =
    let a = then_takes bytes (number_at w32 bytes) (number_bytes w32) (λ n. n < 2 ^ 32) (u32_field bytes) fits at
    (λ size. cond (ltb frame_limit size.0) (Err TooLong) (cond (ltb (length bytes) (size.1 + size.0)) (Err (Short size.1)) (Ok (slice_range bytes size.1 (size.1 + size.0), size.1 + size.0)))) (x, after) le e in
    let size = a.0.0 in
    let begin = a.0.1 in
    let cut : List ℕ × ℕ = (slice_range bytes begin (begin + size), begin + size) in
    let g = guard_ok (ltb frame_limit size) TooLong (cond (ltb (length bytes) (begin + size)) (Err (Short begin)) (Ok cut)) (x, after) a.3 in
    let h = guard_ok (ltb (length bytes) (begin + size)) (Short begin) (Ok cut) (x, after) g.1 in
    let small : size ≤ frame_limit = ltb-false _ _ g.0 in
    let long : begin + size ≤ length bytes = ltb-false _ _ h.0 in
    let bytes_there = Spans-cut bytes begin (begin + size) (omega arith) long in
    let len : length cut.0 ≡ size = omega (arith, bytes_there.places) in
    let both = Spans-join bytes at (number_bytes w32 size) begin cut.0 (begin + size) a.1 bytes_there in
    subst (λ (y : List ℕ × ℕ). Spans bytes at (frame_bytes y.0) y.1 × IsFrame y.0) (ok_is cut (x, after) h.1) (subst (λ n. Spans bytes at (number_bytes w32 n ++ cut.0) (begin + size)) (sym len) both, omega (arith, small, len))

frame_again : (bytes : List ℕ) (at : ℕ) (x : List ℕ) (after : ℕ) → IsFrame x → Spans bytes at (frame_bytes x) after → frame_at bytes at ≡ Ok (x, after)
unfolding frame_at
frame_again bytes at x after fit p =
    let size = number_bytes w32 (length x) in
    let begin = at + length size in
    let first = Spans-first bytes at size x after p in
    let second = Spans-second bytes at size x after p in
    let small : ltb frame_limit (length x) ≡ false = le-ltb _ _ fit in
    let end : begin + length x ≡ after = second.places in
    let long : ltb (length bytes) after ≡ false = le-ltb _ _ second.within in
    rw ((u32_field bytes).again at (length x) begin (omega (arith, fit)) first, small, end, long, Spans-range bytes begin x after second) refl

pub frame_field : (bytes : List ℕ) → IsField (List ℕ) bytes (frame_at bytes) frame_bytes IsFrame
frame_field bytes = record {
  takes = λ fits at x after le e. frame_takes bytes fits at x after le e;
  again = λ at x after fit p. frame_again bytes at x after fit p;
}
