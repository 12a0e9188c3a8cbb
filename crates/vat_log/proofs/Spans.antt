-- What stands in the bytes from one place to another, and fields that are read and spelled there.
use Rattle.std.proofs.Common.{◌≡◌, ℕ, ◌+◌, ◌-◌, ◌^◌, ◌<◌, ◌≤◌, Bool, true, false, cond, ltb, List, [], ◌++◌, length, get_or, take, drop, All, Result, Ok, Err, refl, sym, ap, subst, ◌∙◌, append_assoc, arith, inl, inr}
use Rattle.std.specs.List.{slice_range}
use Rattle.std.specs.Int.{Width, w16, w32, w64, byte_len, from_le_bytes, to_le_bytes}
use Rattle.std.proofs.lemmas.Bool.{cases_lt, ltb-false, le-ltb}
use Rattle.std.proofs.lemmas.List.{take_at, drop_at, length-append, length-take, length-drop, drop-drop, get_or-drop, get_or-take, get_or_past}
use Rattle.std.proofs.lemmas.List.Folds.{drop_split}
use Rattle.std.proofs.lemmas.Nat.{le_bytes_2, le_bytes_4, le_bytes_8, from_le_bytes-to_le_bytes_2, from_le_bytes-to_le_bytes_4, from_le_bytes-to_le_bytes_8}
use Rattle.vat_log.specs.declared.error.LogError.{LogError}
use Rattle.vat_log.specs.declared.error.LogError.TheVariants.{Short}
use Rattle.vat_log.specs.Reading.{◌>>=◌, number_at}
use Rattle.vat_log.specs.Spelling.{number_bytes}

abbrev pub IsBytes : List ℕ → Type 0
IsBytes bytes = (i : ℕ) → get_or bytes i 0 < 256

pub IsBytes-from_all : (bytes : List ℕ) → All (λ octet. octet < 2 ^ 8) bytes → IsBytes bytes
IsBytes-from_all bytes h i =
    elim (cases_lt i (length bytes)) [
      | inl lt ↦ h i 0 lt
      | inr le ↦ rw (get_or_past bytes i 0 le) (omega arith)
    ]

IsBytes-drop : (n : ℕ) (bytes : List ℕ) → IsBytes bytes → IsBytes (drop n bytes)
IsBytes-drop n bytes h i = rw get_or-drop (h (n + i))

IsBytes-take : (n : ℕ) (bytes : List ℕ) → IsBytes bytes → IsBytes (take n bytes)
IsBytes-take n bytes h i =
    elim (cases_lt i n) [
      | inl lt ↦ rw (get_or-take n bytes i 0 lt) (h i)
      | inr le ↦ rw (get_or_past (take n bytes) i 0 (omega (arith, length-take n bytes))) (omega arith)
    ]

-- the value of a step that did not fail
pub bind_ok : {A B : Type 0} (r : Result A LogError) (f : A → Result B LogError) (y : B) → (r >>= f) ≡ Ok y → (x : A) × (r ≡ Ok x) × (f x ≡ Ok y)
bind_ok (Ok x) f y e = (x, refl, e)
bind_ok (Err d) f y e = absurd cc

-- a test that did not fail
pub guard_ok : {A : Type 0} (b : Bool) (d : LogError) (r : Result A LogError) (y : A) → cond b (Err d) r ≡ Ok y → (b ≡ false) × (r ≡ Ok y)
guard_ok true d r y e = absurd cc
guard_ok false d r y e = (refl, e)

abbrev done : {A : Type 0} → A → Result A LogError
done x = Ok x

pub ok_is : {A : Type 0} (x y : A) → done x ≡ done y → x ≡ y
ok_is x y e = cc

-- this text stands in the bytes from at to after
pub record Spans (bytes : List ℕ) (at : ℕ) (text : List ℕ) (after : ℕ) : Type 0 where
  pub parts : drop at bytes ≡ text ++ drop after bytes
  pub places : at + length text ≡ after
  pub within : after ≤ length bytes

pub Spans-nil : (bytes : List ℕ) (at : ℕ) → at ≤ length bytes → Spans bytes at [] at
Spans-nil bytes at le = record { parts = refl; places = omega arith; within = le }

pub Spans-join : (bytes : List ℕ) (a : ℕ) (x : List ℕ) (b : ℕ) (y : List ℕ) (c : ℕ) → Spans bytes a x b → Spans bytes b y c → Spans bytes a (x ++ y) c
Spans-join bytes a x b y c p q = record {
  parts = p.parts ∙ ap (λ t. x ++ t) q.parts ∙ sym (append_assoc x y (drop c bytes));
  places = omega (arith, length-append x y, p.places, q.places);
  within = q.within;
}

-- where the second of two texts begins
pub Spans-first : (bytes : List ℕ) (a : ℕ) (x y : List ℕ) (c : ℕ) → Spans bytes a (x ++ y) c → Spans bytes a x (a + length x)
Spans-first bytes a x y c p =
    let all : drop a bytes ≡ x ++ (y ++ drop c bytes) = p.parts ∙ append_assoc x y (drop c bytes) in
    let rest : drop (a + length x) bytes ≡ y ++ drop c bytes = sym (drop-drop (length x) a bytes) ∙ ap (drop (length x)) all ∙ drop_at x (y ++ drop c bytes) (length x) refl in
    record { parts = rw rest all; places = refl; within = omega (arith, length-append x y, p.places, p.within) }

pub Spans-second : (bytes : List ℕ) (a : ℕ) (x y : List ℕ) (c : ℕ) → Spans bytes a (x ++ y) c → Spans bytes (a + length x) y c
Spans-second bytes a x y c p =
    let all : drop a bytes ≡ x ++ (y ++ drop c bytes) = p.parts ∙ append_assoc x y (drop c bytes) in
    let rest : drop (a + length x) bytes ≡ y ++ drop c bytes = sym (drop-drop (length x) a bytes) ∙ ap (drop (length x)) all ∙ drop_at x (y ++ drop c bytes) (length x) refl in
    record { parts = rest; places = omega (arith, length-append x y, p.places); within = p.within }

-- what is cut out where a text stands
pub Spans-range : (bytes : List ℕ) (at : ℕ) (text : List ℕ) (after : ℕ) → Spans bytes at text after → slice_range bytes at after ≡ text
Spans-range bytes at text after p =
    let n : after - at ≡ length text = omega (arith, p.places) in
    rw (n, p.parts) (take_at text (drop after bytes) (length text) refl)

-- what stands between two places
pub Spans-cut : (bytes : List ℕ) (at after : ℕ) → at ≤ after → after ≤ length bytes → Spans bytes at (slice_range bytes at after) after
Spans-cut bytes at after le within = record {
  parts = drop_split bytes at after le;
  places = omega (arith, length-take (after - at) (drop at bytes), length-drop at bytes);
  within = within;
}

-- A field: what is read is spelled so and fits, and what fits and is spelled so is read.
pub record IsField (A : Type 0) (bytes : List ℕ) (read : ℕ → Result (A × ℕ) LogError) (spell : A → List ℕ) (Fit : A → Type 0) : Type 0 where
  pub takes : IsBytes bytes → (at : ℕ) (x : A) (after : ℕ) → at ≤ length bytes → read at ≡ Ok (x, after) → Spans bytes at (spell x) after × Fit x
  pub again : (at : ℕ) (x : A) (after : ℕ) → Fit x → Spans bytes at (spell x) after → read at ≡ Ok (x, after)

-- a field, and what follows it
pub then_takes : {A B : Type 0} (bytes : List ℕ) (read : ℕ → Result (A × ℕ) LogError) (spell : A → List ℕ) (Fit : A → Type 0) → IsField A bytes read spell Fit → IsBytes bytes
    → (at : ℕ) (k : A × ℕ → Result B LogError) (y : B) → at ≤ length bytes → (read at >>= k) ≡ Ok y → (x : A × ℕ) × Spans bytes at (spell x.0) x.1 × Fit x.0 × (k x ≡ Ok y)
then_takes bytes read spell Fit field fits at k y le e =
    let s = bind_ok (read at) k y e in
    let t = field.takes fits at s.0.0 s.0.1 le s.1 in
    (s.0, t.0, t.1, s.2)

-- ---- numbers

pub record IsWidth (w : Width) (limit : ℕ) : Type 0 where
  pub len : (n : ℕ) → length (to_le_bytes w n) ≡ byte_len w
  pub back : (bytes : List ℕ) → length bytes ≡ byte_len w → IsBytes bytes → to_le_bytes w (from_le_bytes w bytes) ≡ bytes
  pub again : (n : ℕ) → n < limit → from_le_bytes w (to_le_bytes w n) ≡ n
  pub below : (bytes : List ℕ) → IsBytes bytes → from_le_bytes w bytes < limit

pub wide16 : IsWidth w16 (2 ^ 16)
wide16 = record {
  len = λ n. refl;
  back = λ bytes len fits. le_bytes_2 bytes _ len fits refl;
  again = λ n lt. from_le_bytes-to_le_bytes_2 n lt;
  below = λ bytes fits. omega (arith, fits 0, fits 1);
}

pub wide32 : IsWidth w32 (2 ^ 32)
wide32 = record {
  len = λ n. refl;
  back = λ bytes len fits. le_bytes_4 bytes _ len fits refl;
  again = λ n lt. from_le_bytes-to_le_bytes_4 n lt;
  below = λ bytes fits. omega (arith, fits 0, fits 1, fits 2, fits 3);
}

pub wide64 : IsWidth w64 (2 ^ 64)
wide64 = record {
  len = λ n. refl;
  back = λ bytes len fits. le_bytes_8 bytes _ len fits refl;
  again = λ n lt. from_le_bytes-to_le_bytes_8 n lt;
  below = λ bytes fits. omega (arith, fits 0, fits 1, fits 2, fits 3, fits 4, fits 5, fits 6, fits 7);
}

number_takes : (w : Width) (limit : ℕ) → IsWidth w limit → (bytes : List ℕ) → IsBytes bytes → (at n after : ℕ) → number_at w bytes at ≡ Ok (n, after) → Spans bytes at (number_bytes w n) after × (n < limit)
unfolding number_at number_bytes
number_takes w limit wide bytes fits at n after e =
    let end = at + byte_len w in
    let cut = slice_range bytes at end in
    let g = guard_ok (ltb (length bytes) end) (Short at) (Ok (from_le_bytes w cut, end)) (n, after) e in
    let long : end ≤ length bytes = ltb-false _ _ g.0 in
    let n-is : from_le_bytes w cut ≡ n = ap (λ (p : ℕ × ℕ). p.0) (ok_is (from_le_bytes w cut, end) (n, after) g.1) in
    let after-is : end ≡ after = ap (λ (p : ℕ × ℕ). p.1) (ok_is (from_le_bytes w cut, end) (n, after) g.1) in
    let all = Spans-cut bytes at end (omega arith) long in
    let len : length cut ≡ byte_len w = omega (arith, all.places) in
    let ranged : IsBytes cut = IsBytes-take (end - at) (drop at bytes) (IsBytes-drop at bytes fits) in
    let text : cut ≡ to_le_bytes w n = sym (wide.back cut len ranged) ∙ ap (to_le_bytes w) n-is in
    (subst (λ a. Spans bytes at (to_le_bytes w n) a) {x = end} after-is (subst (λ t. Spans bytes at t end) {x = cut} text all), rw (← n-is) (wide.below cut ranged))

number_again : (w : Width) (limit : ℕ) → IsWidth w limit → (bytes : List ℕ) (at n after : ℕ) → n < limit → Spans bytes at (number_bytes w n) after → number_at w bytes at ≡ Ok (n, after)
unfolding number_at number_bytes
number_again w limit wide bytes at n after lt p =
    let end : at + byte_len w ≡ after = omega (arith, p.places, wide.len n) in
    let long : ltb (length bytes) after ≡ false = le-ltb _ _ p.within in
    rw (end, long, Spans-range bytes at (to_le_bytes w n) after p, wide.again n lt) refl

pub number_field : (w : Width) (limit : ℕ) → IsWidth w limit → (bytes : List ℕ) → IsField ℕ bytes (number_at w bytes) (number_bytes w) (λ n. n < limit)
number_field w limit wide bytes = record {
  takes = λ fits at n after le e. number_takes w limit wide bytes fits at n after e;
  again = λ at n after lt p. number_again w limit wide bytes at n after lt p;
}
