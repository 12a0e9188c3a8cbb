-- What is printed is printable.
use Rattle.std.proofs.Common.{◌≡◌, true, ℕ, ◌/◌, ◌%◌, ◌<◌, ◌≤◌, ◌^◌, List, [], ◌∷◌, inl, inr, arith}
use Rattle.std.specs.Prelude.{All, nat_le, ◌==◌, if◌then◌else◌}
use Rattle.std.proofs.lemmas.Bool.{cases_lt, cases_eq, cases_Bool, and_parts, leb-true, lt-ltb, le-ltb, eq-eqb, ne_eqb}
use Rattle.std.proofs.lemmas.List.Elements.{All-nil, All-cons, All-head, All-tail, All-append}
use Rattle.exception_reasons.specs.Printed.{byte_text, hexadecimal_digit, is_printable, printed, IsPrintable}

abbrev Plain : ℕ → Type 0
Plain code = (32 ≤ code) × (code ≤ 126)

digit_printable : (digit : ℕ) → digit < 16 → Plain (hexadecimal_digit digit)
digit_printable digit lt =
    elim (cases_lt digit 10) [
      | inl few ↦ rw (lt-ltb digit 10 few) (omega (arith, few), omega (arith, few))
      | inr many ↦ rw (le-ltb digit 10 many) (omega (arith, many), omega (arith, many, lt))
    ]

two : (a b : ℕ) → Plain a → Plain b → IsPrintable (a ∷ b ∷ [])
two a b p q = All-cons Plain a (b ∷ []) p (All-cons Plain b [] q (All-nil Plain))

four : (a b c d : ℕ) → Plain a → Plain b → Plain c → Plain d → IsPrintable (a ∷ b ∷ c ∷ d ∷ [])
four a b c d p q r s = All-cons Plain a (b ∷ c ∷ d ∷ []) p (All-cons Plain b (c ∷ d ∷ []) q (two c d r s))

of_printable : (byte : ℕ) → is_printable byte ≡ true → Plain byte
of_printable byte h =
    let both = and_parts (nat_le 32 byte) (nat_le byte 126) h in
    (leb-true 32 byte both.0, leb-true byte 126 both.1)

abbrev plain_text : ℕ → List ℕ
plain_text byte = if is_printable byte then byte ∷ [] else 92 ∷ 120 ∷ hexadecimal_digit (byte / 16) ∷ hexadecimal_digit (byte % 16) ∷ []

unquoted : (byte : ℕ) → byte < 2 ^ 8 → IsPrintable (plain_text byte)
unquoted byte lt =
    elim (cases_Bool (is_printable byte)) [
      | inl plain ↦ rw plain (All-cons Plain byte [] (of_printable byte plain) (All-nil Plain))
      | inr escaped ↦ rw escaped (four 92 120 (hexadecimal_digit (byte / 16)) (hexadecimal_digit (byte % 16)) (omega arith, omega arith) (omega arith, omega arith)
          (digit_printable (byte / 16) (omega (arith, lt))) (digit_printable (byte % 16) (omega arith)))
    ]

unslashed : (byte : ℕ) → byte < 2 ^ 8 → IsPrintable (if byte == 92 then 92 ∷ 92 ∷ [] else plain_text byte)
unslashed byte lt =
    elim (cases_eq byte 92) [
      | inl slash ↦ rw (eq-eqb byte 92 slash) (two 92 92 (omega arith, omega arith) (omega arith, omega arith))
      | inr other ↦ rw (ne_eqb byte 92 other) (unquoted byte lt)
    ]

byte_printable : (byte : ℕ) → byte < 2 ^ 8 → IsPrintable (byte_text byte)
byte_printable byte lt =
    elim (cases_eq byte 34) [
      | inl quote ↦ rw (eq-eqb byte 34 quote) (two 92 34 (omega arith, omega arith) (omega arith, omega arith))
      | inr other ↦ rw (ne_eqb byte 34 other) (unslashed byte lt)
    ]

pub all_printable : (bytes : List ℕ) → All (λ byte. byte < 2 ^ 8) bytes → IsPrintable (printed bytes)
all_printable [] small = All-nil Plain
all_printable (byte ∷ bytes) small =
    let here : byte < 2 ^ 8 = All-head (λ (b : ℕ). b < 2 ^ 8) byte bytes small in
    All-append Plain (byte_text byte) (printed bytes) (byte_printable byte here) (all_printable bytes (All-tail (λ (b : ℕ). b < 2 ^ 8) byte bytes small))
