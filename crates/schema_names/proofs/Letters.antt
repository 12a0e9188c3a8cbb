-- A name that is copied letter by letter.
use Rattle.std.proofs.Common.{◌≡◌, ◌∙◌, ℕ, ◌+◌, ◌<◌, ◌≤◌, true, false, List, [], ◌∷◌, ◌++◌, length, take, drop, get_or, Result, Ok, Err, refl, sym, ap, arith, length-drop}
use Rattle.std.specs.Prelude.{nat_le}
use Rattle.std.specs.List.{list_all}
use Rattle.std.proofs.lemmas.Bool.{lt-ltb, le-ltb, leb-true, and_from, and_left, and_parts, and_right}
use Rattle.std.proofs.lemmas.List.{take_more, take_all, get_or-drop}
use Rattle.std.proofs.lemmas.List.Folds.{list_all_more, list_all_at}
use Rattle.cap_reader.specs.Reading.{pay_for}
use Rattle.schema_names.specs.declared.schema_error.SchemaError.{SchemaError}
use Rattle.schema_names.specs.declared.schema_error.SchemaError.TheVariants.{BadName}
use Rattle.schema_names.specs.Reading.{run_schema}
use Rattle.schema_names.specs.Names.{is_name_letter, is_name, named}

-- so many letters of what is left were copied
pub record Copied (name rest : List ℕ) (i : ℕ) : Type 0 where
  pub same : name ≡ take i rest
  pub letters : list_all is_name_letter (take i rest) ≡ true

pub none_copied : (rest : List ℕ) → Copied [] rest 0
none_copied rest = record { same = refl; letters = refl }

-- the letter at a place of what is left
pub behind : (text : List ℕ) (prefix i byte : ℕ) → prefix + i < length text → byte ≡ get_or text (prefix + i) 0 → (i < length (drop prefix text)) × (byte ≡ get_or (drop prefix text) i 0)
behind text prefix i byte lt is = (omega (arith, length-drop prefix text), is ∙ sym (get_or-drop prefix text i 0))

pub one_more : (name rest : List ℕ) (i byte : ℕ) → i < length rest → byte ≡ get_or rest i 0 → is_name_letter byte ≡ true → Copied name rest i → Copied (name ++ byte ∷ []) rest (i + 1)
one_more name rest i byte lt is letter so_far = record {
  same = ap (λ (t : List ℕ). t ++ byte ∷ []) so_far.same ∙ ap (λ (b : ℕ). take i rest ++ b ∷ []) is ∙ sym (take_more rest i 0 lt);
  letters = list_all_more is_name_letter rest i 0 lt ∙ and_from _ _ so_far.letters (ap is_name_letter (sym is) ∙ letter);
}

-- all were copied
pub all_copied : (name rest : List ℕ) (i : ℕ) → 0 < length rest → length rest ≤ i → Copied name rest i → (name ≡ rest) × (is_name rest ≡ true)
all_copied name rest i some all so_far =
    let whole : take i rest ≡ rest = take_all i rest all in
    (so_far.same ∙ whole, and_from _ _ (lt-ltb 0 (length rest) some) (ap (list_all is_name_letter) (sym whole) ∙ so_far.letters))

-- a byte is no letter
pub not_letter : (rest : List ℕ) (i byte : ℕ) → i < length rest → byte ≡ get_or rest i 0 → is_name_letter byte ≡ false → is_name rest ≡ false
not_letter rest i byte lt is other = and_right _ _ (list_all_at is_name_letter rest i 0 lt (ap is_name_letter (sym is) ∙ other))

-- nothing is left
pub nothing_left : (text : List ℕ) (prefix : ℕ) → length text ≤ prefix → is_name (drop prefix text) ≡ false
nothing_left text prefix le = and_left _ _ (le-ltb 0 (length (drop prefix text)) (omega (arith, length-drop prefix text)))

-- a letter is ASCII
pub letter_is_ascii : (byte : ℕ) → is_name_letter byte ≡ true → byte < 128
letter_is_ascii byte holds =
    let both = and_parts (nat_le 33 byte) (nat_le byte 126) holds in
    let most : byte ≤ 126 = leb-true byte 126 both.1 in
    omega (arith, most)

-- ---- what is read then

abbrev answered : List ℕ → ℕ → Result (List ℕ) SchemaError × ℕ
answered name left = (Ok name, left)

pub is_read : (name rest : List ℕ) (words : ℕ) → name ≡ rest → is_name rest ≡ true → run_schema (named rest) words ≡ (Ok name, words)
unfolding named pay_for
is_read name rest words same holds = rw holds (ap (λ (t : List ℕ). answered t words) (sym same))

pub is_refused : (rest : List ℕ) (words : ℕ) → is_name rest ≡ false → run_schema (named rest) words ≡ (Err BadName, words)
unfolding named pay_for
is_refused rest words fails = rw fails refl
