-- A text that is written letter by letter, in lines.
use Rattle.std.proofs.Common.{◌≡◌, ◌∙◌, ℕ, ◌+◌, ◌<◌, ◌≤◌, Bool, true, false, cond, List, ◌∷◌, ◌++◌, length, drop, get_or, sym, ap, arith, append_assoc}
use Rattle.std.specs.Prelude.{encode_utf8}
use Rattle.std.proofs.Output.{has_written_append}
use Rattle.std.proofs.lemmas.List.{at_drop_more}
use Rattle.std.specs.Fmt.{HasWritten, IsPlainFormatter}
use Rattle.std.specs.declared.fmt.Formatter.{Formatter}
use Rattle.picture.specs.Picture.{line_end, wrapped}
use Rattle.picture.specs.Rows.{ends_line}

module _ {W : Type 0} (took : W → List ℕ → W → Type 0) where
  -- the letters up to an index were written, of which so many stand in the last line
  pub record Wraps (text : List ℕ) (i at : ℕ) (old now : Formatter W) : Type 0 where
    pub few : at ≤ i
    pub done : List ℕ
    pub wrote : IsPlainFormatter old → HasWritten took old done now
    pub whole : done ++ wrapped at (drop i text) ≡ wrapped 0 text

  one_further : (text : List ℕ) (i at d e : ℕ) (b : Bool) → i < length text → d ≡ get_or text i e → b ≡ ends_line at d
      → wrapped at (drop i text) ≡ cond b (line_end ++ wrapped 0 (drop (i + 1) text)) (encode_utf8 d ++ wrapped (at + 1) (drop (i + 1) text))
  one_further text i at d e b lt is ends =
      at_drop_more (wrapped at) text i e lt ∙ ap (λ x. wrapped at (x ∷ drop (i + 1) text)) (sym is)
      ∙ ap (λ t. cond t (line_end ++ wrapped 0 (drop (i + 1) text)) (encode_utf8 d ++ wrapped (at + 1) (drop (i + 1) text))) (sym ends)

  further : (text : List ℕ) (i at d next : ℕ) (part : List ℕ) (old now after : Formatter W) → next ≤ i + 1 → wrapped at (drop i text) ≡ part ++ wrapped next (drop (i + 1) text)
      → Wraps text i at old now → (IsPlainFormatter now → HasWritten took now part after) → Wraps text (i + 1) next old after
  further text i at d next part old now after few is so_far more = record {
    few = few;
    done = so_far.done ++ part;
    wrote = λ plain.
        let before = so_far.wrote plain in
        has_written_append took old so_far.done now part after before (more before.plain);
    whole = append_assoc so_far.done part (wrapped next (drop (i + 1) text)) ∙ ap (λ t. so_far.done ++ t) (sym is) ∙ so_far.whole;
  }

  -- a line ends
  pub ended : (text : List ℕ) (i at d e : ℕ) (b : Bool) (old now after : Formatter W) → i < length text → d ≡ get_or text i e → b ≡ ends_line at d → b ≡ true
      → Wraps text i at old now → (IsPlainFormatter now → HasWritten took now line_end after) → Wraps text (i + 1) 0 old after
  ended text i at d e b old now after lt is ends holds so_far more =
      further text i at d 0 line_end old now after (omega arith)
      (one_further text i at d e b lt is ends ∙ ap (λ t. cond t (line_end ++ wrapped 0 (drop (i + 1) text)) (encode_utf8 d ++ wrapped (at + 1) (drop (i + 1) text))) holds)
      so_far more

  -- a letter more in the line
  pub added : (text : List ℕ) (i at d e : ℕ) (b : Bool) (old now after : Formatter W) → i < length text → d ≡ get_or text i e → b ≡ ends_line at d → b ≡ false
      → Wraps text i at old now → (IsPlainFormatter now → HasWritten took now (encode_utf8 d) after) → Wraps text (i + 1) (at + 1) old after
  added text i at d e b old now after lt is ends fails so_far more =
      let few = so_far.few in
      further text i at d (at + 1) (encode_utf8 d) old now after (omega (arith, few))
      (one_further text i at d e b lt is ends ∙ ap (λ t. cond t (line_end ++ wrapped 0 (drop (i + 1) text)) (encode_utf8 d ++ wrapped (at + 1) (drop (i + 1) text))) fails)
      so_far more
