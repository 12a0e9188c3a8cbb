-- The words after the name of a command that reads one thing.
use Rattle.std.proofs.Common.{◌≡◌, ◌⊎◌, ◌∙◌, ◌==◌, ◌||◌, ℕ, Bool, true, false, List, [], ◌∷◌, Option, Some, None, if◌then◌else◌, length, drop, codes, refl, sym, ap, subst, inl, inr}
use Rattle.std.specs.Prelude.{slice_get, encode_utf8, unwrap_or}
use Rattle.std.specs.Option.{option_map_or}
use Rattle.std.specs.Str.{bytes_eq, chars}
use Rattle.std.proofs.lemmas.Slice.Eq.{bytes_eq-Decides}
use Rattle.clap.specs.Lexer.{long_of, short_of}
use Rattle.clap.specs.Words.{Rule, Text, Kinds, built, first_of}
use Rattle.clap.specs.Walk.{Held, Names, Step, Walk, after_step, finished, idle, rows_after, value, arg_by_long, arg_by_short, after_flag, bundle_met, bundle_step, nothing_held, plain, long_or_other, short_or_plain, trailing, walked, word_met}
use Rattle.clap.specs.Simple.{Shape, filled, help_rule, names_of}
use Rattle.clap.specs.Faults.{bundle_step_fault, bundle_fault, flag_word_fault, flags_fault, level_fault, long_fault, react_fault, settle_fault, short_fault, step_fault, turn_fault, walk_fault, word_fault}
use Rattle.clap.specs.declared.error.ErrorKind.TheVariants.{DisplayHelp}
use Rattle.clap.proofs.OnLiterals.{clap_on_literals}
use Rattle.command_line.proofs.Faultless.{first_none, never, then_none}
use Rattle.command_line.specs.Parser.{input, program, reader}

abbrev pub dashes : Text
dashes = codes "--"

-- ---- the flags, of which a command has --help alone

abbrev pub help : Rule
help = filled help_rule

-- what is held while an argument may wait
abbrev pub holding : Option (Text × List Text) → Held
holding p = record { rows = []; pending = p; skip = 0 }

module _ (c : List Rule) (longs : (name : Text) → arg_by_long c name ≡ (if bytes_eq (codes "help") name || false then Some help else None))
    (shorts : (x : ℕ) → arg_by_short c x ≡ (if (104 == x) || false then Some help else None)) (p : Option (Text × List Text)) where
  long_fails : (name : Text) (v : Option Text) → long_fault c false (arg_by_long c name) v (holding p) ≡ [] → ⊥
  long_fails name v e = go (bytes_eq (codes "help") name) v (rw longs at e)
    where
      go : (b : Bool) (v : Option Text) → long_fault c false (if b || false then Some help else None) v (holding p) ≡ [] → ⊥
      go true (Some t) e = never e
      go true None e = never (then_none (settle_fault c false (holding p)) (DisplayHelp ∷ []) e)
      go false v e = never e

  -- a first character of a bundle
  short_fails : (x : ℕ) (rest : Text) (next : Held → Kinds) → short_fault c false (arg_by_short c x) rest (holding p) next ≡ [] → ⊥
  short_fails x rest next e = go (104 == x) (rw shorts at e)
    where
      go : (b : Bool) → short_fault c false (if b || false then Some help else None) rest (holding p) next ≡ [] → ⊥
      go true e = never (then_none (settle_fault c false (holding p)) (DisplayHelp ∷ []) (first_none (react_fault c false help [] (holding p)) _ e))
      go false e = never e

  -- a word that isn't refused is no flag
  short_plain : (word : Text) (flags : Option Text) → option_map_or (λ f. bundle_fault c false f (holding p)) flags [] ≡ []
      → short_or_plain c idle word flags (holding p) ≡ (holding p, value)
  unfolding flags_fault bundle_met
  short_plain word None e = refl
  short_plain word (Some []) e = refl
  short_plain word (Some (x ∷ xs)) e = go (slice_get (chars (x ∷ xs)) 0) e
    where
      go : (o : Option ℕ) → bundle_step_fault c false o (x ∷ xs) 0 (holding p) (flags_fault c false (length xs)) ≡ []
          → after_flag c idle word (bundle_step c o (x ∷ xs) 0 plain (holding p) (bundle_met c (length xs))).0 (bundle_step c o (x ∷ xs) 0 plain (holding p) (bundle_met c (length xs))).1
          ≡ (holding p, value)
      go None e = refl
      go (Some ch) e = absurd (short_fails ch (drop (length (encode_utf8 ch)) (x ∷ xs)) (flags_fault c false (length xs) (drop (length (encode_utf8 ch)) (x ∷ xs)) 0) e)

  long_plain : (word : Text) (named : Option (Text × Option Text)) → flag_word_fault c false named word (holding p) ≡ []
      → long_or_other c idle word named (holding p) ≡ (holding p, value)
  long_plain word (Some q) e = absurd (long_fails q.0 q.1 e)
  long_plain word None e = short_plain word (short_of word) e

  -- a word that isn't refused where nothing waits is `--`, or goes to a positional
  pub word_plain : (n : ℕ) (word : Text) → (if bytes_eq word dashes then [] else flag_word_fault c false (long_of word) word (holding p)) ≡ []
      → (word ≡ dashes) ⊎ (word_met c [] false idle n word (holding p) ≡ (holding p, value))
  word_plain n word e = go (bytes_eq word dashes) refl e
    where
      go : (b : Bool) → bytes_eq word dashes ≡ b → (if b then [] else flag_word_fault c false (long_of word) word (holding p)) ≡ []
          → (word ≡ dashes) ⊎ ((if b then (holding p, trailing n) else long_or_other c idle word (long_of word) (holding p)) ≡ (holding p, value))
      go true is e = inl ((bytes_eq-Decides word dashes).0 is)
      go false is e = inr (long_plain word (long_of word) e)

-- ---- the words after the name of a command that reads one thing

abbrev pub main : Shape
main = (built program).top

abbrev pub names : Names
names = names_of (built program)

-- where the walk stands between two words
abbrev pub at : Option (Text × List Text) → ℕ → Bool → Walk
at p n ended = record { held = holding p; waiting = idle; position = n; is_trailing = ended; stopped = None }

-- the one thing has come
abbrev pub given : Text → Option (Text × List Text)
given file = Some (input, file ∷ [])

-- the words are the one thing, with `--` before or after it or not at all
abbrev pub HasFile : List Text → Text → Type 0
HasFile words file = (words ≡ file ∷ []) ⊎ ((words ≡ dashes ∷ file ∷ []) ⊎ (words ≡ file ∷ dashes ∷ []))

module _ (name : Text) where
  abbrev pub sub : Shape
  sub = record (unwrap_or (slice_get (built program).subs 5) (reader name).top) { name = name }

  sub_longs : (name : Text) → arg_by_long sub.rules name ≡ (if bytes_eq (codes "help") name || false then Some help else None)
  sub_longs name = refl

  sub_shorts : (x : ℕ) → arg_by_short sub.rules x ≡ (if (104 == x) || false then Some help else None)
  sub_shorts x = refl

  first_word : (f : Text) → turn_fault sub [] (at None 1 false) f ≡ []
      → (f ≡ dashes) ⊎ (walked sub.rules [] (at None 1 false) f ≡ at (given f) 2 false)
  unfolding walked
  first_word f e = elim (word_plain sub.rules sub_longs sub_shorts None 1 f (first_none (word_fault sub [] false idle f (holding None)) _ e)) [
    | inl d ↦ inl d
    | inr met ↦ inr (ap (λ (m : Held × Step). after_step sub.rules f (at None 1 false) m.0 m.1) met)
  ]

  second_word : (f g : Text) → turn_fault sub [] (at (given f) 2 false) g ≡ [] → g ≡ dashes
  second_word f g e =
      let met = word_met sub.rules [] false idle 2 g (holding (given f)) in
      let stray : step_fault sub 2 met.0 met.1 ≡ [] = then_none (word_fault sub [] false idle g (holding (given f))) (step_fault sub 2 met.0 met.1) e in
      elim (word_plain sub.rules sub_longs sub_shorts (given f) 2 g (first_none (word_fault sub [] false idle g (holding (given f))) _ e)) [
        | inl d ↦ d
        | inr is ↦ absurd (never (sym (ap (λ (m : Held × Step). step_fault sub 2 m.0 m.1) is) ∙ stray))
      ]

  -- and so they are read
  abbrev pub IsRead : List Text → Text → Type 0
  IsRead words file = HasFile words file × (first_of input (rows_after sub.rules [] words) ≡ Some file)

  abbrev file_in : Walk → Option Text
  file_in w = first_of input (finished sub.rules w.held)

  one_word : (f : Text) → level_fault sub [] nothing_held (f ∷ []) false [] ≡ [] → IsRead (f ∷ []) f
  unfolding clap_on_literals
  one_word f e =
      let walks : walk_fault sub [] (at None 1 false) (f ∷ []) ≡ [] = first_none _ _ e in
      elim (first_word f (first_none (turn_fault sub [] (at None 1 false) f) _ walks)) [
        | inl d ↦ absurd (never (subst (λ w. level_fault sub [] nothing_held (w ∷ []) false [] ≡ []) d e))
        | inr w ↦ (inl refl, ap file_in w)
      ]

  two_words : (f g : Text) → level_fault sub [] nothing_held (f ∷ g ∷ []) false [] ≡ [] → (file : Text) × IsRead (f ∷ g ∷ []) file
  unfolding clap_on_literals
  two_words f g e =
      let walks : walk_fault sub [] (at None 1 false) (f ∷ g ∷ []) ≡ [] = first_none _ _ e in
      let more : walk_fault sub [] (walked sub.rules [] (at None 1 false) f) (g ∷ []) ≡ [] = then_none (turn_fault sub [] (at None 1 false) f) _ walks in
      elim (first_word f (first_none (turn_fault sub [] (at None 1 false) f) _ walks)) [
        | inl d ↦ (g, (inr (inl (ap (λ w. w ∷ g ∷ []) d)), ap (λ (w : Text). first_of input (rows_after sub.rules [] (w ∷ g ∷ []))) d))
        | inr w ↦
            let last : walk_fault sub [] (at (given f) 2 false) (g ∷ []) ≡ [] = subst (λ (x : Walk). walk_fault sub [] x (g ∷ []) ≡ []) w more in
            let d : g ≡ dashes = second_word f g (first_none (turn_fault sub [] (at (given f) 2 false) g) _ last) in (
              f,
              (
                inr (inr (ap (λ x. f ∷ x ∷ []) d)),
                ap (λ (x : Walk). file_in (walked sub.rules [] x g)) w ∙ ap (λ (x : Text). file_in (walked sub.rules [] (at (given f) 2 false) x)) d,
              ),
            )
      ]

  more_words : (f g h : Text) (rest : List Text) → level_fault sub [] nothing_held (f ∷ g ∷ h ∷ rest) false [] ≡ [] → ⊥
  unfolding clap_on_literals
  more_words f g h rest e =
      let walks : walk_fault sub [] (at None 1 false) (f ∷ g ∷ h ∷ rest) ≡ [] = first_none _ _ e in
      let more : walk_fault sub [] (walked sub.rules [] (at None 1 false) f) (g ∷ h ∷ rest) ≡ [] = then_none (turn_fault sub [] (at None 1 false) f) _ walks in
      elim (first_word f (first_none (turn_fault sub [] (at None 1 false) f) _ walks)) [
        | inl d ↦ never (subst (λ (w : Text). walk_fault sub [] (at None 1 false) (w ∷ g ∷ h ∷ rest) ≡ []) d walks)
        | inr w ↦
            let last : walk_fault sub [] (at (given f) 2 false) (g ∷ h ∷ rest) ≡ [] = subst (λ (x : Walk). walk_fault sub [] x (g ∷ h ∷ rest) ≡ []) w more in
            let d : g ≡ dashes = second_word f g (first_none (turn_fault sub [] (at (given f) 2 false) g) _ last) in
            never (subst (λ (x : Text). walk_fault sub [] (at (given f) 2 false) (x ∷ h ∷ rest) ≡ []) d last)
      ]

  pub words_read : (words : List Text) → level_fault sub [] nothing_held words false [] ≡ [] → (file : Text) × IsRead words file
  unfolding clap_on_literals
  words_read [] e = absurd (never e)
  words_read (f ∷ []) e = (f, one_word f e)
  words_read (f ∷ g ∷ []) e = two_words f g e
  words_read (f ∷ g ∷ h ∷ rest) e = absurd (more_words f g h rest e)
