-- Where clap finds no fault in the words of a command, each argument that it has found has a value, and its values pass the
-- argument's parser.
use Rattle.std.proofs.Common.{◌≡◌, ◌++◌, ◌&&◌, ◌||◌, ℕ, zero, suc, Bool, true, false, List, [], ◌∷◌, Option, Some, None, if◌then◌else◌, length, drop, fold, refl, sym, subst}
use Rattle.std.specs.Prelude.{⊤, IfSome, find, slice_get, encode_utf8, is_some}
use Rattle.std.specs.Option.{option_map_or}
use Rattle.std.specs.Str.{bytes_eq, chars}
use Rattle.std.proofs.lemmas.Slice.Eq.{bytes_eq-Decides}
use Rattle.clap.specs.Lexer.{long_of, short_of}
use Rattle.clap.specs.Facts.{explicit_source}
use Rattle.clap.specs.Words.{Row, Rule, Text, first_of}
use Rattle.clap.specs.Walk.{Held, Names, Outcome, Step, Walk, Waiting, after_flag, after_step, arg_by_id, arg_by_index, arg_by_long, arg_by_short, at_row, attached_value, bundle, bundle_met, bundle_step, default_rows, done, flag_met, has_row, idle, is_pending, long_met, long_or_other, more_values, next, nothing_held, option, option_met, option_word, plain, plain_word, positional, reacted, reading_by, refused, rows_after, settled, settled_rows, short_met, short_or_plain, subcommand, subcommand_met, subcommand_or_other, takes_several, takes_values, to_positional, trailing, used, used_by_id, value, waits, walk, walked, walked_from, walk_from, with_default, with_values, without, word_met}
use Rattle.clap.specs.Simple.{Shape}
use Rattle.clap.specs.Kinds.{or_else, values_kinds}
use Rattle.clap.specs.Faults.{bundle_fault, bundle_step_fault, check_fault, defaults_fault, flag_word_fault, flags_fault, level_fault, long_fault, option_fault, other_fault, positional_fault, react_fault, settle_fault, short_fault, step_fault, stray_fault, turn_fault, use_fault, walk_fault, word_fault}
use Rattle.clap.specs.Takes.{is_given}
use Rattle.clap.specs.Values.{refused_kind}
use Rattle.clap.specs.ValueTests.{accepts}
use Rattle.clap.specs.declared.error.ErrorKind.TheVariants as kind
use Rattle.clap.specs.declared.error.ErrorKind.{ErrorKind}
use Rattle.clap.specs.declared.parser.matches.ValueSource.{ValueSource}
use Rattle.clap.specs.declared.parser.matches.ValueSource.TheVariants.{DefaultValue}
use Rattle.clap.specs.declared.builder.value_parser.Reading.{Reading}
use Rattle.clap.specs.declared.builder.value_parser.ValueParser.{ValueParser}
use Rattle.clap.specs.declared.builder.value_parser.ValueParser.TheVariants as parser
use Rattle.command_line.specs.Parser.{count, dot, html, later, most, one_reference, start, workers}
use Rattle.command_line.proofs.Faultless.{first_none, never, then_none}

-- ---- rows that have values, which pass

-- the parser of an argument, by its id
abbrev pub parser_by : Text → ValueParser
parser_by id =
    if bytes_eq workers id then parser.Unsigned 1 64 else (if bytes_eq start id || bytes_eq count id then parser.Unsigned 0 most
    else (if bytes_eq later id || (bytes_eq one_reference id || (bytes_eq dot id || bytes_eq html id)) then parser.Bool else parser.String))

abbrev pub Passes : Text → List Text → Type 0
Passes id [] = ⊤
Passes id (v ∷ vs) = (accepts false (parser_by id) v ≡ true) × Passes id vs

-- there is a value, and each passes
abbrev pub IsFull : Text → List Text → Type 0
IsFull id [] = ⊥
IsFull id (v ∷ vs) = Passes id (v ∷ vs)

abbrev pub AreFull : List Row → Type 0
AreFull [] = ⊤
AreFull (r ∷ rows) = IsFull r.id r.values × AreFull rows

all_pass : (id : Text) (vs : List Text) → IsFull id vs → Passes id vs
all_pass id [] h = tt
all_pass id (v ∷ vs) h = h

more_pass : (id : Text) (vs ws : List Text) → Passes id vs → Passes id ws → Passes id (vs ++ ws)
more_pass id [] ws h k = k
more_pass id (v ∷ vs) ws h k = (h.0, more_pass id vs ws h.1 k)

more : (id : Text) (vs ws : List Text) → IsFull id vs → IsFull id ws → IsFull id (vs ++ ws)
more id [] ws h k = absurd h
more id (v ∷ vs) ws h k = more_pass id (v ∷ vs) ws h (all_pass id ws k)

joined : (xs ys : List Row) → AreFull xs → AreFull ys → AreFull (xs ++ ys)
joined [] ys hx hy = hy
joined (x ∷ xs) ys hx hy = (hx.0, joined xs ys hx.1 hy)

named : (r : Row) (id : Text) → bytes_eq r.id id ≡ true → r.id ≡ id
named r id is = (bytes_eq-Decides r.id id).0 is

row_full : (id : Text) (change : Row → List Row) (missing rows : List Row) → ((r : Row) → r.id ≡ id → IsFull r.id r.values → AreFull (change r)) → AreFull missing → AreFull rows
    → AreFull (at_row id change missing rows)
row_full id change missing [] changes lacks full = lacks
row_full id change missing (r ∷ rows) changes lacks full = go (bytes_eq r.id id) refl (row_full id change missing rows changes lacks full.1)
  where
    go : (b : Bool) → bytes_eq r.id id ≡ b → AreFull (at_row id change missing rows) → AreFull (if b then change r ++ rows else r ∷ at_row id change missing rows)
    go true is rest = joined (change r) rows (changes r (named r id is) full.0) full.1
    go false is rest = (full.0, rest)

without_full : (id : Text) (rows : List Row) → AreFull rows → AreFull (without id rows)
without_full id rows full = row_full id (λ _. []) [] rows (λ r is h. tt) tt full

pub values_full : (id : Text) (how : Reading) (s : ValueSource) (values : List Text) (rows : List Row) → IsFull id values → AreFull rows → AreFull (with_values id how s values rows)
values_full id how s values rows some full =
    row_full id (more_values s values) _ rows (λ r is h. (more r.id r.values values h (subst (λ i. IsFull i values) (sym is) some), tt)) (some, tt) full

pub replaced_full : (id : Text) (how : Reading) (s : ValueSource) (values : List Text) (rows : List Row) → IsFull id values → AreFull rows
    → AreFull (with_values id how s values (without id rows))
replaced_full id how s values rows some full = values_full id how s values (without id rows) some (without_full id rows full)

-- a value that a parser refuses is a fault
one_passes : (id v : Text) (k : ErrorKind) → (if accepts false (parser_by id) v then [] else k ∷ []) ≡ [] → accepts false (parser_by id) v ≡ true
one_passes id v k e = go (accepts false (parser_by id) v) e
  where
    go : (b : Bool) → (if b then [] else k ∷ []) ≡ [] → b ≡ true
    go true e = refl
    go false e = absurd (never e)

pub values_pass : (id : Text) (vs : List Text) → values_kinds false (parser_by id) vs ≡ [] → Passes id vs
values_pass id [] e = tt
values_pass id (v ∷ vs) e = (one_passes id v (refused_kind (parser_by id)) (first_none _ _ e), values_pass id vs (then_none _ _ e))

-- a row that is found has values, which pass
found_full : (id : Text) (rows : List Row) → AreFull rows → IfSome (find (λ r. bytes_eq r.id id) rows) (λ r. IsFull id r.values)
found_full id [] full = tt
found_full id (r ∷ rows) full = go (bytes_eq r.id id) refl (found_full id rows full.1)
  where
    go : (b : Bool) → bytes_eq r.id id ≡ b → IfSome (find (λ r. bytes_eq r.id id) rows) (λ r. IsFull id r.values)
        → IfSome (if b then Some r else find (λ r. bytes_eq r.id id) rows) (λ r. IsFull id r.values)
    go true is rest = subst (λ i. IsFull i r.values) (named r id is) full.0
    go false is rest = rest

-- the value that was given for an argument, or stands for it
abbrev pub HasValue : Text → List Row → Type 0
HasValue id rows = (t : Text) × (first_of id rows ≡ Some t) × (accepts false (parser_by id) t ≡ true)

first_value : (id : Text) (vs : List Text) → IsFull id vs → (t : Text) × (slice_get vs 0 ≡ Some t) × (accepts false (parser_by id) t ≡ true)
first_value id [] h = absurd h
first_value id (v ∷ vs) h = (v, refl, h.0)

-- an argument that was given has a value
pub given_value : (id : Text) (rows : List Row) → is_given id rows ≡ true → AreFull rows → HasValue id rows
given_value id rows given full = go (find (λ r. bytes_eq r.id id) rows) refl given (found_full id rows full)
  where
    go : (o : Option Row) → find (λ r. bytes_eq r.id id) rows ≡ o → option_map_or (λ r. explicit_source r.source) o false ≡ true → IfSome o (λ r. IsFull id r.values)
        → HasValue id rows
    go None is given full = absurd (cc)
    go (Some r) is given full = let v = first_value id r.values full in (v.0, rw is v.1, v.2)

-- and so has one that has a row
pub row_value : (id : Text) (rows : List Row) → has_row id rows ≡ true → AreFull rows → HasValue id rows
row_value id [] has full = absurd (cc)
row_value id (r ∷ rows) has full = go (bytes_eq r.id id) refl has (λ h. row_value id rows h full.1)
  where
    go : (b : Bool) → bytes_eq r.id id ≡ b → (b || has_row id rows) ≡ true → (has_row id rows ≡ true → HasValue id rows) → HasValue id (r ∷ rows)
    go true is has rest = let v = first_value id r.values (subst (λ i. IsFull i r.values) (named r id is) full.0) in (v.0, rw is v.1, v.2)
    go false is has rest = let v = rest has in (v.0, rw is v.1, v.2)

-- the value of an argument, if there is one, passes
pub first_passes : (id : Text) (rows : List Row) → AreFull rows → IfSome (first_of id rows) (λ t. accepts false (parser_by id) t ≡ true)
first_passes id rows full = go (find (λ r. bytes_eq r.id id) rows) refl (found_full id rows full)
  where
    go : (o : Option Row) → find (λ r. bytes_eq r.id id) rows ≡ o → IfSome o (λ r. IsFull id r.values) → IfSome (first_of id rows) (λ t. accepts false (parser_by id) t ≡ true)
    go None is full = rw is tt
    go (Some r) is full = let v = first_value id r.values full in rw (is, v.1) v.2

-- ---- defaults

-- a row that values come to is there
row_there : (id : Text) (how : Reading) (s : ValueSource) (values : List Text) (rows : List Row) → has_row id (with_values id how s values rows) ≡ true
row_there id how s values [] = rw ((bytes_eq-Decides id id).1 refl) refl
row_there id how s values (r ∷ rows) = go (bytes_eq r.id id) refl (row_there id how s values rows)
  where
    go : (b : Bool) → bytes_eq r.id id ≡ b → has_row id (with_values id how s values rows) ≡ true
        → has_row id (if b then more_values s values r ++ rows else r ∷ with_values id how s values rows) ≡ true
    go true same rest = rw same refl
    go false same rest = rw same rest

-- so an argument with a default has a row
pub default_row : (a : Rule) (v : Text) (vs : List Text) (rows : List Row) → a.defaults ≡ v ∷ vs → has_row a.id (with_default rows a) ≡ true
default_row a v vs rows is = go (has_row a.id rows) refl
  where
    go : (b : Bool) → has_row a.id rows ≡ b → has_row a.id (if b then rows else default_rows a.id (reading_by a) a.defaults rows) ≡ true
    go true has = has
    go false has = rw is (row_there a.id (reading_by a) DefaultValue (v ∷ vs) rows)

-- one without changes nothing
pub no_default : (a : Rule) (rows : List Row) → a.defaults ≡ [] → with_default rows a ≡ rows
no_default a rows is = go (has_row a.id rows)
  where
    go : (b : Bool) → (if b then rows else default_rows a.id (reading_by a) a.defaults rows) ≡ rows
    go true = refl
    go false = rw is refl

-- ---- the walk

-- each use of the argument that has no fault brings a value
abbrev pub Brings : Bool → Rule → Type 0
Brings again a = (values : List Text) (rows : List Row) → use_fault again a values rows ≡ [] → AreFull rows → AreFull (used a values rows)

abbrev pub AllBring : Bool → List Rule → Type 0
AllBring again [] = ⊤
AllBring again (a ∷ rules) = Brings again a × Passes a.id a.defaults × AllBring again rules

met : (again : Bool) (test : Rule → Bool) (rules : List Rule) → AllBring again rules → IfSome (find test rules) (Brings again)
met again test [] all = tt
met again test (a ∷ rules) all = go (test a) (met again test rules all.2)
  where
    go : (b : Bool) → IfSome (find test rules) (Brings again) → IfSome (if b then Some a else find test rules) (Brings again)
    go true rest = all.0
    go false rest = rest

default_full : (rows : List Row) (a : Rule) → Passes a.id a.defaults → AreFull rows → AreFull (with_default rows a)
default_full rows a passes full = go (has_row a.id rows)
  where
    else_full : (vs : List Text) → Passes a.id vs → AreFull (default_rows a.id (reading_by a) vs rows)
    else_full [] passes = full
    else_full (v ∷ vs) passes = values_full a.id (reading_by a) _ (v ∷ vs) rows passes full

    go : (b : Bool) → AreFull (if b then rows else default_rows a.id (reading_by a) a.defaults rows)
    go true = full
    go false = else_full a.defaults passes

defaults_full : (again : Bool) (rules : List Rule) (rows : List Row) → AllBring again rules → AreFull rows → AreFull (fold with_default rows rules)
defaults_full again [] rows all full = full
defaults_full again (a ∷ rules) rows all full = defaults_full again rules (with_default rows a) all.2 (default_full rows a all.1 full)

module _ (s : Shape) (all : AllBring s.args_override_self s.rules) where
  abbrev c : List Rule
  c = s.rules

  abbrev again : Bool
  again = s.args_override_self

  used_full : (o : Option Rule) (values : List Text) (rows : List Row) → IfSome o (Brings again) → option_map_or (λ a. use_fault again a values rows) o [] ≡ [] → AreFull rows
      → AreFull (used_by_id o values rows)
  used_full None values rows brings e full = full
  used_full (Some a) values rows brings e full = brings values rows e full

  settled_full : (h : Held) → settle_fault c again h ≡ [] → AreFull h.rows → AreFull (settled c h).rows
  settled_full h e full = go h.pending e
    where
      go : (p : Option (Text × List Text)) → option_map_or (λ p. option_map_or (λ a. use_fault again a p.1 h.rows) (arg_by_id c p.0) []) p [] ≡ []
          → AreFull (settled_rows c p h.rows)
      go None e = full
      go (Some p) e = used_full (arg_by_id c p.0) p.1 h.rows (met again _ c all) e full

  reacted_full : (a : Rule) → Brings again a → (values : List Text) (h : Held) → react_fault c again a values h ≡ [] → AreFull h.rows → AreFull (reacted c a values h).rows
  reacted_full a brings values h e full = brings values (settled c h).rows (then_none (settle_fault c again h) _ e) (settled_full h (first_none (settle_fault c again h) _ e) full)

  option_full : (a : Rule) → Brings again a → (v : Option Text) (h : Held) → option_fault c again a v h ≡ [] → AreFull h.rows → AreFull (option_met c a v h).0.rows
  option_full a brings (Some v) h e full = reacted_full a brings (v ∷ []) h e full
  option_full a brings None h e full = settled_full h e full

  long_full : (o : Option Rule) → IfSome o (Brings again) → (v : Option Text) (h : Held) → long_fault c again o v h ≡ [] → AreFull h.rows → AreFull (long_met c o v h).0.rows
  long_full None brings v h e full = full
  long_full (Some a) brings v h e full = go (takes_values a) v e
    where
      go : (b : Bool) (v : Option Text) → (if b then option_fault c again a v h else (if is_some v then kind.TooManyValues ∷ [] else react_fault c again a [] h)) ≡ []
          → AreFull (if b then option_met c a v h else flag_met c a v h).0.rows
      go true v e = option_full a brings v h e full
      go false (Some t) e = full
      go false None e = reacted_full a brings [] h e full

  -- the characters after one of a bundle
  abbrev Goes : ℕ → Type 0
  Goes k = (flags : Text) (skip : ℕ) (so_far : Outcome) (h : Held) → flags_fault c again k flags skip h ≡ [] → AreFull h.rows
      → AreFull (bundle_met c k flags skip so_far h).0.rows

  flag_full : (k : ℕ) → Goes k → (rest : Text) (h : Held) (o : Option Rule) → IfSome o (Brings again) → AreFull h.rows
      → short_fault c again o rest h (flags_fault c again k rest 0) ≡ [] → AreFull (short_met c o rest h (bundle_met c k rest 0 done)).0.rows
  flag_full k goes rest h None brings full e = full
  flag_full k goes rest h (Some a) brings full e = go (takes_values a) e
    where
      go : (b : Bool) → (if b then option_fault c again a (attached_value rest) h else or_else (react_fault c again a [] h) (flags_fault c again k rest 0 (reacted c a [] h))) ≡ []
          → AreFull (if b then option_met c a (attached_value rest) h else bundle_met c k rest 0 done (reacted c a [] h)).0.rows
      go true e = option_full a brings (attached_value rest) h e full
      go false e = goes rest 0 done (reacted c a [] h) (then_none (react_fault c again a [] h) _ e)
          (reacted_full a brings [] h (first_none (react_fault c again a [] h) _ e) full)

  bundle_full : (k : ℕ) → Goes k
  unfolding flags_fault bundle_met
  bundle_full zero flags skip so_far h e full = full
  bundle_full (suc k) flags skip so_far h e full = go (slice_get (chars flags) 0) skip (bundle_full k) e
    where
      go : (o : Option ℕ) (skip : ℕ) → Goes k → bundle_step_fault c again o flags skip h (flags_fault c again k) ≡ []
          → AreFull (bundle_step c o flags skip so_far h (bundle_met c k)).0.rows
      go None skip goes e = full
      go (Some x) zero goes e = flag_full k goes (drop (length (encode_utf8 x)) flags) h (arg_by_short c x) (met again _ c all) full e
      go (Some x) (suc skip) goes e = goes (drop (length (encode_utf8 x)) flags) skip so_far h e full

  plain_rows : (waiting : Waiting) (word : Text) (h : Held) → (plain_word c waiting word h).0.rows ≡ h.rows
  plain_rows idle word h = refl
  plain_rows positional word h = refl
  plain_rows (option id) word h = go (arg_by_id c id)
    where
      go : (o : Option Rule) → (option_word o id word h).0.rows ≡ h.rows
      go None = refl
      go (Some a) = refl

  after_rows : (waiting : Waiting) (word : Text) (h : Held) (o : Outcome) → (after_flag c waiting word h o).0.rows ≡ h.rows
  after_rows waiting word h done = refl
  after_rows waiting word h (waits id) = refl
  after_rows waiting word h plain = plain_rows waiting word h
  after_rows waiting word h refused = plain_rows waiting word h

  after_full : (waiting : Waiting) (word : Text) (p : Held × Outcome) → AreFull p.0.rows → AreFull (after_flag c waiting word p.0 p.1).0.rows
  after_full waiting word p full = subst AreFull (sym (after_rows waiting word p.0 p.1)) full

  dash_full : (waiting : Waiting) (word : Text) (named : Option (Text × Option Text)) (h : Held) → flag_word_fault c again named word h ≡ [] → AreFull h.rows
      → AreFull (long_or_other c waiting word named h).0.rows
  dash_full waiting word (Some p) h e full = after_full waiting word (long_met c (arg_by_long c p.0) p.1 h) (long_full (arg_by_long c p.0) (met again _ c all) p.1 h e full)
  dash_full waiting word None h e full = go (short_of word) e
    where
      go : (o : Option Text) → option_map_or (λ flags. bundle_fault c again flags h) o [] ≡ [] → AreFull (short_or_plain c waiting word o h).0.rows
      go None e = subst AreFull (sym (plain_rows waiting word h)) full
      go (Some flags) e = after_full waiting word (bundle c flags h) (bundle_full (length flags) flags h.skip plain (record h { skip = 0 }) e full)

  other_full : (o : Option Text) (waiting : Waiting) (n : ℕ) (word : Text) (h : Held) → other_fault s o word h ≡ [] → AreFull h.rows
      → AreFull (subcommand_or_other c o waiting n word h).0.rows
  other_full (Some name) waiting n word h e full = full
  other_full None waiting n word h e full = go (bytes_eq word (45 ∷ 45 ∷ [])) e
    where
      go : (b : Bool) → (if b then [] else flag_word_fault c again (long_of word) word h) ≡ []
          → AreFull (if b then (h, trailing n) else long_or_other c waiting word (long_of word) h).0.rows
      go true e = full
      go false e = dash_full waiting word (long_of word) h e full

  word_full : (names : Names) (w : Walk) (word : Text) → word_fault s names w.is_trailing w.waiting word w.held ≡ [] → AreFull w.held.rows
      → AreFull (word_met c names w.is_trailing w.waiting w.position word w.held).0.rows
  word_full names w word e full = go w.is_trailing e
    where
      go : (b : Bool) → word_fault s names b w.waiting word w.held ≡ [] → AreFull (word_met c names b w.waiting w.position word w.held).0.rows
      go true e = full
      go false e = other_full (subcommand_met names w.waiting word) w.waiting w.position word w.held e full

  step_full : (w : Walk) (word : Text) (h : Held) (step : Step) → step_fault s w.position h step ≡ [] → AreFull h.rows → AreFull (after_step c word w h step).held.rows
  step_full w word h (next waiting) e full = full
  step_full w word h (trailing position) e full = full
  step_full w word h (subcommand name) e full = full
  step_full w word h value e full = go (arg_by_index c w.position) e
    where
      held : (a : Rule) (b : Bool) → (if b then [] else settle_fault c again h) ≡ [] → AreFull (if b then h else settled c h).rows
      held a true e = full
      held a false e = settled_full h e full

      go : (o : Option Rule) → option_map_or (λ a. positional_fault c again a h) o (stray_fault s) ≡ [] → AreFull (to_positional c o word w h).held.rows
      go None e = full
      go (Some a) e = held a (is_pending a h.pending && takes_several a) e

  turn_full : (names : Names) (w : Walk) (word : Text) → turn_fault s names w word ≡ [] → AreFull w.held.rows → AreFull (walked c names w word).held.rows
  unfolding walked
  turn_full names w word e full = go w.stopped e
    where
      met_by : Held × Step
      met_by = word_met c names w.is_trailing w.waiting w.position word w.held

      go : (o : Option (Text × List Text)) → (if is_some o then [] else or_else (word_fault s names w.is_trailing w.waiting word w.held) (step_fault s w.position met_by.0 met_by.1)) ≡ []
          → AreFull (walked_from c names o w word).held.rows
      go (Some p) e = full
      go None e =
          let first = first_none (word_fault s names w.is_trailing w.waiting word w.held) _ e in
          step_full w word met_by.0 met_by.1 (then_none (word_fault s names w.is_trailing w.waiting word w.held) _ e) (word_full names w word first full)

  walk_full : (names : Names) (w : Walk) (words : List Text) → walk_fault s names w words ≡ [] → AreFull w.held.rows → AreFull (fold (walked c names) w words).held.rows
  unfolding walk_fault
  walk_full names w [] e full = full
  walk_full names w (word ∷ words) e full =
      walk_full names (walked c names w word) words (then_none (turn_fault s names w word) _ e) (turn_full names w word (first_none (turn_fault s names w word) _ e) full)

  -- a command without a fault has full rows, and the last checks find nothing
  pub level_full : (names : Names) (words : List Text) → level_fault s names nothing_held words false [] ≡ []
      → AreFull (rows_after c names words) × (check_fault s (rows_after c names words) false ≡ [])
  level_full names words e =
      let end = (walk c names nothing_held words).held in
      let walks = first_none (walk_fault s names (walk_from nothing_held) words) _ e in
      let after = then_none (walk_fault s names (walk_from nothing_held) words) _ e in
      let settles = first_none (settle_fault c again end) _ after in
      let ends = then_none (settle_fault c again end) _ after in (
        defaults_full again c (settled c end).rows all (settled_full end settles (walk_full names (walk_from nothing_held) words walks tt)),
        then_none (defaults_fault (settled c end).rows c) _ ends,
      )
