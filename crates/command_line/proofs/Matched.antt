-- What clap's matches hold.
use Rattle.std.proofs.Common.{◌≡◌, ◌⊎◌, ◌∙◌, ◌∷◌, ℕ, Bool, Result, Ok, Err, IfOk, IsErrAnd, true, inl, inr, List, [], Option, Some, None, IsSome, option_map, refl, sym, ap, ap₂, subst}
use Rattle.clap.specs.Words.{App, HasKind, HasMatchesOf, Kinds, Row, Text, is_simple, is_simple_and_free, kind_of, first_of, all_of, first_value, fault_of, found_of, matched_of, raw_values, rows_of, subcommand_name_of, subcommand_of, subcommand_rows_of}
use Rattle.clap.specs.declared.ArgMatches.{ArgMatches}
use Rattle.clap.specs.Kinds.{FailsBy}
use Rattle.clap.specs.declared.Error.{Error}
use Rattle.clap.specs.declared.error.ErrorKind.TheVariants.{OutOfMemory, ValueValidation}
use Rattle.clap.proofs.OnLiterals.{clap_on_literals}
use Rattle.clap.proofs.WalkLemmas.{first_value-rows, raw_values-rows}
use Rattle.command_line.proofs.Faultless.{never}
use Rattle.command_line.proofs.Named.{Named, Reader, name_of, reading, same_command, word_of}
use Rattle.command_line.proofs.Reading.{Besides, reads}
use Rattle.command_line.specs.Parser.{input, program}
use Rattle.command_line.specs.Spelled.{AreMatchesOf, IsChecked, IsNumber, IsRead, SpellsOne, is_set}

pub some_same : {A : Type 0} {x y : A} → Some x ≡ Some y → x ≡ y
some_same e = cc

map_twice : {A B C : Type 0} (f : B → C) (g : A → B) (o : Option A) → option_map f (option_map g o) ≡ option_map (λ x. f (g x)) o
map_twice f g None = refl
map_twice f g (Some x) = refl

name_in_rows : (m : ArgMatches) → subcommand_name_of m ≡ option_map (λ (p : Text × List Row). p.0) (subcommand_rows_of m)
name_in_rows m = sym (map_twice (λ (p : Text × List Row). p.0) _ _)

-- the subcommand's name and rows, where it has them
rows_read : (read : Option (Text × List Row)) (name : Text) (rows : List Row) → Some name ≡ option_map (λ p. p.0) read → Some rows ≡ option_map (λ p. p.1) read → read ≡ Some (name, rows)
rows_read None name rows named same = absurd (cc)
rows_read (Some p) name rows named same =
    let this : name ≡ p.0 = cc in
    let these : rows ≡ p.1 = cc in
    ap₂ (λ (n : Text) (rs : List Row). Some (n, rs)) (sym this) (sym these)

-- a command that was matched, with what it reads
pub record Matches (words : List Text) (name : Text) (given : ArgMatches) : Type 0 where
  pub command : Named
  pub rows : List Row
  pub named : name ≡ name_of command
  pub faultless : fault_of program words ≡ []
  pub read : subcommand_of program words ≡ Some (name_of command, rows)
  pub file : Text
  pub has_file : first_of input rows ≡ Some file
  pub besides : Besides command words rows file
  pub each : (id : Text) → first_value (found_of given) id ≡ first_of id rows
  pub all : (id : Text) → option_map raw_values (matched_of (found_of given) id) ≡ all_of id rows

pub matched : (words : List Text) (m given : ArgMatches) (name : Text) → AreMatchesOf words m → Some name ≡ subcommand_name_of m
    → Some (rows_of (found_of given)) ≡ option_map (λ p. p.1) (subcommand_rows_of m) → Matches words name given
matched words m given name are named rows =
    let r = reads words are.0 in
    let read : Some (name, rows_of (found_of given)) ≡ Some (name_of r.0, r.1.0) =
    sym (rows_read (subcommand_rows_of m) name (rows_of (found_of given)) (named ∙ name_in_rows m) rows) ∙ are.1 ∙ r.1.1.0 in
    let pair : (name, rows_of (found_of given)) ≡ (name_of r.0, r.1.0) = some_same read in
    record {
      command = r.0;
      rows = r.1.0;
      named = ap (λ (q : Text × List Row). q.0) pair;
      faultless = are.0;
      read = r.1.1.0;
      file = r.1.1.1.0;
      has_file = r.1.1.1.1.0;
      besides = r.1.1.1.1.1;
      each = λ id. first_value-rows (found_of given) id ∙ ap (λ (q : Text × List Row). first_of id q.1) pair;
      all = λ id. raw_values-rows (found_of given) id ∙ ap (λ (q : Text × List Row). all_of id q.1) pair;
    }

-- matches always have a subcommand
pub has_subcommand : (words : List Text) (m : ArgMatches) → AreMatchesOf words m → None ≡ subcommand_name_of m → ⊥
has_subcommand words m are none =
    let r = reads words are.0 in
    let some : None ≡ Some (name_of r.0) = none ∙ name_in_rows m ∙ ap (option_map (λ (p : Text × List Row). p.0)) (are.1 ∙ r.1.1.0) in
    cc

pub is_some_by : {A : Type 0} (o : Option A) (x : A) → o ≡ Some x → IsSome o
is_some_by None x e = cc
is_some_by (Some y) x e = refl

module _ {words : List Text} {name : Text} {given : ArgMatches} (m : Matches words name given) where
  -- the one thing is there
  pub input_there : IsSome (first_value (found_of given) input)
  input_there = is_some_by (first_value (found_of given) input) m.file (m.each input ∙ m.has_file)

  command_is : (c : Named) → name ≡ name_of c → m.command ≡ c
  command_is c is = same_command m.command c (sym m.named ∙ is)

  -- and what else the command of this name reads
  pub besides_of : (c : Named) → name ≡ name_of c → Besides c words m.rows m.file
  besides_of c is = subst (λ (k : Named). Besides k words m.rows m.file) (command_is c is) m.besides

  pub read_as : (c : Named) → name ≡ name_of c → IsRead words (name_of c) m.rows
  read_as c is = (m.faultless, subst (λ (k : Named). subcommand_of program words ≡ Some (name_of k, m.rows)) (command_is c is) m.read)

  pub thing_is : (thing : Text) → first_value (found_of given) input ≡ Some thing → first_of input m.rows ≡ Some thing
  thing_is thing is = sym (m.each input) ∙ is

  pub number_as : (id : Text) (number : Option ℕ) → IsNumber (first_value (found_of given) id) number → IsNumber (first_of id m.rows) number
  number_as id number is = subst (λ (o : Option Text). IsNumber o number) (m.each id) is

  pub set_as : (id : Text) (set : Bool) → is_set (first_value (found_of given) id) ≡ set → is_set (first_of id m.rows) ≡ set
  set_as id set is = ap is_set (sym (m.each id)) ∙ is

  pub checked_as : (least last : ℕ) (id : Text) → IsChecked least last (first_of id m.rows) → IsChecked least last (first_value (found_of given) id)
  checked_as least last id is = subst (IsChecked least last) (sym (m.each id)) is

  pub spells_one : (r : Reader) (thing : Text) → name ≡ word_of r → first_value (found_of given) input ≡ Some thing → SpellsOne (word_of r) words thing
  spells_one r thing named is =
      let same : m.file ≡ thing = some_same (sym m.has_file ∙ thing_is thing is) in
      subst (λ (f : Text). SpellsOne (word_of r) words f) same (besides_of (reading r) named)

-- ---- a parse of the program

pub fails_by : (app : App) (words : List Text) (r : Result ArgMatches Error) → app ≡ program → (is_simple_and_free app ≡ true → FailsBy (fault_of app words) r) → FailsBy (fault_of program words) r
unfolding clap_on_literals
fails_by app words r is kinds =
    let free : is_simple_and_free app ≡ true = ap is_simple_and_free is in
    subst (λ (a : App). FailsBy (fault_of a words) r) is (kinds free)

pub matches_by : (app : App) (words : List Text) (r : Result ArgMatches Error) → app ≡ program → (is_simple_and_free app ≡ true → FailsBy (fault_of app words) r)
    → IfOk r (HasMatchesOf app words) → IfOk r (AreMatchesOf words)
unfolding clap_on_literals
matches_by app words (Err e) is kinds found = tt
matches_by app words (Ok m) is kinds found =
    let simple : is_simple app ≡ true = ap is_simple is in
    (fails_by app words (Ok m) is kinds, (found simple).1 ∙ ap (λ (a : App). subcommand_of a words) is)

-- only out of memory fails where clap finds no fault in the words
pub fails_by_memory : (words others : List Text) (e : Error) → HasKind (fault_of program words) e → words ≡ others → fault_of program others ≡ [] → kind_of e ≡ OutOfMemory
fails_by_memory words others e has same none =
    elim (subst (λ (ks : Kinds). HasKind ks e) (ap (fault_of program) same ∙ none) has) [ inl memory ↦ memory | inr h ↦ absurd h ]

-- or a refused value, where that is what it finds
pub fails_by_value : (words others : List Text) (e : Error) → HasKind (fault_of program words) e → words ≡ others → fault_of program others ≡ ValueValidation ∷ []
    → (kind_of e ≡ OutOfMemory) ⊎ (kind_of e ≡ ValueValidation)
fails_by_value words others e has same fault =
    elim (subst (λ (ks : Kinds). HasKind ks e) (ap (fault_of program) same ∙ fault) has) [ inl memory ↦ inl memory | inr (inl value) ↦ inr value | inr (inr h) ↦ absurd h ]

-- which no words have that clap takes
pub refused_never : (words others : List Text) → fault_of program words ≡ [] → words ≡ others → fault_of program others ≡ ValueValidation ∷ [] → ⊥
refused_never words others none same fault = never (sym (ap (fault_of program) same ∙ fault) ∙ none)

-- an error that is handed on is another of its kind
pub handed_on : {T : Type 0} (r : Result T Error) (e : Error) (P : Error → Type 0) → IsErrAnd r (λ y. y ≡ e) → P e → IsErrAnd r P
handed_on (Ok x) e P is p = is
handed_on (Err y) e P is p = subst P (sym is) p
