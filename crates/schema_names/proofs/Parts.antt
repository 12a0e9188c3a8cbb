-- Readings of trees as parts of the reading of a schema.
use Rattle.std.proofs.Common.{◌≡◌, ℕ, ◌-◌, Bool, true, false, cond, List, Option, Some, None, Result, Ok, Err, refl, ap, ◌∙◌}
use Rattle.std.specs.Prelude.{nat_lt}
use Rattle.std.specs.Option.{option_map}
use Rattle.cap_reader.specs.declared.place.StructAt.{StructAt}
use Rattle.cap_reader.specs.declared.place.ListAt.{ListAt}
use Rattle.cap_reader.specs.declared.read_error.ReadError.{ReadError}
use Rattle.cap_reader.specs.declared.read_error.ReadError.TheVariants as reads
use Rattle.cap_reader.specs.Tree.{Tree}
use Rattle.cap_reader.specs.Reading as trees
use Rattle.cap_reader.specs.Reading.{Reading, done, fault, visit, and_then, pay_for, structure_in, root_in, elements_in, or_default, Elements}
use Rattle.cap_reader.specs.Places.{sections_at, elements_at}
use Rattle.cap_reader.proofs.Running.{going_on, run_then, root_found, root_refused}
use Rattle.schema_names.specs.declared.schema_error.SchemaError.{SchemaError}
use Rattle.schema_names.specs.declared.schema_error.SchemaError.TheVariants as errors
use Rattle.schema_names.specs.Reading.{schema_part, run_schema, schema_struct_in, schema_list_in, or_empty_list, schema_fault_of}
use Rattle.schema_names.specs.Glue.{RefusesSchema, elements_listed}

abbrev as_schema : {A : Type 0} → Result A ReadError → Result A SchemaError
as_schema (Ok x) = Ok x
as_schema (Err e) = Err (errors.Read e)

abbrev seen : {A : Type 0} → Result A ReadError × ℕ → Result A SchemaError × ℕ
seen ran = (as_schema ran.0, ran.1)

branch : {A : Type 0} (b : Bool) (words : ℕ) (x : Result A ReadError × ℕ) (y : Result A SchemaError × ℕ) → y ≡ seen x → cond b (Err (errors.Read reads.TooMuch), words) y ≡ seen (cond b (Err reads.TooMuch, words) x)
branch true words x y p = refl
branch false words x y p = p

-- a part is paid for as the reading of the tree is
part_run : {A : Type 0} (reading : Reading ReadError A) (words : ℕ) → run_schema (schema_part reading) words ≡ seen (trees.run reading words)
unfolding schema_part pay_for
part_run (done value) words = refl
part_run (fault e) words = refl
part_run (visit cost rest) words = branch (nat_lt words cost) words (trees.run rest (words - cost)) (run_schema (schema_part rest) (words - cost)) (part_run rest (words - cost))

module _ {A : Type 0} (reading : Reading ReadError A) (words left : ℕ) where
  pub part_answers : (value : A) → trees.run reading words ≡ (Ok value, left) → run_schema (schema_part reading) words ≡ (Ok value, left)
  part_answers value h = part_run reading words ∙ ap (λ (ran : Result A ReadError × ℕ). seen ran) h

  refused : (e : ReadError) → trees.run reading words ≡ (Err e, left) → run_schema (schema_part reading) words ≡ (Err (errors.Read e), left)
  refused e h = part_run reading words ∙ ap (λ (ran : Result A ReadError × ℕ). seen ran) h

  pub part_fails : (e : ReadError) → trees.run reading words ≡ (Err e, left) → RefusesSchema (schema_fault_of e) left (run_schema (schema_part reading) words)
  part_fails reads.OutOfMemory h = tt
  part_fails reads.OutOfSegment h = refused reads.OutOfSegment h
  part_fails reads.NoSegment h = refused reads.NoSegment h
  part_fails reads.BadPad h = refused reads.BadPad h
  part_fails reads.WrongKind h = refused reads.WrongKind h
  part_fails reads.NoZero h = refused reads.NoZero h
  part_fails reads.Reserved h = refused reads.Reserved h
  part_fails reads.TooDeep h = refused reads.TooDeep h
  part_fails reads.TooMuch h = refused reads.TooMuch h

-- ---- structs and lists

module _ (segments : List (List ℕ)) (tree : Tree) (words left : ℕ) where
  pub struct_found : (place : StructAt) → trees.run (structure_in tree) words ≡ (Ok (Some (sections_at segments place)), left) → run_schema (schema_struct_in tree) words ≡ (Ok (sections_at segments place), left)
  struct_found place h = part_answers (root_in tree) words left (sections_at segments place) (root_found tree words left (Some (sections_at segments place)) h)

  pub struct_refused : (e : ReadError) → trees.run (structure_in tree) words ≡ (Err e, left) → RefusesSchema (schema_fault_of e) left (run_schema (schema_struct_in tree) words)
  struct_refused e h = part_fails (root_in tree) words left e (root_refused tree words left e h)

  abbrev empty_or : Option Elements → Reading ReadError Elements
  empty_or found = done (or_empty_list found)

  list_read : (found : Option Elements) → trees.run (elements_in tree) words ≡ (Ok found, left) → trees.run (and_then (elements_in tree) empty_or) words ≡ (Ok (or_empty_list found), left)
  unfolding pay_for
  list_read found h =
      run_then reads.TooMuch (elements_in tree) empty_or words ∙ ap (λ (ran : Result (Option Elements) ReadError × ℕ). going_on reads.TooMuch ran.0 ran.1 empty_or) h

  pub list_found : (found : Option ListAt) → trees.run (elements_in tree) words ≡ (Ok (option_map (elements_at segments) found), left) → run_schema (schema_list_in tree) words ≡ (Ok (elements_listed segments found), left)
  list_found None h = part_answers (and_then (elements_in tree) empty_or) words left (or_empty_list None) (list_read None h)
  list_found (Some list) h = part_answers (and_then (elements_in tree) empty_or) words left (elements_at segments list) (list_read (Some (elements_at segments list)) h)

  pub list_refused : (e : ReadError) → trees.run (elements_in tree) words ≡ (Err e, left) → RefusesSchema (schema_fault_of e) left (run_schema (schema_list_in tree) words)
  unfolding pay_for
  list_refused e h =
      part_fails (and_then (elements_in tree) empty_or) words left e
      (run_then reads.TooMuch (elements_in tree) empty_or words ∙ ap (λ (ran : Result (Option Elements) ReadError × ℕ). going_on reads.TooMuch ran.0 ran.1 empty_or) h)
