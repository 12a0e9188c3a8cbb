-- Reading numbers one after another, as a loop does.
use Rattle.std.proofs.Common.{◌≡◌, ℕ, suc, ◌+◌, ◌-◌, ◌<◌, ◌≤◌, List, [], ◌∷◌, ◌++◌, Result, Ok, Err, refl, sym, ap, ◌∙◌, append_assoc, arith}
use Rattle.std.proofs.lemmas.List.{append-nil}
use Rattle.cap_reader.specs.Reading.{Reading, done, and_then, pay_for, each}
use Rattle.cap_reader.specs.Glue.{with_front}
use Rattle.schema_names.specs.declared.schema_error.SchemaError.{SchemaError}
use Rattle.schema_names.specs.declared.schema_error.SchemaError.TheVariants as errors
use Rattle.schema_names.specs.Reading.{run_schema}
use Rattle.schema_names.specs.Glue.{RefusesSchema}
use Rattle.schema_names.proofs.Running.{and_run, run_then}

abbrev answered : {A : Type 0} → List A → ℕ → Result (List A) SchemaError × ℕ
answered xs left = (Ok xs, left)

ok_is : {A : Type 0} (x y : List A) → ◌≡◌ {A = Result (List A) SchemaError} (Ok x) (Ok y) → x ≡ y
ok_is x y e = cc

not_ok : {A : Type 0} (e : SchemaError) (y : List A) → ◌≡◌ {A = Result (List A) SchemaError} (Err e) (Ok y) → ⊥
not_ok e y h = cc

regroup : {A : Type 0} (front xs : List A) (rest : Result (List A) SchemaError) (left : ℕ) → with_front front (and_run (rest, left) (λ others. done (xs ++ others))) ≡ with_front (front ++ xs) (rest, left)
unfolding pay_for
regroup front xs (Ok others) left = ap (λ (all : List _). answered all left) (sym (append_assoc front xs others))
regroup front xs (Err e) left = refl

module _ {A : Type 0} (f : ℕ → Reading SchemaError (List A)) where
  abbrev onwards : ℕ → ℕ → List A → Reading SchemaError (List A)
  onwards i n first = and_then (each f (i + 1) n) (λ others. done (first ++ others))

  step : (front : List A) (i n words : ℕ) → with_front front (run_schema (each f i (suc n)) words) ≡ with_front front (and_run (run_schema (f i) words) (onwards i n))
  unfolding each
  step front i n words = ap (with_front front) (run_then (f i) (onwards i n) words)

  rest : (front xs : List A) (i n left : ℕ) → with_front front (run_schema (onwards i n xs) left) ≡ with_front (front ++ xs) (run_schema (each f (i + 1) n) left)
  rest front xs i n left =
      ap (with_front front) (run_then (each f (i + 1) n) (λ others. done (xs ++ others)) left) ∙ regroup front xs (run_schema (each f (i + 1) n) left).0 (run_schema (each f (i + 1) n) left).1

  -- one more was read
  pub goes_on : (front found : List A) (count i words left : ℕ) (total : Result (List A) SchemaError × ℕ) → i < count → run_schema (f i) words ≡ (Ok found, left)
      → with_front front (run_schema (each f i (count - i)) words) ≡ total → with_front (front ++ found) (run_schema (each f (i + 1) (count - (i + 1))) left) ≡ total
  goes_on front found count i words left total lt h so_far =
      let k : count - i ≡ suc (count - (i + 1)) = omega arith in
      let one : with_front front (run_schema (each f i (count - i)) words) ≡ with_front (front ++ found) (run_schema (each f (i + 1) (count - (i + 1))) left) =
      rw k (step front i (count - (i + 1)) words ∙ ap (λ (ran : Result (List A) SchemaError × ℕ). with_front front (and_run ran (onwards i (count - (i + 1))))) h ∙ rest front found i (count - (i + 1)) left) in
      sym one ∙ so_far

  failed : (front : List A) (i n left : ℕ) (e : SchemaError) (first : Result (List A) SchemaError × ℕ) → RefusesSchema e left first → RefusesSchema e left (with_front front (and_run first (onwards i n)))
  failed front i n left errors.OutOfMemory first p = tt
  failed front i n left (errors.Read e) first p = rw p refl
  failed front i n left errors.NoNodes first p = rw p refl
  failed front i n left errors.BadName first p = rw p refl
  failed front i n left (errors.Frame e) first p = rw p refl

  -- one wasn't read
  pub ends : (e : SchemaError) (front : List A) (count i words left : ℕ) (total : Result (List A) SchemaError × ℕ) → i < count → RefusesSchema e left (run_schema (f i) words)
      → with_front front (run_schema (each f i (count - i)) words) ≡ total → RefusesSchema e left total
  ends e front count i words left total lt h so_far =
      let k : count - i ≡ suc (count - (i + 1)) = omega arith in
      let one : with_front front (and_run (run_schema (f i) words) (onwards i (count - (i + 1)))) ≡ total = sym (rw k (step front i (count - (i + 1)) words)) ∙ so_far in
      rw one at (failed front i (count - (i + 1)) left e (run_schema (f i) words) h)

  -- all were read
  pub is_done : (front : List A) (count i words : ℕ) (total : Result (List A) SchemaError × ℕ) → count ≤ i → with_front front (run_schema (each f i (count - i)) words) ≡ total → total ≡ (Ok front, words)
  unfolding each pay_for
  is_done front count i words total le so_far =
      let k : count - i ≡ 0 = omega arith in
      let one : with_front front (run_schema (each f i (count - i)) words) ≡ (Ok front, words) = rw k (ap (λ (xs : List A). answered xs words) (append-nil front)) in
      sym so_far ∙ one

-- none was read yet
pub no_front : {A : Type 0} (ran : Result (List A) SchemaError × ℕ) → with_front [] ran ≡ ran
no_front (Ok found, left) = refl
no_front (Err e, left) = refl

-- ---- readings of one value each

-- a reading of one value, as a list of one
abbrev pub alone : {A : Type 0} → (ℕ → Reading SchemaError A) → ℕ → Reading SchemaError (List A)
alone f i = and_then (f i) (λ value. done (value ∷ []))

module _ {A : Type 0} (f : ℕ → Reading SchemaError A) (i words left : ℕ) where
  pub one : (value : A) → run_schema (f i) words ≡ (Ok value, left) → run_schema (alone f i) words ≡ (Ok (value ∷ []), left)
  unfolding pay_for
  one value h =
      run_then (f i) (λ value. done (value ∷ [])) words ∙ ap (λ (ran : Result A SchemaError × ℕ). and_run ran (λ value. done (value ∷ []))) h

  alone_fails : (e : SchemaError) (ran : Result A SchemaError × ℕ) → RefusesSchema e left ran → RefusesSchema e left (and_run ran (λ value. done (value ∷ [])))
  alone_fails errors.OutOfMemory ran p = tt
  alone_fails (errors.Read e) ran p = rw p refl
  alone_fails errors.NoNodes ran p = rw p refl
  alone_fails errors.BadName ran p = rw p refl
  alone_fails (errors.Frame e) ran p = rw p refl

  pub none : (e : SchemaError) → RefusesSchema e left (run_schema (f i) words) → RefusesSchema e left (run_schema (alone f i) words)
  none e h = rw (run_then (f i) (λ value. done (value ∷ [])) words) (alone_fails e (run_schema (f i) words) h)
