-- The run of a row of records: each record takes a step, after the steps of those before it.
use Rattle.std.specs.Prelude.{ℕ, List, [], ◌∷◌, Bool, false, Option, Some, reverse, filter, filter_map, map, slice_get, option_and_then, option_map, ◌≡◌, ◌≢◌, ◌==◌}
use Rattle.agree.specs.Points.{GoesOn, AtEach}
use Rattle.agree.specs.Rows.{Row, log_of_vat, received_stream, sent_stream, FitsAt}
use Rattle.agree.specs.Streams.{passing}
use Rattle.call_trace.specs.Carried.{IsCarried}
use Rattle.call_trace.specs.Naming.{naming}
use Rattle.call_trace.specs.Part.{reference_named, step_said, PairsOff}
use Rattle.call_trace.specs.Said.{all_there}
use Rattle.call_trace.specs.Types.{RpcMessage, DecodedRecord, Wire, Message, Step}
use Rattle.run_model.specs.Legal.{IsLegal}
use Rattle.run_model.specs.Links.{IsLinked, sent_to, receives_on}
use Rattle.run_model.specs.Steps.{count_steps, vat_of}
use Rattle.run_model.specs.Steps.{EachStep}
use Rattle.vat_rules.specs.Judged.{IsGood}
use Rattle.decoded_records.specs.Past.{Past, Each}
use Rattle.run_model.specs.declared.step.Step.TheVariants as step

-- the message that a vat receives next on a connection: the n-th that was sent to it there, if it has received n
abbrev pub coming_next : ℕ → ℕ → List Step → Option Message
coming_next v k before = slice_get (filter_map (sent_to v k) (reverse before)) (count_steps (receives_on v k) before)

-- the step of a vat that receives this message, and binds what the references noted beside it are bound to
abbrev pub step_received : ℕ → Past → List Step → DecodedRecord → ℕ → List ℕ → Message → Option Step
step_received v es steps e k references m =
    let names = naming v (e ∷ es) (step.Receive v k m [] ∷ steps) in
    option_map (λ bound. step.Receive v k m bound) (all_there (map (reference_named names (e ∷ es)) references))

-- the step that a record takes, after the records and steps of its vat, and all steps before: it receives the message that
-- comes next; or it is what the record says, which no name that the step itself gives makes another
abbrev pub step_of : ℕ → Past → List Step → List Step → DecodedRecord → Option Step
step_of v es steps before (Wire false k c references m) =
    option_and_then (step_received v es steps (Wire false k c references m) k references) (coming_next v k before)
step_of v es steps before e = step_said (naming v (e ∷ es) (step.Host v 0 ∷ steps)) es e

-- the steps of a vat, of these
abbrev pub steps_by : ℕ → List Step → List Step
steps_by v before = filter (λ s. vat_of s == v) before

-- the steps of a row of records, the newest first
abbrev pub steps_of_row : Row → Option (List Step)
steps_of_row [] = Some []
steps_of_row ((v, e) ∷ row) =
    option_and_then (λ before. option_map (λ s. s ∷ before) (step_of v (log_of_vat v row) (steps_by v before) before e)) (steps_of_row row)

-- two logs, each paired with its steps and good, of which each received in the run what the other sent as it was sent
pub record AreMet (k v : ℕ) (one : Past) (its_steps : List Step) (w : ℕ) (other : Past) (other_steps : List Step) : Type 0 where
  pub one_paired : PairsOff v one its_steps
  pub other_paired : PairsOff w other other_steps
  pub one_good : Each IsGood one
  pub other_good : Each IsGood other
  pub there : IsCarried k one its_steps other other_steps
  pub back : IsCarried k other other_steps one its_steps

-- a row of records and its steps: step for record, each log paired with its vat's steps, each step legal and by its link
pub record IsNamedRow (row : Row) (before : List Step) : Type 0 where
  pub by_row : map vat_of before ≡ map (λ r. r.0) row
  pub paired : (v : ℕ) → PairsOff v (log_of_vat v row) (steps_by v before)
  pub legal : EachStep IsLegal before
  pub linked : EachStep IsLinked before

-- a record is sent or received on a connection
abbrev pub Passes : ℕ → DecodedRecord → Type 0
Passes k e = (sent : Bool) × (m : RpcMessage) × (passing k sent e ≡ Some m)

-- a vat uses a connection in a row: it sent or received there
abbrev pub IsUser : ℕ → ℕ → Row → Type 0
IsUser k v row = (before : Row) × (e : DecodedRecord) × GoesOn row ((v, e) ∷ before) × Passes k e

-- a record is good after those of its vat
abbrev pub IsGoodNext : Row → ℕ × DecodedRecord → Type 0
IsGoodNext before r = IsGood (log_of_vat r.0 before) r.1

-- a row of records that has a run: each record is good; what is received comes where the others sent more; a connection has
-- two users at most, and what either received there is the beginning of what the other sent
pub record MayRun (row : Row) : Type 0 where
  pub good : AtEach IsGoodNext row
  pub fits : (k : ℕ) → AtEach (FitsAt k) row
  pub two_ends : (k v w u : ℕ) → IsUser k v row → IsUser k w row → IsUser k u row → v ≢ w → v ≢ u → w ≡ u
  pub linked : (k v w : ℕ) → IsUser k v row → IsUser k w row → v ≢ w → GoesOn (sent_stream k w row) (received_stream k v row)
