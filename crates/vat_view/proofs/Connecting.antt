-- The table of connections after a record, and what it says.
use Rattle.std.proofs.Common.{◌≡◌, refl, ◌∙◌, ap, ap₂, ℕ, ◌∷◌, Bool, true, false, Option, Some, if◌then◌else◌}
use Rattle.std.specs.Prelude.{◌||◌, is_some}
use Rattle.std.specs.Option.{option_or}
use Rattle.vat_view.specs.declared.tables.connections.Connections.{Connections}
use Rattle.vat_view.specs.Types.{Bootstrap, Call, DecodedRecord, Wire}
use Rattle.decoded_records.specs.Past.{Past, Point, point, is}
use Rattle.vat_view.specs.Connections.{aborted_by, aborts, abort_sent_on, asks}
use Rattle.vat_view.specs.Glue.ConnectionTables.{call_sent_on, on_for, asked_at, aborted_at, aborted_here_at, AreConnected}

-- ---- one record

asking_known : (c : ℕ) (e : DecodedRecord) → on_for c (call_sent_on e) ≡ asks c e
asking_known c (Wire true k d rs (Bootstrap q)) = refl
asking_known c (Wire true k d rs (Call head target params)) = refl
asking_known c _ = refl

passed_either : (b : Bool) (p : Point) (o : Option Point) → (b || is_some o) ≡ is_some (if b then Some p else o)
passed_either true p o = refl
passed_either false p o = refl

-- ---- tables

-- a table that says the same
pub record SaysSame (table other : Connections) : Type 0 where
  pub asked : (c : ℕ) → asked_at other c ≡ asked_at table c
  pub aborted : (k : ℕ) → aborted_at other k ≡ aborted_at table k
  pub aborted_here : (k : ℕ) → aborted_here_at other k ≡ aborted_here_at table k

pub connected_same : (past : Past) (table other : Connections) → SaysSame table other → AreConnected past table → AreConnected past other
connected_same past table other same kept = record {
  asked = λ c. same.asked c ∙ kept.asked c;
  aborted = λ k. same.aborted k ∙ kept.aborted k;
  aborted_here = λ k. same.aborted_here k ∙ kept.aborted_here k;
}

-- a table that says what a record adds
pub record SaysMore (e : DecodedRecord) (table other : Connections) : Type 0 where
  pub asked : (c : ℕ) → asked_at other c ≡ option_or (on_for c (call_sent_on e)) (asked_at table c)
  pub aborted : (k : ℕ) → aborted_at other k ≡ (is k (aborted_by e) || aborted_at table k)
  pub aborted_here : (k : ℕ) → aborted_here_at other k ≡ (is k (abort_sent_on e) || aborted_here_at table k)

pub connected_more : (before : Past) (e : DecodedRecord) (table other : Connections) → SaysMore e table other → AreConnected before table → AreConnected (e ∷ before) other
connected_more before e table other more kept = record {
  asked = λ c. more.asked c ∙ ap₂ (λ x y. option_or x y) (asking_known c e) (kept.asked c);
  aborted = λ k. more.aborted k ∙ ap (λ b. aborts k e || b) (kept.aborted k) ∙ passed_either (aborts k e) (point before e) _;
  aborted_here = λ k. more.aborted_here k ∙ ap (λ b. is k (abort_sent_on e) || b) (kept.aborted_here k) ∙ passed_either (is k (abort_sent_on e)) (point before e) _;
}

-- after one more record, for which room was made
pub connected_applied : (before : Past) (e : DecodedRecord) (table room more : Connections) → SaysSame table room → SaysMore e room more → AreConnected before table → AreConnected (e ∷ before) more
connected_applied before e table room more says adds kept = connected_more before e room more adds (connected_same before table room says kept)

-- the table as it was
pub says_itself : (table : Connections) → SaysSame table table
says_itself table = record { asked = λ c. refl; aborted = λ k. refl; aborted_here = λ k. refl }
