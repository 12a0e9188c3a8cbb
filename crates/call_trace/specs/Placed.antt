-- Calls at a vat: what its log says that they ask for, and what they ask for in the run.
use Rattle.std.specs.Prelude.{◌≡◌, ℕ, List, Option, Some, IsSomeAnd, option_and_then}
use Rattle.call_trace.specs.Types.{View, Name, Cap, Step}
use Rattle.call_trace.specs.Naming.{call_named, cap_named}
use Rattle.run_model.specs.Places.{Asked, at_vat}
use Rattle.decoded_records.specs.Calls.{request_of}
use Rattle.decoded_records.specs.Past.{Past}
use Rattle.decoded_records.specs.declared.request.Request.{Request as AskedOf}

-- what a log says that a call asks for is this: the goal by its name, and interface and method
abbrev pub AsksFor : (View → Option Cap) → Asked → AskedOf → Type 0
AsksFor names here a = (option_and_then names a.goal ≡ Some here.goal) × (here.interface ≡ a.interface) × (here.method ≡ a.method)

-- a call of a log has a name, and in the run the call of that name is at the log's vat, and asks there for what the log says
pub record IsThere (v : ℕ) (es : Past) (steps before : List Step) (c : ℕ) : Type 0 where
  pub name : Name
  pub here : Asked
  pub named : call_named v es steps c ≡ Some name
  pub there : at_vat before name v ≡ Some here
  pub asks : IsSomeAnd (request_of c es) (AsksFor (cap_named v es steps) here)
