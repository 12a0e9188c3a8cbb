-- For the code's contracts, and no part of the meaning: the table of the names of calls that came to a vat, and when it is
-- that of the vat's records and steps.
use Rattle.std.specs.BTreeMap.{get}
use Rattle.std.specs.Ordering.{nat_cmp, ordering_then}
use Rattle.std.specs.Prelude.{◌≡◌, ◌==◌, ◌&&◌, ℕ, List, true, false, Option, Some, None, if◌then◌else◌, unwrap_or}
use Rattle.std.specs.declared.cmp.Ordering.{Ordering}
use Rattle.call_order.specs.declared.names_of_calls.Names.{Names}
use Rattle.call_trace.specs.Naming.{call_named}
use Rattle.call_trace.specs.Types.{Name, Step}
use Rattle.run_model.specs.Steps.{call}
use Rattle.decoded_records.specs.Bindings.{is_bound_call}
use Rattle.decoded_records.specs.Calls.{is_at_vat}
use Rattle.decoded_records.specs.Past.{Past}

-- by vat, then by number
abbrev pub call_key_cmp : ℕ × ℕ → ℕ × ℕ → Ordering
call_key_cmp x y = ordering_then (nat_cmp x.0 y.0) (nat_cmp x.1 y.1)

-- the name with which a call came to a vat, where it is still known
abbrev pub name_come : Names → ℕ → ℕ → Option Name
name_come names v c = get call_key_cmp names.came (v, c)

-- the name of a call of a vat: that one, or else that of a call of the vat's own
abbrev pub name_in : Names → ℕ → ℕ → Name
name_in names v c = unwrap_or (name_come names v c) (call v c)

-- a call came to a vat with this name
abbrev pub IsCome : ℕ → ℕ → Name → Names → Names → Type 0
IsCome v c name old new = (w d : ℕ) → name_come new w d ≡ (if (v == w) && (c == d) then Some name else name_come old w d)

-- a call left a vat
abbrev pub IsLeft : ℕ → ℕ → Names → Names → Type 0
IsLeft v c old new = (w d : ℕ) → name_come new w d ≡ (if (v == w) && (c == d) then None else name_come old w d)

-- the calls that are at a vat have their names, and a number that is bound to no call has none
pub record AreNamed (v : ℕ) (es : Past) (own : List Step) (names : Names) : Type 0 where
  pub here : (c : ℕ) → is_at_vat c es ≡ true → call_named v es own c ≡ Some (name_in names v c)
  pub unbound : (c : ℕ) → is_bound_call es c ≡ false → name_come names v c ≡ None
