-- For the code's contracts, and no part of the meaning: the table of calls, and what it answers.
use Rattle.std.specs.Prelude.{ℕ, ◌==◌, ◌&&◌, Bool, true, false, Option, Some, None, if◌then◌else◌, option_map, option_and_then}
use Rattle.std.specs.BTreeMap.{get}
use Rattle.std.specs.Ordering.{nat_cmp}
use Rattle.std.specs.Str.{bytes_eq as same_path}
use Rattle.rising_table.specs.Entries.{entry_at}
use Rattle.number_tables.specs.declared.call_table.Calls.{Calls}
use Rattle.number_tables.specs.declared.call_state.CallState.{CallState}
use Rattle.number_tables.specs.declared.call_state.CallEntry.{CallEntry}
use Rattle.number_tables.specs.declared.call_state.CallChange.{CallChange}
use Rattle.number_tables.specs.declared.call_state.CallChange.TheVariants.{Left, Delivered, Faulted, Answered, Known}
use Rattle.number_tables.specs.Types.{View, Object, Promise, FieldOf, Import, Request}

-- what is known of a call with this entry that asked for this, while it is at the vat
abbrev pub call_state_in : Option Request → CallEntry → CallState
call_state_in asked entry = record { asked = asked; at_vat = entry.at_vat; served = entry.served; settled = entry.settled; known = entry.known }

-- what the table keeps of what a call asked for
abbrev pub request_kept_at : Calls → ℕ → Option Request
request_kept_at table c = get nat_cmp table.requests c

-- what the table has of a call
abbrev pub call_state_at : Calls → ℕ → Option CallState
call_state_at table c = option_map (call_state_in (request_kept_at table c)) (entry_at table.entries c)

-- what a call's entry says of it
abbrev pub request_in : Option CallState → Option Request
request_in (Some p) = p.asked
request_in None = None

abbrev pub goal_in : Option CallState → Option View
goal_in progress = option_and_then (λ a. a.goal) (request_in progress)

abbrev pub at_vat_in : Option CallState → Bool
at_vat_in (Some p) = p.at_vat
at_vat_in None = false

abbrev pub served_in : Option CallState → Bool
served_in (Some p) = p.served
served_in None = false

abbrev pub settled_in : Option CallState → Bool
settled_in (Some p) = p.settled
settled_in None = false

abbrev pub known_in : Option CallState → Bool
known_in (Some p) = p.known
known_in None = false

-- a call to which this happens is at the vat no longer
abbrev pub leaves : CallChange → Bool
leaves Left = true
leaves Delivered = true
leaves Faulted = true
leaves Answered = false
leaves Known = false

-- what is kept of what it asked for
abbrev pub request_after : CallChange → Option Request → Option Request
request_after step asked = if leaves step then None else asked

-- how far a call has come after this happened to it, and what it asked for, while it is at the vat
abbrev pub after_change : CallChange → CallState → CallState
after_change Left p = record p { asked = None; at_vat = false }
after_change Delivered p = record p { asked = None; at_vat = false; served = true }
after_change Faulted p = record p { asked = None; at_vat = false; settled = true }
after_change Answered p = record p { settled = true; known = true }
after_change Known p = record p { known = true }

-- two views are one
abbrev pub same_view : View → View → Bool
same_view (Object a) (Object b) = a == b
same_view (Promise a) (Promise b) = a == b
same_view (FieldOf a p) (FieldOf b q) = (a == b) && same_path p q
same_view (Import a p) (Import b q) = (a == b) && (p == q)
same_view _ _ = false

-- the same of what may be none
abbrev pub same_target : Option View → Option View → Bool
same_target (Some a) (Some b) = same_view a b
same_target None None = true
same_target _ _ = false
