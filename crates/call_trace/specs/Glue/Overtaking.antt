-- For the code's contracts, and no part of the meaning: tables of places in a run, and when they are those of its
-- deliveries and of what overtakes its calls. A place is how many steps there are up to it.
use Rattle.std.specs.Prelude.{◌≡◌, ℕ, ◌==◌, ◌&&◌, ◌||◌, List, Bool, false, Option, Some, None, drop, max, reverse, nat_lt, nat_le, unwrap_or, if◌then◌else◌}
use Rattle.std.specs.List.{list_any}
use Rattle.std.specs.Ordering.{nat_cmp, ordering_then}
use Rattle.std.specs.declared.cmp.Ordering.{Ordering}
use Rattle.std.specs.BTreeMap.{get}
use Rattle.std.specs.Option.{option_map}
use Rattle.rising_table.specs.Entries.{entry_at}
use Rattle.run_model.specs.Early.{overtakes}
use Rattle.run_model.specs.Legal.{delivers_call}
use Rattle.run_model.specs.declared.step.Step.TheVariants.{Deliver}
use Rattle.call_trace.specs.Types.{Name, Step}
use Rattle.call_trace.specs.declared.latest.Latest.{Latest}

-- by vat, then by number
abbrev pub vat_number_cmp : ℕ × ℕ → ℕ × ℕ → Ordering
vat_number_cmp x y = ordering_then (nat_cmp x.0 y.0) (nat_cmp x.1 y.1)

-- the place that a vat's table has of a number
abbrev pub latest_place_in : List (ℕ × ℕ) → ℕ → ℕ
latest_place_in places number = unwrap_or (entry_at places number) 0

-- the latest place that was noted for a number of a vat
abbrev pub latest_of : Latest → ℕ → ℕ → ℕ
latest_of table vat number = unwrap_or (option_map (λ places. latest_place_in places number) (get nat_cmp table.vats vat)) 0

-- one place was noted
abbrev pub IsPlaceNoted : ℕ → ℕ → ℕ → Latest → Latest → Type 0
IsPlaceNoted vat number place old new = (v n : ℕ) → latest_of new v n ≡ (if (vat == v) && (number == n) then max place (latest_of old v n) else latest_of old v n)

-- the table says where each call is delivered last: behind so many steps it is delivered where the table says a later
-- place
abbrev pub AreDeliveries : List Step → Latest → Type 0
AreDeliveries run table = (c : Name) (k : ℕ) → nat_lt k (latest_of table c.maker c.number) ≡ list_any (delivers_call c) (drop k run)

-- the table says until where each call is overtaken: one of the steps behind so many overtakes it where the table says a
-- later place
abbrev pub AreOvertaken : List Step → Latest → Type 0
AreOvertaken run table = (c : Name) (k : ℕ) → nat_lt k (latest_of table c.maker c.number) ≡ list_any (overtakes (reverse run) c) (drop k run)

-- the step delivers a call, and this place is before the one that the table says of it
abbrev pub goes_before : Latest → ℕ → Step → Bool
goes_before table place (Deliver v c object) = nat_lt place (latest_of table c.maker c.number)
goes_before table place _ = false

-- the least of what is known and one more, by vat, then by number
abbrev pub least_place_with : Option (ℕ × ℕ) → ℕ × ℕ → ℕ × ℕ
least_place_with None place = place
least_place_with (Some known) place = if nat_lt known.0 place.0 || ((known.0 == place.0) && nat_le known.1 place.1) then known else place
