-- When an order of the records of several logs fits: each step takes the next record of the vat that it names, no frame is
-- received before it is sent, and all records are used up.
use Rattle.std.specs.Prelude.{◌≡◌, ℕ, ◌+◌, ◌<◌, ◌==◌, suc, Bool, true, false, not, IsTrue, List, [], ◌∷◌, length, map, take, count_by, filter, find, sum_by, Option, Some, None, if◌then◌else◌, nat_lt, nat_le, slice_get}
use Rattle.std.specs.List.{list_all}
use Rattle.std.specs.List.Sorted.{IsStrictlyIncreasing}
use Rattle.std.specs.Option.{option_map}
use Rattle.vat_log.specs.Log.{Log}
use Rattle.vat_log.specs.declared.body.Body.{Body}
use Rattle.vat_log.specs.declared.body.Body.TheVariants.{Receive}
use Rattle.vat_log.specs.Passages.{sends_frame, receives_frame}
use Rattle.merge_order.specs.declared.order_check.OrderFinding.{OrderFinding}
use Rattle.merge_order.specs.declared.order_check.OrderFinding.TheVariants as findings

-- a log, and how many of its records came already
pub record Part : Type 0 where
  pub log : Log
  pub came : ℕ

-- the frames that a vat sent on the connection before
abbrev pub sent_so_far : ℕ → Part → ℕ
sent_so_far connection part = count_by (sends_frame connection) (take part.came part.log.records)

-- the frames that a vat received on the connection before
abbrev pub received_so_far : ℕ → Part → ℕ
received_so_far connection part = count_by (receives_frame connection) (take part.came part.log.records)

-- the part of a vat
abbrev pub part_of : ℕ → List Part → Option Part
part_of vat parts = find (λ part. part.log.vat == vat) parts

-- the frames that all vats but this one sent on the connection before
abbrev pub sent_by_the_others : ℕ → ℕ → List Part → ℕ
sent_by_the_others vat connection parts = sum_by (sent_so_far connection) (filter (λ part. not (part.log.vat == vat)) parts)

-- The next record of a vat may come, if there is one: a RECV where the others sent more frames on the connection than the
-- vat received there, any other record always.
abbrev pub may_come_behind : ℕ → List Part → Part → Option Body → Bool
may_come_behind vat parts own None = false
may_come_behind vat parts own (Some (Receive connection call references frame)) = nat_lt (received_so_far connection own) (sent_by_the_others vat connection parts)
may_come_behind vat parts own (Some _) = true

-- the same, where the vat has a log
abbrev pub may_come_from : ℕ → List Part → Option Part → Bool
may_come_from vat parts None = false
may_come_from vat parts (Some own) = may_come_behind vat parts own (slice_get own.log.records own.came)

-- a step of this vat may come
unfoldable pub may_come : List Part → ℕ → Bool
may_come parts vat = may_come_from vat parts (part_of vat parts)

-- one record further, if the part is the vat's
unfoldable pub further : ℕ → Part → Part
further vat part = if part.log.vat == vat then record { log = part.log; came = part.came + 1 } else part

-- the parts after a step of this vat, which may come
abbrev pub after : ℕ → List Part → List Part
after vat parts = map (further vat) parts

-- no record is left
unfoldable pub used_up : List Part → Bool
used_up parts = list_all (λ part. nat_le (length part.log.records) part.came) parts

-- the logs come by rising vat numbers
abbrev pub IsRising : List Log → Type 0
IsRising logs = IsStrictlyIncreasing (map (λ log. log.vat) logs)

-- before the first step
abbrev pub begin : List Log → List Part
begin logs = map (λ log. record { log = log; came = 0 }) logs

-- an order fits what is left of the logs
abbrev pub FitsFrom : List Part → List ℕ → Type 0
FitsFrom parts [] = IsTrue (used_up parts)
FitsFrom parts (vat ∷ order) = IsTrue (may_come parts vat) × FitsFrom (after vat parts) order

-- an order fits the logs
abbrev pub IsFitting : List Log → List ℕ → Type 0
IsFitting logs order = FitsFrom (begin logs) order

-- each step takes the smallest vat number that may come, to the end
abbrev pub TakesLeastFrom : List Part → List ℕ → Type 0
TakesLeastFrom parts [] = IsTrue (used_up parts)
TakesLeastFrom parts (vat ∷ order) = IsTrue (may_come parts vat) × ((smaller : ℕ) → smaller < vat → may_come parts smaller ≡ false) × TakesLeastFrom (after vat parts) order

-- the order that takes the smallest vat number that may come at each step
abbrev pub TakesLeast : List Log → List ℕ → Type 0
TakesLeast logs order = TakesLeastFrom (begin logs) order

-- the first step that may not come, or the order's length where records are left
unfoldable pub fault_from : List Part → List ℕ → Option ℕ
fault_from parts [] = if used_up parts then None else Some 0
fault_from parts (vat ∷ order) = if may_come parts vat then option_map suc (fault_from (after vat parts) order) else Some 0

-- what is found of an order
abbrev pub finding_at : Option ℕ → OrderFinding
finding_at None = findings.Fits
finding_at (Some step) = findings.Fails step

abbrev pub finding_of_order : List Log → List ℕ → OrderFinding
finding_of_order logs order = finding_at (fault_from (begin logs) order)
