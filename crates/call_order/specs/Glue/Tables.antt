-- For the code's contracts, and no part of the meaning: how one record changes the tables.
use Rattle.std.specs.Prelude.{◌≡◌, ℕ, Option, Some, None}
use Rattle.call_order.specs.Glue.UnderWay.{IsSent, one_with, IsReceived}
use Rattle.call_order.specs.Glue.Names.{name_in, IsCome, IsLeft}
use Rattle.call_order.specs.Glue.Told.{IsToldMore}
use Rattle.call_order.specs.declared.deeds.Deed.TheVariants as deed
use Rattle.call_order.specs.declared.deeds.Deed.{Deed}
use Rattle.call_order.specs.declared.names_of_calls.Names.{Names}
use Rattle.call_order.specs.declared.order_tables.OrderTables.{OrderTables}
use Rattle.call_trace.specs.Types.{Name}
use Rattle.undelivered.specs.declared.moment.Moment.TheVariants as moment

-- a call came to a vat, if it has a name
abbrev pub IsComeBy : ℕ → ℕ → Option Name → Names → Names → Type 0
IsComeBy v c None old new = new ≡ old
IsComeBy v c (Some name) old new = IsCome v c name old new

-- a deed of a vat, by its record of this number, changed the tables so
abbrev pub IsDone : ℕ → ℕ → Deed → OrderTables → OrderTables → Type 0
IsDone v number (deed.Make c r) old new = IsToldMore v (moment.Made c r) old.told new.told × (new.names ≡ old.names) × (new.under_way ≡ old.under_way)
IsDone v number (deed.Deliver c) old new =
    IsToldMore (name_in old.names v c).maker (moment.Delivered (name_in old.names v c).number (v, number)) old.told new.told × IsLeft v c old.names new.names × (new.under_way ≡ old.under_way)
IsDone v number (deed.Send k c) old new = IsSent k v (name_in old.names v c) (one_with old.under_way k v) old.under_way new.under_way × IsLeft v c old.names new.names × (new.told ≡ old.told)
IsDone v number (deed.Receive k c) old new = ((name : Option Name) × IsReceived k v name old.under_way new.under_way × IsComeBy v c name old.names new.names) × (new.told ≡ old.told)
IsDone v number (deed.End c) old new = IsLeft v c old.names new.names × (new.under_way ≡ old.under_way) × (new.told ≡ old.told)
IsDone v number deed.Other old new = new ≡ old
