-- For the code's contracts, and no part of the meaning: every table of a point of a log.
use Rattle.std.specs.Prelude.{◌≡◌, ℕ, length}
use Rattle.vat_view.specs.declared.tables.all_tables.AllTables.{AllTables}
use Rattle.decoded_records.specs.Past.{Past}
use Rattle.vat_view.specs.Glue.ArrivalTables.{AreArrived}
use Rattle.vat_view.specs.Glue.KindTables.{AreResolved}
use Rattle.vat_view.specs.Glue.Kept.{AreKept}
use Rattle.vat_view.specs.Glue.TurnTables.{AreSettled, HaveAhead}
use Rattle.vat_view.specs.Glue.ConnectionTables.{AreConnected}
use Rattle.vat_view.specs.Glue.LoopTables.{AreWaiting}

-- all but those of what waits and of arrivals have what looking back finds in these records
abbrev pub AreNoted : Past → AllTables → Type 0
AreNoted past tables =
    AreKept past tables.questions tables.lives tables.bound tables.calls
    × AreResolved past tables.resolves
    × AreSettled past tables.turns
    × AreConnected past tables.connections
    × HaveAhead tables.turns tables.bound

-- all but that of arrivals have it
abbrev pub AreTold : Past → AllTables → Type 0
AreTold past tables = AreNoted past tables × AreWaiting past tables.waits

-- all have it, and there are so many records
abbrev pub AreWhole : Past → ℕ → AllTables → Type 0
AreWhole past count tables = AreNoted past tables × AreWaiting past tables.waits × AreArrived past tables.arrivals × (count ≡ length past)
