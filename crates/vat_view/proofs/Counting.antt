-- No more goes than came.
use Rattle.std.proofs.Common.{◌≤◌, [], ◌∷◌, arith}
use Rattle.vat_view.specs.Types.{TableKey}
use Rattle.decoded_records.specs.Past.{Past, Each}
use Rattle.decoded_records.specs.Lives.{introduced_count, released_count, GivesBackHeld}

pub no_more_went : (past : Past) → Each GivesBackHeld past → (i : TableKey) → released_count i past ≤ introduced_count i past
no_more_went [] h i = omega arith
no_more_went (e ∷ before) h i = let now = h.0 i in let rest = no_more_went before h.1 i in omega (arith, now, rest)
