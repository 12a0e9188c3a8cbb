-- For the code's contracts, and no part of the meaning: all tables of a point of a log.
use Rattle.number_tables.specs.declared.question_table.Questions.{Questions}
use Rattle.number_tables.specs.declared.exports_imports.ExportsImports.{ExportsImports}
use Rattle.vat_view.specs.declared.tables.references.BoundReferences.{BoundReferences}
use Rattle.number_tables.specs.declared.call_table.Calls.{Calls}
use Rattle.decoded_records.specs.Past.{Past, Each}
use Rattle.vat_view.specs.Sound.{IsSound}
use Rattle.vat_view.specs.Glue.Tables.{AreTabled}
use Rattle.vat_view.specs.Glue.CallTables.{AreCalled}

-- the tables have what looking back finds, and each record is as it should be after those before it
pub record AreKept (past : Past) (questions : Questions) (lives : ExportsImports) (bound : BoundReferences) (calls : Calls) : Type 0 where
  pub sound : Each IsSound past
  pub tabled : AreTabled past questions lives bound
  pub called : AreCalled past calls
