use Rattle.std.proofs.Common.{◌≡◌, take, count_by}
use Rattle.decoded_records.specs.Views.{references}
use Rattle.decoded_records.specs.Glue.Origins.{is_cap}
use Rattle.vat_view.specs.Glue.Tables.{bound_at, view_by, bound_from}
use Rattle.number_tables.specs.Glue.QuestionTables.{question_at}
use Rattle.vat_view.proofs.record.bindings.many_bound.Given as goal

abbrev pub invariant-loop-descriptor : goal.invariant-loop-descriptor
invariant-loop-descriptor l = record {
  listed : l.list.items ≡ bound_from (view_by (bound_at l.bound) l.lives l.begun (question_at l.questions) l.event) (references l.event) 0 (take l.descriptor-index l.descriptor-items);
  before : l.before ≡ count_by is_cap (take l.descriptor-index l.descriptor-items);
}
