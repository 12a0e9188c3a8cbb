use Rattle.std.proofs.Common.{◌≡◌, take, map}
use Rattle.vat_view.specs.Glue.Tables.{bound_at, view_by}
use Rattle.number_tables.specs.Glue.QuestionTables.{question_at}
use Rattle.vat_view.proofs.lookups.table_answers.views_of_descriptors.Given as goal

abbrev pub invariant-loop-descriptor : goal.invariant-loop-descriptor
invariant-loop-descriptor l = l.list.items ≡ map (view_by (bound_at l.bound) l.lives l.begun (question_at l.questions) l.event) (take l.descriptor-index l.described)
