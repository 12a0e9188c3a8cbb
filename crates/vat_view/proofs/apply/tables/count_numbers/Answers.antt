use Rattle.std.proofs.Common.{Bool, ℕ, ◌≡◌, sym, ◌∙◌, ap, ap₂, [], length, if◌then◌else◌, List}
use Rattle.std.specs.List.{filter_map}
use Rattle.decoded_records.specs.declared.origin.Origin.{Origin}
use Rattle.vat_view.specs.Types.{DecodedRecord, TableKey}
use Rattle.decoded_records.specs.Past.{Past}
use Rattle.decoded_records.specs.Lives.{descriptors, number_introduced, introductions}
use Rattle.decoded_records.specs.Uses.{UsesQuestions}
use Rattle.number_tables.specs.Glue.QuestionTables.{question_at, late_by}
use Rattle.decoded_records.specs.Glue.Origins.{origins_from}
use Rattle.vat_view.specs.Glue.Tables.{origins, IsTabled}
use Rattle.number_tables.specs.declared.question_table.Questions.{Questions}
use Rattle.number_tables.specs.declared.exports_imports.ExportsImports.{ExportsImports}
use Rattle.vat_view.proofs.Knowing.{late_known}
use Rattle.vat_view.proofs.Stepping.{three_ok, three_err, tabled_open, tabled_close, tabled_same}
use Rattle.vat_view.proofs.apply.tables.count_numbers.Goals as goal

module _ (questions : Questions) (lives : ExportsImports) (before : Past) (e : DecodedRecord) (late : Bool) (tabled : IsTabled before questions lives) (uses : UsesQuestions before e)
    (is_late : late ≡ late_by (question_at questions) e) where
  introduces_them : (ids : List TableKey) → ids ≡ (if late then [] else filter_map (number_introduced e) (descriptors e)) → ids ≡ introductions before e
  introduces_them ids is_ids =
      is_ids ∙ ap (λ b. if b then [] else filter_map (number_introduced e) (descriptors e)) (is_late ∙ late_known (question_at questions) before tabled.known e uses)

  begins_them : (number : ℕ) → number ≡ length before → (os : List (TableKey × Origin)) → os ≡ (if late then [] else origins_from number e 0 0 (descriptors e)) → os ≡ origins before e
  begins_them number is_number os is_os =
      is_os ∙ ap₂ (λ b n. if b then [] else origins_from n e 0 0 (descriptors e)) (is_late ∙ late_known (question_at questions) before tabled.known e uses) is_number

pub returns-in-Some-clause-ok : goal.returns-in-Some-clause-ok
returns-in-Some-clause-ok c = three_ok c.apply_opening.result
    (λ put counts births before number tabled uses gives.
    tabled_open before c.args.event.now c.args.questions.now c.apply_opening.new.questions c.args.lives.now c.apply_opening.new.lives tabled uses gives c.in_ok-numbers.numbers
    (introduces_them c.args.questions.now c.args.lives.now before c.args.event.now _ tabled uses c.requires c.in_ok-numbers.numbers c.in_ok-numbers.ensures)
    c.as_slice-begun.result.now
    (begins_them c.args.questions.now c.args.lives.now before c.args.event.now _ tabled uses c.requires c.args.number number c.as_slice-begun.result.now (c.as_slice-begun.ensures ∙ c.in_ok-origins.ensures))
    births c.in-Some.question (sym c.in-Some.ensures) put counts)
    c.apply_opening.ensures.known c.apply_opening.ensures.counted c.apply_opening.ensures.born

pub returns-clause-ok : goal.returns-clause-ok
returns-clause-ok c = three_ok c.apply_other.result
    (λ noted counts births before number tabled uses gives.
    tabled_close before c.args.event.now c.args.questions.now c.apply_other.new.questions c.args.lives.now c.apply_other.new.lives tabled uses gives c.in_ok-numbers.numbers
    (introduces_them c.args.questions.now c.args.lives.now before c.args.event.now _ tabled uses c.requires c.in_ok-numbers.numbers c.in_ok-numbers.ensures)
    c.as_slice-begun.result.now
    (begins_them c.args.questions.now c.args.lives.now before c.args.event.now _ tabled uses c.requires c.args.number number c.as_slice-begun.result.now (c.as_slice-begun.ensures ∙ c.in_ok-origins.ensures))
    births (sym c.in-None.ensures) noted counts)
    c.apply_other.ensures.known c.apply_other.ensures.counted c.apply_other.ensures.born

pub returns-in-Some-clause-err : goal.returns-in-Some-clause-err
returns-in-Some-clause-err c = three_err c.apply_opening.result
    (λ known counted born before tabled. tabled_same before c.args.questions.now c.apply_opening.new.questions c.args.lives.now c.apply_opening.new.lives known counted born tabled)
    c.apply_opening.ensures.same_known c.apply_opening.ensures.same_counted c.apply_opening.ensures.same_born

pub returns-clause-err : goal.returns-clause-err
returns-clause-err c = three_err c.apply_other.result
    (λ known counted born before tabled. tabled_same before c.args.questions.now c.apply_other.new.questions c.args.lives.now c.apply_other.new.lives known counted born tabled)
    c.apply_other.ensures.same_known c.apply_other.ensures.same_counted c.apply_other.ensures.same_born
