-- What numbers stand for by the tables is what looking back finds.
use Rattle.std.proofs.Common.{◌≡◌, ◌<◌, ◌≤◌, inl, inr, refl, sym, ◌∙◌, ap, ℕ, ◌==◌, Bool, true, false, not, ◌&&◌, ◌||◌, Option, Some, None, if◌then◌else◌, option_map, option_and_then, arith}
use Rattle.std.specs.Prelude.{find, is_some}
use Rattle.std.proofs.lemmas.Bool.{cases_Bool, ltb-true, ltb-false, eq-eqb}
use Rattle.number_tables.specs.declared.question_table.Questions.{Questions}
use Rattle.number_tables.specs.declared.exports_imports.ExportsImports.{ExportsImports}
use Rattle.vat_view.specs.Types.{View, TableKey}
use Rattle.decoded_records.specs.Past.{Past, Point, last_answer}
use Rattle.decoded_records.specs.Questions.{opening, is_returned, is_finished, call_at, call_of}
use Rattle.decoded_records.specs.Lives.{Birth, birth, begins, held, is_in_life}
use Rattle.decoded_records.specs.Views.{view_given, number_view, placed_references}
use Rattle.vat_view.specs.Glue.Tables.{question_known, origin_of, view_from, number_by, IsTabled}
use Rattle.number_tables.specs.Glue.QuestionTables.{call_by}
use Rattle.number_tables.specs.Glue.LifeTables.{held_count_at, origin_at, held_origin}
use Rattle.vat_view.proofs.Knowing.{known_from}
use Rattle.number_tables.proofs.Raising.{positive}

mapped : (named : ℕ → Option View) (o : Option (ℕ × ℕ)) → option_and_then named (option_map (λ n. n.0) o) ≡ option_and_then (λ n. named n.0) o
mapped named (Some n) = refl
mapped named None = refl

pub given : (named : ℕ → Option View) (ours : Bool) (o : Option Birth) → option_and_then (view_from named ours) (option_map origin_of o) ≡ option_and_then (view_given named ours) o
given named true (Some b) = mapped named (find (λ n. n.1 == b.place) (placed_references b.from.event))
given named false (Some b) = refl
given named ours None = refl

-- where the life of a number began by the table is where it began
pub held_known : (past : Past) (questions : Questions) (lives : ExportsImports) → IsTabled past questions lives → (i : TableKey) → held_origin lives i ≡ option_map origin_of (birth i past)
held_known past questions lives tabled i = elim (cases_Bool (is_in_life i past)) [
  | inl alive ↦
      let some : (held_count_at lives i == 0) ≡ false =
      positive (held_count_at lives i) (let more : 0 < held i past = ltb-true 0 (held i past) alive in let same = tabled.counted i in omega (arith, more, same)) in
      ap (λ b. if b then None else origin_at lives i) some ∙ tabled.born i alive ∙ sym (ap (λ b. option_map origin_of (if b then last_answer (begins i) past else None)) alive)
  | inr out ↦
      let none : (held_count_at lives i == 0) ≡ true =
      eq-eqb (held_count_at lives i) 0 (let less : held i past ≤ 0 = ltb-false 0 (held i past) out in let same = tabled.counted i in omega (arith, less, same)) in
      ap (λ b. if b then None else origin_at lives i) none ∙ sym (ap (λ b. option_map origin_of (if b then last_answer (begins i) past else None)) out)
]

pub number_known : (past : Past) (questions : Questions) (lives : ExportsImports) → IsTabled past questions lives → (named : ℕ → Option View) (i : TableKey) →
    number_by named lives i ≡ number_view named i past
number_known past questions lives tabled named i =
    ap (λ o. option_and_then (view_from named i.ours) o) (held_known past questions lives tabled i) ∙ given named i.ours (birth i past)

call_from : (q : TableKey) (past : Past) (o : Option Point) → call_by (option_map (known_from q past) o)
    ≡ (if not (is_some o) || (is_returned q past && is_finished q past) then None else call_at o)
call_from q past None = refl
call_from q past (Some p) = refl

pub call_known : (q : TableKey) (past : Past) → call_by (question_known q past) ≡ call_of q past
call_known q past = call_from q past (opening q past)
