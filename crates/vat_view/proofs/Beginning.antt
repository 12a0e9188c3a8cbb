-- Where lives begin: what one record more does to the table is what it does to what looking back finds.
use Rattle.std.proofs.Common.{◌≡◌, ◌<◌, ◌≤◌, inl, inr, refl, sym, ◌∙◌, ap, ℕ, [], ◌∷◌, length, zero-add, count_by, Bool, true, false, ◌||◌, Option, Some, None, if◌then◌else◌, option_map, arith}
use Rattle.std.specs.Prelude.{find, is_none, slice_get}
use Rattle.std.specs.List.{position_from, filter_map}
use Rattle.std.specs.Option.{option_or}
use Rattle.std.proofs.lemmas.Bool.{cases_Bool, false≢true, ltb-true, ltb-false}
use Rattle.decoded_records.specs.declared.origin.Origin.{Origin}
use Rattle.vat_view.specs.Types.{DecodedRecord, TableKey}
use Rattle.decoded_records.specs.Past.{Past, point, same_id, names, last_answer}
use Rattle.decoded_records.specs.Questions.{is_late}
use Rattle.decoded_records.specs.Lives.{Birth, begins, descriptors, number_introduced, introduces, held, is_in_life}
use Rattle.decoded_records.specs.Views.{places}
use Rattle.vat_view.specs.Glue.Tables.{origin_of, origins}
use Rattle.decoded_records.specs.Glue.Origins.{origins_from}
use Rattle.number_tables.specs.Glue.LifeTables.{raised_origin}
use Rattle.vat_view.proofs.Originating.{origins_counted, first_origin, origin_there}
use Rattle.number_tables.proofs.Raising.{held_on, none_counted, positive}

-- the list with the origins introduces as often
pub counted_origins : (i : TableKey) (before : Past) (e : DecodedRecord) → count_by (λ x. same_id i x.0) (origins before e) ≡ introduces i before e
counted_origins i before e = either (is_late before e)
  where
    either : (b : Bool) → count_by (λ x. same_id i x.0) (if b then [] else origins_from (length before) e 0 0 (descriptors e))
        ≡ count_by (same_id i) (if b then [] else filter_map (number_introduced e) (descriptors e))
    either true = refl
    either false = origins_counted (length before) e i (descriptors e) 0 0

choose : (f : Option (TableKey × Origin)) (g : Option Birth) (o : Option Origin) (rest : Option Birth) → is_none f ≡ false →
    option_map (λ x. x.1) f ≡ option_map origin_of g → option_or (option_map (λ x. x.1) f) o ≡ option_map origin_of (option_or g rest)
choose (Some x) (Some b) o rest some same = same
choose (Some x) None o rest some same = absurd (let no : ⊥ = cc in no)
choose None g o rest some same = absurd (false≢true (sym some))

module _ (i : TableKey) (before : Past) (e : DecodedRecord) where
  -- the birth at a place of the record
  abbrev there : ℕ → Birth
  there place = record { from = point before e; place = place }

  same_origins : (o : Option ℕ) → option_map (origin_there (length before) e i (λ q. slice_get (descriptors e) q) 0 (places e)) o ≡ option_map origin_of (option_map there o)
  same_origins (Some q) = refl
  same_origins None = refl

  pub begun : (in_life late : Bool) → in_life ≡ false → late ≡ false →
      option_map (λ x. x.1) (find (λ x. same_id i x.0) (if late then [] else origins_from (length before) e 0 0 (descriptors e)))
      ≡ option_map origin_of (if in_life || late then None else option_map there (position_from (λ d. names i (number_introduced e d)) 0 (descriptors e)))
  begun false false h l = first_origin (length before) e i (λ q. slice_get (descriptors e) q) (descriptors e) 0 0 (λ j. ap (λ q. slice_get (descriptors e) q) (zero-add j)) ∙ same_origins (position_from (λ d. names i (number_introduced e d)) 0 (descriptors e))
  begun true late h l = absurd (false≢true (sym h))
  begun false true h l = absurd (false≢true (sym l))

  -- a record that begins a life introduces the number, and isn't late
  pub introduced_now : is_in_life i before ≡ false → is_in_life i (e ∷ before) ≡ true → 0 < introduces i before e
  introduced_now out now =
      let none : held i before ≤ 0 = ltb-false 0 (held i before) out in
      let some : 0 < held i (e ∷ before) = ltb-true 0 (held i (e ∷ before)) now in omega (arith, none, some)

  pub not_late : (late : Bool) → 0 < count_by (same_id i) (if late then [] else filter_map (number_introduced e) (descriptors e)) → late ≡ false
  not_late false h = refl
  not_late true h = absurd (let no : ⊥ = omega (arith, h) in no)

  pub born_step : (o : Option Origin) → (is_in_life i before ≡ true → o ≡ option_map origin_of (last_answer (begins i) before)) → is_in_life i (e ∷ before) ≡ true →
      raised_origin (held i before) o i (origins before e) ≡ option_map origin_of (last_answer (begins i) (e ∷ before))
  born_step o was now = elim (cases_Bool (is_in_life i before)) [
    | inl alive ↦
        held_on i o (held i before) (positive (held i before) (ltb-true 0 (held i before) alive)) (origins before e) ∙ was alive
        ∙ ap (λ b. option_map origin_of (option_or (if b || is_late before e then None else option_map there (position_from (λ d. names i (number_introduced e d)) 0 (descriptors e)))
        (last_answer (begins i) before))) (sym alive)
    | inr out ↦
        let more : 0 < introduces i before e = introduced_now out now in
        let late : is_late before e ≡ false = not_late (is_late before e) more in
        let none : held i before ≡ 0 = let le : held i before ≤ 0 = ltb-false 0 (held i before) out in omega (arith, le) in
        let some : is_none (find (λ x. same_id i x.0) (origins before e)) ≡ false =
        sym (none_counted (λ (x : TableKey × Origin). same_id i x.0) (origins before e)) ∙ positive (count_by (λ x. same_id i x.0) (origins before e)) (rw (counted_origins i before e) more) in
        ap (λ n. raised_origin n o i (origins before e)) none
        ∙ choose (find (λ x. same_id i x.0) (origins before e)) (begins i before e) o (last_answer (begins i) before) some (begun (is_in_life i before) (is_late before e) out late)
  ]
