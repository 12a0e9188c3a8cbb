-- What a question's turns are, one record back.
use Rattle.std.proofs.Common.{◌≡◌, ◌≢◌, ◌∙◌, ℕ, ◌+◌, ◌-◌, Bool, false, List, take, Option, refl, sym, ap, arith}
use Rattle.std.specs.Prelude.{slice_get, unwrap_or}
use Rattle.rpc_view.specs.declared.edition.Edition.{Edition}
use Rattle.vat_log.specs.declared.body.Body.{Body}
use Rattle.picture.specs.Glue.{turn_in}
use Rattle.picture.specs.Places.{is_given_back, question_turn_by}
use Rattle.picture.proofs.Stepping.{folded}

module _ (edition : Edition) (asks : Bool) (connection question : ℕ) (records : List Body) where
  -- the last record tells, or else those before it do
  pub turned : (at number : ℕ) (turn : Option Bool) → at ≢ 0 → number ≡ at - 1 → turn ≡ turn_in edition asks connection question (slice_get records number)
      → is_given_back edition asks connection question (take at records) ≡ unwrap_or turn (is_given_back edition asks connection question (take number records))
  turned at number turn some before is =
      let next : at ≡ number + 1 = omega (arith, some, before) in
      ap (λ n. is_given_back edition asks connection question (take n records)) next
      ∙ folded (λ released event. unwrap_or (question_turn_by edition asks connection question event) released) (λ released event. unwrap_or (turn_in edition asks connection question event) released)
      records number false (λ released. refl) (λ released event. refl)
      ∙ ap (λ o. unwrap_or o (is_given_back edition asks connection question (take number records))) (sym is)
