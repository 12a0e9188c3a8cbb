use Rattle.std.proofs.Common.{◌≡◌, ◌+◌, ◌∙◌, ℕ, List, ◌∷◌, ◌++◌, [], Some, take, sym, ap, subst}
use Rattle.std.specs.Prelude.{slice_get}
use Rattle.std.specs.List.{filter_map}
use Rattle.std.proofs.lemmas.List.{take_more}
use Rattle.std.proofs.lemmas.Option.{none-some, slice_get_within, slice_get-get_or, get_or_from_slice_get}
use Rattle.vat_log.specs.declared.body.Body.{Body}
use Rattle.vat_log.specs.declared.body.Body.TheVariants.{Host}
use Rattle.vat_log.specs.Passages.{frame_sent, frame_received}
use Rattle.log_ends.specs.Glue.{sequence_number, HasPassed}
use Rattle.log_ends.proofs.Passing.{on_ok}
use Rattle.log_ends.proofs.passages.push_record.Goals as goal

-- the first records with the next one
one_further : (records : List Body) (index : ℕ) (b : Body) → slice_get records index ≡ Some b → take (index + 1) records ≡ take index records ++ (b ∷ [])
one_further records index b there = take_more records index b (slice_get_within records index b there) ∙ ap (λ x. take index records ++ (x ∷ [])) (get_or_from_slice_get records index b b there)

pub returns-in-Some-clause-ok : goal.returns-in-Some-clause-ok
returns-in-Some-clause-ok c =
    on_ok c.push_body.result _ _ (λ ok has.
    subst (λ (rs : List Body). HasPassed (sequence_number c.push_body.new.sequences) c.push_body.new.table (λ q. filter_map (frame_sent q) rs) (λ q. filter_map (frame_received q) rs))
    (sym (one_further c.args.log.now.records c.args.index c.body.result.now (sym c.in-Some.ensures ∙ ap Some (sym c.body.ensures.value)))) (ok (take c.args.index c.args.log.now.records) has)) c.push_body.ensures.ok

pub returns-in-None-clause-ok : goal.returns-in-None-clause-ok
returns-in-None-clause-ok c =
    λ has. absurd (none-some _ (c.in-None.ensures ∙ slice_get-get_or c.args.log.now.records c.args.index (Host 0 0) c.requires.within))
