use Rattle.std.proofs.Common.{◌∙◌, ◌++◌, ◌∷◌, [], ◌<◌, List, length, get_or, sym, ap, arith}
use Rattle.std.proofs.lemmas.List.{map_more}
use Rattle.std.proofs.lemmas.Option.{slice_get-get_or}
use Rattle.vat_log.specs.declared.body.Body.{Body}
use Rattle.vat_log.specs.declared.body.Body.TheVariants.{Host}
use Rattle.log_ends.specs.Numbers.{new_number_of}
use Rattle.log_ends.specs.Renumbering.{renumbered_body}
use Rattle.log_ends.proofs.renumbering.renumbered.Goals as goal

pub loop-index-preserved : goal.loop-index-preserved
loop-index-preserved c =
    let within : c.loop-index.index < length c.args.log.now.records = omega (arith, c.loop-index-test.true, c.len-index-end.ensures) in
    let body : Body = get_or c.args.log.now.records c.loop-index.index (Host 0 0) in
    record {
      vat = c.push_record.ensures.vat ∙ c.loop-index.invariant.vat;
      version = c.push_record.ensures.version ∙ c.loop-index.invariant.version;
      records = c.in_ok-push_record.ensures.ok body (slice_get-get_or c.args.log.now.records c.loop-index.index (Host 0 0) within) ∙ ap (λ (l : List Body). l ++ (renumbered_body (new_number_of c.args.table.now) body ∷ [])) c.loop-index.invariant.records
          ∙ sym (map_more (renumbered_body (new_number_of c.args.table.now)) c.args.log.now.records c.loop-index.index (Host 0 0) within);
    }
