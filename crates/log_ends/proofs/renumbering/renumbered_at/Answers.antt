use Rattle.std.proofs.Common.{◌∙◌, length, refl, sym, ap}
use Rattle.std.proofs.lemmas.Option.{slice_get_read, same_Some}
use Rattle.vat_log.specs.Log.{Log}
use Rattle.log_ends.specs.Numbers.{new_number_of}
use Rattle.log_ends.specs.Renumbering.{renumbered_log, end_in}
use Rattle.log_ends.proofs.NewNumbers.{of_pairs}
use Rattle.log_ends.proofs.renumbering.renumbered_at.Goals as goal

pub returns : goal.returns
returns c =
    λ old at.
    let here = slice_get_read c.args.logs.now (length c.args.logs.now) c.args.place c.index-logs-place.result refl c.requires.place c.index-logs-place.is in
    record {
      number = new_number_of c.in_ok-table.table;
      vat = c.vat_at-vat.result;
      of_pairs = λ connection is. of_pairs c.args.pairs.now c.args.place c.in_ok-table.table c.in_ok-table.ensures connection (c.requires.paired (end_in c.args.place connection) is);
      is_vat = c.vat_at-vat.ensures;
      same = c.in_ok-made.ensures ∙ ap (λ (log : Log). renumbered_log (new_number_of c.in_ok-table.table) c.vat_at-vat.result log) (same_Some c.index-logs-place.result old (sym here ∙ at));
    }
