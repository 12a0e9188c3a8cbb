use Rattle.std.proofs.Common.{◌≡◌, map, take}
use Rattle.vat_log.specs.Migrated.{migrated_version}
use Rattle.log_ends.specs.Numbers.{new_number_of}
use Rattle.log_ends.specs.Renumbering.{renumbered_body}
use Rattle.log_ends.proofs.renumbering.renumbered.Given as goal

abbrev pub invariant-loop-index : goal.invariant-loop-index
invariant-loop-index l =
    record {
      vat : l.writer.vat ≡ l.vat;
      version : l.writer.version ≡ migrated_version l.log.version;
      records : l.writer.records ≡ map (renumbered_body (new_number_of l.table)) (take l.index l.log.records);
    }
