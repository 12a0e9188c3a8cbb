use Rattle.std.proofs.Common.{◌≡◌, ◌++◌, length, take, All}
use Rattle.std.specs.Int.{w32}
use Rattle.std.specs.List.{flat_map}
use Rattle.vat_log.specs.Log.{written_version}
use Rattle.vat_log.specs.Spelling.{number_bytes, record_bytes, log_magic}
use Rattle.vat_log.specs.Fits.{Fits, IsWide}
use Rattle.vat_log.specs.Ends.{AreEnds}
use Rattle.vat_log.proofs.spelling.body_writing.written_log.Given as goal

abbrev pub invariant-loop-entry : goal.invariant-loop-entry
invariant-loop-entry l = record {
  so_far : l.out.items ≡ log_magic l.fn.version ++ (number_bytes w32 l.vat ++ flat_map (record_bytes written_version) (take l.entry-index l.records));
  fit : All Fits (take l.entry-index l.records);
  wide : All IsWide (take l.entry-index l.records);
  count : length l.ends.items ≡ l.entry-index;
  ends : AreEnds l.out.items l.records l.ends.items;
}
