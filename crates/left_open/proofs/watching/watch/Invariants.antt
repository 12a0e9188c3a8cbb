use Rattle.std.proofs.Common.{◌≡◌, take}
use Rattle.std.specs.Prelude.{reverse}
use Rattle.decoded_records.specs.Past.{Each}
use Rattle.vat_view.specs.Sound.{IsSound}
use Rattle.left_open.specs.Glue.{IsWatched}
use Rattle.left_open.proofs.watching.watch.Given as goal

abbrev pub invariant-loop-at : goal.invariant-loop-at
invariant-loop-at l = record {
  past : l.state ≡ reverse (take l.at l.records);
  sound : Each IsSound (reverse (take l.at l.records));
  watched : IsWatched (reverse (take l.at l.records)) l.watched;
}
