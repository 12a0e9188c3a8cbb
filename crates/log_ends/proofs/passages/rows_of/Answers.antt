use Rattle.std.proofs.Common.{◌≡◌, ◌+◌, ℕ, List, [], length, refl, sym, subst, arith}
use Rattle.std.specs.BTreeMap.{btree_map_len}
use Rattle.std.proofs.lemmas.List.{get_or_read}
use Rattle.vat_log.specs.Log.{Log, written_version}
use Rattle.link_check.specs.Prefix.{frames_sent, frames_received}
use Rattle.log_ends.specs.Ends.{log_at}
use Rattle.log_ends.specs.declared.passages.EndRow.{EndRow}
use Rattle.log_ends.specs.Glue.{sequence_number, number_behind, HasPassed, AreRows}
use Rattle.log_ends.proofs.Numbering.{told}
use Rattle.log_ends.proofs.AllRows.{no_rows, rows_more}
use Rattle.log_ends.proofs.passages.rows_of.Goals as goal

pub loop-place-init : goal.loop-place-init
loop-place-init c =
    record {
      sound = c.new-sequences.ensures;
      are = subst (λ (rows : List EndRow). AreRows (sequence_number c.new-sequences.result) c.args.logs.now 0 rows) (sym c.new-rows.ensures.items) (no_rows (sequence_number c.new-sequences.result) c.args.logs.now);
    }

pub loop-place-preserved : goal.loop-place-preserved
loop-place-preserved c =
    let same : c.index-logs-place.result ≡ log_at c.args.logs.now c.loop-place.place = get_or_read c.args.logs.now c.loop-place.place c.index-logs-place.result c.loop-place-test.true c.index-logs-place.is (record { version = written_version; vat = 0; records = [] }) in
    let has = subst (λ (log : Log). HasPassed (sequence_number c.table_of.new.sequences) c.in_ok-table.table (λ q. frames_sent q log) (λ q. frames_received q log)) same c.in_ok-table.ensures.ok in
    record {
      sound = c.table_of.ensures.sound;
      are = subst (λ (rows : List EndRow). AreRows (sequence_number c.table_of.new.sequences) c.args.logs.now (c.loop-place.place + 1) rows) (sym c.in_ok-push_table.ensures.ok)
          (rows_more (sequence_number c.loop-place.sequences) (sequence_number c.table_of.new.sequences) c.table_of.ensures.keeps c.args.logs.now c.loop-place.place c.loop-place.rows.items c.in_ok-table.table c.loop-place.invariant.are has c.in_ok-push_table.ensures.ordered);
    }

pub returns : goal.returns
returns c =
    let whole : c.loop-place.place ≡ length c.args.logs.now = omega (arith, c.loop-place-test.false, c.loop-place.auto) in (
      record {
        numbers = sequence_number c.loop-place.sequences;
        told = told (number_behind c.loop-place.sequences) (btree_map_len c.loop-place.sequences.places) c.loop-place.invariant.sound;
        are = subst (λ (limit : ℕ). AreRows (sequence_number c.loop-place.sequences) c.args.logs.now limit c.loop-place.rows.items) whole c.loop-place.invariant.are;
      },
      refl,
    )
