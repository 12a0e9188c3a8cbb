use Rattle.std.proofs.Common.{sym, subst, ◌++◌, ◌∷◌, []}
use Rattle.std.specs.List.{filter_map}
use Rattle.vat_log.specs.declared.body.Body.{Body}
use Rattle.vat_log.specs.Passages.{frame_sent, frame_received}
use Rattle.log_ends.specs.Glue.{sequence_number, HasPassed}
use Rattle.log_ends.proofs.Passing.{sends_one, receives_one, says_no_frame, on_ok, not_sent, not_received}
use Rattle.log_ends.proofs.passages.push_body.Goals as goal

pub returns-in-Send-clause-ok : goal.returns-in-Send-clause-ok
returns-in-Send-clause-ok c =
    on_ok c.push_sent.result _ _ (λ ok records has.
    subst (λ (b : Body). HasPassed (sequence_number c.push_sent.new.sequences) c.push_sent.new.table (λ q. filter_map (frame_sent q) (records ++ (b ∷ []))) (λ q. filter_map (frame_received q) (records ++ (b ∷ [])))) (sym c.in-Send.is)
    (sends_one records c.in-Send.connection c.in-Send.call c.in-Send.references c.in-Send.frame (sequence_number c.push_sent.new.sequences) c.push_sent.new.table (ok (λ q. filter_map (frame_sent q) records) (λ q. filter_map (frame_received q) records) has))) c.push_sent.ensures.ok

pub returns-in-Receive-clause-ok : goal.returns-in-Receive-clause-ok
returns-in-Receive-clause-ok c =
    on_ok c.push_received.result _ _ (λ ok records has.
    subst (λ (b : Body). HasPassed (sequence_number c.push_received.new.sequences) c.push_received.new.table (λ q. filter_map (frame_sent q) (records ++ (b ∷ []))) (λ q. filter_map (frame_received q) (records ++ (b ∷ [])))) (sym c.in-Receive.is)
    (receives_one records c.in-Receive.connection c.in-Receive.call c.in-Receive.references c.in-Receive.frame (sequence_number c.push_received.new.sequences) c.push_received.new.table (ok (λ q. filter_map (frame_sent q) records) (λ q. filter_map (frame_received q) records) has))) c.push_received.ensures.ok

pub returns-in_default : goal.returns-in_default
returns-in_default c =
    record {
      sound = c.requires;
      keeps = λ frames n e. e;
      ok = λ records has. says_no_frame records c.args.body.now (sequence_number c.args.sequences.now) c.args.table.now (not_sent c.args.body.now c.in_default.not-Send) (not_received c.args.body.now c.in_default.not-Receive) has;
    }
