use Rattle.log_ends.proofs.passages.table_of.Goals as goal

pub returns-in_err-push_record-clause-keeps : goal.returns-in_err-push_record-clause-keeps
returns-in_err-push_record-clause-keeps c = λ frames n e. c.push_record.ensures.keeps frames n (c.loop-index.invariant.keeps frames n e)

pub loop-index-preserved : goal.loop-index-preserved
loop-index-preserved c =
    record {
      sound = c.push_record.ensures.sound;
      keeps = λ frames n e. c.push_record.ensures.keeps frames n (c.loop-index.invariant.keeps frames n e);
      has = c.in_ok-push_record.ensures.ok c.loop-index.invariant.has;
    }
