use Rattle.std.proofs.Common.{length}
use Rattle.std.specs.Int.{w16, w32}
use Rattle.vat_log.specs.Spelling.{number_bytes}
use Rattle.vat_log.proofs.Loop.{spelled_next}
use Rattle.vat_log.proofs.spelling.body_writing.put_path.Goals as goal

pub loop-field-preserved : goal.loop-field-preserved
loop-field-preserved c =
    spelled_next (number_bytes w16) c.args.fields.now c.loop-field.field-index c.args.out.now.items (number_bytes w32 (length c.args.fields.now)) c.loop-field.out.items
    c.put_u16.new.out.items c.loop-field-test.true c.loop-field.invariant c.in_ok-put_u16.ensures
