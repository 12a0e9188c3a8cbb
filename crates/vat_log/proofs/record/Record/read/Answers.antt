use Rattle.vat_log.proofs.Spans.{IsBytes-from_all}
use Rattle.vat_log.proofs.BodyLaws.{fields_take}
use Rattle.vat_log.proofs.record.Record.read.Goals as goal

pub invariant_of-result : goal.invariant_of-result
invariant_of-result c =
    let bytes = c.args.bytes.now in
    (fields_take c.args.version c.args.kind bytes (IsBytes-from_all bytes c.requires.octets) c.args.at (c.in_ok-body.body, c.in_ok-body.after) c.requires.within c.in_ok-body.ensures.gives).1.fits
