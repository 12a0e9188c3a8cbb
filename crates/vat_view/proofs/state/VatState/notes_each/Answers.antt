use Rattle.std.proofs.Common.{◌∙◌, ap, length}
use Rattle.decoded_records.specs.Lives.{descriptors}
use Rattle.vat_view.proofs.Using.{caps_placed, same_lengths}
use Rattle.vat_view.proofs.state.VatState.notes_each.Goals as goal

pub returns-else-is_late : goal.returns-else-is_late
returns-else-is_late c =
    same_lengths c.args.self.now c.args.event.now (length c.references-else-is_late.result.now) c.caps.result (ap (λ l. length l) c.references-else-is_late.ensures)
    (c.caps.ensures ∙ caps_placed 0 (descriptors c.args.event.now)) c.if-is_late.ensures
