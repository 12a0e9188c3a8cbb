use Rattle.std.proofs.Common.{sym, subst, ◌∙◌}
use Rattle.vat_log.specs.declared.body.Body.{Body}
use Rattle.vat_log.specs.Ends.{EndsWith}
use Rattle.vat_log.specs.Log.{written_version}
use Rattle.vat_log.specs.Spelling.{record_bytes}
use Rattle.vat_log.proofs.Ends.{frame_ends}
use Rattle.vat_log.proofs.record.Record.cut_frame.Goals as goal

pub cut-requires : goal.cut-requires
cut-requires c =
    frame_ends c.args.bytes.now c.args.end 10 c.in-Send.connection c.in-Send.call c.in-Send.references c.in-Send.frame
    (subst (λ (body : Body). EndsWith c.args.bytes.now c.args.end (record_bytes written_version body)) (sym c.self.view_is ∙ c.in-Send.is) c.requires)

pub cut-requires-in-Receive : goal.cut-requires-in-Receive
cut-requires-in-Receive c =
    frame_ends c.args.bytes.now c.args.end 11 c.in-Receive.connection c.in-Receive.call c.in-Receive.references c.in-Receive.frame
    (subst (λ (body : Body). EndsWith c.args.bytes.now c.args.end (record_bytes written_version body)) (sym c.self.view_is ∙ c.in-Receive.is) c.requires)
