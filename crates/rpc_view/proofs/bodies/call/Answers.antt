use Rattle.std.proofs.Common.{ℕ, ◌∙◌, ap}
use Rattle.cap_reader.specs.Places.{u16_in}
use Rattle.rpc_view.specs.Glue.{sections_of}
use Rattle.rpc_view.proofs.Judged.{call_goes}
use Rattle.rpc_view.proofs.bodies.call.Goals as goal

pub returns : goal.returns
returns c =
    rw (call_goes c.args.edition ((sections_of c.args.frame.now c.args.message.now).child 0) c.args.limits.now.words c.struct_in.new.limits.words c.u16_within-send_results_to.result c.bit_of.result c.is_beyond.result (sections_of c.args.frame.now c.in_ok-call.call) c.in_ok-call.ensures (c.u16_within-send_results_to.ensures ∙ ap (λ (word : ℕ). u16_in 6 (λ _. word)) c.first_word-word.ensures) c.bit_of.ensures c.is_beyond.ensures c.if-send_results_to-gt2.false c.if-send_results_to-eq2.false c.if-is_beyond.false) c.read_call_parts.ensures
