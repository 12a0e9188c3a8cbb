use Rattle.std.proofs.Common.{◌∙◌, sym, ap, cond, is_eq, nat_cmp, Some}
use Rattle.std.specs.Option.{option_copied_mut}
use Rattle.std.specs.BTreeMap.{get}
use Rattle.call_trace.proofs.Passing.{first_send}
use Rattle.call_trace.proofs.steps.channels.Channels.push.Goals as goal

pub returns-in_ok-insert-in-None-clause-ok : goal.returns-in_ok-insert-in-None-clause-ok
returns-in_ok-insert-in-None-clause-ok c =
    first_send (λ sends. sends.items) (get nat_cmp c.args.self.now.sends) (get nat_cmp c.insert.new.self) c.args.connection c.in_ok-sends-in-None.sends c.args.sent
    (sym c.get_mut.ensures.value ∙ ap option_copied_mut c.in-None.is) c.in_ok-sends-in-None.ensures.items
    (λ q. c.in_ok-insert-in-None.ensures.updates.0 q ∙ ap (λ m. cond (is_eq (nat_cmp c.args.connection q)) (Some c.in_ok-sends-in-None.sends) (get nat_cmp m q)) c.get_mut.follows.holds-at-none)
