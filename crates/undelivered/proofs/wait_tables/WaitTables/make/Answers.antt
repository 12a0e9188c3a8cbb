use Rattle.std.proofs.Common.{◌≡◌, true, false, Some, None, refl}
use Rattle.std.specs.Result.{is_err}
use Rattle.undelivered.proofs.Keys.{turns_put, waits_put, put_back, same_turns, on_ok, on_err}
use Rattle.undelivered.proofs.wait_tables.WaitTables.make.Goals as goal

pub returns-then-is_err-clause-err : goal.returns-then-is_err-clause-err
returns-then-is_err-clause-err c = λ none.
    let failed : is_err c.insert-2.result ≡ true = cc in
    record {
      turns = same_turns c.args.self.now.turns c.insert-2.new.self (on_err c.insert-2.result _ failed c.insert-2.ensures.err);
      waiting = put_back c.args.self.now.waiting c.insert.new.self c.remove.new.self c.args.reference c.args.turn (Some None) c.in_ok-insert.ensures.updates c.remove.ensures.updates none;
      fault = refl;
    }

pub returns-clause-ok : goal.returns-clause-ok
returns-clause-ok c =
    let done : is_err c.insert-2.result ≡ false = cc in
    record {
      turns = turns_put c.args.self.now.turns c.insert-2.new.self c.args.call (Some (c.args.reference, c.args.turn)) (on_ok c.insert-2.result _ done c.insert-2.ensures.updates);
      waiting = waits_put c.args.self.now.waiting c.insert.new.self c.args.reference c.args.turn (Some None) c.in_ok-insert.ensures.updates;
      fault = refl;
    }
