use Rattle.std.proofs.Common.{Some, ◌∙◌}
use Rattle.std.specs.Prelude.{Result, Ok, Err, OnOk}
use Rattle.vat_view.proofs.tables.waits.embargoes.Embargoes.make_room.Goals as goal

-- what is so whatever came
any_ok : {T E P : Type 0} (r : Result T E) → P → OnOk r P
any_ok (Ok x) p = p
any_ok (Err e) p = tt

pub returns-clause-space : goal.returns-clause-space
returns-clause-space c = any_ok c.join.result (c.join.ensures.space (Some c.args.received) ∙ c.in_ok-room_for.ensures.room)
