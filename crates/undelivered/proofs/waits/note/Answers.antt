use Rattle.std.proofs.Common.{Some}
use Rattle.undelivered.proofs.Keys.{put_there}
use Rattle.undelivered.proofs.waits.note.Goals as goal

pub returns : goal.returns
returns c = λ known there. put_there c.args.waiting.now c.insert.new.self c.args.reference c.args.turn (Some c.args.place) known c.insert.result c.insert.ensures.updates c.insert.ensures.absent there
