use Rattle.turn_taking.proofs.Ends.{took_all}
use Rattle.turn_taking.proofs.lane_laws.empty_lanes_took_all.Goals as goal

pub returns : goal.returns
returns c = took_all
