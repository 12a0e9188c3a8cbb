use Rattle.turn_taking.proofs.Ends.{are_of, are_stuck, are_left}
use Rattle.turn_taking.proofs.lane_laws.held_lanes_are_stuck.Goals as goal

pub returns-clause-stuck : goal.returns-clause-stuck
returns-clause-stuck c = λ lanes later taken free pass held long there further. (are_of lanes later taken free pass long there further, are_stuck lanes later taken free pass long there further held)

pub returns-clause-left : goal.returns-clause-left
returns-clause-left c = λ lanes later taken free pass long there further. are_left lanes later taken free pass long there further
