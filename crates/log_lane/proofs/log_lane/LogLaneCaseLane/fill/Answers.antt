use Rattle.std.proofs.Common.{ap, ◌∙◌}
use Rattle.std.specs.Option.{option_map}
use Rattle.log_lane.specs.Lanes.{as_lane}
use Rattle.log_lane.proofs.Reading.{filled}
use Rattle.log_lane.proofs.log_lane.LogLaneCaseLane.fill.Goals as goal

pub returns : goal.returns
returns g c = λ lane is.
    filled c.let_taken_go.new.self c.read.new.self c.read_what_came.new.self lane (ap (λ lane. option_map as_lane lane) c.let_taken_go.ensures ∙ is) c.read.ensures.more
    (λ before same. c.read_what_came.ensures.more before (c.see_whether_ample.ensures ∙ same)) (λ none. c.read_what_came.ensures.refused (c.see_whether_ample.ensures ∙ none))
