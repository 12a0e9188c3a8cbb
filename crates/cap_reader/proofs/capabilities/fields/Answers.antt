use Rattle.std.proofs.Common.{[]}
use Rattle.cap_reader.specs.Fields.{fields_in}
use Rattle.cap_reader.specs.Places.{sections_at}
use Rattle.cap_reader.proofs.Paths.{listed_by}
use Rattle.cap_reader.proofs.Rising.{rising_by}
use Rattle.cap_reader.proofs.Prices.{affordable_by, too_dear_by}
use Rattle.cap_reader.proofs.capabilities.fields.Goals as goal

pub returns-clause-listed : goal.returns-clause-listed
returns-clause-listed c =
    listed_by ((sections_at c.args.frame.now c.args.place.now).child c.args.n) c.list_capabilities.result c.list_capabilities.new.limits.words c.args.limits.now.words c.list_capabilities.ensures.value

pub returns-clause-rising : goal.returns-clause-rising
returns-clause-rising c =
    rising_by ((sections_at c.args.frame.now c.args.place.now).child c.args.n) c.list_capabilities.result c.list_capabilities.new.limits.words c.args.limits.now.words c.list_capabilities.ensures.value

pub returns-clause-affordable : goal.returns-clause-affordable
returns-clause-affordable c le =
    affordable_by c.list_capabilities.result c.list_capabilities.new.limits.words c.args.limits.now.words (fields_in [] ((sections_at c.args.frame.now c.args.place.now).child c.args.n)) c.list_capabilities.ensures.value le

pub returns-clause-too_dear : goal.returns-clause-too_dear
returns-clause-too_dear c lt =
    too_dear_by c.list_capabilities.result c.list_capabilities.new.limits.words c.args.limits.now.words (fields_in [] ((sections_at c.args.frame.now c.args.place.now).child c.args.n)) c.list_capabilities.ensures.value lt
