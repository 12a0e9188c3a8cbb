use Rattle.std.proofs.Common.{◌++◌, ap₂}
use Rattle.std.proofs.Output.{has_written_of_eq}
use Rattle.picture.specs.Page.{page_style}
use Rattle.picture.proofs.page.PageStyleDisplay.fmt.Goals as goal

pub returns-clause-writes : goal.returns-clause-writes
unfolding page_style
returns-clause-writes g c plain ok =
    has_written_of_eq g.W.Write.write_str_gives c.args.f.now _ _ c.write.new.self (ap₂ ◌++◌ c.layout-layout.ensures c.dark_layout-dark.ensures) (c.write.ensures.writes plain ok)
