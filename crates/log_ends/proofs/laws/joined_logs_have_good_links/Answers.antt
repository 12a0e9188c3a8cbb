use Rattle.log_ends.proofs.Kept.{good_links}
use Rattle.log_ends.proofs.laws.joined_logs_have_good_links.Goals as goal

pub returns : goal.returns
returns c = good_links
