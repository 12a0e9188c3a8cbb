use Rattle.host_files.specs.Holding.{held_under}
use Rattle.host_files.proofs.ClosedReaders.{closes_so}
use Rattle.host_files.proofs.remembered_files.RememberingFolderSource.close.Goals as goal

pub returns : goal.returns
returns g c =
    closes_so (held_under g.R.LogFile.HostFile.in_file g.R.LogInput.HostInput.in_input) c.args.self.now c.keep_closed.new.self c.args.name.now c.args.reader.now.came c.args.failed c.closed.result c.closed.ensures
