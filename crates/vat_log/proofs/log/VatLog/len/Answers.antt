use Rattle.std.proofs.Common.{◌≤◌, length, arith}
use Rattle.vat_log.specs.Fits.{record_limit}
use Rattle.vat_log.proofs.Runs.{limit_is}
use Rattle.vat_log.proofs.log.VatLog.len.Goals as goal

pub returns-clause-bound : goal.returns-clause-bound
returns-clause-bound c =
    let counted : length c.self.inside.records.items ≤ record_limit = c.self.invariant.fits.counted in
    omega (arith, c.len.ensures, counted, limit_is)
