use Rattle.std.proofs.Common.{◌≤◌, length, reverse, arith}
use Rattle.std.proofs.lemmas.List.{length-reverse}
use Rattle.vat_log.specs.Fits.{record_limit}
use Rattle.vat_log.proofs.Runs.{limit_is}
use Rattle.vat_log.proofs.spelled_log.SpelledLog.len.Goals as goal

pub returns-clause-bound : goal.returns-clause-bound
returns-clause-bound c =
    let kept = c.self.inside in
    let counted : length (reverse kept.records.items) ≤ record_limit = c.self.invariant.1.fits.counted in
    omega (arith, c.self.invariant.0, length-reverse kept.records.items, counted, limit_is)
