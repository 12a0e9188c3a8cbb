use Rattle.std.proofs.Common.{◌≡◌, ◌≤◌, List, length, All, sym, ap, subst, ◌∙◌}
use Rattle.vat_log.specs.declared.body.Body.{Body}
use Rattle.vat_log.specs.Fits.{record_limit, Fits, IsWide, LogFits}
use Rattle.vat_log.specs.Log.{Log}
use Rattle.vat_log.specs.Spelling.{log_bytes}
use Rattle.vat_log.proofs.BodyLaws.{listed_as_written}
use Rattle.vat_log.proofs.LogLaws.{log_again}
use Rattle.vat_log.proofs.log.log_with.Goals as goal

pub invariant_of-result : goal.invariant_of-result
invariant_of-result c =
    let same = sym c.spelled.ensures.same in
    let log : Log = record { version = c.args.version; vat = c.args.vat; records = c.spelled.new.records.items } in
    let spelled : c.in-Ok.bytes ≡ log_bytes log = c.in-Ok.ensures.spelled ∙ ap (λ (records : List Body). log_bytes (record { version = c.args.version; vat = c.args.vat; records = records })) same in
    let fit : All Fits c.spelled.new.records.items = subst (All Fits) same c.in-Ok.ensures.fit in
    let fits : LogFits record_limit log = record {
      vat = c.ranges.vat.fits;
      counted = subst (λ (records : List Body). length records ≤ record_limit) same c.requires.few;
      fit = fit;
      listed = λ k d lt. listed_as_written c.args.version c.requires.counts _ (fit k d lt).counted;
      wide = subst (All IsWide) same c.in-Ok.ensures.wide;
    } in
    record { read = log_again record_limit c.in-Ok.bytes log fits spelled; spelled = spelled; fits = fits }
