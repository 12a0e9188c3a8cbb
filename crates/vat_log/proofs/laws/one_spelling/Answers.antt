use Rattle.std.proofs.Common.{sym, ◌∙◌, refl}
use Rattle.vat_log.specs.Fits.{record_limit}
use Rattle.vat_log.specs.Spelling.{log_bytes}
use Rattle.vat_log.proofs.Spans.{IsBytes-from_all}
use Rattle.vat_log.proofs.LogLaws.{log_takes, log_again}
use Rattle.vat_log.proofs.laws.one_spelling.Goals as goal

pub returns-clause-read_is_spelled : goal.returns-clause-read_is_spelled
returns-clause-read_is_spelled c = λ bytes log fits e. (log_takes record_limit bytes log (IsBytes-from_all bytes fits) e).0

pub returns-clause-spelled_is_read : goal.returns-clause-spelled_is_read
returns-clause-spelled_is_read c = λ log fit. log_again record_limit (log_bytes log) log fit refl

pub returns-clause-same_bytes : goal.returns-clause-same_bytes
returns-clause-same_bytes c = λ a b log fa fb ea eb.
    (log_takes record_limit a log (IsBytes-from_all a fa) ea).0 ∙ sym (log_takes record_limit b log (IsBytes-from_all b fb) eb).0
