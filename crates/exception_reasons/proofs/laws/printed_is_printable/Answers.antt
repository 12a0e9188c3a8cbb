use Rattle.exception_reasons.proofs.Plain.{all_printable}
use Rattle.exception_reasons.proofs.laws.printed_is_printable.Goals as goal

pub returns : goal.returns
returns c = λ bytes small. all_printable bytes small
