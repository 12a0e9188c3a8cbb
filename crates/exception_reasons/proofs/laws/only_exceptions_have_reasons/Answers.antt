use Rattle.cap_frame.specs.Segments.{segments_of}
use Rattle.exception_reasons.proofs.Excepting.{frame_excepting}
use Rattle.exception_reasons.proofs.laws.only_exceptions_have_reasons.Goals as goal

pub returns : goal.returns
returns c = λ bytes edition limits message reason said why. frame_excepting (segments_of bytes) edition limits message reason said why
