use Rattle.cap_frame.specs.Segments.{segments_of}
use Rattle.exception_reasons.proofs.Short.{short_in_frame}
use Rattle.exception_reasons.proofs.laws.reasons_are_short.Goals as goal

pub returns : goal.returns
returns c = λ bytes limits. short_in_frame (segments_of bytes) limits
