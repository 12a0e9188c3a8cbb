use Rattle.cap_frame.specs.Segments.{segments_of}
use Rattle.rpc_view.proofs.Editions.{more_in_frame}
use Rattle.rpc_view.proofs.laws.later_edition_reads_more.Goals as goal

pub returns : goal.returns
returns c = λ bytes limits message h. more_in_frame (segments_of bytes) limits message h
