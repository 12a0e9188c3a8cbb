use Rattle.cap_reader.proofs.Texts.{text_len}
use Rattle.cap_reader.proofs.text.TextAt.len.Goals as goal

pub returns : goal.returns
returns c = λ segments. text_len segments c.args.self.now
