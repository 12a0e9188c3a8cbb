use Rattle.std.proofs.Common.{◌∙◌}
use Rattle.cap_reader.proofs.Texts.{byte_at}
use Rattle.cap_reader.proofs.text.TextAt.byte.Goals as goal

pub returns : goal.returns
returns c =
    c.byte_from.ensures ∙ byte_at c.args.frame.now c.args.self.now.segment c.args.self.now.start c.args.self.now.len c.args.i c.requires
