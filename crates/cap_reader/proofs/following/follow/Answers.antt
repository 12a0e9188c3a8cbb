use Rattle.std.proofs.Common.{◌∙◌, ap, sym}
use Rattle.cap_reader.specs.Pointers.{pointee_behind, pointer_of}
use Rattle.cap_reader.proofs.following.follow.Goals as goal

pub returns-in-Far : goal.returns-in-Far
returns-in-Far c =
    let frame = c.args.frame.now in
    c.behind_pad.ensures c.args.segment c.args.at
    ∙ ap (pointee_behind frame c.args.segment c.args.at) (sym c.in-Far.is ∙ c.of.ensures)
    ∙ ap (λ word. pointee_behind frame c.args.segment c.args.at (pointer_of word)) c.word_or_zero.ensures
