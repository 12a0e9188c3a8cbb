use Rattle.std.proofs.Common.{Option, ℕ, ap, ◌∙◌}
use Rattle.std.specs.Option.{unwrap_or}
use Rattle.std.proofs.lemmas.Option.{unwrap_or-slice_get}
use Rattle.cap_reader.specs.Pointers.{words_of}
use Rattle.cap_reader.proofs.extent.word_or_zero.Goals as goal

pub returns : goal.returns
returns c =
    c.unwrap_or.ensures ∙ (ap (λ (o : Option ℕ). unwrap_or o 0) c.word.ensures ∙ unwrap_or-slice_get (words_of c.args.frame.now c.args.segment) c.args.at 0)
