use Rattle.std.proofs.Common.{arith}
use Rattle.log_ends.proofs.Numbering.{same_from_prefix, prefix_from_same}
use Rattle.log_ends.proofs.sequences.Trace.is_same.Goals as goal

pub returns : goal.returns
returns c =
    λ numbers ours others tells one two. (
      (λ t. same_from_prefix numbers c.args.self.now.numbers.items c.args.other.now.numbers.items ours others one two (omega (arith, c.if-len.false)) ((c.is_prefix_of.ensures numbers ours others tells one two).0 t)),
      (λ same. (c.is_prefix_of.ensures numbers ours others tells one two).1 (prefix_from_same ours others same)),
    )
