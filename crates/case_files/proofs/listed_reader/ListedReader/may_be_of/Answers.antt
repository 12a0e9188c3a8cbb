use Rattle.std.proofs.Common.{length, take, sym, ◌∙◌}
use Rattle.case_files.proofs.Pieces.{may_be_front, not_over, same_length}
use Rattle.case_files.proofs.listed_reader.ListedReader.may_be_of.Goals as goal

pub returns-then-not-self : goal.returns-then-not-self
returns-then-not-self c = λ still.
    let begins = sym c.starts_with.ensures.value ∙ c.if-starts_with.true in
    let all = rw c.as_slice-all.ensures at begins in
    let came = rw c.as_slice.ensures at all in
    rw (← c.self.view_is) (may_be_front c.args.bytes.now (take c.self.inside.given c.self.inside.bytes) c.self.inside.is_over came (λ over. not_over c.self.inside.is_over still over))

pub returns-else-not-self : goal.returns-else-not-self
returns-else-not-self c = λ long.
    let begins = sym c.starts_with.ensures.value ∙ c.if-starts_with.true in
    let all = rw c.as_slice-all.ensures at begins in
    let came = rw c.as_slice.ensures at all in
    let as_long = rw (c.as_slice-all.ensures, c.as_slice.ensures) at long in
    rw (← c.self.view_is) (may_be_front c.args.bytes.now (take c.self.inside.given c.self.inside.bytes) c.self.inside.is_over came (λ over. same_length (length c.args.bytes.now) (length (take c.self.inside.given c.self.inside.bytes)) as_long))
