use Rattle.std.proofs.Common.{ap, refl, ◌∙◌, arith}
use Rattle.cap_frame.specs.Segments.{table_len}
use Rattle.cap_frame.proofs.Spelling.{spelled_by, spelled_alone, not_spelled}
use Rattle.cap_frame.proofs.Frames.{IsFrame-of_kept}
use Rattle.cap_frame.proofs.frame.Frame.read.Goals as goal

pub count_in-requires : goal.count_in-requires
count_in-requires c = (IsFrame-of_kept _ c.args.bytes.now refl c.in_ok-check.ensures.exact).long

pub size_in-size-requires-clause-table : goal.size_in-size-requires-clause-table
size_in-size-requires-clause-table c = (IsFrame-of_kept _ c.args.bytes.now refl c.in_ok-check.ensures.exact).table_fits

pub invariant_of-result : goal.invariant_of-result
invariant_of-result c =
    let frame = IsFrame-of_kept _ c.args.bytes.now refl c.in_ok-check.ensures.exact in
    let counted = c.table_len_for-first.ensures ∙ ap table_len c.count_in.ensures.count in (
      c.in_ok-check.ensures.exact,
      counted,
      c.size_in-size.ensures.size,
      omega (arith, counted, frame.few),
      c.size_in-size.ensures.bound,
    )

pub returns-in_err-check-clause-only : goal.returns-in_err-check-clause-only
returns-in_err-check-clause-only c segments h =
    absurd (not_spelled c.args.bytes.now c.args.bytes.now c.in_err-check.field-0.0 refl c.in_err-check.ensures.exact segments h)

pub returns-clause-found : goal.returns-clause-found
returns-clause-found c =
    spelled_by c.args.bytes.now c.args.bytes.now refl c.in_ok-check.ensures.bytes c.in_ok-check.ensures.exact

pub returns-clause-only : goal.returns-clause-only
returns-clause-only c =
    spelled_alone c.args.bytes.now c.args.bytes.now refl c.in_ok-check.ensures.exact
