use Rattle.std.proofs.Common.{◌≡◌, sym, ◌∙◌, ◌⊎◌, inl, inr}
use Rattle.cap_frame.specs.declared.frame_error.FrameError.{FrameError}
use Rattle.cap_frame.specs.declared.frame_error.FrameError.TheVariants.{Short, TooManySegments, Trailing, NoRoot}
use Rattle.wire_cut.proofs.Cutting.{cut_from, not_too_long, short_or_too_many}
use Rattle.wire_cut.proofs.cut.cut_next.Goals as goal

not_trailing : (fault : FrameError) → fault ≡ Trailing → (fault ≡ Short) ⊎ (fault ≡ TooManySegments) → ⊥
not_trailing fault is (inl short) = cc
not_trailing fault is (inr many) = cc

not_rootless : (fault : FrameError) → fault ≡ NoRoot → (fault ≡ Short) ⊎ (fault ≡ TooManySegments) → ⊥
not_rootless fault is (inl short) = cc
not_rootless fault is (inr many) = cc

pub unreachable-requires : goal.unreachable-requires
unreachable-requires c =
    not_trailing c.in-Err-Trailing.field-0 c.in-Err-Trailing.field-0-is (short_or_too_many _ _ (sym c.first_len.ensures.exact ∙ c.in-Err-Trailing.is))

pub unreachable-requires-in-Err-NoRoot : goal.unreachable-requires-in-Err-NoRoot
unreachable-requires-in-Err-NoRoot c =
    not_rootless c.in-Err-NoRoot.field-0 c.in-Err-NoRoot.field-0-is (short_or_too_many _ _ (sym c.first_len.ensures.exact ∙ c.in-Err-NoRoot.is))

pub returns-in_ok-split_to-in-Ok : goal.returns-in_ok-split_to-in-Ok
returns-in_ok-split_to-in-Ok c =
    let not_long = not_too_long c.is_too_long.result c.as_slice.result.now c.args.rest.now c.as_slice.ensures c.is_too_long.ensures c.if-is_too_long.false in
    cut_from c.args.rest.now c.as_slice-2.result.now c.split_to.new.self c.in_ok-split_to-in-Ok.field-0 c.first_len.result c.in-Ok.len c.as_slice-2.ensures c.first_len.ensures.exact c.in-Ok.is c.first_len.ensures.cut c.first_len.ensures.some not_long c.in_ok-split_to-in-Ok.ensures.front c.in_ok-split_to-in-Ok.ensures.rest
