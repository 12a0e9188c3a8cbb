use Rattle.std.proofs.Common.{◌≡◌, ◌∙◌, sym, ap, ℕ, List, Option, Some, ◌++◌, ◌∷◌, [], subst, length, ◌-◌}
use Rattle.std.specs.Prelude.{unwrap_or, slice_get}
use Rattle.log_ends.specs.Glue.{sequence_number, number_behind, Traces}
use Rattle.log_ends.proofs.Numbering.{now_by_last, of_none, trace_more}
use Rattle.log_ends.proofs.sequences.Trace.push.Goals as goal

pub returns-clause-ok : goal.returns-clause-ok
returns-clause-ok c =
    λ frames traces.
    let last = c.unwrap_or-so_far.ensures ∙ ap (λ (o : Option ℕ). unwrap_or o 0) (c.copied.ensures ∙ c.last.ensures.value ∙ ap (λ (l : List ℕ). slice_get l (length l - 1)) c.deref.ensures.value) in
    let now : sequence_number c.args.sequences.now frames ≡ Some c.unwrap_or-so_far.result = now_by_last (sequence_number c.args.sequences.now) c.args.self.now.numbers.items frames (of_none (number_behind c.args.sequences.now)) traces ∙ ap Some (sym last) in
    subst (λ (l : List ℕ). Traces (sequence_number c.longer.new.self) l (frames ++ (c.args.frame.now ∷ []))) (sym c.in_ok-push.ensures.items)
    (trace_more (sequence_number c.args.sequences.now) (sequence_number c.longer.new.self) c.longer.ensures.keeps c.args.self.now.numbers.items frames c.args.frame.now c.in_ok-number.number traces (c.in_ok-number.ensures.ok frames now))
