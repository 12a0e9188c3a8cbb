use Rattle.std.proofs.Common.{◌+◌, ◌++◌, length, take, drop, sym, ap, ◌∙◌, arith, List, ℕ}
use Rattle.case_files.proofs.Pieces.{brings, listed_on, part_of, some_left}
use Rattle.case_files.proofs.listed_reader.ListedReaderPieces.more.Goals as goal

pub returns-clause-some : goal.returns-clause-some
returns-clause-some c =
    let left = c.split_at.result.1.now in
    rw (← c.self.view_is) (brings c.self.inside.bytes c.args.rest.now c.in_ok-window-2.window left c.self.inside.given c.min-count.result (c.split_at.ensures.back ∙ ap (drop c.self.inside.given) c.as_slice.ensures)
    (let some = some_left (length left) (sym c.is_empty.ensures ∙ c.if-is_empty.false) in omega (arith, c.min-count.ensures, c.max.ensures, some))
    (omega (arith, c.min-count.ensures))
    (c.in_ok-window-2.ensures.ok ∙ c.in_ok-extend_from_slice-2.ensures.ok ∙ ap (λ (w : List ℕ). w ++ take c.min-count.result left) (c.in_ok-extend_from_slice.ensures.ok ∙ ap (λ (w : List ℕ). w ++ c.args.rest.now) c.in_ok-window.ensures.items)))

pub returns-clause-on : goal.returns-clause-on
returns-clause-on c =
    let kept = c.self.inside in
    rw (← c.self.view_is) (listed_on kept.bytes kept.given c.min-count.result kept.is_over kept.fault c.in_default.is c.self.invariant.1)

pub returns-clause-part : goal.returns-clause-part
returns-clause-part c =
    let kept = c.self.inside in
    part_of kept.bytes (kept.given + c.min-count.result) kept.is_over (λ over. (let all = c.self.invariant.1 over in omega (arith, all)))
