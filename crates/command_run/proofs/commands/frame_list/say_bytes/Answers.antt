use Rattle.std.proofs.Common.{◌≡◌, ◌≢◌, ◌∙◌, ◌==◌, ℕ, List, [], ◌∷◌, ◌++◌, length, take, drop, max, Bool, true, false, Option, Result, Ok, Err, IfOk, OnOk, refl, sym, ap, subst, inl, inr}
use Rattle.std.specs.Io.KnownBytes.{Appends}
use Rattle.std.proofs.KnownBytes.{Appends-kept, Appends-trans}
use Rattle.std.proofs.lemmas.Bool.{eqb-true}
use Rattle.std.proofs.lemmas.List.{nil_from_length}
use Rattle.report_lines.specs.declared.answer.Answer.TheVariants.{Fault}
use Rattle.report_lines.specs.declared.fault.Fault.TheVariants.{OutOfMemory}
use Rattle.report_lines.specs.Lines.{answer_text, line}
use Rattle.command_run.specs.CommandAnswers.{AnswersBytes}
use Rattle.command_run.specs.Glue.{Prints}
use Rattle.command_run.specs.FrameFiles.{Falls, lines, piece_len, piece_line, piece_status}
use Rattle.command_run.specs.Runs.{Wrote}
use Rattle.command_run.proofs.Falling.{AreShown, one_more, ord_max-max}
use Rattle.command_run.proofs.Told.{torn}
use Rattle.command_run.proofs.commands.frame_list.say_bytes.Goals as goal

-- the line for out of memory
abbrev last : List ℕ
last = line (answer_text (Fault OutOfMemory))

-- memory ran out here
short : (bytes rest : List ℕ) (pieces : List (List ℕ)) → Falls bytes pieces rest → rest ≢ [] → AnswersBytes bytes (lines pieces ++ last) 3
short bytes rest pieces falls some = inr (pieces, (rest, (last, falls, some, (refl, refl), refl)))

-- and this is said, or not
stopped : {W E : Type 0} (contents : W → Option (List ℕ)) (is_finished : W → Type 0) (old now new : W) (bytes rest : List ℕ) (status : ℕ) (r : Result ℕ E)
    → AreShown bytes (contents old) (contents now) rest status → rest ≢ [] → IfOk r (λ s. s ≡ 3) → OnOk r (Wrote contents is_finished now last new)
    → Prints (AnswersBytes bytes) (Wrote contents is_finished) old new r
stopped contents is_finished old now new bytes rest status (Err e) shown some is wrote = (lines shown.pieces ++ last, (3, short bytes rest shown.pieces shown.falls some))
stopped contents is_finished old now new bytes rest status (Ok s) shown some is wrote = (
  lines shown.pieces ++ last,
  subst (λ n. AnswersBytes bytes (lines shown.pieces ++ last) n) (sym is) (short bytes rest shown.pieces shown.falls some),
  (Appends-trans (contents old) (contents now) (contents new) (lines shown.pieces) last shown.shown wrote.0, wrote.1),
)

-- there is a rest
some_left : (rest : List ℕ) (empty : Bool) → empty ≡ (length rest == 0) → empty ≡ false → rest ≢ []
some_left [] empty is more none = absurd (cc)
some_left (x ∷ xs) empty is more none = absurd (cc)

-- there is none
none_left : (rest : List ℕ) (empty : Bool) → empty ≡ (length rest == 0) → empty ≡ true → rest ≡ []
none_left rest empty is all = nil_from_length rest (eqb-true (length rest) 0 (sym is ∙ all))

-- all pieces have been shown
whole : (bytes rest : List ℕ) (old now : Option (List ℕ)) (status : ℕ) (shown : AreShown bytes old now rest status) → rest ≡ [] → AnswersBytes bytes (lines shown.pieces) status
whole bytes rest old now status shown none = inl (shown.pieces, subst (λ r. Falls bytes shown.pieces r) none shown.falls, refl, shown.worst)

pub returns-in_default : goal.returns-in_default
returns-in_default g c =
    stopped g.O.Output.contents g.O.Output.is_finished c.args.out.now c.loop-alloc.out c.say.new.out c.args.bytes c.loop-alloc.rest c.loop-alloc.status c.say.result
    c.loop-alloc.invariant.0 (some_left c.loop-alloc.rest c.is_empty.result c.is_empty.ensures c.loop-alloc-test.true) c.say.ensures.status c.say.ensures.line

pub returns-in_err-put : goal.returns-in_err-put
returns-in_err-put g c =
    let shown = c.loop-alloc.invariant.0 in
    let some : c.loop-alloc.rest ≢ [] = some_left c.loop-alloc.rest c.is_empty.result c.is_empty.ensures c.loop-alloc-test.true in
    torn _ (AnswersBytes c.args.bytes) (Wrote g.O.Output.contents g.O.Output.is_finished) c.args.out.now c.put.new.out c.from_residual.result (lines shown.pieces ++ last) 3
    (short c.args.bytes c.loop-alloc.rest shown.pieces shown.falls some) c.from_residual.ensures.1

pub loop-alloc-preserved : goal.loop-alloc-preserved
loop-alloc-preserved g c =
    let old = g.O.Output.contents c.args.out.now in
    let now = g.O.Output.contents c.loop-alloc.out in
    let new = g.O.Output.contents c.put.new.out in
    let rest = c.loop-alloc.rest in
    let piece = take (piece_len rest) rest in
    let answered = c.in-Ok.ensures in
    let some : rest ≢ [] = some_left rest c.is_empty.result c.is_empty.ensures c.loop-alloc-test.true in
    let wrote : Appends now new (piece_line piece) = subst (λ t. Appends now new t) answered.line c.in_ok-put.ensures.line in
    let more = one_more c.args.bytes rest old now new c.loop-alloc.status c.loop-alloc.invariant.0 some wrote in
    let status : max c.loop-alloc.status (piece_status piece) ≡ c.max-status.result =
    ap (max c.loop-alloc.status) (sym answered.status) ∙ ap (max c.loop-alloc.status) (sym c.in_ok-put.ensures.status) ∙ sym (ord_max-max c.loop-alloc.status c.in_ok-put.field-0)
    ∙ sym c.max-status.ensures in
    let left : drop (piece_len rest) rest ≡ c.next_answer.new.bytes = sym answered.rest in (
      subst (λ s. AreShown c.args.bytes old new c.next_answer.new.bytes s) status
          (subst (λ r. AreShown c.args.bytes old new r (max c.loop-alloc.status (piece_status piece))) left more),
      c.in_ok-put.ensures.more,
    )

pub returns-in_err-finish : goal.returns-in_err-finish
returns-in_err-finish g c =
    let shown = c.loop-alloc.invariant.0 in
    let none : c.loop-alloc.rest ≡ [] = none_left c.loop-alloc.rest c.is_empty.result c.is_empty.ensures c.loop-alloc-test.false in
    torn _ (AnswersBytes c.args.bytes) (Wrote g.O.Output.contents g.O.Output.is_finished) c.args.out.now c.finish.new.self c.from_residual-in_err-finish.result
    (lines shown.pieces) c.loop-alloc.status (whole c.args.bytes c.loop-alloc.rest _ _ c.loop-alloc.status shown none) c.from_residual-in_err-finish.ensures.1

pub returns : goal.returns
returns g c =
    let old = g.O.Output.contents c.args.out.now in
    let now = g.O.Output.contents c.loop-alloc.out in
    let new = g.O.Output.contents c.finish.new.self in
    let shown = c.loop-alloc.invariant.0 in
    let none : c.loop-alloc.rest ≡ [] = none_left c.loop-alloc.rest c.is_empty.result c.is_empty.ensures c.loop-alloc-test.false in (
      lines shown.pieces,
      whole c.args.bytes c.loop-alloc.rest old now c.loop-alloc.status shown none,
      (Appends-kept old now new (lines shown.pieces) shown.shown c.in_ok-finish.ensures.bytes, c.in_ok-finish.ensures.finished),
    )
