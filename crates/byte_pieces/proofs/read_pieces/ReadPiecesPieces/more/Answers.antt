use Rattle.std.proofs.Common.{◌≡◌, ◌++◌, ℕ, List, refl, ap, ◌∙◌}
use Rattle.byte_pieces.specs.Coming.{joined, left_at_first}
use Rattle.byte_pieces.proofs.Coming.{piece_read}
use Rattle.byte_pieces.proofs.read_pieces.ReadPiecesPieces.more.Goals as goal

-- one more piece was read

pub invariant_of-self-in-Ok-freeze : goal.invariant_of-self-in-Ok-freeze
invariant_of-self-in-Ok-freeze g c =
    let kept = c.self.inside in
    let rest = c.args.rest.now in
    let gave = c.in-Ok.ensures.gave in
    let window = c.in-Ok-freeze.bytes in
    let is : window ≡ rest ++ gave.0 =
    c.in-Ok-freeze.ensures.ok ∙ gave.2 ∙ ap (λ (w : List ℕ). w ++ gave.0) (c.in_ok-reserve.ensures.items ∙ c.in_ok-extend_from_slice.ensures.ok ∙ ap (λ (w : List ℕ). w ++ rest) c.in_ok-window.ensures.items) in
    rw c.with-self-inside.ensures
    (piece_read (left_at_first g.R.Read.remaining kept.begun.items) (g.R.Read.remaining kept.reader) (g.R.Read.remaining c.read_once.new.reader) (joined kept.gave.items) rest window gave.0 _ kept.is_over kept.fault refl is
    c.if-self.false (c.self.invariant.left c.in_default.is) gave.3)

pub returns-in-Ok-freeze-clause-part : goal.returns-in-Ok-freeze-clause-part
returns-in-Ok-freeze-clause-part g c =
    let kept = c.self.inside in
    let rest = c.args.rest.now in
    let gave = c.in-Ok.ensures.gave in
    let window = c.in-Ok-freeze.bytes in
    let is : window ≡ rest ++ gave.0 =
    c.in-Ok-freeze.ensures.ok ∙ gave.2 ∙ ap (λ (w : List ℕ). w ++ gave.0) (c.in_ok-reserve.ensures.items ∙ c.in_ok-extend_from_slice.ensures.ok ∙ ap (λ (w : List ℕ). w ++ rest) c.in_ok-window.ensures.items) in
    let on = piece_read (left_at_first g.R.Read.remaining kept.begun.items) (g.R.Read.remaining kept.reader) (g.R.Read.remaining c.read_once.new.reader) (joined kept.gave.items) rest window gave.0 _ kept.is_over kept.fault refl is
    c.if-self.false (c.self.invariant.left c.in_default.is) gave.3 in
    rw c.with-self-inside.ensures on.part
