use Rattle.std.proofs.Common.{◌≡◌, ◌∙◌, ◌+◌, ◌*◌, ℕ, drop, ap, refl, arith}
use Rattle.byteorder.specs.Endian.{little_number}
use Rattle.cap_frame.proofs.Frames.{IsFrame-of_kept, no_word_at, word_read, word_fits}
use Rattle.cap_frame.proofs.frame.Frame.first_word.Goals as goal

pub returns-then-index-self : goal.returns-then-index-self
returns-then-index-self c =
    let kept = c.self.inside.bytes.now in
    rw (← c.self.view_is) (no_word_at kept kept 0 0 c.args.index refl refl (omega arith) (omega (arith, c.self.invariant.2, c.if-index-self.true)))

pub word_from-requires : goal.word_from-requires
word_from-requires c =
    let kept = c.self.inside.bytes.now in
    let frame = IsFrame-of_kept kept kept refl c.self.invariant.0 in
    let fits = word_fits kept 0 c.args.index frame (omega arith) (omega (arith, c.self.invariant.2)) in
    omega (arith, fits, c.self.invariant.1)

pub returns : goal.returns
returns c =
    let kept = c.self.inside.bytes.now in
    let place : c.self.inside.first + 8 * c.args.index ≡ c.self.inside.first + 8 * (0 + c.args.index) = omega arith in
    let e : c.word_from.result ≡ little_number 8 (drop (c.self.inside.first + 8 * (0 + c.args.index)) kept) =
    c.word_from.ensures ∙ ap (λ (k : ℕ). little_number 8 (drop k kept)) place in
    rw (← c.self.view_is) (word_read kept kept 0 0 c.args.index c.self.inside.first 0 c.word_from.result refl refl (omega arith) (omega (arith, c.self.invariant.2)) c.self.invariant.1 refl e)
