use Rattle.std.proofs.Common.{◌≡◌, ◌<◌, ◌-◌, ◌^◌, ℕ, List, take, drop, length, ap, subst, ◌∙◌, arith}
use Rattle.std.proofs.lemmas.List.{take_rest}
use Rattle.byte_pieces.specs.Coming.{Brings}
use Rattle.vat_log.proofs.ReadOn.{log_given}
use Rattle.vat_log.proofs.Streams.{at_piece, filled}
use Rattle.vat_log.proofs.Windows.{begins_with, window_bound}
use Rattle.vat_log.proofs.log_stream.LogStream.fill.Goals as goal

-- the window lies too far from the begin

pub returns-in_default-clause-begun : goal.returns-in_default-clause-begun
returns-in_default-clause-begun g c =
    let kept = c.self.inside in
    let came = (g.P.Pieces.so_far kept.pieces).bytes in
    rw (← c.self.view_is) (begins_with came kept.window (log_given kept.version kept.vat kept.given.items) kept.begin kept.at c.self.invariant.2)

pub returns-in_default-clause-bound : goal.returns-in_default-clause-bound
returns-in_default-clause-bound g c =
    let kept = c.self.inside in
    let came = (g.P.Pieces.so_far kept.pieces).bytes in
    let short : length kept.window < 2 ^ 63 = omega (arith, c.len.ensures.value, c.len.ensures.bound) in
    rw (← c.self.view_is) (window_bound came kept.window (log_given kept.version kept.vat kept.given.items) kept.begin kept.at c.self.invariant.2 short)

-- one more piece came

pub invariant_of-self-2 : goal.invariant_of-self-2
invariant_of-self-2 g c =
    let kept = c.self.inside in
    let came = (g.P.Pieces.so_far kept.pieces).bytes in
    let later = (g.P.Pieces.so_far c.more.new.self).bytes in
    let window = c.in-Some-2.window in
    let bytes = c.as_slice.result.now in
    let brings = at_piece c.in_ok-window.field-0 window _ c.in-Some-2.is c.in_ok-window.ensures.some in
    let rest : take (length bytes - kept.at) (drop kept.at bytes) ≡ drop kept.at kept.window = take_rest bytes kept.at ∙ ap (drop kept.at) c.as_slice.ensures in
    let b = subst (λ (r : List ℕ). Brings r came window later) rest brings in
    let there = filled came kept.window kept.version kept.vat kept.given.items kept.count kept.begin kept.at later window c.in-Some.begin (c.self.invariant.1, c.self.invariant.2) b (omega (arith, c.in-Some.ensures)) (rw (← c.as_slice-2.ensures) c.are_octets.ensures) in
    (c.in_ok-window.ensures.part, there.0, there.1)
