use Rattle.std.proofs.Common.{◌<◌, ◌≤◌, length, reverse, refl, arith}
use Rattle.std.proofs.lemmas.List.{length-reverse}
use Rattle.vat_log.specs.Fits.{record_limit}
use Rattle.vat_log.proofs.ReadOn.{log_given}
use Rattle.vat_log.proofs.Runs.{limit_is}
use Rattle.vat_log.proofs.Streams.{stops_here, taken_on}
use Rattle.vat_log.proofs.Windows.{begins_with, read_to_end}
use Rattle.vat_log.proofs.log_stream.LogStream.next_here.Goals as goal

-- at the end of the window

pub returns-then-self-len-clause-err : goal.returns-then-self-len-clause-err
returns-then-self-len-clause-err g c =
    let kept = c.self.inside in
    let came = (g.P.Pieces.so_far kept.pieces).bytes in
    let past : length kept.window ≤ kept.at = omega (arith, c.len.ensures.value) in
    rw (← c.self.view_is) (refl, read_to_end came kept.window (log_given kept.version kept.vat kept.given.items) kept.begin kept.at c.self.invariant.2 past)

-- a record is given

pub overflow_add-self : goal.overflow_add-self
overflow_add-self g c =
    let kept = c.self.inside in
    let few : length (reverse kept.given.items) ≤ record_limit = c.self.invariant.2.fits.counted in
    omega (arith, c.self.invariant.1, length-reverse kept.given.items, few, limit_is)

pub invariant_of-self : goal.invariant_of-self
invariant_of-self g c =
    let kept = c.self.inside in
    let came = (g.P.Pieces.so_far kept.pieces).bytes in
    let more = taken_on came kept.window kept.version kept.vat kept.given.items kept.count kept.begin kept.at c.in-Ok.entry c.in-Ok.after (c.self.invariant.1, c.self.invariant.2) c.in-Ok.ensures.gives in
    rw (c.with-self-inside.ensures, c.body.ensures.value) (c.self.invariant.0, more.0, more.1)

pub returns-in-Ok-clause-begun : goal.returns-in-Ok-clause-begun
returns-in-Ok-clause-begun g c =
    let kept = c.self.inside in
    let came = (g.P.Pieces.so_far kept.pieces).bytes in
    let more = taken_on came kept.window kept.version kept.vat kept.given.items kept.count kept.begin kept.at c.in-Ok.entry c.in-Ok.after (c.self.invariant.1, c.self.invariant.2) c.in-Ok.ensures.gives in
    rw (c.with-self-inside.ensures, c.body.ensures.value) (begins_with came kept.window _ kept.begin c.in-Ok.after more.1)

-- no record is given

pub returns-in-Err-clause-begun : goal.returns-in-Err-clause-begun
returns-in-Err-clause-begun g c =
    let kept = c.self.inside in
    let came = (g.P.Pieces.so_far kept.pieces).bytes in
    rw (← c.self.view_is) (begins_with came kept.window (log_given kept.version kept.vat kept.given.items) kept.begin kept.at c.self.invariant.2)

pub returns-in-Err-clause-err : goal.returns-in-Err-clause-err
returns-in-Err-clause-err g c =
    let kept = c.self.inside in
    let came = (g.P.Pieces.so_far kept.pieces).bytes in
    let lt : kept.at < length kept.window = omega (arith, c.len.ensures.value) in
    rw (← c.self.view_is) (refl, stops_here (g.P.Pieces.so_far kept.pieces) kept.window kept.version kept.vat kept.given.items kept.count kept.begin kept.at c.in-Err.fault c.at.result (c.self.invariant.1, c.self.invariant.2) lt c.in-Err.ensures.gives c.at.ensures)
