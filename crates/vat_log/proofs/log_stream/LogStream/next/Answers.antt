use Rattle.std.proofs.Common.{◌≡◌, ◌<◌, ◌≤◌, ℕ, List, Ok, length, reverse, subst, arith}
use Rattle.std.proofs.lemmas.List.{length-reverse}
use Rattle.vat_log.specs.Fits.{record_limit}
use Rattle.vat_log.specs.Reading.{kind_at}
use Rattle.vat_log.proofs.Runs.{limit_is}
use Rattle.vat_log.proofs.Streams.{taken_on}
use Rattle.vat_log.proofs.Windows.{begins_with, record_found}
use Rattle.vat_log.proofs.log_stream.LogStream.next.Goals as goal

pub overflow_add-self : goal.overflow_add-self
overflow_add-self g c =
    let kept = c.self.inside in
    let few : length (reverse kept.given.items) ≤ record_limit = c.self.invariant.2.fits.counted in
    omega (arith, c.self.invariant.1, length-reverse kept.given.items, few, limit_is)

pub invariant_of-self : goal.invariant_of-self
invariant_of-self g c =
    let kept = c.self.inside in
    let came = (g.P.Pieces.so_far kept.pieces).bytes in
    let lt : kept.at < length kept.window = omega (arith, c.len.ensures.value) in
    let few : kept.count < 4294967295 = omega arith in
    let room : kept.count < record_limit = omega (arith, few, limit_is) in
    let kind = subst (λ (bytes : List ℕ). kind_at bytes kept.at ≡ Ok c.in-Ok.kind) c.as_slice.ensures c.in-Ok.ensures in
    let found = record_found kept.version kept.count kept.window kept.at c.in-Ok.kind (c.in-Ok-read.entry, c.in-Ok-read.after) lt room kind c.in-Ok-read.ensures.gives in
    let more = taken_on came kept.window kept.version kept.vat kept.given.items kept.count kept.begin kept.at c.in-Ok-read.entry c.in-Ok-read.after (c.self.invariant.1, c.self.invariant.2) found in
    rw (c.with-self-inside.ensures, c.body.ensures.value) (c.self.invariant.0, more.0, more.1)

pub returns-in-Ok-read-clause-begun : goal.returns-in-Ok-read-clause-begun
returns-in-Ok-read-clause-begun g c =
    let kept = c.self.inside in
    let came = (g.P.Pieces.so_far kept.pieces).bytes in
    let lt : kept.at < length kept.window = omega (arith, c.len.ensures.value) in
    let few : kept.count < 4294967295 = omega arith in
    let room : kept.count < record_limit = omega (arith, few, limit_is) in
    let kind = subst (λ (bytes : List ℕ). kind_at bytes kept.at ≡ Ok c.in-Ok.kind) c.as_slice.ensures c.in-Ok.ensures in
    let found = record_found kept.version kept.count kept.window kept.at c.in-Ok.kind (c.in-Ok-read.entry, c.in-Ok-read.after) lt room kind c.in-Ok-read.ensures.gives in
    let more = taken_on came kept.window kept.version kept.vat kept.given.items kept.count kept.begin kept.at c.in-Ok-read.entry c.in-Ok-read.after (c.self.invariant.1, c.self.invariant.2) found in
    rw (c.with-self-inside.ensures, c.body.ensures.value) (begins_with came kept.window _ kept.begin c.in-Ok-read.after more.1)
