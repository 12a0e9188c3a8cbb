use Rattle.std.proofs.Common.{◌<◌, ◌≤◌, length, reverse, refl, arith}
use Rattle.std.proofs.lemmas.List.{length-reverse}
use Rattle.std.proofs.lemmas.Result.{err_from_is_err_and}
use Rattle.vat_log.specs.Fits.{record_limit}
use Rattle.vat_log.proofs.ReadOn.{log_given, one_given}
use Rattle.vat_log.proofs.Runs.{limit_is, longest_at_the_end, read_begins, read_whole}
use Rattle.vat_log.proofs.Windows.{given_next, stops_next}
use Rattle.vat_log.proofs.reader.LogReader.next.Goals as goal

-- at the end

pub returns-then-self-len-clause-begun : goal.returns-then-self-len-clause-begun
returns-then-self-len-clause-begun c =
    let kept = c.self.inside in
    rw (← c.self.view_is) (read_begins kept.bytes (log_given kept.version kept.vat kept.given.items) kept.at c.self.invariant.2)

pub returns-then-self-len-clause-given : goal.returns-then-self-len-clause-given
returns-then-self-len-clause-given c =
    let kept = c.self.inside in
    let log = log_given kept.version kept.vat kept.given.items in
    let past : length kept.bytes ≤ kept.at = omega (arith, c.len.ensures.value) in
    rw (← c.self.view_is) (refl, read_whole kept.bytes log kept.at c.self.invariant.2 past, longest_at_the_end kept.bytes log kept.at c.self.invariant.2 past)

-- at a fault

pub returns-in_err-entry-clause-begun : goal.returns-in_err-entry-clause-begun
returns-in_err-entry-clause-begun c =
    let kept = c.self.inside in
    rw (← c.self.view_is) (read_begins kept.bytes (log_given kept.version kept.vat kept.given.items) kept.at c.self.invariant.2)

pub returns-in_err-entry-clause-err : goal.returns-in_err-entry-clause-err
returns-in_err-entry-clause-err c =
    let kept = c.self.inside in
    let e = c.in_err-entry.field-0.0 in
    let p = err_from_is_err_and c.from_residual.result c.from_residual.ensures.1 in
    let lt : kept.at < length kept.bytes = omega (arith, c.len.ensures.value) in
    rw (p.1, p.2, ← c.self.view_is) (refl, stops_next e kept.bytes kept.version kept.vat kept.given.items kept.count kept.at c.self.invariant lt c.in_err-entry.ensures.gives)

-- a record is given

pub overflow_add-self : goal.overflow_add-self
overflow_add-self c =
    let kept = c.self.inside in
    let few : length (reverse kept.given.items) ≤ record_limit = c.self.invariant.2.fits.counted in
    omega (arith, c.self.invariant.0, length-reverse kept.given.items, few, limit_is)

pub invariant_of-self : goal.invariant_of-self
invariant_of-self c =
    let kept = c.self.inside in
    rw (c.with-self-inside.ensures, c.body.ensures.value) (given_next kept.bytes kept.version kept.vat kept.given.items kept.count kept.at c.in_ok-entry.entry c.in_ok-entry.after c.self.invariant c.in_ok-entry.ensures.gives)

pub returns-clause-begun : goal.returns-clause-begun
returns-clause-begun c =
    let kept = c.self.inside in
    let more = given_next kept.bytes kept.version kept.vat kept.given.items kept.count kept.at c.in_ok-entry.entry c.in_ok-entry.after c.self.invariant c.in_ok-entry.ensures.gives in
    rw (c.with-self-inside.ensures, c.body.ensures.value) (read_begins kept.bytes _ c.in_ok-entry.after more.2)

pub returns-clause-given : goal.returns-clause-given
returns-clause-given c =
    let kept = c.self.inside in
    rw (c.with-self-inside.ensures, c.body.ensures.value, ← c.self.view_is) (one_given kept.version kept.vat kept.given.items c.in_ok-entry.entry)
