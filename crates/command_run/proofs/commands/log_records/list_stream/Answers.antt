use Rattle.std.proofs.Common.{◌≡◌, ◌∙◌, ap}
use Rattle.byte_pieces.proofs.Coming.{comes_same, comes_then}
use Rattle.vat_log.specs.Runs.{with_record}
use Rattle.vat_rules.specs.Audit.{edition_of_version}
use Rattle.command_run.specs.RecordAnswers.{listing}
use Rattle.command_run.proofs.Listing.{at_some, listed_before, listed_until, none_listed, one_listed, one_passed, torn_listing}
use Rattle.command_run.proofs.commands.log_records.list_stream.Goals.{then-has+in-Ok+in_ok-put_numbered-in-Ok-Some, else-has}
use Rattle.command_run.proofs.commands.log_records.list_stream.Goals as goal

pub loop-event-init : goal.loop-event-init
loop-event-init g c = (
  none_listed c.args.range.from c.args.range.count c.edition_of_header-edition.result c.args.stream.now (g.O.Output.contents c.args.out.now) c.requires.begun c.requires.none
      (c.edition_of_header-edition.ensures ∙ ap edition_of_version c.header.ensures.version),
  c.requires.out,
  comes_same c.args.stream.now.came,
)

pub returns-in_err-put_numbered-in-Ok-Some-clause-lines : goal.returns-in_err-put_numbered-in-Ok-Some-clause-lines
returns-in_err-put_numbered-in-Ok-Some-clause-lines g c =
    torn_listing _ g.O.Output.contents c.args.range.from c.args.range.count c.loop-event.stream c.next.new.self c.args.out.now c.put_numbered.new.out c.from_residual.result
    c.loop-event.invariant.0.begins c.next.ensures.on c.from_residual.ensures.1

pub loop-event-preserved : goal.loop-event-preserved
loop-event-preserved g c =
    let first = c.args.range.from in
    let many = c.args.range.count in
    let edition = c.edition_of_header-edition.result in
    let read = c.loop-event.stream in
    let next = c.next.new.self in
    let event = c.in-Ok-Some.event in
    let old = g.O.Output.contents c.args.out.now in
    let now = g.O.Output.contents c.loop-event.out in
    let is : next.log ≡ with_record event read.log =
    at_some c.in-Ok-Some.field-0 event _ (λ entry. next.log ≡ with_record entry read.log) c.in-Ok-Some.field-0-is c.in-Ok-Some.ensures.given in
    elim c.if-has.branch [
      | then-has+in-Ok+in_ok-put_numbered-in-Ok-Some w ↦
          rw w.out-is (
            one_listed first many edition read old now c.loop-event.invariant.0 next event c.next.ensures.begun is (g.O.Output.contents w.put_numbered.new.out) c.given-number.result c.has.result _
                c.given-number.ensures c.has.ensures w.if-has.true w.in-Ok.ensures w.in_ok-put_numbered-in-Ok-Some.ensures.line,
            w.in_ok-put_numbered-in-Ok-Some.ensures.more,
            comes_then c.args.stream.now.came read.came next.came c.loop-event.invariant.2 c.next.ensures.on,
          )
      | else-has w ↦
          rw w.out-is (
            one_passed first many edition read old now c.loop-event.invariant.0 next event c.next.ensures.begun is c.given-number.result c.has.result c.given-number.ensures c.has.ensures
                w.if-has.false,
            c.loop-event.invariant.1,
            comes_then c.args.stream.now.came read.came next.came c.loop-event.invariant.2 c.next.ensures.on,
          )
    ]

pub returns-in-Err-clause-lines : goal.returns-in-Err-clause-lines
returns-in-Err-clause-lines g c =
    let log = c.loop-event.stream.log in (
      listing c.args.range.from c.args.range.count log,
      c.loop-event.invariant.0.wrote,
      listed_until (Unit {0}) c.args.range.from c.args.range.count c.in-Err.fault log c.next.new.self c.in-Err.ensures.err.0 c.next.ensures.begun c.in-Err.ensures.err.1,
    )

pub returns-in_default-clause-lines : goal.returns-in_default-clause-lines
returns-in_default-clause-lines g c =
    let read = c.loop-event.stream in (
      listing c.args.range.from c.args.range.count read.log,
      c.loop-event.invariant.0.wrote,
      listed_before (Unit {0}) c.args.range.from c.args.range.count read.came c.next.new.self.came read.log c.loop-event.invariant.0.begins c.next.ensures.on,
    )
