use Rattle.std.proofs.Common.{◌≡◌, sym}
use Rattle.std.specs.Prelude.{Some, slice_get}
use Rattle.vat_rules.specs.Audit.{reads_by, edition_of}
use Rattle.vat_rules.proofs.Taken.{first_refused, put_past, put_gathered, put_good}
use Rattle.vat_rules.proofs.audit.judge_each.Goals as goal

pub returns-in-Some-2 : goal.returns-in-Some-2
returns-in-Some-2 c =
    let edition = edition_of c.args.log.now in
    let read = reads_by edition c.args.limits in
    let log = c.args.log.now.records in
    let here : slice_get log c.loop-at.at ≡ Some c.in-Some.stored.now = sym c.in-Some.ensures in
    let refused = rw (c.in-Some-2.is, c.edition_of-edition.ensures, c.body.ensures.value) at c.in_ok-refusal.ensures in
    rw c.refused_at.ensures (first_refused edition read log c.loop-at.at c.in-Some.stored.now c.loop-at.state c.in-Some-2.refusal here c.loop-at.invariant.read refused c.loop-at.invariant.good)

pub loop-at-preserved : goal.loop-at-preserved
loop-at-preserved c =
    let edition = edition_of c.args.log.now in
    let read = reads_by edition c.args.limits in
    let log = c.args.log.now.records in
    let here : slice_get log c.loop-at.at ≡ Some c.in-Some.stored.now = sym c.in-Some.ensures in
    let (event, put, gathered) = rw (c.in_default-2.is, c.edition_of-edition.ensures, c.body.ensures.value) at c.in_ok-refusal.ensures in
    record {
      read = put_past edition read log c.loop-at.at c.in-Some.stored.now c.loop-at.state c.gather.new.state event here c.loop-at.invariant.read put;
      gathered = put_gathered edition read c.in-Some.stored.now c.loop-at.state c.gather.new.state event c.loop-at.gathered c.gather.new.gathered c.loop-at.invariant.gathered put gathered;
      good = put_good edition read log c.loop-at.at c.in-Some.stored.now c.loop-at.state c.gather.new.state event here c.loop-at.invariant.read put c.loop-at.invariant.good;
    }
