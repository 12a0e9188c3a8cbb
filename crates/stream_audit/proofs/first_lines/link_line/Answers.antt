use Rattle.std.proofs.Common.{get_or, sym}
use Rattle.std.proofs.lemmas.Option.{slice_get-get_or}
use Rattle.case_book.specs.declared.link.Link.{Link}
use Rattle.audit_core.proofs.Places.{holds_all}
use Rattle.stream_audit.specs.Glue.{IsBrokenBy, IsGoodLinkBy}
use Rattle.stream_audit.proofs.Firsts.{first_told, good_more}
use Rattle.stream_audit.proofs.first_lines.link_line.Goals as goal

-- what is read past the last link
abbrev past : Link
past = record { connection = 0; a = 0; b = 0 }

pub returns-then-is_some : goal.returns-then-is_some
returns-then-is_some c = λ taken is.
    let links = c.args.links.now in
    let n = c.loop-link.link-index in
    first_told (IsGoodLinkBy taken.all) (IsBrokenBy taken.all) links n (get_or links n past) (slice_get-get_or links n past c.loop-link-test.true) c.in_ok-line.line (sym c.if-is_some.ensures) (c.in_ok-line.ensures taken is)
    (c.loop-link.invariant taken is)

pub loop-link-preserved : goal.loop-link-preserved
loop-link-preserved c = λ taken is.
    let links = c.args.links.now in
    let n = c.loop-link.link-index in
    good_more (IsGoodLinkBy taken.all) (IsBrokenBy taken.all) links n (get_or links n past) (slice_get-get_or links n past c.loop-link-test.true) c.in_ok-line.line (sym c.if-is_some.ensures) (c.in_ok-line.ensures taken is)
    (c.loop-link.invariant taken is)

pub returns : goal.returns
returns c = λ taken is. holds_all (IsGoodLinkBy taken.all) c.args.links.now c.loop-link.link-index (c.loop-link.invariant taken is) c.loop-link-test.false
