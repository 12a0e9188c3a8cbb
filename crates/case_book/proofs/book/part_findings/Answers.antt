use Rattle.std.proofs.Common.{◌≡◌, [], ◌∷◌, ◌++◌, Option, Some, append_assoc, ap, sym, ◌∙◌, arith}
use Rattle.std.specs.Vec.{vec_capacity}
use Rattle.case_book.specs.declared.piece_finding.Finding.{Finding}
use Rattle.case_book.specs.declared.piece_finding.Finding.TheVariants as finding
use Rattle.case_book.proofs.Parting.{vat_next, link_next, link_room, not_empty}
use Rattle.case_book.proofs.book.part_findings.Goals as goal

pub loop-kept-preserved-in-Some-Vat : goal.loop-kept-preserved-in-Some-Vat
loop-kept-preserved-in-Some-Vat c =
    let so_far = c.loop-kept.invariant in
    let is : c.in-Some.kept ≡ Some (finding.Vat c.in-Some-Vat.audited) = c.in-Some-Vat.is ∙ ap Some c.in-Some-Vat.field-0-is in
    let split : c.args.found.items ≡ c.loop-kept.yielded ++ c.in-Some.kept ∷ c.next.new.self.rest.items =
    so_far.split ∙ ap (λ xs. c.loop-kept.yielded ++ xs) c.in-Some.ensures.steps.0 in
    let here = split ∙ ap (λ (o : Option Finding). c.loop-kept.yielded ++ o ∷ c.next.new.self.rest.items) is in
    record {
      split = split ∙ sym (append_assoc c.loop-kept.yielded (c.in-Some.kept ∷ []) c.next.new.self.rest.items);
      so_far = rw (c.put.ensures.items, is) (vat_next c.args.found.items (vec_capacity c.args.vats) (vec_capacity c.args.links) c.requires.placed
          c.loop-kept.vats.items c.loop-kept.links.items c.loop-kept.yielded c.next.new.self.rest.items so_far.so_far c.in-Some-Vat.audited here);
      vat_room = omega (arith, c.put.ensures.room, so_far.vat_room);
      link_room = so_far.link_room;
    }

pub put-requires-in-Some-Link : goal.put-requires-in-Some-Link
put-requires-in-Some-Link c =
    let so_far = c.loop-kept.invariant in
    let is : c.in-Some.kept ≡ Some (finding.Link c.in-Some-Link.compared) = c.in-Some-Link.is ∙ ap Some c.in-Some-Link.field-0-is in
    let here = so_far.split ∙ ap (λ xs. c.loop-kept.yielded ++ xs) c.in-Some.ensures.steps.0
    ∙ ap (λ (o : Option Finding). c.loop-kept.yielded ++ o ∷ c.next.new.self.rest.items) is in
    let room = link_room c.args.found.items (vec_capacity c.args.vats) (vec_capacity c.args.links) c.requires.placed
    c.loop-kept.vats.items c.loop-kept.links.items c.loop-kept.yielded c.next.new.self.rest.items so_far.so_far c.in-Some-Link.compared here in
    omega (arith, room, so_far.link_room)

pub loop-kept-preserved : goal.loop-kept-preserved
loop-kept-preserved c =
    let so_far = c.loop-kept.invariant in
    let is : c.in-Some.kept ≡ Some (finding.Link c.in-Some-Link.compared) = c.in-Some-Link.is ∙ ap Some c.in-Some-Link.field-0-is in
    let split : c.args.found.items ≡ c.loop-kept.yielded ++ c.in-Some.kept ∷ c.next.new.self.rest.items =
    so_far.split ∙ ap (λ xs. c.loop-kept.yielded ++ xs) c.in-Some.ensures.steps.0 in
    let here = split ∙ ap (λ (o : Option Finding). c.loop-kept.yielded ++ o ∷ c.next.new.self.rest.items) is in
    record {
      split = split ∙ sym (append_assoc c.loop-kept.yielded (c.in-Some.kept ∷ []) c.next.new.self.rest.items);
      so_far = rw (c.put-in-Some-Link.ensures.items, is) (link_next c.args.found.items (vec_capacity c.args.vats) (vec_capacity c.args.links) c.requires.placed
          c.loop-kept.vats.items c.loop-kept.links.items c.loop-kept.yielded c.next.new.self.rest.items so_far.so_far c.in-Some-Link.compared here);
      vat_room = so_far.vat_room;
      link_room = omega (arith, c.put-in-Some-Link.ensures.room, so_far.link_room);
    }

pub unreachable-requires : goal.unreachable-requires
unreachable-requires c =
    let so_far = c.loop-kept.invariant in
    let here = so_far.split ∙ ap (λ xs. c.loop-kept.yielded ++ xs) c.in-Some.ensures.steps.0
    ∙ ap (λ (o : Option Finding). c.loop-kept.yielded ++ o ∷ c.next.new.self.rest.items) c.in-None-kept.is in
    not_empty c.args.found.items (vec_capacity c.args.vats) (vec_capacity c.args.links) c.requires.placed
    c.loop-kept.vats.items c.loop-kept.links.items c.loop-kept.yielded c.next.new.self.rest.items so_far.so_far here
