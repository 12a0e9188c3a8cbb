use Rattle.std.proofs.Common.{◌≡◌, ◌++◌, ◌≤◌}
use Rattle.std.specs.Vec.{vec_capacity}
use Rattle.case_book.proofs.Parting.{AreParted}
use Rattle.case_book.proofs.book.part_findings.Given as goal

abbrev pub invariant-loop-kept : goal.invariant-loop-kept
invariant-loop-kept l = record {
  split : l.fn.found.items ≡ l.yielded ++ l.kept-iterator.rest.items;
  so_far : AreParted l.vats.items l.links.items (vec_capacity l.fn.vats) l.yielded;
  vat_room : vec_capacity l.fn.vats ≤ vec_capacity l.vats;
  link_room : vec_capacity l.fn.links ≤ vec_capacity l.links;
}
