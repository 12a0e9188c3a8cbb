use Rattle.std.proofs.Common.{map, refl, string_bytes}
use Rattle.command_run.proofs.commands.join_logs.folder_of.Goals as goal

pub returns : goal.returns
returns c = record {
  made = c.in_ok-renumbered_logs.field-0.items;
  are_made = c.in_ok-renumbered_logs.ensures;
  links = c.in_ok-links.links.items;
  are_links = c.in_ok-links.ensures;
  paths = map string_bytes c.in_ok-paths.paths.items;
  are_paths = c.in_ok-paths.ensures;
  case = c.in_ok-written_case.field-0;
  is_case = rw (c.deref.ensures.value, c.deref-2.ensures.value) at c.in_ok-written_case.ensures;
  whole = refl;
}
