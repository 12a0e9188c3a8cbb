-- For the code's contracts, and no part of the meaning: what a record's numbers stand for, by the roles of the numbers.
use Rattle.std.specs.Prelude.{List, [], Bool, Option, Some, None}
use Rattle.vat_rules.specs.Types.{View}
use Rattle.vat_rules.specs.LogFacts.{Facts}
use Rattle.vat_rules.specs.declared.facts.role.Role.{Role}
use Rattle.vat_rules.specs.declared.facts.role.Role.TheVariants as role

-- the view of the number that is in this role
abbrev pub view_in_role : Option (Role × View) → Role → Option View
view_in_role None wanted = None
view_in_role (Some (role.Question, v)) role.Question = Some v
view_in_role (Some (role.Promise, v)) role.Promise = Some v
view_in_role (Some (role.Target, v)) role.Target = Some v
view_in_role (Some (role.Released, v)) role.Released = Some v
view_in_role (Some _) wanted = None

-- one number in a role or none, the question whose results are taken, descriptors, and whether it is late, of a record
-- whose references aren't looked up yet
abbrev pub facts_by : Option (Role × View) → Option View → List (Option View) → Bool → Facts
facts_by number taken caps late = record {
  references = [];
  question = view_in_role number role.Question;
  taken = taken;
  promise = view_in_role number role.Promise;
  target = view_in_role number role.Target;
  released = view_in_role number role.Released;
  caps = caps;
  late = late;
}
