use Rattle.cap_reader.proofs.Memory.{structures_want_none, lists_want_none, elements_want_none, texts_want_none, fields_want_none}
use Rattle.cap_reader.proofs.laws.pointers_want_no_memory.Goals as goal

pub returns-clause-structs : goal.returns-clause-structs
returns-clause-structs c = structures_want_none

pub returns-clause-lists : goal.returns-clause-lists
returns-clause-lists c = lists_want_none

pub returns-clause-elements : goal.returns-clause-elements
returns-clause-elements c = elements_want_none

pub returns-clause-texts : goal.returns-clause-texts
returns-clause-texts c = texts_want_none

pub returns-clause-fields : goal.returns-clause-fields
returns-clause-fields c = fields_want_none
