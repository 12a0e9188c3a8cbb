use Rattle.cap_reader.proofs.Visited.{read_is_paid, null_is_free, refusal_is_free, lists_are_free}
use Rattle.cap_reader.proofs.Texts.{text_is_paid, no_text_is_free, refused_text_is_free}
use Rattle.cap_reader.proofs.laws.one_visit_is_paid.Goals as goal

pub returns-clause-read : goal.returns-clause-read
returns-clause-read c = read_is_paid

pub returns-clause-null : goal.returns-clause-null
returns-clause-null c = null_is_free

pub returns-clause-refused : goal.returns-clause-refused
returns-clause-refused c = refusal_is_free

pub returns-clause-text : goal.returns-clause-text
returns-clause-text c = text_is_paid

pub returns-clause-no_text : goal.returns-clause-no_text
returns-clause-no_text c = no_text_is_free

pub returns-clause-text_refused : goal.returns-clause-text_refused
returns-clause-text_refused c = refused_text_is_free

pub returns-clause-list : goal.returns-clause-list
returns-clause-list c = lists_are_free
