use Rattle.std.proofs.Common.{rules}
use Rattle.std.proofs.lemmas.List.Sorted.{answers_always}
use Rattle.rising_table.proofs.Finding.{found, missed}
use Rattle.rising_table.proofs.table.search_from_end.Goals as goal

-- the closure gives an entry's number
pub returns-clause-found : goal.returns-clause-found
returns-clause-found g c =
    let facts = c.binary_search_by_key.ensures in
    found _ c.requires c.args.key _ facts.bound (facts.position (λ e. e.0) (answers_always _ _ _ (λ f a r g called. search rules)))

pub returns-clause-absent : goal.returns-clause-absent
returns-clause-absent g c =
    let facts = c.binary_search_by_key.ensures in
    missed _ c.requires c.args.key _ facts.bound (facts.position (λ e. e.0) (answers_always _ _ _ (λ f a r g called. search rules)))
