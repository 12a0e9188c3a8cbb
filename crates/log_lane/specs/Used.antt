-- Which record uses a connection that none before it uses.
use Rattle.std.specs.Prelude.{List, Contains, IsSomeAnd}
use Rattle.std.specs.List.{filter_map}
use Rattle.vat_log.specs.declared.body.Body.{Body}
use Rattle.vat_log.specs.Passages.{used_by}

-- a record uses a connection that none of these uses
abbrev pub UsesAnother : List Body → Body → Type 0
UsesAnother records b = IsSomeAnd (used_by b) (λ connection. ¬ Contains (filter_map used_by records) connection)
