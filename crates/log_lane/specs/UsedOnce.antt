-- For the code's contracts, and no part of the meaning: the connections that the records of a log use, each once.
use Rattle.std.specs.Prelude.{ℕ, List, Contains}
use Rattle.std.specs.List.{filter_map}
use Rattle.vat_log.specs.declared.body.Body.{Body}
use Rattle.vat_log.specs.Passages.{used_by}

-- two lists have the same numbers, whether a number stands there once or often
pub record HaveSame (ones others : List ℕ) : Type 0 where
  pub there : (n : ℕ) → Contains ones n → Contains others n
  pub back : (n : ℕ) → Contains others n → Contains ones n

-- these are the connections that the records use
abbrev pub AreUsed : List Body → List ℕ → Type 0
AreUsed records connections = HaveSame (filter_map used_by records) connections
