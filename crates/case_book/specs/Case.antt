-- Cases: the logs of some vats, and the links between them.
use Rattle.std.specs.Prelude.{ℕ, ◌≤◌, List, length, map, Option, Some, None, if◌then◌else◌, nat_lt}
use Rattle.std.specs.List.Sorted.{IsPermutation, IsStrictlyIncreasing}
use Rattle.std.specs.Option.{option_map}
use Rattle.vat_log.specs.Log.{Log}
use Rattle.case_book.specs.Least.{least_repeated}
use Rattle.case_book.specs.declared.link.Link.{Link}
use Rattle.case_book.specs.declared.error.CaseError.{CaseError}
use Rattle.case_book.specs.declared.error.CaseError.TheVariants.{TooManyVats, SameVat, TooManyLinks, SameLink}

-- what a case holds
pub record Contents : Type 0 where
  pub logs : List Log
  pub links : List Link

-- how many logs a case may have
abbrev pub vat_limit : ℕ
vat_limit = 1024

-- how many links a case may have
abbrev pub link_limit : ℕ
link_limit = 4096

-- the vat numbers of logs
abbrev pub vats_of : List Log → List ℕ
vats_of logs = map (λ log. log.vat) logs

-- the connections of links
abbrev pub connections_of : List Link → List ℕ
connections_of links = map (λ link. link.connection) links

-- the first of two, if there is one, else the second
abbrev pub or_else : {X : Type 0} → Option X → Option X → Option X
or_else (Some x) second = Some x
or_else None second = second

-- why these logs make no case
abbrev pub vats_fault : List Log → Option CaseError
vats_fault logs = if nat_lt vat_limit (length logs) then Some TooManyVats else option_map SameVat (least_repeated (vats_of logs))

-- why these links make no case
abbrev pub links_fault : List Link → Option CaseError
links_fault links = if nat_lt link_limit (length links) then Some TooManyLinks else option_map SameLink (least_repeated (connections_of links))

-- Why logs and links make no case: too many logs, or else the least vat number with two of them; else too many links, or
-- else the least connection with two of them.
abbrev pub case_refusal_of : List Log → List Link → Option CaseError
case_refusal_of logs links = or_else (vats_fault logs) (links_fault links)

-- logs by rising vat number, links by rising connection, and no more than may be
pub record IsCase (held : Contents) : Type 0 where
  pub rising_vats : IsStrictlyIncreasing (vats_of held.logs)
  pub rising_links : IsStrictlyIncreasing (connections_of held.links)
  pub few_vats : length held.logs ≤ vat_limit
  pub few_links : length held.links ≤ link_limit

-- just these logs and these links
pub record HoldsJust (logs : List Log) (links : List Link) (held : Contents) : Type 0 where
  pub just_logs : IsPermutation logs held.logs
  pub just_links : IsPermutation links held.links
