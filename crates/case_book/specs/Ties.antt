-- Whether the logs and links of a case tie up: each connection that a log uses has a link with that log's vat as an end, each
-- vat that a link names has a log, and the ends of a link are two vats.
use Rattle.std.specs.Prelude.{ℕ, ◌==◌, Bool, not, ◌&&◌, ◌||◌, List, ◌++◌, filter, Option}
use Rattle.std.specs.List.{filter_map, flat_map, list_any}
use Rattle.std.specs.Option.{option_map}
use Rattle.vat_log.specs.Log.{Log}
use Rattle.vat_log.specs.Passages.{used_by}
use Rattle.case_book.specs.Least.{least}
use Rattle.case_book.specs.Case.{Contents, connections_of, or_else}
use Rattle.case_book.specs.declared.link.Link.{Link}
use Rattle.case_book.specs.declared.ties.TieFault.{TieFault}
use Rattle.case_book.specs.declared.ties.TieFault.TheVariants.{MissingLog, SameEnds}

-- the connections that a log uses
abbrev pub used_in : Log → List ℕ
used_in log = filter_map used_by log.records

-- a connection has a link with this vat as an end
abbrev pub is_linked : List Link → ℕ → ℕ → Bool
is_linked links vat connection = list_any (λ link. (link.connection == connection) && ((link.a == vat) || (link.b == vat))) links

-- it has none
abbrev pub is_unlinked : List Link → ℕ → ℕ → Bool
is_unlinked links vat connection = not (is_linked links vat connection)

-- the connections that a log uses without a link with its vat as an end
abbrev pub unlinked_in : List Link → Log → List ℕ
unlinked_in links log = filter (is_unlinked links log.vat) (used_in log)

-- a vat has a log
abbrev pub has_log : List Log → ℕ → Bool
has_log logs vat = list_any (λ log. log.vat == vat) logs

-- a link names a vat without a log
abbrev pub lacks_log : List Log → Link → Bool
lacks_log logs link = not (has_log logs link.a && has_log logs link.b)

-- the connections whose link names a vat without a log
abbrev pub links_without_log : List Log → List Link → List ℕ
links_without_log logs links = connections_of (filter (lacks_log logs) links)

-- the connections for which a log is missing
abbrev pub missing_logs : Contents → List ℕ
missing_logs held = flat_map (unlinked_in held.links) held.logs ++ links_without_log held.logs held.links

-- the connections whose link has one vat at both ends
abbrev pub links_of_one_vat : List Link → List ℕ
links_of_one_vat links = connections_of (filter (λ link. link.a == link.b) links)

-- the least connection for which a log is missing, else the least whose ends are one vat
unfoldable pub tie_fault_of : Contents → Option TieFault
tie_fault_of held = or_else (option_map MissingLog (least (missing_logs held))) (option_map SameEnds (least (links_of_one_vat held.links)))
