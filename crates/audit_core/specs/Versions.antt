-- Cases that are the same but for the versions of their logs, cases with logs raised, and cases of versions 1 and 2 alone.
use Rattle.std.specs.Prelude.{◌≡◌, Bool, Contains, if◌then◌else◌, map}
use Rattle.vat_log.specs.Log.{Log}
use Rattle.vat_log.specs.Migrated.{migrated, raised}
use Rattle.vat_rules.specs.Audit.{edition_of}
use Rattle.vat_rules.specs.Types.{First}
use Rattle.case_book.specs.Case.{Contents}

-- Log by log they have the same vat and records, and are judged by the same edition of rpc.capnp: once their logs are
-- migrated they are one case.
pub record AreSameButVersions (held other : Contents) : Type 0 where
  pub logs : map migrated held.logs ≡ map migrated other.logs
  pub links : held.links ≡ other.links

-- a case with those of its logs raised that are chosen
abbrev pub with_raised : (Log → Bool) → Contents → Contents
with_raised is_chosen held = record held { logs = map (λ log. if is_chosen log then raised log else log) held.logs }

-- all logs of a case are of versions 1 and 2, and judged by the first edition of rpc.capnp
abbrev pub IsOfFirstEdition : Contents → Type 0
IsOfFirstEdition held = (log : Log) → Contains held.logs log → edition_of log ≡ First
