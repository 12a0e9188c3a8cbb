-- The pieces of a case, and which findings are for a piece.
use Rattle.std.specs.Prelude.{◌≡◌, ℕ, List, ◌++◌, map, Contains, IsSomeAnd, min, max, slice_get}
use Rattle.cap_reader.specs.Defaults.{default_limits}
use Rattle.vat_log.specs.Log.{Log}
use Rattle.vat_rules.specs.Audit.{Found}
use Rattle.link_check.specs.Prefix.{Ends}
use Rattle.case_book.specs.Case.{Contents}
use Rattle.case_book.specs.declared.link.Link.{Link}
use Rattle.case_book.specs.declared.piece_finding.Finding.{Finding}
use Rattle.case_book.specs.declared.piece_finding.Finding.TheVariants as finding

-- what is done for a piece: a log is audited, or the two ends of a link are compared
pub data Work : Type 0 where
  Audit : Log → Work
  Compare : Link → Work

-- the pieces of a case, by their numbers from 0 on: its logs by rising vat number, then its links by rising connection
abbrev pub pieces_of : Contents → List Work
pieces_of held = map Audit held.logs ++ map Compare held.links

-- a finding is of the audit of this log, within the default limits
pub record IsAuditOf (log : Log) (found : Found) : Type 0 where
  pub same_log : found.log ≡ log
  pub within : found.limits ≡ default_limits

-- a finding is of this link: it has the link's connection, and of the logs those of the vats at its two ends
pub record IsComparisonOf (logs : List Log) (link : Link) (ends : Ends) : Type 0 where
  pub connection : ends.connection ≡ link.connection
  pub smaller : ends.first.vat ≡ min link.a link.b
  pub greater : ends.second.vat ≡ max link.a link.b
  pub first_held : Contains logs ends.first
  pub second_held : Contains logs ends.second

-- a finding is what this work finds in a case
abbrev pub IsFoundBy : Contents → Finding → Work → Type 0
IsFoundBy held (finding.Vat found) (Audit log) = IsAuditOf log found
IsFoundBy held (finding.Link ends) (Compare link) = IsComparisonOf held.logs link ends
IsFoundBy held _ _ = ⊥

-- a finding is for the piece of this number
abbrev pub IsForPiece : Contents → Finding → ℕ → Type 0
IsForPiece held found number = IsSomeAnd (slice_get (pieces_of held) number) (IsFoundBy held found)
