-- What is asked of findings and an order, so that they name a run. Who has findings of a whole case can know it.
use Rattle.std.specs.Prelude.{ℕ, List, Bool, true, false, map, All, IsTrue, Contains, ◌≡◌, ◌≢◌, ◌⊎◌, ◌||◌}
use Rattle.std.specs.List.{list_any, list_all}
use Rattle.vat_rules.specs.declared.outcome.Outcome.{Outcome}
use Rattle.link_check.specs.Prefix.{IsPrefix, frames_received, frames_sent}
use Rattle.merge_order.specs.Fits.{IsRising, IsFitting}
use Rattle.vat_log.specs.Passages.{sends_frame, receives_frame}
use Rattle.vat_log.specs.Log.{Log}
use Rattle.vat_rules.specs.Audit.{Found, IsTrueOf, edition_of}
use Rattle.vat_rules.specs.declared.outcome.Outcome.TheVariants.{Good}
use Rattle.vat_rules.specs.Types.{First}

-- the outcome of each finding is what the rules say of its log: who holds a finding knows it
abbrev pub AreTrue : List Found → Type 0
AreTrue findings = All (λ finding. IsTrueOf finding.log finding.limits finding.outcome) findings

-- each log is of version 1 or 2: it is judged by the first edition of rpc.capnp
abbrev pub AreOfFirstEdition : List Found → Type 0
AreOfFirstEdition findings = All (λ finding. edition_of finding.log ≡ First) findings

-- a finding says that every record is good
abbrev pub is_good : Outcome → Bool
is_good (Good story) = true
is_good _ = false

-- a log uses a connection
abbrev pub uses : ℕ → Log → Bool
uses k log = list_any (λ body. sends_frame k body || receives_frame k body) log.records

-- two of these logs, of two vats, use a connection
pub record Share (logs : List Log) (k : ℕ) (one other : Log) : Type 0 where
  pub one_there : Contains logs one
  pub other_there : Contains logs other
  pub apart : one.vat ≢ other.vat
  pub one_uses : IsTrue (uses k one)
  pub other_uses : IsTrue (uses k other)

-- the two ends of a connection: two logs of two vats, and no third log uses it
pub record AreEnds (logs : List Log) (k : ℕ) (one other : Log) : Type 0 where
  pub one_there : Contains logs one
  pub other_there : Contains logs other
  pub apart : one.vat ≢ other.vat
  pub no_third : (third : Log) → Contains logs third → IsTrue (uses k third) → (third.vat ≡ one.vat) ⊎ (third.vat ≡ other.vat)

-- the logs of findings
abbrev pub logs_of : List Found → List Log
logs_of findings = map (λ finding. finding.log) findings

-- the findings are good and come by rising vat numbers; the order fits; each connection is used by two of the logs at
-- most, and the frames that either of them received are a prefix of those that the other sent
pub record MayBeNamed (findings : List Found) (order : List ℕ) : Type 0 where
  pub good : IsTrue (list_all (λ finding. is_good finding.outcome) findings)
  pub rising : IsRising (logs_of findings)
  pub fits : IsFitting (logs_of findings) order
  pub two_ends : (k : ℕ) (one other third : Log) → Share (logs_of findings) k one other → Share (logs_of findings) k one third → other.vat ≡ third.vat
  pub linked : (k : ℕ) (one other : Log) → Share (logs_of findings) k one other → IsPrefix (frames_received k one) (frames_sent k other)
