-- Logs of which only the headers were read.
use Rattle.std.proofs.Common.{◌≡◌, ◌∙◌, ℕ, zero, suc, List, [], ◌∷◌, ◌++◌, Option, Some, Result, Ok, sym, ap, subst}
use Rattle.vat_log.specs.Log.{Log}
use Rattle.vat_log.specs.Reading.{header_of}
use Rattle.vat_log.specs.Runs.{BeginsWith}
use Rattle.vat_log.specs.declared.error.LogError.{LogError}
use Rattle.vat_log.proofs.Runs.{runs_have_headers}
use Rattle.log_lane.specs.Lanes.{ReadAhead}
use Rattle.stream_audit.specs.Streamed.{AreFresh, IsFreshLane}

pub no_records : (bytes : List ℕ) (log : Log) → BeginsWith bytes log → header_of bytes ≡ Ok log → log.records ≡ []
no_records bytes log begins header = ap (λ (l : Log). l.records) (same log (record log { records = [] }) (sym header ∙ runs_have_headers bytes log begins))
  where
    same : (a b : Log) → ◌≡◌ {A = Result Log LogError} (Ok a) (Ok b) → a ≡ b
    same a b e = cc

pub fresh_more : (lanes : List (Option ReadAhead)) (lane : Option ReadAhead) → AreFresh lanes → IsFreshLane lane → AreFresh (lanes ++ lane ∷ [])
fresh_more [] lane fresh own zero x is = subst IsFreshLane (same lane x is) own
  where
    same : (a b : Option ReadAhead) → ◌≡◌ {A = Option (Option ReadAhead)} (Some a) (Some b) → a ≡ b
    same a b e = cc
fresh_more [] lane fresh own (suc i) x is = absurd (let no : ⊥ = cc in no)
fresh_more (o ∷ lanes) lane fresh own zero x is = fresh 0 x is
fresh_more (o ∷ lanes) lane fresh own (suc i) x is = fresh_more lanes lane (λ k. fresh (suc k)) own i x is
