-- The records that an order takes from findings' logs, one after another, as `agree` speaks of a row of records.
use Rattle.std.specs.Prelude.{ℕ, List, [], ◌∷◌, reverse, count_by, find, slice_get, Option, option_and_then, option_map, ◌==◌}
use Rattle.std.specs.List.{cons_option}
use Rattle.agree.specs.Rows.{Row}
use Rattle.call_trace.specs.Types.{DecodedRecord}
use Rattle.vat_log.specs.declared.body.Body.{Body}
use Rattle.vat_rules.specs.Audit.{Found, reads_within}
use Rattle.vat_rules.specs.Events.{event_of, event_or_none}

-- the finding of a vat
abbrev pub finding_of : ℕ → List Found → Option Found
finding_of v findings = find (λ finding. finding.log.vat == v) findings

-- a stored record of a finding's log with its message read
abbrev pub event_in : Found → Body → Option DecodedRecord
event_in finding body = event_or_none (event_of (reads_within finding.limits) body)

-- the record of this number of a finding's log
abbrev pub record_in : Found → ℕ → Option DecodedRecord
record_in finding i = option_and_then (event_in finding) (slice_get finding.log.records i)

-- how many of these steps are a vat's
abbrev pub steps_counted_by : ℕ → List ℕ → ℕ
steps_counted_by v steps = count_by (λ u. u == v) steps

-- the next record of a vat after these steps
abbrev pub next_record : List Found → List ℕ → ℕ → Option DecodedRecord
next_record findings before v = option_and_then (λ finding. record_in finding (steps_counted_by v before)) (finding_of v findings)

-- the records that steps take, both with the newest first: each step takes the next record of the vat that it names
abbrev pub taken_by : List Found → List ℕ → Row
taken_by findings [] = []
taken_by findings (v ∷ before) = cons_option (option_map (λ e. (v, e)) (next_record findings before v)) (taken_by findings before)

-- the records that an order takes, the newest first
abbrev pub row_of : List Found → List ℕ → Row
row_of findings order = taken_by findings (reverse order)
