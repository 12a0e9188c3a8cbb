-- The records of a log, listed one by one as they are read.
use Rattle.std.proofs.Common.{◌≡◌, ◌∙◌, ℕ, ◌+◌, ◌-◌, ◌<◌, ◌≤◌, ◌&&◌, Bool, true, false, List, [], ◌∷◌, ◌++◌, length, take, drop, Option, Some, None, Result, Ok, Err, IfOk, OnOk, refl, sym, ap, subst, inl, inr, arith, append_assoc, append-nil, length-drop}
use Rattle.std.specs.Prelude.{◌⊎◌, IsErrAnd, MatchOption, nat_le, nat_lt}
use Rattle.std.specs.Int.{w32}
use Rattle.std.specs.Io.KnownBytes.{Appends}
use Rattle.std.proofs.KnownBytes.{Appends-nil, Appends-trans}
use Rattle.std.proofs.lemmas.Bool.{and_parts, leb-false, leb-true, ltb-false, ltb-true}
use Rattle.std.proofs.lemmas.List.{drop_all, drop-append-le, length_push, take_all, take-append-le}
use Rattle.rpc_view.specs.declared.edition.Edition.{Edition}
use Rattle.vat_log.specs.declared.body.Body.{Body}
use Rattle.vat_log.specs.declared.error.LogError.{LogError}
use Rattle.vat_log.specs.declared.read_fault.ReadFault.{ReadFault}
use Rattle.vat_log.specs.declared.read_fault.ReadFault.TheVariants as read_fault
use Rattle.vat_log.specs.Log.{Log}
use Rattle.vat_log.specs.declared.version.LogVersion.{LogVersion}
use Rattle.vat_log.specs.Reading.{◌>>=◌, header_of, log_of, number_at, version_at}
use Rattle.vat_log.specs.Runs.{BeginsWith, IsLongestRun, with_record}
use Rattle.vat_log.specs.Spelling.{log_bytes}
use Rattle.vat_log.specs.Streams.{NoLogBegins, StreamSoFar, StreamStopsBy}
use Rattle.byte_pieces.specs.Coming.{CameSoFar, ComesOn, MayBeAll}
use Rattle.vat_rules.specs.Audit.{edition_of}
use Rattle.case_files.specs.CaseReading.{Read, Reads}
use Rattle.case_files.specs.declared.source.SourceError.{SourceError}
use Rattle.case_files.specs.Opening.{Closes, IsOf}
use Rattle.report_lines.specs.declared.answer.Answer.TheVariants.{Fault}
use Rattle.report_lines.specs.declared.fault.Fault.{Fault as FaultOf}
use Rattle.report_lines.specs.declared.fault.Fault.TheVariants.{OutOfMemory}
use Rattle.report_lines.specs.Faults.{of_log, of_source}
use Rattle.report_lines.specs.Lines.{answer_status, answer_text, line}
use Rattle.command_run.specs.CommandAnswers.{AnswersLogRecords}
use Rattle.command_run.specs.Glue.{AnswersBehind, ListingEndsSo, IsListedTo, Lists, Prints, is_chosen, status_behind, stopped, text_behind}
use Rattle.command_run.specs.RecordAnswers.{AnswersRecords, AreListed, EndsListing, chosen_records, first_number, listing, record_line, record_lines}
use Rattle.command_run.specs.Runs.{Adds, Wrote}

-- ---- the records that are asked for

-- one more of them
chosen_more : (first many : Option ℕ) (events : List Body) (event : Body) → is_chosen first many (length events) ≡ true
    → (chosen_records first many (events ++ event ∷ []) ≡ chosen_records first many events ++ event ∷ [])
    × (first_number first + length (chosen_records first many events) ≡ length events)
chosen_more first None events event is =
    let n = first_number first in
    let past : n ≤ length events = leb-true n (length events) is in
    let long : n + length (drop n events) ≡ length events = omega (arith, past, length-drop n events) in
    (drop-append-le n events (event ∷ []) past, long)
chosen_more first (Some many) events event is =
    let n = first_number first in
    let rest = drop n events in
    let both = and_parts (nat_le n (length events)) (nat_lt (length events - n) many) is in
    let past : n ≤ length events = leb-true n (length events) both.0 in
    let few : length events - n < many = ltb-true (length events - n) many both.1 in
    let left : length rest ≡ length events - n = length-drop n events in
    let within : length rest ≤ many = omega (arith, few, left) in
    let still : length (rest ++ event ∷ []) ≤ many = omega (arith, few, left, length_push rest event) in
    let all : take many rest ≡ rest = take_all many rest within in
    let long : n + length rest ≡ length events = omega (arith, past, left) in (
      ap (take many) (drop-append-le n events (event ∷ []) past) ∙ take_all many (rest ++ event ∷ []) still ∙ ap (λ (xs : List Body). xs ++ event ∷ []) (sym all),
      ap (λ (xs : List Body). n + length xs) all ∙ long,
    )

-- one in front of the first
early : (n : ℕ) (events : List Body) (event : Body) → length events < n → drop n (events ++ event ∷ []) ≡ drop n events
early n events event before =
    let longer : length (events ++ event ∷ []) ≤ n = omega (arith, before, length_push events event) in
    let long : length events ≤ n = omega (arith, before) in
    drop_all n (events ++ event ∷ []) longer ∙ sym (drop_all n events long)

-- one behind the last
late : (many n : ℕ) (events : List Body) (event : Body) → n ≤ length events → many ≤ length events - n → take many (drop n (events ++ event ∷ [])) ≡ take many (drop n events)
late many n events event past enough =
    let full : many ≤ length (drop n events) = omega (arith, enough, length-drop n events) in
    ap (take many) (drop-append-le n events (event ∷ []) past) ∙ take-append-le many (drop n events) (event ∷ []) full

early_or_late : (many n : ℕ) (events : List Body) (event : Body) (past : Bool) → nat_le n (length events) ≡ past → (past && nat_lt (length events - n) many) ≡ false
    → take many (drop n (events ++ event ∷ [])) ≡ take many (drop n events)
early_or_late many n events event false before is = ap (take many) (early n events event (leb-false n (length events) before))
early_or_late many n events event true past is = late many n events event (leb-true n (length events) past) (ltb-false (length events - n) many is)

-- one that isn't asked for
chosen_same : (first many : Option ℕ) (events : List Body) (event : Body) → is_chosen first many (length events) ≡ false
    → chosen_records first many (events ++ event ∷ []) ≡ chosen_records first many events
chosen_same first None events event is = early (first_number first) events event (leb-false (first_number first) (length events) is)
chosen_same first (Some many) events event is = early_or_late many (first_number first) events event (nat_le (first_number first) (length events)) refl is

-- none of none
none_chosen : (first many : Option ℕ) → chosen_records first many [] ≡ []
none_chosen first None = drop_all (first_number first) [] (omega arith)
none_chosen first (Some many) = ap (take many) (drop_all (first_number first) [] (omega arith)) ∙ take_all many [] (omega arith)

-- what was said of the record's number, which is how many there were before it
asked_is : (first many : Option ℕ) (number count : ℕ) (has : Bool) → has ≡ is_chosen first many number → number ≡ count → is_chosen first many count ≡ has
asked_is first many number count has is same = subst (λ (n : ℕ). is_chosen first many n ≡ has) same (sym is)

-- ---- their lines

lines_more : (edition : Edition) (at : ℕ) (events : List Body) (event : Body)
    → record_lines edition at (events ++ event ∷ []) ≡ record_lines edition at events ++ record_line edition (at + length events) event
lines_more edition at [] event = append-nil (record_line edition at event) ∙ ap (λ n. record_line edition n event) (let same : at ≡ at + 0 = omega arith in same)
lines_more edition at (x ∷ xs) event =
    let on : at + 1 + length xs ≡ at + length (x ∷ xs) = omega arith in
    ap (λ t. record_line edition at x ++ t) (lines_more edition (at + 1) xs event ∙ ap (λ n. record_lines edition (at + 1) xs ++ record_line edition n event) on)
    ∙ sym (append_assoc (record_line edition at x) (record_lines edition (at + 1) xs) (record_line edition (at + length (x ∷ xs)) event))

listing_more : (first many : Option ℕ) (log : Log) (event : Body) → is_chosen first many (length log.records) ≡ true
    → listing first many (with_record event log) ≡ listing first many log ++ record_line (edition_of log) (length log.records) event
listing_more first many log event is =
    let edition = edition_of log in
    let n = first_number first in
    let more = chosen_more first many log.records event is in
    ap (record_lines edition n) more.0 ∙ lines_more edition n (chosen_records first many log.records) event
    ∙ ap (λ (at : ℕ). listing first many log ++ record_line edition at event) more.1

listing_same : (first many : Option ℕ) (log : Log) (event : Body) → is_chosen first many (length log.records) ≡ false
    → listing first many (with_record event log) ≡ listing first many log
listing_same first many log event is = ap (record_lines (edition_of log) (first_number first)) (chosen_same first many log.records event is)

listing_none : (first many : Option ℕ) (log : Log) → log.records ≡ [] → listing first many log ≡ []
listing_none first many log none =
    let n = first_number first in
    ap (λ (xs : List Body). record_lines (edition_of log) n (chosen_records first many xs)) none ∙ ap (record_lines (edition_of log) n) (none_chosen first many)

-- ---- a log that is read

-- no record stands in a header
abbrev records_of : Result Log LogError → List Body
records_of (Ok log) = log.records
records_of (Err fault) = []

abbrev header : LogVersion → ℕ → Log
header version vat = record { version = version; vat = vat; records = [] }

pub header_empty : (bytes : List ℕ) (log : Log) → header_of bytes ≡ Ok log → log.records ≡ []
unfolding header_of
header_empty bytes log is = go (version_at bytes) (number_at w32 bytes 8) is
  where
    go : (v : Result LogVersion LogError) (n : Result (ℕ × ℕ) LogError) → (v >>= λ version. n >>= λ vat. Ok (header version vat.0)) ≡ Ok log → log.records ≡ []
    go (Ok version) (Ok vat) is = sym (ap records_of is)
    go (Ok version) (Err e) is = sym (ap records_of is)
    go (Err e) n is = sym (ap records_of is)

-- what holds where there is no next record, and of the next one
pub at_none : {A : Type 0} (o : Option A) (none : Type 0) (some : A → Type 0) → o ≡ None → MatchOption o none some → none
at_none {A = A} o none some is h = subst (λ (p : Option A). MatchOption p none some) is h

pub at_some : {A : Type 0} (o : Option A) (x : A) (none : Type 0) (some : A → Type 0) → o ≡ Some x → MatchOption o none some → some x
at_some {A = A} o x none some is h = subst (λ (p : Option A). MatchOption p none some) is h

-- ---- bytes that come

-- what begins the bytes that came begins all
begins_all : (came all : List ℕ) (is_over : Bool) (log : Log) → BeginsWith came log → MayBeAll came is_over all → BeginsWith all log
begins_all came all is_over log begins may = record {
  rest = begins.rest ++ may.more;
  parts = may.parts ∙ ap (λ (b : List ℕ). b ++ may.more) begins.parts ∙ append_assoc (log_bytes log) begins.rest may.more;
  fits = begins.fits;
}

-- where it is over, what came is all
all_came : (came all : List ℕ) (is_over : Bool) → is_over ≡ true → MayBeAll came is_over all → all ≡ came
all_came came all is_over over may = may.parts ∙ ap (λ (b : List ℕ). came ++ b) (may.over over) ∙ append-nil came

-- the bytes that came begin with the log that was read so far, and its listing was written
pub record IsListed (first many : Option ℕ) (edition : Edition) (read : StreamSoFar) (old new : Option (List ℕ)) : Type 0 where
  pub begins : BeginsWith read.came.bytes read.log
  pub by : edition ≡ edition_of read.log
  pub wrote : Appends old new (listing first many read.log)

-- nothing yet
pub none_listed : (first many : Option ℕ) (edition : Edition) (read : StreamSoFar) (out : Option (List ℕ)) → BeginsWith read.came.bytes read.log → read.log.records ≡ [] → edition ≡ edition_of read.log
    → IsListed first many edition read out out
none_listed first many edition read out begins none by = record {
  begins = begins;
  by = by;
  wrote = subst (λ t. Appends out out t) (sym (listing_none first many read.log none)) (Appends-nil out);
}

module _ (first many : Option ℕ) (edition : Edition) (read : StreamSoFar) (old now : Option (List ℕ)) (listed : IsListed first many edition read old now) where
  -- one more record was read
  module _ (next : StreamSoFar) (event : Body) (begins : BeginsWith next.came.bytes next.log) (is : next.log ≡ with_record event read.log) where
    -- and written
    pub one_listed : (new : Option (List ℕ)) (number : ℕ) (has : Bool) (text : List ℕ) → number ≡ length read.log.records → has ≡ is_chosen first many number → has ≡ true
        → text ≡ record_line edition number event → Appends now new text → IsListed first many edition next old new
    one_listed new number has text count asked met shown wrote =
        let n = length read.log.records in
        let chosen : is_chosen first many n ≡ true = asked_is first many number n has asked count ∙ met in
        let line_is : text ≡ record_line (edition_of read.log) n event =
        shown ∙ ap (λ (at : ℕ). record_line edition at event) count ∙ ap (λ (e : Edition). record_line e n event) listed.by in
        let lines : listing first many next.log ≡ listing first many read.log ++ record_line (edition_of read.log) n event =
        ap (listing first many) is ∙ listing_more first many read.log event chosen in
        record {
          begins = begins;
          by = listed.by ∙ ap edition_of (sym is);
          wrote = subst (λ t. Appends old new t) (sym lines)
              (Appends-trans old now new (listing first many read.log) (record_line (edition_of read.log) n event) listed.wrote (subst (λ t. Appends now new t) line_is wrote));
        }

    -- or passed over
    pub one_passed : (number : ℕ) (has : Bool) → number ≡ length read.log.records → has ≡ is_chosen first many number → has ≡ false → IsListed first many edition next old now
    one_passed number has count asked unmet =
        let n = length read.log.records in
        let other : is_chosen first many n ≡ false = asked_is first many number n has asked count ∙ unmet in
        let lines : listing first many next.log ≡ listing first many read.log = ap (listing first many) is ∙ listing_same first many read.log event other in
        record {
          begins = begins;
          by = listed.by ∙ ap edition_of (sym is);
          wrote = subst (λ t. Appends old now t) (sym lines) listed.wrote;
        }

-- ---- answers

-- the text and the status of a fault
abbrev pub text_of : FaultOf → List ℕ
text_of fault = line (answer_text (Fault fault))

abbrev pub status_by : FaultOf → ℕ
status_by fault = answer_status (Fault fault)

-- memory ran out behind the records of this log
some_listed : (first many : Option ℕ) (all : List ℕ) (log : Log) → BeginsWith all log → AnswersRecords first many all (listing first many log ++ text_of OutOfMemory) 3
some_listed first many all log begins = inr (inl (log, (text_of OutOfMemory, begins, (refl, refl), refl)))

-- all was read
all_listed : (first many : Option ℕ) (all : List ℕ) (log : Log) → log_of all ≡ Ok log → IsLongestRun all log → AnswersRecords first many all (listing first many log) 0
all_listed first many all log is longest =
    inl (
      log,
      ([], longest, subst (λ (r : Result Log LogError). EndsListing r [] 0) (sym is) (refl, refl), sym (append-nil (listing first many log))),
    )

-- the bytes have a fault
fault_listed : (first many : Option ℕ) (all : List ℕ) (log : Log) (fault : LogError) → (log_of all ≡ Err fault) × IsLongestRun all log
    → AnswersRecords first many all (listing first many log ++ text_of (of_log fault)) (status_by (of_log fault))
fault_listed first many all log fault stops =
    inl (
      log,
      (
        text_of (of_log fault),
        stops.1,
        subst (λ (r : Result Log LogError). EndsListing r (text_of (of_log fault)) (status_by (of_log fault))) (sym stops.0) (refl, refl),
        refl,
      ),
    )

-- how a listing ends
abbrev ends_at : (X : Type 0) → X → Result X ReadFault
ends_at X done = Ok done

abbrev stops_by : (X : Type 0) → ReadFault → Result X ReadFault
stops_by X fault = Err fault

-- memory ran out, or a write failed, behind the records of a log with which the bytes that came begin
listed_some : (X : Type 0) (first many : Option ℕ) (came : CameSoFar) (log : Log) → BeginsWith came.bytes log
    → IsListedTo first many (listing first many log) (stopped X) came
listed_some X first many came log begins =
    (inr (log, begins, refl), λ all may. inl (some_listed first many all log (begins_all came.bytes all came.is_over log begins may)))

-- so where more bytes came since
pub listed_before : (X : Type 0) (first many : Option ℕ) (came later : CameSoFar) (log : Log) → BeginsWith came.bytes log → ComesOn came later
    → IsListedTo first many (listing first many log) (stopped X) later
listed_before X first many came later log begins on = listed_some X first many later log (begins_all came.bytes later.bytes came.is_over log begins on.first)

-- it was listed to its end
pub listed_whole : {X : Type 0} (done : X) (first many : Option ℕ) (came : CameSoFar) (log : Log) → came.is_over ≡ true → log_of came.bytes ≡ Ok log → IsLongestRun came.bytes log
    → IsListedTo first many (listing first many log) (ends_at X done) came
listed_whole done first many came log over is longest = (
  inr (log, longest.begins, refl),
  λ all may.
      subst (λ (b : List ℕ). AnswersRecords first many b (listing first many log) 0) (sym (all_came came.bytes all came.is_over over may)) (all_listed first many came.bytes log is longest),
)

-- there is no next record
pub listed_until : (X : Type 0) (first many : Option ℕ) (fault : ReadFault) (log : Log) (read : StreamSoFar) → read.log ≡ log → BeginsWith read.came.bytes read.log → StreamStopsBy fault read
    → IsListedTo first many (listing first many log) (stops_by X fault) read.came
listed_until X first many (read_fault.Bad e) log read same begins stops = (
  inr (log, subst (λ (l : Log). BeginsWith read.came.bytes l) same begins, refl),
  λ all may.
      fault_listed first many all log e (subst (λ (l : Log). (log_of all ≡ Err e) × IsLongestRun all l) same (stops all may)),
)
listed_until X first many read_fault.CannotRead log read same begins stops = (inr (log, subst (λ (l : Log). BeginsWith read.came.bytes l) same begins, refl), λ all may. tt)
listed_until X first many read_fault.OutOfMemory log read same begins stops =
    listed_some X first many read.came log (subst (λ (l : Log). BeginsWith read.came.bytes l) same begins)

-- no log begins so
pub none_until : (X : Type 0) (first many : Option ℕ) (fault : ReadFault) (came : CameSoFar) → NoLogBegins fault came → IsListedTo first many [] (stops_by X fault) came
none_until X first many fault came none = (inl refl, go fault none)
  where
    go : (fault : ReadFault) → NoLogBegins fault came → (all : List ℕ) → MayBeAll came.bytes came.is_over all → AnswersBehind first many [] (stops_by X fault) all
    go (read_fault.Bad e) none all may = inr (inr (e, ((none all may).0, (refl, refl))))
    go read_fault.CannotRead none all may = tt
    go read_fault.OutOfMemory none all may = inr refl

-- a write failed
pub torn_listing : {W E X : Type 0} (P : E → Type 0) (contents : W → Option (List ℕ)) (first many : Option ℕ) (read later : StreamSoFar) (old new : W) (r : Result (Result X ReadFault) E)
    → BeginsWith read.came.bytes read.log → ComesOn read.came later.came → IsErrAnd r P → Lists first many (Adds contents) later old new r
torn_listing P contents first many read later old new (Ok listed) begins on failed = absurd failed
torn_listing {X = X} P contents first many read later old new (Err fault) begins on failed =
    (listing first many read.log, listed_before X first many read.came later.came read.log begins on)

-- ---- what closing gives

-- memory ran out
out_of_memory : (known : Option Read) (first many : Option ℕ) (lines all : List ℕ) → AnswersRecords first many all (lines ++ text_of OutOfMemory) 3 ⊎ (lines ≡ [])
    → AnswersLogRecords known first many (Ok all) (lines ++ text_of OutOfMemory) 3
out_of_memory known first many lines all (inl answers) = inl answers
out_of_memory known first many lines all (inr none) = inr (ap (λ (t : List ℕ). t ++ text_of OutOfMemory) none, refl)

-- what is said behind the lines answers what the source gave
pub closed_answers : {X : Type 0} (known : Option Read) (first many : Option ℕ) (lines : List ℕ) (listed : Result X ReadFault) (came : CameSoFar) (read : Read) (ended : Result X FaultOf)
    → IsOf known came → IsListedTo first many lines listed came → ListingEndsSo read listed came ended
    → AnswersLogRecords known first many read (lines ++ text_behind ended) (status_behind ended)
closed_answers {X = X} known first many lines listed came (Err fault) ended of to is =
    subst (λ (r : Result X FaultOf). AnswersLogRecords known first many (Err fault) (lines ++ text_behind r) (status_behind r)) (sym is)
    (came, (lines, (text_of (of_source fault), of, to.0, (refl, refl), refl)))
closed_answers {X = X} known first many lines (Ok done) came (Ok all) ended of to is =
    subst (λ (r : Result X FaultOf). AnswersLogRecords known first many (Ok all) (lines ++ text_behind r) (status_behind r)) (sym is.1)
    (inl (subst (λ (t : List ℕ). AnswersRecords first many all t 0) (sym (append-nil lines)) (to.1 all is.0)))
closed_answers {X = X} known first many lines (Err (read_fault.Bad e)) came (Ok all) ended of to is =
    subst (λ (r : Result X FaultOf). AnswersLogRecords known first many (Ok all) (lines ++ text_behind r) (status_behind r)) (sym is.1) (inl (to.1 all is.0))
closed_answers known first many lines (Err read_fault.CannotRead) came (Ok all) ended of to is = absurd is
closed_answers {X = X} known first many lines (Err read_fault.OutOfMemory) came (Ok all) ended of to is =
    subst (λ (r : Result X FaultOf). AnswersLogRecords known first many (Ok all) (lines ++ text_behind r) (status_behind r)) (sym is.1) (out_of_memory known first many lines all (to.1 all is.0))

-- lines were written, and what is said behind them was, or wasn't
pub end_said : {W E X : Type 0} (contents : W → Option (List ℕ)) (is_finished : W → Type 0) (old now new : W) (answers : List ℕ → ℕ → Type 0) (lines : List ℕ) (ended : Result X FaultOf) (r : Result ℕ E)
    → answers (lines ++ text_behind ended) (status_behind ended) → Appends (contents old) (contents now) lines → IfOk r (λ s. s ≡ status_behind ended)
    → OnOk r (Wrote contents is_finished now (text_behind ended) new) → Prints answers (Wrote contents is_finished) old new r
end_said contents is_finished old now new answers lines ended (Err e) answered listed is wrote = (lines ++ text_behind ended, (status_behind ended, answered))
end_said contents is_finished old now new answers lines ended (Ok s) answered listed is wrote = (
  lines ++ text_behind ended,
  subst (λ n. answers (lines ++ text_behind ended) n) (sym is) answered,
  (Appends-trans (contents old) (contents now) (contents new) lines (text_behind ended) listed wrote.0, wrote.1),
)

-- a log was listed and closed, and what is said behind the lines was, or wasn't
pub listing_ended : {W E X : Type 0} (contents : W → Option (List ℕ)) (is_finished : W → Type 0) (old now new : W) (known : Option Read) (first many : Option ℕ) (lines : List ℕ) (listed : Result X ReadFault)
    (came reader : CameSoFar) (read : Read) (ended : Result X FaultOf) (r : Result ℕ E)
    → Appends (contents old) (contents now) lines → IsOf known came → IsListedTo first many lines listed came → reader ≡ came → ListingEndsSo read listed reader ended
    → IfOk r (λ s. s ≡ status_behind ended) → OnOk r (Wrote contents is_finished now (text_behind ended) new) → Prints (AnswersLogRecords known first many read) (Wrote contents is_finished) old new r
listing_ended contents is_finished old now new known first many lines listed came reader read ended r added of to same is status wrote =
    end_said contents is_finished old now new (AnswersLogRecords known first many read) lines ended r
    (closed_answers known first many lines listed came read ended of to (subst (λ (c : CameSoFar). ListingEndsSo read listed c ended) same is)) added status wrote

-- a write failed, and the log was closed
pub torn_closed : {S Y : Type 0} (X : Type 0) (gives : Reads S) (old new : S) (name : List ℕ) (known : Option Read) (first many : Option ℕ) (lines : List ℕ) (came reader : CameSoFar) (failed : Bool) (r : Result Y SourceError)
    → IsOf known came → IsListedTo first many lines (stopped X) came → reader ≡ came → Closes gives old name reader failed r new
    → (read : Read) × gives old name read new × ((text : List ℕ) × ((status : ℕ) × AnswersLogRecords known first many read text status))
torn_closed X gives old new name known first many lines came reader failed (Ok y) of to same closes =
    let may = subst (λ (c : CameSoFar). MayBeAll c.bytes c.is_over closes.1.0) same closes.1.1.0 in
    (Ok closes.1.0, closes.1.1.1, (lines ++ text_of OutOfMemory, (3, out_of_memory known first many lines closes.1.0 (to.1 closes.1.0 may))))
torn_closed X gives old new name known first many lines came reader failed (Err fault) of to same closes =
    let said = text_of (of_source fault) in
    (Err fault, closes, (lines ++ said, (status_by (of_source fault), (came, (lines, (said, of, to.0, (refl, refl), refl))))))
