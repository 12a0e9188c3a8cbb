-- What the findings of good logs have counted.
use Rattle.std.proofs.Common.{◌≡◌, ℕ, ◌+◌, ◌<◌, ◌≤◌, Bool, true, false, cond, List, [], ◌∷◌, length, get_or, take, Some, Result, Ok, Err, refl, sym, ap, ◌∙◌, subst, arith}
use Rattle.std.specs.Prelude.{count_by}
use Rattle.std.specs.List.{filter_map, cons_option}
use Rattle.std.proofs.lemmas.List.{length-map, get_or-map, take-map, take_all}
use Rattle.std.proofs.lemmas.List.Sums.{sum_by-cons, sum_by_more_le_part, count_by-le-length}
use Rattle.cap_reader.specs.declared.limits.Limits.{Limits}
use Rattle.vat_log.specs.Log.{Log}
use Rattle.vat_log.specs.declared.body.Body.{Body}
use Rattle.vat_log.specs.declared.body.Body.TheVariants as body
use Rattle.vat_rules.specs.Audit.{Found, IsTrueOf, reads_by, edition_of}
use Rattle.vat_rules.specs.Events.{Reader, event_of, event_or_none}
use Rattle.decoded_records.specs.Decoding.{made_with}
use Rattle.vat_rules.specs.LogFacts.{Told}
use Rattle.vat_rules.specs.Telling.{is_delivery}
use Rattle.vat_rules.specs.Types.{RpcMessage, DecodedRecord, Host, Vow, Fulfil, Break, Make, Field, Deliver, Answer, AnswerBy, Fault, Wire}
use Rattle.vat_rules.specs.declared.outcome.Outcome.{Outcome}
use Rattle.vat_rules.specs.declared.outcome.Outcome.TheVariants.{Good}
use Rattle.vat_rules.specs.declared.outcome.Why.{Why}
use Rattle.call_trace.specs.Findings.{logs_of}
use Rattle.audit_core.specs.Report.{records_delivery, count_all, records_in}

-- ---- the deliveries of a good log

kept : (e : DecodedRecord) (delivery : Bool) (rest : List DecodedRecord) → is_delivery e ≡ delivery → count_by is_delivery (cons_option (Some e) rest) ≡ cond delivery 1 0 + count_by is_delivery rest
kept e delivery rest is = sum_by-cons (λ (x : DecodedRecord). cond (is_delivery x) 1 0) e rest ∙ ap (λ (b : Bool). cond b 1 0 + count_by is_delivery rest) is

wired : (event : RpcMessage → DecodedRecord) → ((m : RpcMessage) → is_delivery (event m) ≡ false) → (read : Result RpcMessage Why) (rest : List DecodedRecord)
    → count_by is_delivery (cons_option (event_or_none (made_with event read)) rest) ≡ 0 + count_by is_delivery rest
wired event other (Ok m) rest = kept (event m) false rest (other m)
wired event other (Err why) rest = omega arith

one_event : (read : Reader) (b : Body) (rest : List DecodedRecord)
    → count_by is_delivery (cons_option (event_or_none (event_of read b)) rest) ≡ cond (records_delivery b) 1 0 + count_by is_delivery rest
unfolding is_delivery
one_event read (body.Host reference object) rest = kept (Host reference object) false rest refl
one_event read (body.Vow reference) rest = kept (Vow reference) false rest refl
one_event read (body.Fulfil reference to) rest = kept (Fulfil reference to) false rest refl
one_event read (body.Break reference) rest = kept (Break reference) false rest refl
one_event read (body.Make call reference interface method) rest = kept (Make call reference interface method) false rest refl
one_event read (body.Field reference call path) rest = kept (Field reference call path) false rest refl
one_event read (body.Deliver call object) rest = kept (Deliver call object) true rest refl
one_event read (body.Answer call results) rest = kept (Answer call results) false rest refl
one_event read (body.Fault call) rest = kept (Fault call) false rest refl
one_event read (body.Send connection call references frame) rest = wired (Wire true connection call references) (λ m. refl) (read frame) rest
one_event read (body.Receive connection call references frame) rest = wired (Wire false connection call references) (λ m. refl) (read frame) rest
one_event read (body.AnswerBy call by) rest = kept (AnswerBy call by) false rest refl

deliveries : (read : Reader) (bs : List Body) → count_by is_delivery (filter_map (λ b. event_or_none (event_of read b)) bs) ≡ count_by records_delivery bs
deliveries read [] = refl
deliveries read (b ∷ bs) =
    omega (arith, one_event read b (filter_map (λ x. event_or_none (event_of read x)) bs), deliveries read bs, sum_by-cons (λ (x : Body). cond (records_delivery x) 1 0) b bs)

pub delivered_is : (log : Log) (limits : Limits) (outcome : Outcome) (story : Told) → IsTrueOf log limits outcome → outcome ≡ Good story → story.delivered ≡ count_by records_delivery log.records
delivered_is log limits outcome story means is =
    let read = reads_by (edition_of log) limits in
    let told = (subst (IsTrueOf log limits) is means).1 in
    let whole = take_all (length log.records) log.records (omega arith) in
    ap (λ (t : Told). t.delivered) told
    ∙ ap (λ (bs : List Body). count_by is_delivery (filter_map (λ b. event_or_none (event_of read b)) bs)) whole
    ∙ deliveries read log.records

-- so many so far, and those of the next log
pub delivered_so_far : (vats : List Found) (i : ℕ) (found : Found) → found ≡ get_or vats i found → i < length vats
    → count_all records_delivery (logs_of (take i vats)) + count_by records_delivery found.log.records ≤ records_in (logs_of vats)
delivered_so_far vats i found is lt =
    let within = length-map vats (λ (f : Found). f.log) in
    let next : get_or (logs_of vats) i found.log ≡ found.log = get_or-map (λ (f : Found). f.log) vats i found found.log lt ∙ sym (ap (λ (f : Found). f.log) is) in
    let few = sum_by_more_le_part (λ (log : Log). count_by records_delivery log.records) (λ (log : Log). length log.records) (logs_of vats) i found.log (omega (arith, within, lt))
    (λ log. count_by-le-length records_delivery log.records) in
    let so_far = ap (count_all records_delivery) (take-map (λ (f : Found). f.log) i vats) in
    omega (arith, few, so_far, ap (λ (log : Log). length log.records) next, count_by-le-length records_delivery found.log.records)
