-- Which Returns are late: to a picture, which goes through the records from the first one on, and to the audit, which looks back.
use Rattle.std.proofs.Common.{◌≡◌, ◌∙◌, ℕ, ◌==◌, Bool, true, false, not, List, [], ◌∷◌, ◌++◌, take, Option, Some, None, fold, if◌then◌else◌, refl, sym, ap, ap₂, arith, append_assoc, append-nil}
use Rattle.std.specs.Prelude.{◌&&◌, Result, Ok, Err, is_some, option_and_then, reverse, unwrap_or}
use Rattle.std.specs.Bool.{beq}
use Rattle.std.specs.List.{cons_option, filter_map}
use Rattle.std.specs.Result.{result_ok}
use Rattle.std.proofs.lemmas.Bool.Decides.{nat_tests}
use Rattle.std.proofs.lemmas.List.{reverse-append}
use Rattle.cap_reader.specs.Defaults.{default_limits}
use Rattle.rpc_view.specs.declared.edition.Edition.{Edition}
use Rattle.rpc_view.specs.declared.message.RpcMessage.{RpcMessage}
use Rattle.rpc_view.specs.declared.message.RpcMessage.TheVariants.{Bootstrap, Call, Return, Finish}
use Rattle.rpc_view.specs.declared.view_error.ViewError.{ViewError}
use Rattle.rpc_view.specs.Message.{message_of_bytes}
use Rattle.vat_log.specs.Log.{Log}
use Rattle.vat_log.specs.declared.body.Body.{Body}
use Rattle.vat_log.specs.declared.body.Body.TheVariants as body
use Rattle.vat_log.specs.Passages.{passage_of, passes}
use Rattle.decoded_records.specs.declared.decoded.DecodedRecord.{DecodedRecord}
use Rattle.decoded_records.specs.declared.decoded.DecodedRecord.TheVariants.{Wire}
use Rattle.decoded_records.specs.Decoding.{made_with}
use Rattle.decoded_records.specs.Past.{Past, Point, point, id, names, last_since}
use Rattle.decoded_records.specs.Questions.{opens, releases, is_released, is_late}
use Rattle.vat_rules.specs.declared.outcome.Why.{Why}
use Rattle.vat_rules.specs.Events.{event_of, event_or_none, past_at}
use Rattle.vat_rules.specs.Audit.{read_as, reads_by, edition_of}
use Rattle.picture.specs.Places as places
use Rattle.picture.specs.Places.{message_of_body, question_turn_of, question_turn_by}
use Rattle.picture.specs.Rows.{late_in}

-- ---- one record

eq_swap : (m n : ℕ) → (m == n) ≡ (n == m)
eq_swap m n = grind (arith, nat_tests)

parts_swap : (c d n : Bool) → (c && d && n) ≡ (d && c && n)
parts_swap true true n = refl
parts_swap true false n = refl
parts_swap false true n = refl
parts_swap false false n = refl

-- a question is named by what goes its way on its connection and has its number
named : (asks sent p : Bool) (k q j o : ℕ) → p ≡ (beq asks sent && (j == k)) → names (id k asks q) (Some (id j sent o)) ≡ (p && (o == q))
named asks sent p k q j o way =
    ap₂ (λ a b. a && beq asks sent && b) (eq_swap k j) (eq_swap q o) ∙ parts_swap (j == k) (beq asks sent) (o == q) ∙ ap (λ b. b && (o == q)) (sym way)

-- an opening takes back what was given back
opened : (p t n : Bool) (l : Option Point) → n ≡ (p && t) → unwrap_or (if p then (if t then Some false else None) else None) (is_some l) ≡ is_some (if n then None else l)
opened true true n l is = ap (λ b. is_some (if b then None else l)) (sym is)
opened true false n l is = ap (λ b. is_some (if b then None else l)) (sym is)
opened false t n l is = ap (λ b. is_some (if b then None else l)) (sym is)

-- a Finish gives it back
released : (p t n : Bool) (x : Point) (l : Option Point) → n ≡ (p && t) → unwrap_or (if p then (if t then Some true else None) else None) (is_some l) ≡ is_some (if n then Some x else l)
released true true n x l is = ap (λ b. is_some (if b then Some x else l)) (sym is)
released true false n x l is = ap (λ b. is_some (if b then Some x else l)) (sym is)
released false t n x l is = ap (λ b. is_some (if b then Some x else l)) (sym is)

-- what is none of both changes nothing
kept : (p r : Bool) → unwrap_or (if p then None else None) r ≡ r
kept true r = refl
kept false r = refl

module _ (asks : Bool) (k q : ℕ) where
  -- the last opening of the question, or the Finish since
  abbrev since : Past → Option Point
  since past = last_since (opens (id k asks q)) (releases (id k asks q)) past

  module _ (sent : Bool) (j c : ℕ) (rs : List ℕ) (p : Bool) (way : p ≡ (beq asks sent && (j == k))) (past : Past) where
    -- a message does to the question what looking back finds behind it
    said : (m : RpcMessage) → unwrap_or (if p then question_turn_of q m else None) (is_released (id k asks q) past) ≡ is_released (id k asks q) (Wire sent j c rs m ∷ past)
    said (Bootstrap o) = opened p (o == q) (names (id k asks q) (Some (id j sent o))) (since past) (named asks sent p k q j o way)
    said (Call head target params) = opened p (head.question == q) (names (id k asks q) (Some (id j sent head.question))) (since past) (named asks sent p k q j head.question way)
    said (Finish o true) =
        released p (o == q) (names (id k asks q) (Some (id j sent o))) (point past (Wire sent j c rs (Finish o true))) (since past) (named asks sent p k q j o way)
    said _ = kept p (is_released (id k asks q) past)

    passed : (r : Result RpcMessage ViewError) → unwrap_or (if p then option_and_then (question_turn_of q) (result_ok r) else None) (is_released (id k asks q) past)
        ≡ is_released (id k asks q) (cons_option (event_or_none (made_with (Wire sent j c rs) (read_as r))) past)
    passed (Ok m) = said m
    passed (Err e) = kept p (is_released (id k asks q) past)

way_sent : (asks : Bool) (k j c : ℕ) (rs frame : List ℕ) → passes asks k (body.Send j c rs frame) ≡ (beq asks true && (j == k))
way_sent true k j c rs frame = refl
way_sent false k j c rs frame = refl

way_received : (asks : Bool) (k j c : ℕ) (rs frame : List ℕ) → passes asks k (body.Receive j c rs frame) ≡ (beq asks false && (j == k))
way_received true k j c rs frame = refl
way_received false k j c rs frame = refl

-- ---- all records before

behind : {X : Type 0} (o : Option X) (xs ys : List X) → reverse xs ++ cons_option o ys ≡ reverse (cons_option o xs) ++ ys
behind None xs ys = refl
behind (Some x) xs ys = sym (ap (λ l. l ++ ys) (reverse-append (x ∷ []) xs) ∙ append_assoc (reverse xs) (x ∷ []) ys)

module _ (edition : Edition) where
  -- the event of a record, if it is read
  abbrev read : Body → Option DecodedRecord
  read b = event_or_none (event_of (reads_by edition default_limits) b)

  one_more : (asks : Bool) (k q : ℕ) (b : Body) (past : Past) → unwrap_or (question_turn_by edition asks k q b) (is_released (id k asks q) past) ≡ is_released (id k asks q) (cons_option (read b) past)
  one_more asks k q (body.Send j c rs frame) past =
      passed asks k q true j c rs (passes asks k (body.Send j c rs frame)) (way_sent asks k j c rs frame) past (message_of_bytes edition frame default_limits)
  one_more asks k q (body.Receive j c rs frame) past =
      passed asks k q false j c rs (passes asks k (body.Receive j c rs frame)) (way_received asks k j c rs frame) past (message_of_bytes edition frame default_limits)
  one_more true k q _ past = refl
  one_more false k q _ past = refl

  all_more : (asks : Bool) (k q : ℕ) (bs : List Body) (past : Past) → fold (λ released event. unwrap_or (question_turn_by edition asks k q event) released) (is_released (id k asks q) past) bs
      ≡ is_released (id k asks q) (reverse (filter_map read bs) ++ past)
  all_more asks k q [] past = refl
  all_more asks k q (b ∷ bs) past =
      ap (λ r. fold (λ released event. unwrap_or (question_turn_by edition asks k q event) released) r bs) (one_more asks k q b past)
      ∙ all_more asks k q bs (cons_option (read b) past) ∙ ap (is_released (id k asks q)) (behind (read b) (filter_map read bs) past)

  -- a question's results are given back for a picture just where looking back finds it
  given_back : (asks : Bool) (k q n : ℕ) (records : List Body)
      → places.is_given_back edition asks k q (take n records) ≡ is_released (id k asks q) (past_at (reads_by edition default_limits) records n)
  given_back asks k q n records = all_more asks k q (take n records) [] ∙ ap (is_released (id k asks q)) (append-nil (past_at (reads_by edition default_limits) records n))

  -- ---- the Return

  module _ (records : List Body) (n : ℕ) where
    -- what is read is late by the records before it
    abbrev late_if : Result DecodedRecord Why → Bool
    late_if (Ok e) = is_late (past_at (reads_by edition default_limits) records n) e
    late_if (Err why) = false

    late_by : (sent : Bool) (j c : ℕ) (rs : List ℕ) (r : Result RpcMessage ViewError)
        → places.is_late_return edition (Some (sent, j)) (result_ok r) (take n records) ≡ late_if (made_with (Wire sent j c rs) (read_as r))
    late_by sent j c rs (Ok (Return head outcome)) = given_back (not sent) j head.answer n records
    late_by sent j c rs (Ok _) = refl
    late_by sent j c rs (Err e) = refl

    late_so : (b : Body) → places.is_late_return edition (passage_of b) (message_of_body edition b) (take n records) ≡ late_if (event_of (reads_by edition default_limits) b)
    late_so (body.Send j c rs frame) = late_by true j c rs (message_of_bytes edition frame default_limits)
    late_so (body.Receive j c rs frame) = late_by false j c rs (message_of_bytes edition frame default_limits)
    late_so _ = refl

-- a record that is read is late in a picture just where it is so for the audit
pub late_as_audited : (log : Log) (number : ℕ) (b : Body) (e : DecodedRecord) → event_of (reads_by (edition_of log) default_limits) b ≡ Ok e
    → late_in log number b ≡ is_late (past_at (reads_by (edition_of log) default_limits) log.records number) e
late_as_audited log number b e is = late_so (edition_of log) log.records number b ∙ ap (late_if (edition_of log) log.records number) is
