-- What passed on the connections of a log, one frame further.
use Rattle.std.proofs.Common.{◌≡◌, ◌⊎◌, inl, inr, ◌∷◌, ◌++◌, [], ℕ, ◌+◌, ◌<◌, ◌==◌, List, Bool, true, false, cond, Option, Some, None, length, refl, sym, ap, subst, ◌∙◌, arith}
use Rattle.std.specs.Prelude.{if◌then◌else◌, Result, Ok, Err, OnOk}
use Rattle.std.specs.List.{filter_map, cons_option}
use Rattle.std.specs.BTreeMap.{BTreeMap, get}
use Rattle.std.specs.Ordering.{nat_cmp, is_eq}
use Rattle.std.specs.Cmp.{unsigned_tied}
use Rattle.std.proofs.lemmas.List.{append-nil, length_push}
use Rattle.std.proofs.lemmas.List.Elements.{filter_map-append}
use Rattle.std.proofs.lemmas.Option.{none-some, same_Some}
use Rattle.std.proofs.lemmas.Bool.{cases_eq, eq-eqb, ne_eqb, cond-true, cond-false}
use Rattle.vat_log.specs.declared.body.Body.{Body}
use Rattle.vat_log.specs.declared.body.Body.TheVariants.{Send, Receive}
use Rattle.vat_log.specs.Passages.{frame_sent, frame_received}
use Rattle.log_ends.specs.Glue.{Traces, IsPassed, HasPassed, one_more}
use Rattle.log_ends.specs.declared.passages.PassedFrame.{PassedFrame}
use Rattle.log_ends.proofs.Numbering.{traced_later}

pub passed_later : (numbers later : List (List ℕ) → Option ℕ) → ((frames : List (List ℕ)) (n : ℕ) → numbers frames ≡ Some n → later frames ≡ Some n) → (passed : PassedFrame) (sent received : List (List ℕ)) → IsPassed numbers passed sent received → IsPassed later passed sent received
passed_later numbers later keeps passed sent received is =
    record { out = traced_later numbers later keeps passed.sent.numbers.items sent is.out; into = traced_later numbers later keeps passed.received.numbers.items received is.into }

pub passed_same : (numbers : List (List ℕ) → Option ℕ) (passed : PassedFrame) (sent received out into : List (List ℕ)) → out ≡ sent → into ≡ received → IsPassed numbers passed sent received → IsPassed numbers passed out into
passed_same numbers passed sent received out into e h is =
    record { out = subst (λ l. Traces numbers passed.sent.numbers.items l) (sym e) is.out; into = subst (λ l. Traces numbers passed.received.numbers.items l) (sym h) is.into }

-- the same by other words
pub has_same : (numbers : List (List ℕ) → Option ℕ) (table : BTreeMap ℕ PassedFrame) (sent received out into : ℕ → List (List ℕ)) → ((q : ℕ) → out q ≡ sent q) → ((q : ℕ) → into q ≡ received q) → HasPassed numbers table sent received → HasPassed numbers table out into
has_same numbers table sent received out into e h has =
    record {
      there = λ q passed at. let is = has.there q passed at in (passed_same numbers passed (sent q) (received q) (out q) (into q) (e q) (h q) is.0, omega (arith, is.1, ap length (e q), ap length (h q)));
      absent = λ q at. let is = has.absent q at in (e q ∙ is.0, h q ∙ is.1);
    }

-- one connection has something else from now on
pub has_more : (numbers later : List (List ℕ) → Option ℕ) → ((frames : List (List ℕ)) (n : ℕ) → numbers frames ≡ Some n → later frames ≡ Some n) → (old new : BTreeMap ℕ PassedFrame) (connection : ℕ) (now : PassedFrame) (sent received out into : ℕ → List (List ℕ)) → HasPassed numbers old sent received
    → ((q : ℕ) → get nat_cmp new q ≡ cond (connection == q) (Some now) (get nat_cmp old q)) → IsPassed later now (out connection) (into connection) → 0 < length (out connection) + length (into connection)
    → ((q : ℕ) → (connection ≡ q → ⊥) → (out q ≡ sent q) × (into q ≡ received q)) → HasPassed later new out into
has_more numbers later keeps old new connection now sent received out into has update is some others =
    record {
      there = λ q passed at. there_at q passed at (cases_eq connection q);
      absent = λ q at. absent_at q at (cases_eq connection q);
    } where
      there_at : (q : ℕ) (passed : PassedFrame) → get nat_cmp new q ≡ Some passed → (connection ≡ q) ⊎ (connection ≡ q → ⊥) → IsPassed later passed (out q) (into q) × (0 < length (out q) + length (into q))
      there_at q passed at (inl here) =
          let found : Some now ≡ Some passed = sym (update q ∙ cond-true (connection == q) (Some now) (get nat_cmp old q) (eq-eqb connection q here)) ∙ at in
          let same : now ≡ passed = same_Some now passed found in
          subst (λ n. IsPassed later passed (out n) (into n) × (0 < length (out n) + length (into n))) here (subst (λ p. IsPassed later p (out connection) (into connection) × (0 < length (out connection) + length (into connection))) same (is, some))
      there_at q passed at (inr apart) =
          let found : get nat_cmp old q ≡ Some passed = sym (update q ∙ cond-false (connection == q) (Some now) (get nat_cmp old q) (ne_eqb connection q apart)) ∙ at in
          let old_is = has.there q passed found in
          let same = others q apart in
          (passed_same later passed (sent q) (received q) (out q) (into q) same.0 same.1 (passed_later numbers later keeps passed (sent q) (received q) old_is.0), omega (arith, old_is.1, ap length same.0, ap length same.1))

      absent_at : (q : ℕ) → get nat_cmp new q ≡ None → (connection ≡ q) ⊎ (connection ≡ q → ⊥) → (out q ≡ []) × (into q ≡ [])
      absent_at q at (inl here) = absurd (none-some now (sym at ∙ update q ∙ cond-true (connection == q) (Some now) (get nat_cmp old q) (eq-eqb connection q here)))
      absent_at q at (inr apart) =
          let none = has.absent q (sym (update q ∙ cond-false (connection == q) (Some now) (get nat_cmp old q) (ne_eqb connection q apart)) ∙ at) in
          let same = others q apart in
          (same.0 ∙ none.0, same.1 ∙ none.1)

pub one_more_here : (frames : ℕ → List (List ℕ)) (connection : ℕ) (frame : List ℕ) → one_more frames connection frame connection ≡ frames connection ++ (frame ∷ [])
one_more_here frames connection frame = cond-true (connection == connection) (frames connection ++ (frame ∷ [])) (frames connection) (eq-eqb connection connection refl)

pub one_more_other : (frames : ℕ → List (List ℕ)) (connection : ℕ) (frame : List ℕ) (q : ℕ) → (connection ≡ q → ⊥) → one_more frames connection frame q ≡ frames q
one_more_other frames connection frame q apart = cond-false (connection == q) (frames q ++ (frame ∷ [])) (frames q) (ne_eqb connection q apart)

-- one more frame was sent on a connection
pub has_sent : (numbers later : List (List ℕ) → Option ℕ) → ((frames : List (List ℕ)) (n : ℕ) → numbers frames ≡ Some n → later frames ≡ Some n) → (old new : BTreeMap ℕ PassedFrame) (connection : ℕ) (frame : List ℕ) (now : PassedFrame) (sent received : ℕ → List (List ℕ)) → HasPassed numbers old sent received
    → ((q : ℕ) → get nat_cmp new q ≡ cond (connection == q) (Some now) (get nat_cmp old q)) → Traces later now.sent.numbers.items (sent connection ++ (frame ∷ [])) → Traces later now.received.numbers.items (received connection) → HasPassed later new (one_more sent connection frame) received
has_sent numbers later keeps old new connection frame now sent received has update out into =
    let here : one_more sent connection frame connection ≡ sent connection ++ (frame ∷ []) = one_more_here sent connection frame in
    has_more numbers later keeps old new connection now sent received (one_more sent connection frame) received has update
    (record { out = subst (λ l. Traces later now.sent.numbers.items l) (sym here) out; into = into })
    (omega (arith, ap length here, length_push (sent connection) frame))
    (λ q apart. (one_more_other sent connection frame q apart, refl))

-- one more frame was received on a connection
pub has_received : (numbers later : List (List ℕ) → Option ℕ) → ((frames : List (List ℕ)) (n : ℕ) → numbers frames ≡ Some n → later frames ≡ Some n) → (old new : BTreeMap ℕ PassedFrame) (connection : ℕ) (frame : List ℕ) (now : PassedFrame) (sent received : ℕ → List (List ℕ)) → HasPassed numbers old sent received
    → ((q : ℕ) → get nat_cmp new q ≡ cond (connection == q) (Some now) (get nat_cmp old q)) → Traces later now.sent.numbers.items (sent connection) → Traces later now.received.numbers.items (received connection ++ (frame ∷ [])) → HasPassed later new sent (one_more received connection frame)
has_received numbers later keeps old new connection frame now sent received has update out into =
    let here : one_more received connection frame connection ≡ received connection ++ (frame ∷ []) = one_more_here received connection frame in
    has_more numbers later keeps old new connection now sent received sent (one_more received connection frame) has update
    (record { out = out; into = subst (λ l. Traces later now.received.numbers.items l) (sym here) into })
    (omega (arith, ap length here, length_push (received connection) frame))
    (λ q apart. (refl, one_more_other received connection frame q apart))

-- ---- one record more

given_none : (h : Body → Option (List ℕ)) (records : List Body) (b : Body) → h b ≡ None → filter_map h (records ++ (b ∷ [])) ≡ filter_map h records
given_none h records b none = filter_map-append h records (b ∷ []) ∙ ap (λ o. filter_map h records ++ cons_option o []) none ∙ append-nil (filter_map h records)

given_if : (h : Body → Option (List ℕ)) (records : List Body) (b : Body) (t : Bool) (frame : List ℕ) → h b ≡ (if t then Some frame else None) → filter_map h (records ++ (b ∷ [])) ≡ (if t then filter_map h records ++ (frame ∷ []) else filter_map h records)
given_if h records b true frame some = filter_map-append h records (b ∷ []) ∙ ap (λ o. filter_map h records ++ cons_option o []) some
given_if h records b false frame none = given_none h records b none

pub sends_one : (records : List Body) (connection call : ℕ) (references frame : List ℕ) (numbers : List (List ℕ) → Option ℕ) (table : BTreeMap ℕ PassedFrame) → HasPassed numbers table (one_more (λ q. filter_map (frame_sent q) records) connection frame) (λ q. filter_map (frame_received q) records)
    → HasPassed numbers table (λ q. filter_map (frame_sent q) (records ++ (Send connection call references frame ∷ []))) (λ q. filter_map (frame_received q) (records ++ (Send connection call references frame ∷ [])))
sends_one records connection call references frame numbers table has =
    has_same numbers table (one_more (λ q. filter_map (frame_sent q) records) connection frame) (λ q. filter_map (frame_received q) records) (λ q. filter_map (frame_sent q) (records ++ (Send connection call references frame ∷ []))) (λ q. filter_map (frame_received q) (records ++ (Send connection call references frame ∷ [])))
    (λ q. given_if (frame_sent q) records (Send connection call references frame) (connection == q) frame refl) (λ q. given_none (frame_received q) records (Send connection call references frame) refl) has

pub receives_one : (records : List Body) (connection call : ℕ) (references frame : List ℕ) (numbers : List (List ℕ) → Option ℕ) (table : BTreeMap ℕ PassedFrame) → HasPassed numbers table (λ q. filter_map (frame_sent q) records) (one_more (λ q. filter_map (frame_received q) records) connection frame)
    → HasPassed numbers table (λ q. filter_map (frame_sent q) (records ++ (Receive connection call references frame ∷ []))) (λ q. filter_map (frame_received q) (records ++ (Receive connection call references frame ∷ [])))
receives_one records connection call references frame numbers table has =
    has_same numbers table (λ q. filter_map (frame_sent q) records) (one_more (λ q. filter_map (frame_received q) records) connection frame) (λ q. filter_map (frame_sent q) (records ++ (Receive connection call references frame ∷ []))) (λ q. filter_map (frame_received q) (records ++ (Receive connection call references frame ∷ [])))
    (λ q. given_none (frame_sent q) records (Receive connection call references frame) refl) (λ q. given_if (frame_received q) records (Receive connection call references frame) (connection == q) frame refl) has

-- a record that is no frame
pub says_no_frame : (records : List Body) (b : Body) (numbers : List (List ℕ) → Option ℕ) (table : BTreeMap ℕ PassedFrame) → ((q : ℕ) → frame_sent q b ≡ None) → ((q : ℕ) → frame_received q b ≡ None) → HasPassed numbers table (λ q. filter_map (frame_sent q) records) (λ q. filter_map (frame_received q) records)
    → HasPassed numbers table (λ q. filter_map (frame_sent q) (records ++ (b ∷ []))) (λ q. filter_map (frame_received q) (records ++ (b ∷ [])))
says_no_frame records b numbers table not_sent not_received has =
    has_same numbers table (λ q. filter_map (frame_sent q) records) (λ q. filter_map (frame_received q) records) (λ q. filter_map (frame_sent q) (records ++ (b ∷ []))) (λ q. filter_map (frame_received q) (records ++ (b ∷ [])))
    (λ q. given_none (frame_sent q) records b (not_sent q)) (λ q. given_none (frame_received q) records b (not_received q)) has

-- ---- what a call leaves

both : (t u : Bool) (now : PassedFrame) (o : Option PassedFrame) → t ≡ u → cond t (Some now) (cond u None o) ≡ cond u (Some now) o
both true true now o e = refl
both true false now o e = absurd cc
both false true now o e = absurd cc
both false false now o e = refl

-- what was taken out of a table is put back
pub put_back : (old mid new : BTreeMap ℕ PassedFrame) (connection : ℕ) (now : PassedFrame) → ((q : ℕ) → get nat_cmp mid q ≡ cond (connection == q) None (get nat_cmp old q)) → ((q : ℕ) → get nat_cmp new q ≡ cond (is_eq (nat_cmp connection q)) (Some now) (get nat_cmp mid q))
    → (q : ℕ) → get nat_cmp new q ≡ cond (connection == q) (Some now) (get nat_cmp old q)
put_back old mid new connection now taken put q =
    put q ∙ ap (λ o. cond (is_eq (nat_cmp connection q)) (Some now) o) (taken q) ∙ both (is_eq (nat_cmp connection q)) (connection == q) now (get nat_cmp old q) (unsigned_tied connection q)

pub on_ok : {T E : Type 0} (r : Result T E) (P Q : Type 0) → (P → Q) → OnOk r P → OnOk r Q
on_ok (Ok x) P Q f p = f p
on_ok (Err e) P Q f p = p

pub not_sent : (b : Body) → ((connection call : ℕ) (references frame : List ℕ) → b ≡ Send connection call references frame → ⊥) → (q : ℕ) → frame_sent q b ≡ None
not_sent (Send connection call references frame) other q = absurd (other connection call references frame refl)
not_sent _ other q = refl

pub not_received : (b : Body) → ((connection call : ℕ) (references frame : List ℕ) → b ≡ Receive connection call references frame → ⊥) → (q : ℕ) → frame_received q b ≡ None
not_received (Receive connection call references frame) other q = absurd (other connection call references frame refl)
not_received _ other q = refl
