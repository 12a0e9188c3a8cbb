-- A question that was returned lightly at its asker is returned lightly at the other end.
use Rattle.std.proofs.Common.{◌≡◌, refl, sym, ◌∙◌, ap, subst, ℕ, ◌==◌, [], ◌∷◌, ◌++◌, length, Bool, true, false, Option, Some, None, if◌then◌else◌, arith, inl, inr, eqb-true}
use Rattle.std.specs.Prelude.{is_some}
use Rattle.std.proofs.lemmas.Bool.{false≢true, cases_Bool, and_parts}
use Rattle.agree.specs.Types.{RpcMessage, Bootstrap, Return, DecodedRecord, Wire, Host, TableKey}
use Rattle.decoded_records.specs.Past.{Past, Point, point, id, names, last_since, Each}
use Rattle.decoded_records.specs.Questions.{question_opened, question_returned_lightly, opens, returns_lightly, is_returned_lightly}
use Rattle.decoded_records.specs.Uses.{OpensFree, UsesQuestions}
use Rattle.agree.specs.Points.{GoesOn}
use Rattle.agree.specs.Streams.{passing, stream, IsPassed, opening_number}
use Rattle.agree.specs.Agreeing.{AreLinked, AgreeOnOpenings}
use Rattle.agree.proofs.Points.{through, no_longer, kept, lifted}
use Rattle.agree.proofs.Asking.{asks, answers_lightly, passes, last_number, lightly_is, number_stream}
use Rattle.agree.proofs.Cuts.{linked_back}
use Rattle.agree.proofs.Once.{number_if, opening_below}
use Rattle.agree.proofs.Openings.{openings_linked}
use Rattle.agree.proofs.Telling.{none_or_some, stream_of}

-- ---- in one log

-- a Return of a question that says that no Finish is needed, behind the last opening
abbrev ReturnsLightly : TableKey → Past → Type 0
ReturnsLightly q past = (e : DecodedRecord) × (before : Past) × GoesOn past (e ∷ before) × (names q (question_returned_lightly e) ≡ true) × (opening_number q before ≡ opening_number q past)

came_first : (o l : Bool) (p : Point) (rest : Option Point) → is_some (if o then None else if l then Some p else rest) ≡ true → o ≡ false
came_first true l p rest h = absurd (false≢true h)
came_first false l p rest h = refl

came_before : (o l : Bool) (p : Point) (rest : Option Point) → o ≡ false → l ≡ false → is_some (if o then None else if l then Some p else rest) ≡ true → is_some rest ≡ true
came_before true l p rest e f h = absurd (false≢true (sym e))
came_before false true p rest e f h = absurd (false≢true (sym f))
came_before false false p rest e f h = h

lightly_found : (q : TableKey) (past : Past) → is_returned_lightly q past ≡ true → ReturnsLightly q past
lightly_found q [] h = absurd (false≢true h)
lightly_found q (e ∷ before) h =
    let light : Bool = names q (question_returned_lightly e) in
    let rest : Option Point = last_since (opens q) (returns_lightly q) before in
    let old : names q (question_opened e) ≡ false = came_first (names q (question_opened e)) light (point before e) rest h in
    elim (cases_Bool light) [
      | inl here ↦ (e, before, ([], refl), here, sym (number_if q e before false old))
      | inr apart ↦
          let r = lightly_found q before (came_before (names q (question_opened e)) light (point before e) rest old apart h) in
          (r.0, r.1, (e ∷ r.2.0, ap (λ l. e ∷ l) r.2.1), r.3, r.4 ∙ sym (number_if q e before false old))
    ]

comes_now : (o l : Bool) (p : Point) (rest : Option Point) → o ≡ false → l ≡ true → is_some (if o then None else if l then Some p else rest) ≡ true
comes_now true l p rest e f = absurd (false≢true (sym e))
comes_now false true p rest e f = refl
comes_now false false p rest e f = absurd (false≢true f)

comes_still : (o l : Bool) (p : Point) (rest : Option Point) → o ≡ false → is_some rest ≡ true → is_some (if o then None else if l then Some p else rest) ≡ true
comes_still true l p rest e f = absurd (false≢true (sym e))
comes_still false true p rest e f = refl
comes_still false false p rest e f = f

light_opens_none : (q : TableKey) (e : DecodedRecord) → names q (question_returned_lightly e) ≡ true → names q (question_opened e) ≡ false
light_opens_none q (Wire s j c rs (Return head outcome)) h = refl
light_opens_none q (Wire s j c rs (Bootstrap n)) h = absurd (false≢true h)
light_opens_none q (Wire s j c rs _) h = absurd (false≢true h)
light_opens_none q (Host r o) h = absurd (false≢true h)
light_opens_none q _ h = absurd (false≢true h)

-- where the number of the last opening is the same, none came between
lightly_still : (q : TableKey) (e : DecodedRecord) (before : Past) → names q (question_returned_lightly e) ≡ true → (later : Past) →
    opening_number q before ≡ opening_number q (later ++ e ∷ before) → is_returned_lightly q (later ++ e ∷ before) ≡ true
lightly_still q e before light [] same =
    comes_now (names q (question_opened e)) (names q (question_returned_lightly e)) (point before e) (last_since (opens q) (returns_lightly q) before) (light_opens_none q e light) light
lightly_still q e before light (y ∷ later) same = elim (cases_Bool (names q (question_opened y))) [
  | inl opened ↦
      let low = opening_below q before (length (stream q.connection q.ours (later ++ e ∷ before))) (same ∙ number_if q y (later ++ e ∷ before) true opened) in
      let more = no_longer _ _ (kept (passing q.connection q.ours) (later ++ e ∷ before) before (through _ _ _ (later, refl) (e ∷ [], refl))) in
      absurd (omega (arith, low, more))
  | inr none ↦
      comes_still (names q (question_opened y)) (names q (question_returned_lightly y)) (point (later ++ e ∷ before) y) (last_since (opens q) (returns_lightly q) (later ++ e ∷ before)) none
      (lightly_still q e before light later (same ∙ number_if q y (later ++ e ∷ before) false none))
]

-- ---- at both ends

-- such a Return belongs to one opening at both ends
agree_lightly : (k q : ℕ) (one other : Past) → AgreeOnOpenings k one other → (m : RpcMessage) → answers_lightly q m ≡ true → (from to : Past) (sent received : DecodedRecord) →
    IsPassed k m one other from to sent received → opening_number (id k false q) from ≡ opening_number (id k true q) to
agree_lightly k q one other agree (Return head outcome) h from to sent received p =
    subst (λ x. opening_number (id k false x) from ≡ opening_number (id k true x) to) (sym (eqb-true q head.answer (and_parts head.light (q == head.answer) h).1)) (agree head outcome from to sent received p)
agree_lightly k q one other agree (Bootstrap n) h from to sent received p = absurd (false≢true h)
agree_lightly k q one other agree _ h from to sent received p = absurd (false≢true h)

module _ (k : ℕ) (from to : Past) (linked : AreLinked k from to) (same : stream k true from ≡ stream k false to) (uses : Each UsesQuestions to) (free : Each OpensFree from) (q : ℕ) where
  -- the Return that the asker received was sent before, and no opening came to its sender since
  sent_lightly : (e : DecodedRecord) (before : Past) → GoesOn from (e ∷ before) → names (id k true q) (question_returned_lightly e) ≡ true →
      opening_number (id k true q) before ≡ opening_number (id k true q) from → (m : RpcMessage) → passing k false e ≡ Some m → is_returned_lightly (id k false q) to ≡ true
  sent_lightly e before there light number m comes =
      let mine : TableKey = id k true q in
      let theirs : TableKey = id k false q in
      let answers : answers_lightly q m ≡ true = sym (ap (λ o. passes (answers_lightly q) o) comes) ∙ sym (lightly_is mine e) ∙ light in
      let here : GoesOn (stream k false from) (m ∷ stream k false before) =
      subst (λ l. GoesOn (stream k false from) l) (stream_of k false before e (Some m) comes) (kept (passing k false) from (e ∷ before) there) in
      let z = lifted (passing k true) to m (stream k false before) (through _ _ _ linked.cut.to_one here) in
      let passed : IsPassed k m to from z.1 before z.0 e = record { sent_there = z.2; received_there = there; sends = z.3; receives = comes; same_number = ap length z.4 } in
      let agreed = agree_lightly k q to from (openings_linked k to from (linked_back k from to linked) uses free) m answers z.1 before z.0 e passed in
      let whole : opening_number mine from ≡ opening_number theirs to = number_stream mine from ∙ ap (λ l. last_number (asks q) l) same ∙ sym (number_stream theirs to) in
      let all : opening_number theirs z.1 ≡ opening_number theirs to = agreed ∙ number ∙ whole in
      let sends : names theirs (question_returned_lightly z.0) ≡ true = lightly_is theirs z.0 ∙ ap (λ o. passes (answers_lightly q) o) z.3 ∙ answers in
      subst (λ l. is_returned_lightly theirs l ≡ true) (sym z.2.1) (lightly_still theirs z.0 z.1 sends z.2.0 (all ∙ ap (λ l. opening_number theirs l) z.2.1))

  pub lightly_there : is_returned_lightly (id k true q) from ≡ true → is_returned_lightly (id k false q) to ≡ true
  lightly_there h =
      let r = lightly_found (id k true q) from h in
      elim (none_or_some (passing k false r.0)) [
        | inl none ↦ absurd (false≢true (sym (ap (λ o. passes (answers_lightly q) o) none) ∙ sym (lightly_is (id k true q) r.0) ∙ r.3))
        | inr m ↦ sent_lightly r.0 r.1 r.2 r.3 r.4 m.0 m.1
      ]
