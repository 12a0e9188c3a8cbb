-- While the importer holds a number, the exporter does since it sent what began that life.
use Rattle.std.proofs.Common.{◌≡◌, ◌≤◌, ◌<◌, inl, inr, refl, sym, ap, subst, ℕ, List, [], ◌∷◌, ◌++◌, length, true, false, Option, Some, None, arith}
use Rattle.std.specs.List.{cons_option}
use Rattle.std.proofs.lemmas.Bool.{ltb-true, lt-ltb}
use Rattle.agree.specs.Types.{RpcMessage, DecodedRecord}
use Rattle.decoded_records.specs.Past.{Past, id, Each}
use Rattle.decoded_records.specs.Lives.{held}
use Rattle.decoded_records.specs.Uses.{UsesQuestions}
use Rattle.agree.specs.Points.{GoesOn}
use Rattle.agree.specs.Streams.{passing, stream, IsCut, IsPassed}
use Rattle.agree.specs.Agreeing.{IsCausal, AreLinked, AgreeOnOpenings}
use Rattle.agree.specs.Lasting.{LivesFrom}
use Rattle.agree.proofs.Points.{through, either, kept, lifted, each_before}
use Rattle.agree.proofs.Cuts.{IsMet, same_before, met_after}
use Rattle.agree.proofs.Telling.{none_or_some, stream_of}
use Rattle.agree.proofs.Mates.{are_told}
use Rattle.agree.proofs.Covered.{held_at_cut}

-- what they agree on holds of what came earlier
pub agree_before : (k : ℕ) (one other a b : Past) → GoesOn one a → GoesOn other b → AgreeOnOpenings k one other → AgreeOnOpenings k a b
agree_before k one other a b e f agree head outcome from to sent received p = agree head outcome from to sent received record {
  sent_there = through one a (sent ∷ from) e p.sent_there;
  received_there = through other b (received ∷ to) f p.received_there;
  sends = p.sends;
  receives = p.receives;
  same_number = p.same_number;
}

-- what one log received the other sent
abbrev pub Sender : ℕ → Past → RpcMessage → Past → Type 0
Sender k other m to = (sent : DecodedRecord) × (from : Past) × GoesOn other (sent ∷ from) × (passing k true sent ≡ Some m) × (stream k true from ≡ stream k false to)

pub sender : (k : ℕ) (one other : Past) (m : RpcMessage) (to : Past) (e : DecodedRecord) → GoesOn (stream k true other) (stream k false one) → GoesOn one (e ∷ to) → passing k false e ≡ Some m → Sender k other m to
sender k one other m to e cut there h =
    let all : GoesOn (stream k true other) (m ∷ stream k false to) =
    subst (λ l. GoesOn (stream k true other) l) (stream_of k false to e (Some m) h) (through _ _ _ cut (kept (passing k false) one (e ∷ to) there)) in
    lifted (passing k true) other m (stream k false to) all

-- the two records of it
pub mate : (k : ℕ) (one other : Past) (m : RpcMessage) (to : Past) (e : DecodedRecord) → (z : Sender k other m to) → GoesOn one (e ∷ to) → passing k false e ≡ Some m → IsPassed k m other one z.1 to z.0 e
mate k one other m to e z there h = record { sent_there = z.2; received_there = there; sends = z.3; receives = h; same_number = ap length z.4 }

-- some point of the importer since then makes a cut
abbrev CutSince : ℕ → Past → Past → Past → Type 0
CutSince k since whole point = (p : Past) × GoesOn whole p × GoesOn p since × IsCut k point p

-- the stream of what goes on goes on
goes_on : (o : Option RpcMessage) (a b : List RpcMessage) → GoesOn b a → GoesOn (cons_option o b) a
goes_on None a b e = e
goes_on (Some m) a b e = (m ∷ e.0, ap (λ l. m ∷ l) e.1)

at_received : (k : ℕ) (one other : Past) → IsCut k one other → IsCausal k other one → (since point : Past) (e : DecodedRecord) (m : RpcMessage) → GoesOn one (e ∷ point) →
    passing k false e ≡ Some m → CutSince k since other point → CutSince k since other (e ∷ point)
at_received k one other cut causal since point e m there h c =
    let z = sender k one other m point e cut.to_one there h in
    let passed : IsPassed k m other one z.1 point z.0 e = mate k one other m point e z there h in
    let before : IsCut k z.1 point = causal m z.1 point z.0 e passed in
    let after : IsMet k (z.0 ∷ z.1) (e ∷ point) = met_after k m other one z.1 point z.0 e passed record { cut = before; all = z.4 } in
    elim (either other (z.0 ∷ z.1) c.0 z.2 c.1) [
      | inl old ↦ (
        c.0,
        c.1,
        c.2,
        record {
          to_one = subst (λ l. GoesOn (stream k true c.0) l) after.all (kept (passing k true) c.0 (z.0 ∷ z.1) old);
          to_other = goes_on (passing k true e) (stream k false c.0) (stream k true point) c.3.to_other;
        },
      )
      | inr new ↦ (z.0 ∷ z.1, z.2, through (z.0 ∷ z.1) c.0 since new c.2, record { to_one = after.cut.to_other; to_other = after.cut.to_one })
    ]

at_other : (k : ℕ) (since other point : Past) (e : DecodedRecord) → passing k false e ≡ None → CutSince k since other point → CutSince k since other (e ∷ point)
at_other k since other point e h c = (
  c.0,
  c.1,
  c.2,
  record {
    to_one = subst (λ l. GoesOn (stream k true c.0) l) (sym (stream_of k false point e None h)) c.3.to_one;
    to_other = goes_on (passing k true e) (stream k false c.0) (stream k true point) c.3.to_other;
  },
)

cuts_since : (k : ℕ) (one other : Past) → IsCut k one other → IsCausal k other one → (since start : Past) → CutSince k since other start →
    (later : List DecodedRecord) → GoesOn one (later ++ start) → CutSince k since other (later ++ start)
cuts_since k one other cut causal since start c [] there = c
cuts_since k one other cut causal since start c (e ∷ later) there =
    let rest = cuts_since k one other cut causal since start c later (through one ((e ∷ later) ++ start) (later ++ start) there (e ∷ [], refl)) in
    elim (none_or_some (passing k false e)) [
      | inl none ↦ at_other k since other (later ++ start) e none rest
      | inr m ↦ at_received k one other cut causal since (later ++ start) e m.0 there m.1 rest
    ]

-- while the importer holds a number that a message brought, the exporter does since it sent that message
pub lives_there : (k n : ℕ) (exporter importer from to : Past) (m : RpcMessage) (sent received : DecodedRecord) → Each UsesQuestions exporter → Each UsesQuestions importer → AreLinked k exporter importer →
    AgreeOnOpenings k exporter importer → AgreeOnOpenings k importer exporter → IsPassed k m exporter importer from to sent received →
    LivesFrom (id k false n) (received ∷ to) importer → LivesFrom (id k true n) (sent ∷ from) exporter
lives_there k n x y from to m sent received uses_x uses_y linked agree agree_back p lives point within since =
    let met : IsMet k from to = record { cut = linked.there m from to sent received p; all = same_before k m x y from to sent received linked.cut.to_other p } in
    let start : CutSince k (received ∷ to) y (sent ∷ from) = (received ∷ to, p.received_there, ([], refl), (met_after k m x y from to sent received p met).cut) in
    let c : CutSince k (received ∷ to) y point = subst (λ l. CutSince k (received ∷ to) y l) (sym since.1)
    (cuts_since k x y linked.cut linked.back (received ∷ to) (sent ∷ from) start since.0 (subst (λ l. GoesOn x l) since.1 within)) in
    let le : held (id k false n) c.0 ≤ held (id k true n) point =
    held_at_cut k n point c.0 (are_told k point c.0 c.3 (agree_before k x y point c.0 within c.1 agree) (agree_before k y x c.0 point c.1 within agree_back))
    (each_before UsesQuestions x point within uses_x) (each_before UsesQuestions y c.0 c.1 uses_y) in
    let lt : 0 < held (id k false n) c.0 = ltb-true 0 (held (id k false n) c.0) (lives c.0 c.1 c.2) in
    lt-ltb 0 (held (id k true n) point) (omega (arith, le, lt))
