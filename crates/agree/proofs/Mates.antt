-- A consistent cut at which the ends speak of the same openings, from the cut and from what Returns belong to.
use Rattle.std.proofs.Common.{◌≡◌, inl, inr, refl, sym, ◌∙◌, ap, ap₂, ℕ, List, [], ◌∷◌, ◌++◌, length, true, false, Some, None}
use Rattle.agree.specs.Types.{RpcMessage, Bootstrap, Return, Finish, DecodedRecord}
use Rattle.decoded_records.specs.Past.{Past, id}
use Rattle.agree.specs.Points.{GoesOn}
use Rattle.agree.specs.Streams.{passing, stream, IsCut, IsPassed}
use Rattle.agree.specs.Agreeing.{AgreeOnOpenings}
use Rattle.agree.specs.Told.{speaks_of, telling, tellings, AreTold}
use Rattle.agree.proofs.Points.{before_it, heads, tails}
use Rattle.agree.proofs.Asking.{asks, last_number, number_stream}
use Rattle.agree.proofs.Telling.{none_or_some, told_of, stream_of}

-- what a message speaks of is the same at both ends
same_opening : (k : ℕ) (one other from to : Past) (sent received : DecodedRecord) (m : RpcMessage) → AgreeOnOpenings k one other → IsPassed k m one other from to sent received →
    stream k true from ≡ stream k false to → speaks_of k true from m ≡ speaks_of k false to m
same_opening k one other from to sent received (Return head outcome) agree p same = agree head outcome from to sent received p
same_opening k one other from to sent received (Finish q release) agree p same =
    number_stream (id k true q) from ∙ ap (λ l. last_number (asks q) l) same ∙ sym (number_stream (id k false q) to)
same_opening k one other from to sent received (Bootstrap q) agree p same = refl
same_opening k one other from to sent received _ agree p same = refl

-- two logs in which the same passed were told the same
abbrev Same : ℕ → Past → Past → Past → Past → Type 0
Same k one other from to = GoesOn one from → GoesOn other to → stream k true from ≡ stream k false to → tellings k true from ≡ tellings k false to

nothing_there : {A : Type 0} {x : A} {xs : List A} → [] ≡ (x ∷ xs) → ⊥
nothing_there e = cc

this_told : (k : ℕ) (one other : Past) (e : DecodedRecord) (from : Past) (m : RpcMessage) → AgreeOnOpenings k one other → passing k true e ≡ Some m → GoesOn one (e ∷ from) →
    ((to : Past) → Same k one other from to) → (to : Past) → GoesOn other to → (m ∷ stream k true from) ≡ stream k false to →
    (telling k true from m ∷ tellings k true from) ≡ tellings k false to
this_told k one other e from m agree h there rest [] ends same = absurd (nothing_there (sym same))
this_told k one other e from m agree h there rest (y ∷ to) ends same = elim (none_or_some (passing k false y)) [
  | inl none ↦ this_told k one other e from m agree h there rest to (before_it other y to ends) (same ∙ stream_of k false to y None none) ∙ sym (told_of k false to y None none)
  | inr n ↦
      let all : m ∷ stream k true from ≡ n.0 ∷ stream k false to = same ∙ stream_of k false to y (Some n.0) n.1 in
      let both : stream k true from ≡ stream k false to = tails all in
      let one_message : m ≡ n.0 = heads all in
      let passed : IsPassed k m one other from to e y =
      record { sent_there = there; received_there = ends; sends = h; receives = n.1 ∙ ap (λ z. Some z) (sym one_message); same_number = ap length both } in
      let opening : telling k true from m ≡ telling k false to n.0 =
      ap (λ o. (m, o)) (same_opening k one other from to e y m agree passed both) ∙ ap (λ z. telling k false to z) one_message in
      ap₂ (λ t ts. t ∷ ts) opening (rest to (before_it one e from there) (before_it other y to ends) both) ∙ sym (told_of k false to y (Some n.0) n.1)
]

none_told : (k : ℕ) (to : Past) → [] ≡ stream k false to → [] ≡ tellings k false to
none_told k [] h = refl
none_told k (y ∷ to) h = elim (none_or_some (passing k false y)) [
  | inl none ↦ none_told k to (h ∙ stream_of k false to y None none) ∙ sym (told_of k false to y None none)
  | inr n ↦ absurd (nothing_there (h ∙ stream_of k false to y (Some n.0) n.1))
]

same_told : (k : ℕ) (one other : Past) → AgreeOnOpenings k one other → (from to : Past) → Same k one other from to
same_told k one other agree [] to there ends same = none_told k to same
same_told k one other agree (e ∷ from) to there ends same = elim (none_or_some (passing k true e)) [
  | inl none ↦ told_of k true from e None none ∙ same_told k one other agree from to (before_it one e from there) ends (sym (stream_of k true from e None none) ∙ same)
  | inr m ↦ told_of k true from e (Some m.0) m.1
      ∙ this_told k one other e from m.0 agree m.1 there (same_told k one other agree from) to ends (sym (stream_of k true from e (Some m.0) m.1) ∙ same)
]

-- what came, with its openings, is the beginning of what went
ends_told : (k : ℕ) (one other : Past) → AgreeOnOpenings k one other → (from : Past) (later : List RpcMessage) → GoesOn one from →
    stream k true from ≡ later ++ stream k false other → GoesOn (tellings k true from) (tellings k false other)
ends_told k one other agree from [] there same = ([], same_told k one other agree from other there ([], refl) same)
ends_told k one other agree [] (m ∷ later) there same = absurd (nothing_there same)
ends_told k one other agree (e ∷ from) (m ∷ later) there same = elim (none_or_some (passing k true e)) [
  | inl none ↦ let r = ends_told k one other agree from (m ∷ later) (before_it one e from there) (sym (stream_of k true from e None none) ∙ same) in
      (r.0, told_of k true from e None none ∙ r.1)
  | inr n ↦
      let all : n.0 ∷ stream k true from ≡ m ∷ (later ++ stream k false other) = sym (stream_of k true from e (Some n.0) n.1) ∙ same in
      let r = ends_told k one other agree from later (before_it one e from there) (tails all) in
      (telling k true from n.0 ∷ r.0, told_of k true from e (Some n.0) n.1 ∙ ap (λ l. telling k true from n.0 ∷ l) r.1)
]

pub are_told : (k : ℕ) (one other : Past) → IsCut k one other → AgreeOnOpenings k one other → AgreeOnOpenings k other one → AreTold k one other
are_told k one other cut there back = record {
  to_one = ends_told k other one back other cut.to_one.0 ([], refl) cut.to_one.1;
  to_other = ends_told k one other there one cut.to_other.0 ([], refl) cut.to_other.1;
}
