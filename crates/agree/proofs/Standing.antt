-- A number in life at its importer stands at its exporter for what it was sent as.
use Rattle.std.proofs.Common.{◌≡◌, ◌⊎◌, inl, inr, refl, sym, ◌∙◌, ap, ap₂, subst, ℕ, suc, ◌+◌, ◌==◌, List, [], ◌∷◌, ◌++◌, Bool, true, false, ◌&&◌, ◌||◌, Option, Some, None, if◌then◌else◌, arith, option_and_then, slice_get}
use Rattle.std.specs.Prelude.{find}
use Rattle.std.specs.List.{position_from}
use Rattle.std.specs.Option.{option_or}
use Rattle.std.proofs.lemmas.Bool.{false≢true, cases_Bool, eq-eqb}
use Rattle.agree.specs.Types.{Descriptor, NoCap, SenderHosted, SenderPromise, RpcMessage, DecodedRecord, Host, Wire, View, TableKey}
use Rattle.decoded_records.specs.Past.{Past, point, id, names, last_answer, Each}
use Rattle.decoded_records.specs.Lives.{Birth, birth, begins, is_in_life, number_introduced, descriptors_of, descriptors}
use Rattle.decoded_records.specs.Views.{view_given, number_view, view_of_reference, view_of_number, view_of_descriptor, descriptor_view, placed_references}
use Rattle.decoded_records.specs.Uses.{UsesQuestions}
use Rattle.decoded_records.specs.Bindings.{Refers}
use Rattle.vat_view.specs.Sound.{IsSound}
use Rattle.vat_view.specs.Laws.{LivesOn, EachAfter}
use Rattle.decoded_records.proofs.Naming.{names_is}
use Rattle.vat_view.proofs.Lasting.{number_keeps}
use Rattle.vat_view.proofs.Viewed.{begins_some, begins_parts, all_viewed, export_viewed}
use Rattle.agree.specs.Points.{GoesOn}
use Rattle.agree.specs.Streams.{passing, IsPassed, IsCut}
use Rattle.agree.specs.Agreeing.{AreLinked, AgreeOnOpenings}
use Rattle.agree.specs.Lasting.{LivesFrom}
use Rattle.agree.specs.Standing.{StandsSince, StandsAlike, AgreeOnLives}
use Rattle.agree.proofs.Points.{through, tails, no_longer, same_length, each_before, each_so}
use Rattle.agree.proofs.Openings.{passing_is}
use Rattle.agree.proofs.Lasting.{agree_before, sender, mate, lives_there}

-- ---- where a life began, it has lasted since

-- a point of a longer list is that list, or a point of what came before
last_or_before : (e : DecodedRecord) (before p : Past) → GoesOn (e ∷ before) p → (p ≡ e ∷ before) ⊎ GoesOn before p
last_or_before e before p ([], h) = inl (sym h)
last_or_before e before p (x ∷ l, h) = inr (l, tails h)

abbrev Began : TableKey → Past → Birth → Type 0
Began i past b = GoesOn past (b.from.event ∷ b.from.before) × LivesFrom i (b.from.event ∷ b.from.before) past × (begins i b.from.before b.from.event ≡ Some b)

same_some : {A : Type 0} {x y : A} → Some x ≡ Some y → x ≡ y
same_some e = cc

began_now : (i : TableKey) (before : Past) (e : DecodedRecord) (b : Birth) → begins i before e ≡ Some b → is_in_life i (e ∷ before) ≡ true → Began i (e ∷ before) b
began_now i before e b h now =
    let parts = begins_parts i before e b h in
    let at : b.from ≡ point before e = ap (λ x. x.from) parts.2 in
    let whole : b.from.event ∷ b.from.before ≡ e ∷ before = ap (λ p. p.event ∷ p.before) at in
    let lives : LivesFrom i (e ∷ before) (e ∷ before) = λ p within since.
    let same : p ≡ e ∷ before = same_length (e ∷ before) p (e ∷ before) within ([], refl) (let a = no_longer (e ∷ before) p within in let c = no_longer p (e ∷ before) since in omega (arith, a, c)) in
    ap (λ x. is_in_life i x) same ∙ now in (
      ([], sym whole),
      subst (λ x. LivesFrom i x (e ∷ before)) (sym whole) lives,
      subst (λ p. begins i p.before p.event ≡ Some b) (sym at) h,
    )

began_earlier : (i : TableKey) (before : Past) (e : DecodedRecord) (b : Birth) → is_in_life i (e ∷ before) ≡ true → Began i before b → Began i (e ∷ before) b
began_earlier i before e b now earlier = (
  (e ∷ earlier.0.0, ap (λ l. e ∷ l) earlier.0.1),
  λ p within since. elim (last_or_before e before p within) [
    | inl same ↦ ap (λ x. is_in_life i x) same ∙ now
    | inr old ↦ earlier.1 p old since
  ],
  earlier.2,
)

none_begun : (a c : Bool) (o : Option Birth) → a ≡ true → (if a || c then None else o) ≡ None
none_begun true c o h = refl
none_begun false c o h = absurd (false≢true h)

began_at : (i : TableKey) (past : Past) (b : Birth) → is_in_life i past ≡ true → last_answer (begins i) past ≡ Some b → Began i past b
began_at i [] b now h = absurd (let no : ⊥ = cc in no)
began_at i (e ∷ before) b now h = elim (cases_Bool (is_in_life i before)) [
  | inl alive ↦ began_earlier i before e b now
      (began_at i before b alive (sym (ap (λ o. option_or o (last_answer (begins i) before)) (none_begun (is_in_life i before) _ _ alive)) ∙ h))
  | inr out ↦
      let new = begins_some i before e out now in
      let same : new.0 ≡ b = same_some (sym (ap (λ o. option_or o (last_answer (begins i) before)) new.1) ∙ h) in
      began_now i before e b (new.1 ∙ ap (λ x. Some x) same) now
]

born : (i : TableKey) (past : Past) (b : Birth) → birth i past ≡ Some b → (is_in_life i past ≡ true) × (last_answer (begins i) past ≡ Some b)
born i past b h = at (is_in_life i past) h
  where
    at : (c : Bool) → (if c then last_answer (begins i) past else None) ≡ Some b → (c ≡ true) × (last_answer (begins i) past ≡ Some b)
    at true h = (refl, h)
    at false h = absurd (let no : ⊥ = cc in no)

-- ---- the descriptor that began it

found_at : {A : Type 0} (test : A → Bool) (xs : List A) (p q : ℕ) → position_from test p xs ≡ Some q → (j : ℕ) × (x : A) × (q ≡ p + j) × (slice_get xs j ≡ Some x) × (test x ≡ true)
found_at test [] p q h = absurd (let no : ⊥ = cc in no)
found_at test (x ∷ xs) p q h = elim (cases_Bool (test x)) [
  | inl here ↦
      let same : p ≡ q = same_some (sym (ap (λ b. if b then Some p else position_from test (p + 1) xs) here) ∙ h) in (0, x, omega (arith, same), refl, here)
  | inr apart ↦
      let rest = found_at test xs (p + 1) q (sym (ap (λ b. if b then Some p else position_from test (p + 1) xs) apart) ∙ h) in
      let at = rest.2 in (suc rest.0, rest.1, omega (arith, at), rest.3, rest.4)
]

-- a descriptor that introduces a number of the sender's
abbrev Names : ℕ → Descriptor → Type 0
Names n d = (d ≡ SenderHosted n) ⊎ (d ≡ SenderPromise n)

introduced_by : (k n : ℕ) (e : DecodedRecord) (d : Descriptor) → number_introduced e d ≡ Some (id k false n) →
    (c : ℕ) × (rs : List ℕ) × (m : RpcMessage) × (e ≡ Wire false k c rs m) × Names n d
introduced_by k n (Wire t j c rs m) (SenderHosted x) h =
    let same : id j t x ≡ id k false n = same_some h in
    (c, rs, m, ap₂ (λ a b. Wire a b c rs m) (ap (λ i. i.ours) same) (ap (λ i. i.connection) same), inl (ap (λ i. SenderHosted i.number) same))
introduced_by k n (Wire t j c rs m) (SenderPromise x) h =
    let same : id j t x ≡ id k false n = same_some h in
    (c, rs, m, ap₂ (λ a b. Wire a b c rs m) (ap (λ i. i.ours) same) (ap (λ i. i.connection) same), inr (ap (λ i. SenderPromise i.number) same))
introduced_by k n (Wire t j c rs m) NoCap h = absurd (let no : ⊥ = cc in no)
introduced_by k n (Wire t j c rs m) _ h = absurd (let no : ⊥ = cc in no)
introduced_by k n (Host r x) d h = absurd (let no : ⊥ = cc in no)
introduced_by k n _ d h = absurd (let no : ⊥ = cc in no)

received : (k c : ℕ) (rs : List ℕ) (m : RpcMessage) (e : DecodedRecord) → e ≡ Wire false k c rs m → passing k false e ≡ Some m
received k c rs m e h = ap (λ e. passing k false e) h ∙ ap (λ b. if b && true then Some m else None) (eq-eqb k k refl)

same_descriptors : (k c : ℕ) (rs : List ℕ) (m : RpcMessage) (e : DecodedRecord) (j : ℕ) (d : Descriptor) → e ≡ Wire false k c rs m → slice_get (descriptors e) j ≡ Some d → slice_get (descriptors_of m) j ≡ Some d
same_descriptors k c rs m e j d h at = ap (λ e. slice_get (descriptors e) j) (sym h) ∙ at

-- ---- what it stood for when it was sent

noted_same : (named after : ℕ → Option View) → ((r : ℕ) → named r ≡ after r) → (o : Option (ℕ × ℕ)) → option_and_then (λ n. named n.0) o ≡ option_and_then (λ n. after n.0) o
noted_same named after f (Some n) = f n.0
noted_same named after f None = refl

given_same : (named after : ℕ → Option View) → ((r : ℕ) → named r ≡ after r) → (o : Option Birth) → option_and_then (view_given named true) o ≡ option_and_then (view_given after true) o
given_same named after f (Some b) = noted_same named after f (find (λ n. n.1 == b.place) (placed_references b.from.event))
given_same named after f None = refl

-- a message that is sent binds nothing
sent_described : (k n c : ℕ) (rs : List ℕ) (m : RpcMessage) (from : Past) (d : Descriptor) → Names n d →
    descriptor_view (view_of_reference from) from (Wire true k c rs m) d ≡ view_of_number (id k true n) (Wire true k c rs m ∷ from)
sent_described k n c rs m from d named = elim named [
  | inl h ↦ ap (λ x. descriptor_view (view_of_reference from) from (Wire true k c rs m) x) h ∙ same
  | inr h ↦ ap (λ x. descriptor_view (view_of_reference from) from (Wire true k c rs m) x) h ∙ same
]
  where
    same : number_view (view_of_reference from) (id k true n) (Wire true k c rs m ∷ from) ≡ view_of_number (id k true n) (Wire true k c rs m ∷ from)
    same = given_same (view_of_reference from) (view_of_reference (Wire true k c rs m ∷ from)) (λ r. refl) (birth (id k true n) (Wire true k c rs m ∷ from))

-- ---- together

lives_on : (i : TableKey) (later : List DecodedRecord) (past : Past) → LivesFrom i past (later ++ past) → LivesOn i later past
lives_on i [] past h = h past ([], refl) ([], refl)
lives_on i (e ∷ later) past h = (
  h ((e ∷ later) ++ past) ([], refl) (e ∷ later, refl),
  lives_on i later past (λ p within since. h p (through ((e ∷ later) ++ past) (later ++ past) p (e ∷ [], refl) within) since),
)

each_after : (P : Past → DecodedRecord → Type 0) (later : List DecodedRecord) (past : Past) → Each P (later ++ past) → EachAfter P later past
each_after P [] past h = tt
each_after P (e ∷ later) past h = (h.0, each_after P later past h.1)

module _ (k n : ℕ) (x y : Past) (sound : Each IsSound x) (uses : Each UsesQuestions y) (linked : AreLinked k x y) (there : AgreeOnOpenings k x y) (back : AgreeOnOpenings k y x) where
  exporter_uses : Each UsesQuestions x
  exporter_uses = each_so IsSound UsesQuestions (λ b e s. s.uses_questions) x sound

  stands_from : (b : Birth) (m : RpcMessage) (from : Past) (sent : DecodedRecord) (j : ℕ) (d : Descriptor) → IsPassed k m x y from b.from.before sent b.from.event →
      LivesFrom (id k false n) (b.from.event ∷ b.from.before) y → slice_get (descriptors_of m) j ≡ Some d → b.place ≡ j → Names n d → StandsSince k n x y b
  stands_from b m from sent j d p lives at place named =
      let since = lives_there k n x y from b.from.before m sent b.from.event exporter_uses uses linked there back p lives in
      let s = passing_is k true m sent p.sends in
      let sent_sound : Each IsSound (sent ∷ from) = each_before IsSound x (sent ∷ from) p.sent_there sound in
      let v = export_viewed (sent ∷ from) k n sent_sound (all_viewed (sent ∷ from) sent_sound) (since (sent ∷ from) p.sent_there ([], refl)) in
      let later : List DecodedRecord = p.sent_there.0 in
      let whole : x ≡ later ++ (sent ∷ from) = p.sent_there.1 in
      let on = lives_on (id k true n) later (sent ∷ from) (subst (λ l. LivesFrom (id k true n) (sent ∷ from) l) whole since) in
      let refers = each_after Refers later (sent ∷ from) (subst (λ l. Each Refers l) whole (each_so IsSound Refers (λ b e s. s.refers) x sound)) in
      let kept = number_keeps (id k true n) later (sent ∷ from) on refers v.0 v.1 in
      let was : view_of_descriptor from sent b.place ≡ Some v.0 =
      ap (λ q. view_of_descriptor from sent q) place
      ∙ ap (λ e. view_of_descriptor from e j) s.2
      ∙ ap (λ o. option_and_then (descriptor_view (view_of_reference from) from (Wire true k s.0 s.1 m)) o) at
      ∙ sent_described k n s.0 s.1 m from d named
      ∙ ap (λ e. view_of_number (id k true n) (e ∷ from)) (sym s.2)
      ∙ v.1 in
      record { message = m; from = from; sent = sent; passed = p; lives = since; view = v.0; was = was; stands = ap (λ l. view_of_number (id k true n) l) whole ∙ kept }

  pub stands_alike : StandsAlike k n x y
  stands_alike b h =
      let alive = born (id k false n) y b h in
      let began = began_at (id k false n) y b alive.0 alive.1 in
      let e : DecodedRecord = b.from.event in
      let to : Past = b.from.before in
      let parts = begins_parts (id k false n) to e b began.2 in
      let d = found_at (λ d. names (id k false n) (number_introduced e d)) (descriptors e) 0 parts.0 parts.1 in
      let by = introduced_by k n e d.1 (names_is (id k false n) (number_introduced e d.1) d.4) in
      let comes = received k by.0 by.1 by.2 e by.3 in
      let z = sender k y x by.2 to e linked.cut.to_other began.0 comes in
      let p : IsPassed k by.2 x y z.1 to z.0 e = mate k y x by.2 to e z began.0 comes in
      let at = same_descriptors k by.0 by.1 by.2 e d.0 d.1 by.3 d.3 in
      let first : parts.0 ≡ d.0 = let q = d.2 in omega (arith, q) in
      stands_from b by.2 z.1 z.0 d.0 d.1 p began.1 at (ap (λ x. x.place) parts.2 ∙ first) by.4

-- ---- at each consistent cut of linked logs

pub linked_before : (k : ℕ) (one other a b : Past) → GoesOn one a → GoesOn other b → IsCut k a b → AreLinked k one other → AreLinked k a b
linked_before k one other a b e f cut linked = record {
  cut = cut;
  there = λ m from to sent received p. linked.there m from to sent received record {
    sent_there = through one a (sent ∷ from) e p.sent_there;
    received_there = through other b (received ∷ to) f p.received_there;
    sends = p.sends;
    receives = p.receives;
    same_number = p.same_number;
  };
  back = λ m from to sent received p. linked.back m from to sent received record {
    sent_there = through other b (sent ∷ from) f p.sent_there;
    received_there = through one a (received ∷ to) e p.received_there;
    sends = p.sends;
    receives = p.receives;
    same_number = p.same_number;
  };
}

pub lives_agree : (k : ℕ) (one other : Past) → Each IsSound one → Each UsesQuestions other → AreLinked k one other → AgreeOnOpenings k one other → AgreeOnOpenings k other one → AgreeOnLives k one other
lives_agree k one other sound uses linked there back n x y e f cut =
    stands_alike k n x y (each_before IsSound one x e sound) (each_before UsesQuestions other y f uses) (linked_before k one other x y e f cut linked)
    (agree_before k one other x y e f there) (agree_before k other one y x f e back)
