-- What is received on a link wasn't received before.
use Rattle.std.proofs.Common.{◌≡◌, ◌≢◌, ◌⊎◌, ◌<◌, inl, inr, refl, sym, ◌∙◌, ap, subst, ℕ, zero, suc, ◌==◌, List, [], ◌∷◌, ◌++◌, length, Bool, true, false, not, ◌&&◌, Option, Some, None, if◌then◌else◌, reverse, filter_map, slice_get, arith, eqb-true, ne_eqb}
use Rattle.std.specs.Prelude.{⊤}
use Rattle.std.specs.List.{list_all, cons_option}
use Rattle.std.proofs.lemmas.List.{reverse-reverse}
use Rattle.std.proofs.lemmas.Bool.{and_parts, and_from, eq-eqb, false≢true, cases_eq}
use Rattle.run_model.specs.Types.{Name, Cap, Message, Call, Step, Host, Send, Receive}
use Rattle.run_model.proofs.Turning.{clash}
use Rattle.run_model.proofs.Sending.{sent_by, back_again}
use Rattle.run_model.specs.Links.{CarriesNext, IsEnd, IsLinked, are_one, other_user, receives_on, sent_to}
use Rattle.run_model.specs.Steps.{OneOf, PastSteps, count_steps, is_same_call}

-- the number that a message from another vat would have that is sent to v on k next
abbrev pub number_at : ℕ → ℕ → PastSteps → ℕ
number_at v k before = length (filter_map (sent_to v k) (reverse before))

-- a vat received the message that w sent on k after these steps
abbrev pub IsReceived : PastSteps → PastSteps → ℕ → ℕ → Type 0
IsReceived whole before w k = (v : ℕ) × (v ≢ w) × (number_at v k before < count_steps (receives_on v k) whole)

-- a message is a Call of this call
abbrev pub is_call : Name → Message → Bool
is_call c (Call d target i j caps) = is_same_call d c
is_call c _ = false

-- if the step sends such a message, that was received
abbrev pub IsDone : (Message → Bool) → PastSteps → PastSteps → Step → Type 0
IsDone test whole before (Send w k m) = test m ≡ true → IsReceived whole before w k
IsDone test whole before _ = ⊤

-- each such message that was sent was received
abbrev pub AllDone : (Message → Bool) → PastSteps → PastSteps → Type 0
AllDone test whole [] = ⊤
AllDone test whole (s ∷ before) = IsDone test whole before s × AllDone test whole before

pub done_at : (test : Message → Bool) (whole later earlier : PastSteps) (s : Step) → AllDone test whole (later ++ s ∷ earlier) → IsDone test whole earlier s
done_at test whole [] earlier s h = h.0
done_at test whole (x ∷ later) earlier s h = done_at test whole later earlier s h.1

none_some : {A : Type 0} {x : A} → None ≡ Some x → ⊥
none_some e = cc

-- an element that a filter lets through, with its number among those
abbrev pub Found : {A B : Type 0} → (A → Option B) → List A → ℕ → B → Type 0
Found {A} f xs n y = (front : List A) × (x : A) × (back : List A) × (xs ≡ front ++ x ∷ back) × (f x ≡ Some y) × (length (filter_map f front) ≡ n)

found_first : {A B : Type 0} (f : A → Option B) (x : A) (xs : List A) (y : B) (o : Option B) → f x ≡ o → ((n : ℕ) → slice_get (filter_map f xs) n ≡ Some y → Found f xs n y) →
    (n : ℕ) → slice_get (cons_option o (filter_map f xs)) n ≡ Some y → Found f (x ∷ xs) n y
found_first f x xs y None g rest n e =
    let r = rest n e in (x ∷ r.0, r.1, r.2, ap (λ l. x ∷ l) r.3, r.4, ap (λ o. length (cons_option o (filter_map f r.0))) g ∙ r.5)
found_first f x xs y (Some z) g rest zero e = ([], x, xs, refl, g ∙ e, refl)
found_first f x xs y (Some z) g rest (suc n) e =
    let r = rest n e in (x ∷ r.0, r.1, r.2, ap (λ l. x ∷ l) r.3, r.4, ap (λ o. length (cons_option o (filter_map f r.0))) g ∙ ap (λ m. suc m) r.5)

found : {A B : Type 0} (f : A → Option B) (xs : List A) (y : B) (n : ℕ) → slice_get (filter_map f xs) n ≡ Some y → Found f xs n y
found f [] y n e = absurd (none_some e)
found f (x ∷ xs) y n e = found_first f x xs y (f x) refl (found f xs y) n e

-- the point at which the next message for v on k was sent
abbrev pub IsSentAt : PastSteps → ℕ → ℕ → Message → Type 0
IsSentAt before v k m = (w : ℕ) × (later earlier : PastSteps) × (w ≢ v) × (before ≡ later ++ Send w k m ∷ earlier) × (number_at v k earlier ≡ count_steps (receives_on v k) before)

pub sent_at : (before : PastSteps) (v k : ℕ) (m : Message) → CarriesNext before v k m → IsSentAt before v k m
sent_at before v k m next =
    let g = found (sent_to v k) (reverse before) m (count_steps (receives_on v k) before) next in
    let s = sent_by v k g.1 m g.4 in (
      s.0,
      reverse g.2,
      reverse g.0,
      s.1,
      back_again before g.0 g.2 g.1 g.3 ∙ ap (λ t. reverse g.2 ++ t ∷ reverse g.0) s.2,
      ap (λ l. length (filter_map (sent_to v k) l)) (reverse-reverse g.0) ∙ g.5,
    )

-- numbers of a list of one
all_equal : (n : ℕ) (xs : List ℕ) (a : ℕ) → list_all (λ m. m == n) xs ≡ true → OneOf (λ x. x ≡ a) xs → a ≡ n
all_equal n [] a e h = absurd h
all_equal n (x ∷ xs) a e (inl same) = sym same ∙ eqb-true x n (and_parts (x == n) (list_all (λ m. m == n) xs) e).0
all_equal n (x ∷ xs) a e (inr h) = all_equal n xs a (and_parts (x == n) (list_all (λ m. m == n) xs) e).1 h

to_first : (n : ℕ) (xs : List ℕ) (a : ℕ) → list_all (λ m. m == n) xs ≡ true → OneOf (λ x. x ≡ a) (n ∷ xs) → a ≡ n
to_first n xs a e (inl same) = sym same
to_first n xs a e (inr h) = all_equal n xs a e h

one_other : (xs : List ℕ) (a b : ℕ) → are_one xs ≡ true → OneOf (λ x. x ≡ a) xs → OneOf (λ x. x ≡ b) xs → a ≡ b
one_other [] a b e h k = absurd h
one_other (n ∷ xs) a b e h k = to_first n xs a e h ∙ sym (to_first n xs b e k)

kept_by : (o : Option ℕ) (xs : List ℕ) (a : ℕ) → (o ≡ Some a) ⊎ OneOf (λ x. x ≡ a) xs → OneOf (λ x. x ≡ a) (cons_option o xs)
kept_by None xs a (inl e) = absurd (none_some e)
kept_by None xs a (inr h) = h
kept_by (Some x) xs a (inl e) = inl (let same : x ≡ a = cc in same)
kept_by (Some x) xs a (inr h) = inr h

used_by : (v k w j : ℕ) → (j == k) ≡ true → w ≢ v → (if (j == k) && not (w == v) then Some w else None) ≡ Some w
used_by v k w j on apart = ap (λ b. if b then Some w else None) (and_from (j == k) (not (w == v)) on (ap not (ne_eqb w v apart)))

sender_uses : (v k w : ℕ) (m : Message) (later earlier : PastSteps) → w ≢ v → OneOf (λ x. x ≡ w) (filter_map (other_user v k) (later ++ Send w k m ∷ earlier))
sender_uses v k w m [] earlier apart = kept_by (other_user v k (Send w k m)) (filter_map (other_user v k) earlier) w (inl (used_by v k w k (eq-eqb k k refl) apart))
sender_uses v k w m (x ∷ later) earlier apart =
    kept_by (other_user v k x) (filter_map (other_user v k) (later ++ Send w k m ∷ earlier)) w (inr (sender_uses v k w m later earlier apart))

receiver_at : (v k w : ℕ) (s : Step) → w ≢ v → receives_on w k s ≡ true → other_user v k s ≡ Some w
receiver_at v k w (Receive u j m bound) apart e =
    let parts = and_parts (u == w) (j == k) e in
    let same = eqb-true u w parts.0 in
    subst (λ x. other_user v k (Receive x j m bound) ≡ Some w) (sym same) (used_by v k w j parts.1 apart)
receiver_at v k w (Host u o) apart e = absurd (false≢true e)
receiver_at v k w _ apart e = absurd (false≢true e)

counted : (b : Bool) (n m : ℕ) → n < (if b then suc m else m) → (b ≡ true) ⊎ (n < m)
counted true n m lt = inl refl
counted false n m lt = inr lt

receiver_uses : (v k w n : ℕ) (before : PastSteps) → w ≢ v → n < count_steps (receives_on w k) before → OneOf (λ x. x ≡ w) (filter_map (other_user v k) before)
receiver_uses v k w n [] apart lt = absurd (let no : ⊥ = omega (arith, lt) in no)
receiver_uses v k w n (s ∷ before) apart lt = elim (counted (receives_on w k s) n (count_steps (receives_on w k) before) lt) [
  | inl here ↦ kept_by (other_user v k s) (filter_map (other_user v k) before) w (inl (receiver_at v k w s apart here))
  | inr there ↦ kept_by (other_user v k s) (filter_map (other_user v k) before) w (inr (receiver_uses v k w n before apart there))
]

-- what comes next on a link wasn't received before
pub not_received : (before : PastSteps) (v k : ℕ) (m : Message) → IsEnd before v k → (at : IsSentAt before v k m) → IsReceived before at.2 at.0 k → ⊥
not_received before v k m end at done = elim (cases_eq done.0 v) [
  | inl e ↦
      let lt : number_at v k at.2 < count_steps (receives_on v k) before = subst (λ x. number_at x k at.2 < count_steps (receives_on x k) before) e done.2 in
      let number = at.5 in omega (arith, lt, number)
  | inr apart ↦ done.1
      (one_other (filter_map (other_user v k) before) done.0 at.0 end (receiver_uses v k done.0 (number_at done.0 k at.2) before apart done.2)
      (subst (λ l. OneOf (λ x. x ≡ at.0) (filter_map (other_user v k) l)) (sym at.4) (sender_uses v k at.0 m at.1 at.2 at.3)))
]

-- where each such message that was sent was received, none is received
pub nothing_to_receive : (test : Message → Bool) (before : PastSteps) (v k : ℕ) (m : Message) → test m ≡ true → IsEnd before v k → CarriesNext before v k m → AllDone test before before → ⊥
nothing_to_receive test before v k m same end next all =
    let at = sent_at before v k m next in
    not_received before v k m end at (done_at test before at.1 at.2 (Send at.0 k m) (subst (λ l. AllDone test before l) at.4 all) same)

grows : (b : Bool) (n m : ℕ) → n < m → n < (if b then suc m else m)
grows true n m lt = omega (arith, lt)
grows false n m lt = lt

done_grows : (test : Message → Bool) (t : Step) (whole before : PastSteps) (s : Step) → IsDone test whole before s → IsDone test (t ∷ whole) before s
done_grows test t whole before (Send w k m) h =
    λ e. let r = h e in (r.0, r.1, grows (receives_on r.0 k t) (number_at r.0 k before) (count_steps (receives_on r.0 k) whole) r.2)
done_grows test t whole before (Host w o) h = h
done_grows test t whole before _ h = h

pub all_grow : (test : Message → Bool) (t : Step) (whole before : PastSteps) → AllDone test whole before → AllDone test (t ∷ whole) before
all_grow test t whole [] h = h
all_grow test t whole (s ∷ before) h = (done_grows test t whole before s h.0, all_grow test t whole before h.1)

-- a step sends such a message
abbrev pub sends : (Message → Bool) → Step → Bool
sends test (Send v k m) = test m
sends test _ = false

-- each such message that was sent but the newest was received
abbrev pub AllButLast : (Message → Bool) → PastSteps → PastSteps → Type 0
AllButLast test whole [] = ⊥
AllButLast test whole (s ∷ before) = ((sends test s ≡ true) × AllDone test whole before) ⊎ ((sends test s ≡ false) × AllButLast test whole before)

pub but_last_grows : (test : Message → Bool) (t : Step) (whole before : PastSteps) → AllButLast test whole before → AllButLast test (t ∷ whole) before
but_last_grows test t whole [] h = h
but_last_grows test t whole (s ∷ before) (inl h) = inl (h.0, all_grow test t whole before h.1)
but_last_grows test t whole (s ∷ before) (inr h) = inr (h.0, but_last_grows test t whole before h.1)

-- a step that sends no such message has nothing to be received
pub no_send : (test : Message → Bool) (whole before : PastSteps) (s : Step) → sends test s ≡ false → IsDone test whole before s
no_send test whole before (Send w k m) e = λ f. absurd (clash f e)
no_send test whole before (Host w o) e = tt
no_send test whole before _ e = tt

-- the message that was left is received now
finish : (test : Message → Bool) (t : Step) (whole later earlier : PastSteps) (s : Step) → sends test s ≡ true → IsDone test (t ∷ whole) earlier s → (IsDone test whole earlier s → ⊥) →
    AllButLast test whole (later ++ s ∷ earlier) → AllDone test (t ∷ whole) (later ++ s ∷ earlier)
finish test t whole [] earlier s now done before (inl h) = (done, all_grow test t whole earlier h.1)
finish test t whole [] earlier s now done before (inr h) = absurd (clash now h.0)
finish test t whole (x ∷ later) earlier s now done before (inl h) = absurd (before (done_at test whole later earlier s h.1))
finish test t whole (x ∷ later) earlier s now done before (inr h) =
    (no_send test (t ∷ whole) (later ++ s ∷ earlier) x h.0, finish test t whole later earlier s now done before h.1)

-- such a message is received: it is the one that was left, so all were received now
pub all_received : (test : Message → Bool) (past : PastSteps) (v k : ℕ) (m : Message) (bound : List Cap) → test m ≡ true → IsLinked past (Receive v k m bound) →
    AllButLast test past past → AllDone test (Receive v k m bound ∷ past) (Receive v k m bound ∷ past)
all_received test past v k m bound same linked left =
    let t : Step = Receive v k m bound in
    let at = sent_at past v k m linked.1 in
    let number = at.5 in
    let more : number_at v k at.2 < count_steps (receives_on v k) (t ∷ past) =
    subst (λ b. number_at v k at.2 < (if b then suc (count_steps (receives_on v k) past) else count_steps (receives_on v k) past)) (sym (and_from (v == v) (k == k) (eq-eqb v v refl) (eq-eqb k k refl))) (omega (arith, number)) in (
      tt,
      subst (λ l. AllDone test (t ∷ past) l) (sym at.4)
          (finish test t past at.1 at.2 (Send at.0 k m) same (λ e. (v, (λ e. at.3 (sym e)), more)) (λ h. not_received past v k m linked.0 at (h same)) (subst (λ l. AllButLast test past l) at.4 left)),
    )
