-- What the table of what was sent says, one step further, and that what comes next is by it.
use Rattle.std.proofs.Common.{◌≡◌, ◌≢◌, ◌∙◌, ℕ, zero, suc, ◌+◌, ◌<◌, ◌≤◌, refl, sym, ap, ap₂, subst, ◌==◌, List, [], ◌∷◌, ◌++◌, Bool, true, false, ◌&&◌, not, if◌then◌else◌, cond, reverse, map, take, length, get_or, Option, Some, None, arith}
use Rattle.std.specs.List.{filter_map, cons_option, slice_get, AllByRecursion}
use Rattle.std.specs.Prelude.{unwrap_or, option_map, option_and_then}
use Rattle.std.specs.Ordering.{is_eq, nat_cmp}
use Rattle.std.proofs.lemmas.Option.{slice_get_past}
use Rattle.std.proofs.lemmas.Bool.{and_parts, eq-eqb, eqb-true, ne_eqb}
use Rattle.std.proofs.lemmas.Bool.Decides.{nat_tests}
use Rattle.std.proofs.lemmas.List.{take_more, length_push, reverse-append, length-reverse, append-nil, map-append}
use Rattle.std.proofs.lemmas.List.Elements.{filter_map-append}
use Rattle.call_trace.specs.Glue.Channels.{noted_sends, sends_behind, by_other, by_others, sends_of, message_by, AreLines}
use Rattle.call_trace.proofs.Noting.{at_key}
use Rattle.call_trace.specs.Naming.{message_of_step, message_at}
use Rattle.call_trace.specs.Glue.Overtaking.{vat_number_cmp}
use Rattle.call_trace.specs.Running.{coming_next}
use Rattle.call_trace.specs.Types.{Message, Step, Cap}
use Rattle.call_trace.specs.declared.steps.channels.Channels.{Channels}
use Rattle.run_model.specs.Links.{receives_on, sent_to}
use Rattle.run_model.specs.Steps.{count_steps}
use Rattle.run_model.specs.declared.step.Step.TheVariants.{Host, Send, Receive}

-- ---- others' sends

kept_one : (v : ℕ) (x : ℕ × ℕ) (b : Bool) → (x.0 == v) ≡ b → by_other v x ≡ (if b then None else Some x.1)
kept_one v x b e = ap (λ b. if b then None else Some x.1) e

others_append : (v : ℕ) (xs : List (ℕ × ℕ)) (x : ℕ × ℕ) → by_others v (xs ++ x ∷ []) ≡ by_others v xs ++ cons_option (by_other v x) []
others_append v xs x = filter_map-append (by_other v) xs (x ∷ [])

own_append : (v : ℕ) (xs : List (ℕ × ℕ)) (x : ℕ × ℕ) → (x.0 == v) ≡ true → by_others v (xs ++ x ∷ []) ≡ by_others v xs
own_append v xs x e = others_append v xs x ∙ ap (λ o. by_others v xs ++ cons_option o []) (kept_one v x true e) ∙ append-nil (by_others v xs)

other_append : (v : ℕ) (xs : List (ℕ × ℕ)) (x : ℕ × ℕ) → (x.0 == v) ≡ false → by_others v (xs ++ x ∷ []) ≡ by_others v xs ++ x.1 ∷ []
other_append v xs x e = others_append v xs x ∙ ap (λ o. by_others v xs ++ cons_option o []) (kept_one v x false e)

-- an own send more is passed
pub own_passed : (v : ℕ) (xs : List (ℕ × ℕ)) (i : ℕ) → i < length xs → ((get_or xs i (0, 0)).0 == v) ≡ true → by_others v (take (i + 1) xs) ≡ by_others v (take i xs)
own_passed v xs i lt e = ap (by_others v) (take_more xs i (0, 0) lt) ∙ own_append v (take i xs) (get_or xs i (0, 0)) e

other_passed : (v : ℕ) (xs : List (ℕ × ℕ)) (i : ℕ) → i < length xs → ((get_or xs i (0, 0)).0 == v) ≡ false → by_others v (take (i + 1) xs) ≡ by_others v (take i xs) ++ (get_or xs i (0, 0)).1 ∷ []
other_passed v xs i lt e = ap (by_others v) (take_more xs i (0, 0) lt) ∙ other_append v (take i xs) (get_or xs i (0, 0)) e

past_one : {A : Type 0} (o : Option A) (xs ys : List A) → slice_get (cons_option o xs) (length (cons_option o ys)) ≡ slice_get xs (length ys)
past_one None xs ys = refl
past_one (Some x) xs ys = refl

-- the first of the others' sends behind a place, where that place has one
first_there : (v : ℕ) (xs : List (ℕ × ℕ)) (i : ℕ) → (i < length xs → (get_or xs i (0, 0)).0 ≢ v) → slice_get (by_others v xs) (length (by_others v (take i xs))) ≡ option_map (λ x. x.1) (slice_get xs i)
first_there v [] i other = refl
first_there v (x ∷ xs) zero other = ap (λ o. slice_get (cons_option o (by_others v xs)) 0) (kept_one v x false (ne_eqb x.0 v (other (omega arith))))
first_there v (x ∷ xs) (suc i) other = past_one (by_other v x) (by_others v xs) (by_others v (take i xs)) ∙ first_there v xs i (λ lt. other (omega (arith, lt)))

-- ---- a table with a send more

at_number : (n k : ℕ) → is_eq (nat_cmp n k) ≡ (n == k)
at_number n k = grind (arith, nat_tests)

put_at : {A : Type 0} (items : A → List (ℕ × ℕ)) (b : Bool) (one : A) (o : Option A) (x : ℕ × ℕ) → (b ≡ true → o ≡ None) → items one ≡ x ∷ []
    → unwrap_or (option_map items (cond b (Some one) o)) [] ≡ (if b then unwrap_or (option_map items o) [] ++ x ∷ [] else unwrap_or (option_map items o) [])
put_at items true one o x none is = is ∙ sym (ap (λ o. unwrap_or (option_map items o) [] ++ x ∷ []) (none refl))
put_at items false one o x none is = refl

-- a connection of which nothing was sent before has one send
pub first_send : {A : Type 0} (items : A → List (ℕ × ℕ)) (f g : ℕ → Option A) (connection : ℕ) (one : A) (x : ℕ × ℕ) → f connection ≡ None → items one ≡ x ∷ []
    → ((q : ℕ) → g q ≡ cond (is_eq (nat_cmp connection q)) (Some one) (f q)) → (k : ℕ)
    → unwrap_or (option_map items (g k)) [] ≡ (if connection == k then unwrap_or (option_map items (f k)) [] ++ x ∷ [] else unwrap_or (option_map items (f k)) [])
first_send items f g connection one x none is put k =
    ap (λ o. unwrap_or (option_map items o) []) (put k ∙ ap (λ b. cond b (Some one) (f k)) (at_number connection k))
    ∙ put_at items (connection == k) one (f k) x (λ same. ap f (sym (eqb-true connection k same)) ∙ none) is

-- ---- the numbers of steps, and their messages

-- all of these are below a number
abbrev AreBelow : ℕ → List ℕ → Type 0
AreBelow n numbers = AllByRecursion (λ i. i < n) numbers

below_later : (n : ℕ) (numbers : List ℕ) → AreBelow n numbers → AreBelow (suc n) numbers
below_later n [] all = all
below_later n (i ∷ numbers) all = (let lt = all.0 in omega (arith, lt), below_later n numbers all.1)

below_pushed : (n : ℕ) (numbers : List ℕ) → AreBelow n numbers → AreBelow (suc n) (numbers ++ n ∷ [])
below_pushed n [] all = (omega arith, tt)
below_pushed n (i ∷ numbers) all = (let lt = all.0 in omega (arith, lt), below_pushed n numbers all.1)

sends_below : (v k : ℕ) (before : List Step) → AreBelow (length before) (by_others v (sends_of k before))
sends_below v k [] = tt
sends_below v k (Send w c m ∷ before) = at (c == k) (w == v) refl (sends_below v k before)
  where
    at : (b d : Bool) → (w == v) ≡ d → AreBelow (length before) (by_others v (sends_of k before))
        → AreBelow (suc (length before)) (by_others v (if b then sends_of k before ++ (w, length before) ∷ [] else sends_of k before))
    at false d e all = below_later (length before) (by_others v (sends_of k before)) all
    at true true e all = subst (AreBelow (suc (length before))) (sym (own_append v (sends_of k before) (w, length before) e)) (below_later (length before) (by_others v (sends_of k before)) all)
    at true false e all = subst (AreBelow (suc (length before))) (sym (other_append v (sends_of k before) (w, length before) e)) (below_pushed (length before) (by_others v (sends_of k before)) all)
sends_below v k (Host w o ∷ before) = below_later (length before) (by_others v (sends_of k before)) (sends_below v k before)
sends_below v k (s ∷ before) = below_later (length before) (by_others v (sends_of k before)) (sends_below v k before)

messages_later : (s : Step) (before : List Step) (numbers : List ℕ) → AreBelow (length before) numbers → map (λ i. message_at i (s ∷ before)) numbers ≡ map (λ i. message_at i before) numbers
messages_later s before [] all = refl
messages_later s before (i ∷ numbers) all =
    ap₂ (λ x xs. x ∷ xs) (ap (λ b. if b then message_of_step s else message_at i before) (ne_eqb (length before) i (λ e. let lt = all.0 in omega (arith, lt, e)))) (messages_later s before numbers all.1)

-- what is sent to a vat are the messages of the steps by which others sent
abbrev AreSent : ℕ → ℕ → List Step → Type 0
AreSent v k before = map (λ m. Some m) (filter_map (sent_to v k) (reverse before)) ≡ map (λ i. message_at i before) (by_others v (sends_of k before))

turned_more : (v k : ℕ) (s : Step) (before : List Step) → filter_map (sent_to v k) (reverse (s ∷ before)) ≡ filter_map (sent_to v k) (reverse before) ++ cons_option (sent_to v k s) []
turned_more v k s before = ap (filter_map (sent_to v k)) (reverse-append (s ∷ []) before) ∙ filter_map-append (sent_to v k) (reverse before) (s ∷ [])

-- nothing is sent to the vat by this step
nothing_sent : (v k : ℕ) (s : Step) (before : List Step) → sent_to v k s ≡ None → AreSent v k before
    → map (λ m. Some m) (filter_map (sent_to v k) (reverse (s ∷ before))) ≡ map (λ i. message_at i (s ∷ before)) (by_others v (sends_of k before))
nothing_sent v k s before none are =
    ap (map (λ m. Some m)) (turned_more v k s before ∙ ap (λ o. filter_map (sent_to v k) (reverse before) ++ cons_option o []) none ∙ append-nil (filter_map (sent_to v k) (reverse before)))
    ∙ are ∙ sym (messages_later s before (by_others v (sends_of k before)) (sends_below v k before))

one_sent : (v k : ℕ) (s : Step) (m : Message) (before : List Step) → sent_to v k s ≡ Some m → message_of_step s ≡ Some m → AreSent v k before
    → map (λ m. Some m) (filter_map (sent_to v k) (reverse (s ∷ before))) ≡ map (λ i. message_at i (s ∷ before)) (by_others v (sends_of k before) ++ length before ∷ [])
one_sent v k s m before one is are =
    let numbers = by_others v (sends_of k before) in
    let sent = filter_map (sent_to v k) (reverse before) in
    ap (map (λ m. Some m)) (turned_more v k s before ∙ ap (λ o. sent ++ cons_option o []) one)
    ∙ map-append (λ m. Some m) sent (m ∷ [])
    ∙ ap₂ (λ xs o. xs ++ o ∷ []) (are ∙ sym (messages_later s before numbers (sends_below v k before)))
    (sym (ap (λ b. if b then message_of_step s else message_at (length before) before) (eq-eqb (length before) (length before) refl) ∙ is))
    ∙ sym (map-append (λ i. message_at i (s ∷ before)) numbers (length before ∷ []))

are_sent : (v k : ℕ) (before : List Step) → AreSent v k before
are_sent v k [] = refl
are_sent v k (Send w c m ∷ before) = at (c == k) (w == v) refl refl (are_sent v k before)
  where
    at : (b d : Bool) → (c == k) ≡ b → (w == v) ≡ d → AreSent v k before
        → map (λ m. Some m) (filter_map (sent_to v k) (reverse (Send w c m ∷ before)))
        ≡ map (λ i. message_at i (Send w c m ∷ before)) (by_others v (if b then sends_of k before ++ (w, length before) ∷ [] else sends_of k before))
    at false d on own are = nothing_sent v k (Send w c m) before (ap (λ b. if b && not (w == v) then Some m else None) on) are
    at true true on own are =
        nothing_sent v k (Send w c m) before (ap₂ (λ b d. if b && not d then Some m else None) on own) are
        ∙ sym (ap (map (λ i. message_at i (Send w c m ∷ before))) (own_append v (sends_of k before) (w, length before) own))
    at true false on own are =
        one_sent v k (Send w c m) m before (ap₂ (λ b d. if b && not d then Some m else None) on own) refl are
        ∙ sym (ap (map (λ i. message_at i (Send w c m ∷ before))) (other_append v (sends_of k before) (w, length before) own))
are_sent v k (Host w o ∷ before) = nothing_sent v k (Host w o) before refl (are_sent v k before)
are_sent v k (s ∷ before) = nothing_sent v k s before refl (are_sent v k before)

-- ---- what comes next

at_one : {A B : Type 0} (g : A → Option B) (xs : List B) (ys : List A) (n : ℕ) → map (λ x. Some x) xs ≡ map g ys → slice_get xs n ≡ option_and_then g (slice_get ys n)
at_one g [] [] n e = refl
at_one g [] (y ∷ ys) n e = absurd (let no : ⊥ = cc in no)
at_one g (x ∷ xs) [] n e = absurd (let no : ⊥ = cc in no)
at_one g (x ∷ xs) (y ∷ ys) zero e = let same : Some x ≡ g y = cc in same
at_one g (x ∷ xs) (y ∷ ys) (suc n) e = at_one g xs ys n (let rest : map (λ x. Some x) xs ≡ map g ys = cc in rest)

last_at : (f : Step → Option Message) (xs : List Step) (s : Step) (i : ℕ) → option_and_then f (slice_get (xs ++ s ∷ []) i) ≡ (if length xs == i then f s else option_and_then f (slice_get xs i))
last_at f [] s zero = refl
last_at f [] s (suc i) = sym (ap (λ b. if b then f s else None) (ne_eqb 0 (suc i) (λ e. omega (arith, e))))
last_at f (x ∷ xs) s zero = sym (ap (λ b. if b then f s else f x) (ne_eqb (suc (length xs)) 0 (λ e. omega (arith, e))))
last_at f (x ∷ xs) s (suc i) = last_at f xs s i ∙ ap (λ b. if b then f s else option_and_then f (slice_get xs i)) (let more : (length xs == i) ≡ (suc (length xs) == suc i) = grind (arith, nat_tests) in more)

by_number : (before : List Step) (i : ℕ) → message_by before i ≡ message_at i before
by_number [] i = refl
by_number (s ∷ before) i =
    ap (λ l. option_and_then message_of_step (slice_get l i)) (reverse-append (s ∷ []) before)
    ∙ last_at message_of_step (reverse before) s i
    ∙ ap₂ (λ n o. if n == i then message_of_step s else o) (length-reverse before) (by_number before i)

by_numbers : (before : List Step) (o : Option ℕ) → option_and_then (λ i. message_at i before) o ≡ option_and_then (message_by before) o
by_numbers before None = refl
by_numbers before (Some i) = sym (by_number before i)

-- this is the place of the first of the others' sends that a vat has before it, or one behind them all
pub record IsFirst (v k : ℕ) (table : Channels) (place : ℕ) : Type 0 where
  pub none_between : by_others v (take place (noted_sends table k)) ≡ by_others v (take (sends_behind table v k) (noted_sends table k))
  pub other : place < length (noted_sends table k) → (get_or (noted_sends table k) place (0, 0)).0 ≢ v

pub is_first : (v k : ℕ) (table : Channels) (place from : ℕ) (sends : List (ℕ × ℕ)) → sends ≡ noted_sends table k → from ≡ sends_behind table v k → by_others v (take place sends) ≡ by_others v (take from sends)
    → (place < length sends → (get_or sends place (0, 0)).0 ≢ v) → IsFirst v k table place
is_first v k table place from sends is begins none_between other =
    record {
      none_between = subst (λ l. by_others v (take place l) ≡ by_others v (take (sends_behind table v k) l)) is (none_between ∙ ap (λ n. by_others v (take n sends)) begins);
      other = subst (λ l. place < length l → (get_or l place (0, 0)).0 ≢ v) is other;
    }

comes_next : (v k : ℕ) (before : List Step) (table : Channels) (place : ℕ) → AreLines before table → IsFirst v k table place
    → coming_next v k before ≡ option_and_then (message_by before) (option_map (λ x. x.1) (slice_get (noted_sends table k) place))
comes_next v k before table place are first =
    let so_many : count_steps (receives_on v k) before ≡ length (by_others v (take place (noted_sends table k))) = sym (are.received v k) ∙ sym (ap (λ l. length l) first.none_between) in
    at_one (λ i. message_at i before) (filter_map (sent_to v k) (reverse before)) (by_others v (sends_of k before)) (count_steps (receives_on v k) before) (are_sent v k before)
    ∙ ap₂ (λ l n. option_and_then (λ i. message_at i before) (slice_get (by_others v l) n)) (sym (are.sends k)) so_many
    ∙ ap (option_and_then (λ i. message_at i before)) (first_there v (noted_sends table k) place first.other)
    ∙ by_numbers before (option_map (λ x. x.1) (slice_get (noted_sends table k) place))

pub nothing_comes : (v k : ℕ) (before : List Step) (table : Channels) (place : ℕ) → AreLines before table → IsFirst v k table place → length (noted_sends table k) ≤ place → coming_next v k before ≡ None
nothing_comes v k before table place are first le =
    comes_next v k before table place are first ∙ ap (λ o. option_and_then (message_by before) (option_map (λ x. x.1) o)) (slice_get_past (noted_sends table k) place le)

pub one_comes : (v k : ℕ) (before : List Step) (table : Channels) (place : ℕ) (x : ℕ × ℕ) → AreLines before table → IsFirst v k table place → slice_get (noted_sends table k) place ≡ Some x
    → coming_next v k before ≡ message_by before x.1
one_comes v k before table place x are first there = comes_next v k before table place are first ∙ ap (λ o. option_and_then (message_by before) (option_map (λ x. x.1) o)) there

-- ---- the table, one step further

-- a receipt
pub received_more : (v k : ℕ) (m : Message) (bound : List Cap) (before : List Step) (place : ℕ) (old new : Channels) → AreLines before old → IsFirst v k old place → place < length (noted_sends old k)
    → ((n : ℕ) → noted_sends new n ≡ noted_sends old n) → ((w n : ℕ) → sends_behind new w n ≡ (if (v == w) && (k == n) then place + 1 else sends_behind old w n))
    → AreLines (Receive v k m bound ∷ before) new
received_more v k m bound before place old new are first lt sends passed =
    record {
      sends = λ n. sends n ∙ are.sends n;
      within = λ w n. subst (λ l. sends_behind new w n ≤ length l) (sym (sends n)) (subst (λ p. p ≤ length (noted_sends old n)) (sym (passed w n)) (far w n ((v == w) && (k == n)) refl));
      received = λ w n. ap₂ (λ p l. length (by_others w (take p l))) (passed w n) (sends n) ∙ so_far w n ((v == w) && (k == n)) refl;
    }
  where
    same_place : (w n : ℕ) → ((v == w) && (k == n)) ≡ true → (v ≡ w) × (k ≡ n)
    same_place w n e = let parts = and_parts _ _ e in (eqb-true v w parts.0, eqb-true k n parts.1)

    far : (w n : ℕ) (b : Bool) → ((v == w) && (k == n)) ≡ b → (if b then place + 1 else sends_behind old w n) ≤ length (noted_sends old n)
    far w n true e = subst (λ n. place + 1 ≤ length (noted_sends old n)) (same_place w n e).1 (omega (arith, lt))
    far w n false e = are.within w n

    one_more : length (by_others v (take (place + 1) (noted_sends old k))) ≡ suc (count_steps (receives_on v k) before)
    one_more =
        let longer = ap (λ l. length l) (other_passed v (noted_sends old k) place lt (ne_eqb _ v (first.other lt))) in
        let pushed = length_push (by_others v (take place (noted_sends old k))) (get_or (noted_sends old k) place (0, 0)).1 in
        let before_it = ap (λ l. length l) first.none_between ∙ are.received v k in
        omega (arith, longer, pushed, before_it)

    so_far : (w n : ℕ) (b : Bool) → ((v == w) && (k == n)) ≡ b
        → length (by_others w (take (if b then place + 1 else sends_behind old w n) (noted_sends old n))) ≡ (if b then suc (count_steps (receives_on w n) before) else count_steps (receives_on w n) before)
    so_far w n true e =
        let same = same_place w n e in
        subst (λ w. length (by_others w (take (place + 1) (noted_sends old n))) ≡ suc (count_steps (receives_on w n) before)) same.0
        (subst (λ n. length (by_others v (take (place + 1) (noted_sends old n))) ≡ suc (count_steps (receives_on v n) before)) same.1 one_more)
    so_far w n false e = are.received w n

-- a step that neither sends nor receives
pub other_more : (s : Step) (before : List Step) (table : Channels) → message_of_step s ≡ None → AreLines before table → AreLines (s ∷ before) table
other_more (Send v k m) before table none are = absurd (let no : ⊥ = cc in no)
other_more (Receive v k m bound) before table none are = absurd (let no : ⊥ = cc in no)
other_more (Host v o) before table none are = record { sends = are.sends; within = are.within; received = are.received }
other_more s before table none are = record { sends = are.sends; within = are.within; received = are.received }

-- a number put into the table of what is passed
pub put_number : (f g : ℕ × ℕ → Option ℕ) (v k place : ℕ) → ((q : ℕ × ℕ) → g q ≡ cond (is_eq (vat_number_cmp (v, k) q)) (Some place) (f q))
    → (w n : ℕ) → unwrap_or (g (w, n)) 0 ≡ (if (v == w) && (k == n) then place else unwrap_or (f (w, n)) 0)
put_number f g v k place put w n =
    ap (λ o. unwrap_or o 0) (put (w, n) ∙ ap (λ b. cond b (Some place) (f (w, n))) (at_key v k w n)) ∙ at ((v == w) && (k == n)) (f (w, n))
  where
    at : (b : Bool) (o : Option ℕ) → unwrap_or (cond b (Some place) o) 0 ≡ (if b then place else unwrap_or o 0)
    at true o = refl
    at false o = refl
