-- What is under way on connections, as a run goes on.
use Rattle.std.proofs.Common.{◌≡◌, refl, sym, ◌∙◌, ap, ap₂, subst, ℕ, suc, ◌≤◌, ◌+◌, ◌==◌, List, [], ◌∷◌, ◌++◌, length, drop, reverse, Bool, true, false, not, ◌&&◌, ◌||◌, Option, Some, None, if◌then◌else◌, option_and_then, slice_get, arith, eqb-true, length-append, inl, inr}
use Rattle.std.specs.Prelude.{unwrap_or}
use Rattle.std.specs.Bool.{beq}
use Rattle.std.specs.List.{cons_option, filter_map, list_any}
use Rattle.std.proofs.lemmas.List.{append-nil}
use Rattle.std.proofs.lemmas.List.Elements.{filter_map-append}
use Rattle.std.proofs.lemmas.Option.{slice_get_within}
use Rattle.std.proofs.lemmas.Bool.{cases_Bool, eq-eqb, and_parts, and_from, false≢true}
use Rattle.call_trace.specs.Naming.{message_of_step}
use Rattle.call_trace.specs.Types.{Cap, Message, Name, Step}
use Rattle.run_model.specs.Has.{call_in_message}
use Rattle.run_model.specs.Links.{IsEnd, IsLinked, CarriesNext, are_one, other_user, sent_to, receives_on}
use Rattle.run_model.specs.Steps.{EachStep, count_steps}
use Rattle.run_model.specs.declared.step.Step.TheVariants as step
use Rattle.call_order.specs.Glue.UnderWay.{calls_under_way, one_of, one_with, are_ends, are_alike, calls_to, IsSent, IsReceived, AreUnderWay}
use Rattle.call_order.specs.declared.calls_under_way.CallsUnderWay.{CallsUnderWay}
use Rattle.call_order.proofs.Lists.{drop_some, drop_with, kept_last, are_one_less, is_that, any_more}

-- the messages that were sent to a vat on a connection, and how many it received there
abbrev sent : ℕ → ℕ → List Step → List Message
sent v k before = filter_map (sent_to v k) (reverse before)

abbrev came : ℕ → ℕ → List Step → ℕ
came v k before = count_steps (receives_on v k) before

-- ---- a vat receives what was sent

pub carried : (v k : ℕ) (before : List Step) (s : Step) → IsLinked before s → receives_on v k s ≡ true → (m : Message) × (message_of_step s ≡ Some m) × (slice_get (sent v k before) (came v k before) ≡ Some m)
carried v k before (step.Receive w j m bound) linked h =
    let parts = and_parts (w == v) (j == k) h in
    (m, refl, subst (λ u. CarriesNext before u k m) (eqb-true w v parts.0) (subst (λ i. CarriesNext before w i m) (eqb-true j k parts.1) linked.1))
carried v k before s linked h = absurd (false≢true h)

longer : (v k : ℕ) (before : List Step) (s : Step) → length (sent v k before) ≤ length (sent v k (s ∷ before))
longer v k before s = omega (arith, ap length (kept_last (sent_to v k) s before), length-append (sent v k before) (cons_option (sent_to v k s) []))

pub within : (v k : ℕ) (before : List Step) → EachStep IsLinked before → came v k before ≤ length (sent v k before)
within v k [] linked = omega arith
within v k (s ∷ before) linked = at (receives_on v k s) refl (within v k before linked.1)
  where
    at : (b : Bool) → receives_on v k s ≡ b → came v k before ≤ length (sent v k before) → (if b then suc (came v k before) else came v k before) ≤ length (sent v k (s ∷ before))
    at true h rest =
        let c = carried v k before s linked.0 h in
        let longer_list = kept_last (sent_to v k) s before in
        let grown : length (sent v k (s ∷ before)) ≡ length (sent v k before) + length (cons_option (sent_to v k s) []) = ap length longer_list ∙ length-append (sent v k before) (cons_option (sent_to v k s) []) in
        omega (arith, slice_get_within (sent v k before) (came v k before) c.0 c.2, grown)
    at false h rest = let more = longer v k before s in omega (arith, rest, more)

-- ---- one step more

module _ (v k : ℕ) (before : List Step) (s : Step) where
  later : (b : Bool) (o : Option Message) → receives_on v k s ≡ b → sent_to v k s ≡ o →
      calls_under_way v k (s ∷ before) ≡ filter_map call_in_message (drop (if b then suc (came v k before) else came v k before) (sent v k before ++ cons_option o []))
  later b o r n = ap₂ (λ c l. filter_map call_in_message (drop (if c then suc (came v k before) else came v k before) l)) r (kept_last (sent_to v k) s before ∙ ap (λ o. sent v k before ++ cons_option o []) n)

  passes_by : receives_on v k s ≡ false → sent_to v k s ≡ None → calls_under_way v k (s ∷ before) ≡ calls_under_way v k before
  passes_by r n = later false None r n ∙ ap (λ l. filter_map call_in_message (drop (came v k before) l)) (append-nil (sent v k before))

  goes : (m : Message) → EachStep IsLinked before → receives_on v k s ≡ false → sent_to v k s ≡ Some m → calls_under_way v k (s ∷ before) ≡ calls_under_way v k before ++ cons_option (call_in_message m) []
  goes m linked r n =
      later false (Some m) r n ∙ ap (filter_map call_in_message) (drop_with (sent v k before) (m ∷ []) (came v k before) (within v k before linked))
      ∙ filter_map-append call_in_message (drop (came v k before) (sent v k before)) (m ∷ [])

  comes : (m : Message) → receives_on v k s ≡ true → sent_to v k s ≡ None → slice_get (sent v k before) (came v k before) ≡ Some m → calls_under_way v k before ≡ cons_option (call_in_message m) (calls_under_way v k (s ∷ before))
  comes m r n there =
      ap (filter_map call_in_message) (drop_some (sent v k before) (came v k before) m there)
      ∙ ap (cons_option (call_in_message m)) (sym (later true None r n ∙ ap (λ l. filter_map call_in_message (drop (suc (came v k before)) l)) (append-nil (sent v k before))))

-- no call goes with a step
abbrev pub call_with : Step → Option Name
call_with s = option_and_then call_in_message (message_of_step s)

sends_if : (v k w j : ℕ) (m : Message) (b : Bool) → ((j == k) && not (w == v)) ≡ b → sent_to v k (step.Send w j m) ≡ (if b then Some m else None)
sends_if v k w j m b h = ap (λ b. if b then Some m else None) h

pub way_same : (v k : ℕ) (before : List Step) (s : Step) → EachStep IsLinked (s ∷ before) → call_with s ≡ None → calls_under_way v k (s ∷ before) ≡ calls_under_way v k before
way_same v k before (step.Send w j m) linked none = at ((j == k) && not (w == v)) refl
  where
    at : (b : Bool) → ((j == k) && not (w == v)) ≡ b → calls_under_way v k (step.Send w j m ∷ before) ≡ calls_under_way v k before
    at true h = goes v k before (step.Send w j m) m linked.1 refl (sends_if v k w j m true h) ∙ ap (λ o. calls_under_way v k before ++ cons_option o []) none ∙ append-nil (calls_under_way v k before)
    at false h = passes_by v k before (step.Send w j m) refl (sends_if v k w j m false h)
way_same v k before (step.Receive w j m bound) linked none = at ((w == v) && (j == k)) refl
  where
    at : (b : Bool) → ((w == v) && (j == k)) ≡ b → calls_under_way v k (step.Receive w j m bound ∷ before) ≡ calls_under_way v k before
    at true h =
        let parts = and_parts (w == v) (j == k) h in
        let there = subst (λ u. CarriesNext before u k m) (eqb-true w v parts.0) (subst (λ i. CarriesNext before w i m) (eqb-true j k parts.1) linked.0.1) in
        sym (comes v k before (step.Receive w j m bound) m h refl there ∙ ap (λ o. cons_option o (calls_under_way v k (step.Receive w j m bound ∷ before))) none)
    at false h = passes_by v k before (step.Receive w j m bound) h refl
way_same v k before (step.Host w object) linked none = passes_by v k before (step.Host w object) refl refl
way_same v k before (step.Vow w promise) linked none = passes_by v k before (step.Vow w promise) refl refl
way_same v k before (step.Fulfil w promise to) linked none = passes_by v k before (step.Fulfil w promise to) refl refl
way_same v k before (step.Break w promise) linked none = passes_by v k before (step.Break w promise) refl refl
way_same v k before (step.Make w number cap reference interface method) linked none = passes_by v k before (step.Make w number cap reference interface method) refl refl
way_same v k before (step.Name w cap) linked none = passes_by v k before (step.Name w cap) refl refl
way_same v k before (step.Deliver w c object) linked none = passes_by v k before (step.Deliver w c object) refl refl
way_same v k before (step.Answer w c results) linked none = passes_by v k before (step.Answer w c results) refl refl
way_same v k before (step.AnswerBy w c by) linked none = passes_by v k before (step.AnswerBy w c by) refl refl
way_same v k before (step.Fault w c) linked none = passes_by v k before (step.Fault w c) refl refl

-- ---- the calls under way, one step more

end_before : (v k : ℕ) (before : List Step) (s : Step) → IsEnd (s ∷ before) v k → IsEnd before v k
end_before v k before s end = are_one_less (other_user v k s) (filter_map (other_user v k) before) end

-- who uses a connection beside a vat and one that isn't the vat is that one
same_end : (v k one w : ℕ) (before : List Step) (s : Step) → IsEnd (s ∷ before) v k → other_user v k s ≡ Some w → list_any (λ i. i == one) (filter_map (other_user v k) before) ≡ true → w ≡ one
same_end v k one w before s end user any =
    is_that w one (filter_map (other_user v k) before) (subst (λ o. are_one (cons_option o (filter_map (other_user v k) before)) ≡ true) user end) any

apart_ends : (one w v : ℕ) → (w == v) ≡ false → ((one == v) ≡ false → w ≡ one) → beq (one == w) (one == v) ≡ false
apart_ends one w v apart same = elim (cases_Bool (one == v)) [
  | inl here ↦
      let other : (one == w) ≡ false = elim (cases_Bool (one == w)) [
        | inl too ↦ absurd (let no : true ≡ false = sym (eq-eqb w v (sym (eqb-true one w too) ∙ eqb-true one v here)) ∙ apart in let n : ⊥ = cc in n)
        | inr isnt ↦ isnt
      ] in
      ap₂ beq other here
  | inr there ↦ ap₂ beq (eq-eqb one w (sym (same there))) there
]

alike_self : (b : Bool) → beq b b ≡ true
alike_self true = refl
alike_self false = refl

module _ (before : List Step) (s : Step) (linked : EachStep IsLinked (s ∷ before)) where
  pub under_way_same : (under_way : CallsUnderWay) → AreUnderWay before under_way → call_with s ≡ None → AreUnderWay (s ∷ before) under_way
  under_way_same under_way are none = record {
    users = λ k one v is apart. any_more one (other_user v k s) (filter_map (other_user v k) before) (are.users k one v is apart);
    calls = λ v k end. are.calls v k (end_before v k before s end) ∙ sym (way_same v k before s linked none);
  }

-- ---- a call is sent

module _ (before : List Step) (w j : ℕ) (m : Message) (name : Name) (linked : EachStep IsLinked (step.Send w j m ∷ before)) (is : call_in_message m ≡ Some name) (old new : CallsUnderWay) (are : AreUnderWay before old)
    (done : IsSent j w name (one_with old j w) old new) where
  -- it is used by who sends
  used_by : (v : ℕ) → (w == v) ≡ false → other_user v j (step.Send w j m) ≡ Some w
  used_by v apart = ap (λ b. if b then Some w else None) (and_from (j == j) (not (w == v)) (eq-eqb j j refl) (ap not apart))

  first_user : (v one : ℕ) (o : Option ℕ) → one_of old j ≡ o → unwrap_or o w ≡ one → (one == v) ≡ false → list_any (λ i. i == one) (filter_map (other_user v j) (step.Send w j m ∷ before)) ≡ true
  first_user v one (Some x) known same apart = any_more one (other_user v j (step.Send w j m)) (filter_map (other_user v j) before) (are.users j one v (known ∙ ap Some same) apart)
  first_user v one None known same apart =
      ap (λ o. list_any (λ i. i == one) (cons_option o (filter_map (other_user v j) before))) (used_by v (ap (λ x. x == v) same ∙ apart))
      ∙ ap (λ b. b || list_any (λ i. i == one) (filter_map (other_user v j) before)) (eq-eqb w one same)

  users_now : (k one v : ℕ) → one_of new k ≡ Some one → (one == v) ≡ false → list_any (λ i. i == one) (filter_map (other_user v k) (step.Send w j m ∷ before)) ≡ true
  users_now k one v known apart = elim (cases_Bool (j == k)) [
    | inl here ↦
        let known_here : ◌≡◌ {A = Option ℕ} (Some (one_with old j w)) (Some one) = sym (done.ones k ∙ ap (λ b. if b then Some (one_with old j w) else one_of old k) here) ∙ known in
        let same : one_with old j w ≡ one = cc in
        subst (λ i. list_any (λ x. x == one) (filter_map (other_user v i) (step.Send w j m ∷ before)) ≡ true) (eqb-true j k here) (first_user v one (one_of old j) refl same apart)
    | inr there ↦
        any_more one (other_user v k (step.Send w j m)) (filter_map (other_user v k) before)
        (are.users k one v (sym (done.ones k ∙ ap (λ b. if b then Some (one_with old j w) else one_of old k) there) ∙ known) apart)
  ]

  -- the vats at the two ends
  is_other : (v : ℕ) (o : Option ℕ) → one_of old j ≡ o → (w == v) ≡ false → IsEnd (step.Send w j m ∷ before) v j → (unwrap_or o w == v) ≡ false → w ≡ unwrap_or o w
  is_other v None known apart end far = refl
  is_other v (Some x) known apart end far = same_end v j x w before (step.Send w j m) end (used_by v apart) (are.users j x v known far)

  calls_here : (v : ℕ) → IsEnd (step.Send w j m ∷ before) v j → calls_to new v j ≡ calls_under_way v j (step.Send w j m ∷ before)
  calls_here v end =
      let s = step.Send w j m in
      let one = one_with old j w in
      let so_far = are.calls v j (end_before v j before s end) in
      let call : calls_to new v j ≡ (if are_ends one w v then calls_to old v j ++ name ∷ [] else calls_to old v j) =
      done.calls v j ∙ ap (λ b. if b && are_ends one w v then calls_to old v j ++ name ∷ [] else calls_to old v j) (eq-eqb j j refl) in
      elim (cases_Bool (w == v)) [
        | inl own ↦
            let alike : are_ends one w v ≡ false = ap (λ x. not (beq (one == w) (one == x))) (sym (eqb-true w v own)) ∙ ap not (alike_self (one == w)) in
            let to_self : ((j == j) && not (w == v)) ≡ false = ap₂ (λ a b. a && not b) (eq-eqb j j refl) own in
            call ∙ ap (λ b. if b then calls_to old v j ++ name ∷ [] else calls_to old v j) alike ∙ so_far ∙ sym (passes_by v j before s refl (sends_if v j w j m false to_self))
        | inr apart ↦
            let ends : are_ends one w v ≡ true = ap not (apart_ends one w v apart (is_other v (one_of old j) refl apart end)) in
            let there : ((j == j) && not (w == v)) ≡ true = ap₂ (λ a b. a && not b) (eq-eqb j j refl) apart in
            call ∙ ap (λ b. if b then calls_to old v j ++ name ∷ [] else calls_to old v j) ends ∙ ap (λ l. l ++ name ∷ []) so_far
            ∙ sym (goes v j before s m linked.1 refl (sends_if v j w j m true there) ∙ ap (λ o. calls_under_way v j before ++ cons_option o []) is)
      ]

  calls_now : (v k : ℕ) → IsEnd (step.Send w j m ∷ before) v k → calls_to new v k ≡ calls_under_way v k (step.Send w j m ∷ before)
  calls_now v k end = elim (cases_Bool (j == k)) [
    | inl here ↦
        let same : j ≡ k = eqb-true j k here in
        subst (λ i. calls_to new v i ≡ calls_under_way v i (step.Send w j m ∷ before)) same (calls_here v (subst (IsEnd (step.Send w j m ∷ before) v) (sym same) end))
    | inr there ↦
        let elsewhere : ((j == k) && not (w == v)) ≡ false = ap (λ b. b && not (w == v)) there in
        done.calls v k ∙ ap (λ b. if b && are_ends (one_with old j w) w v then calls_to old v k ++ name ∷ [] else calls_to old v k) there
        ∙ are.calls v k (end_before v k before (step.Send w j m) end) ∙ sym (passes_by v k before (step.Send w j m) refl (sends_if v k w j m false elsewhere))
  ]

  pub under_way_sent : AreUnderWay (step.Send w j m ∷ before) new
  under_way_sent = record { users = users_now; calls = calls_now }

-- ---- a call is received

and_none : (a b : Bool) → b ≡ false → (a && b) ≡ false
and_none true b h = h
and_none false b h = refl

module _ (before : List Step) (w j : ℕ) (m : Message) (bound : List Cap) (name : Name) (linked : EachStep IsLinked (step.Receive w j m bound ∷ before)) (is : call_in_message m ≡ Some name) (old new : CallsUnderWay)
    (are : AreUnderWay before old) (got : Option Name) (done : IsReceived j w got old new) where
  receives_it : receives_on w j (step.Receive w j m bound) ≡ true
  receives_it = and_from (w == w) (j == j) (eq-eqb w w refl) (eq-eqb j j refl)

  front : calls_to old w j ≡ name ∷ calls_under_way w j (step.Receive w j m bound ∷ before)
  front =
      are.calls w j linked.0.0 ∙ comes w j before (step.Receive w j m bound) m receives_it refl linked.0.1
      ∙ ap (λ o. cons_option o (calls_under_way w j (step.Receive w j m bound ∷ before))) is

  pub got_it : got ≡ Some name
  got_it = done.first ∙ ap (λ l. slice_get l 0) front

  used : (v : ℕ) → (w == v) ≡ false → other_user v j (step.Receive w j m bound) ≡ Some w
  used v apart = ap (λ b. if b then Some w else None) (and_from (j == j) (not (w == v)) (eq-eqb j j refl) (ap not apart))

  alike_there : (v : ℕ) (o : Option ℕ) → one_of old j ≡ o → (w == v) ≡ false → IsEnd (step.Receive w j m bound ∷ before) v j → are_alike o w v ≡ false
  alike_there v None known apart end = apart
  alike_there v (Some one) known apart end =
      apart_ends one w v apart (λ far. same_end v j one w before (step.Receive w j m bound) end (used v apart) (are.users j one v known far))

  alike_here : (o : Option ℕ) → are_alike o w w ≡ true
  alike_here None = eq-eqb w w refl
  alike_here (Some one) = alike_self (one == w)

  left_here : (v : ℕ) → IsEnd (step.Receive w j m bound ∷ before) v j → calls_to new v j ≡ calls_under_way v j (step.Receive w j m bound ∷ before)
  left_here v end =
      let s = step.Receive w j m bound in
      let call : calls_to new v j ≡ (if are_alike (one_of old j) w v then drop 1 (calls_to old v j) else calls_to old v j) =
      done.calls v j ∙ ap (λ b. if b && are_alike (one_of old j) w v then drop 1 (calls_to old v j) else calls_to old v j) (eq-eqb j j refl) in
      elim (cases_Bool (w == v)) [
        | inl own ↦
            let same : w ≡ v = eqb-true w v own in
            let alike : are_alike (one_of old j) w v ≡ true = subst (λ x. are_alike (one_of old j) w x ≡ true) same (alike_here (one_of old j)) in
            call ∙ ap (λ b. if b then drop 1 (calls_to old v j) else calls_to old v j) alike
            ∙ subst (λ x. drop 1 (calls_to old x j) ≡ calls_under_way x j (s ∷ before)) same (ap (drop 1) front)
        | inr apart ↦
            call ∙ ap (λ b. if b then drop 1 (calls_to old v j) else calls_to old v j) (alike_there v (one_of old j) refl apart end)
            ∙ are.calls v j (end_before v j before s end) ∙ sym (passes_by v j before s (ap (λ b. b && (j == j)) apart) refl)
      ]

  left_now : (v k : ℕ) → IsEnd (step.Receive w j m bound ∷ before) v k → calls_to new v k ≡ calls_under_way v k (step.Receive w j m bound ∷ before)
  left_now v k end = elim (cases_Bool (j == k)) [
    | inl here ↦
        let same : j ≡ k = eqb-true j k here in
        subst (λ i. calls_to new v i ≡ calls_under_way v i (step.Receive w j m bound ∷ before)) same (left_here v (subst (IsEnd (step.Receive w j m bound ∷ before) v) (sym same) end))
    | inr there ↦
        done.calls v k ∙ ap (λ b. if b && are_alike (one_of old j) w v then drop 1 (calls_to old v k) else calls_to old v k) there
        ∙ are.calls v k (end_before v k before (step.Receive w j m bound) end) ∙ sym (passes_by v k before (step.Receive w j m bound) (and_none (w == v) (j == k) there) refl)
  ]

  pub under_way_received : AreUnderWay (step.Receive w j m bound ∷ before) new
  under_way_received = record {
    users = λ k one v known apart.
        any_more one (other_user v k (step.Receive w j m bound)) (filter_map (other_user v k) before) (are.users k one v (sym (done.ones k) ∙ known) apart);
    calls = left_now;
  }
