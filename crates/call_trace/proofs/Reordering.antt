-- Two orders of the same logs give each vat the same steps.
use Rattle.std.proofs.Common.{◌≡◌, refl, sym, ◌∙◌, ap, ap₂, subst, ℕ, ◌+◌, ◌==◌, List, [], ◌∷◌, ◌++◌, length, Bool, true, false, Option, Some, option_and_then, option_map, append_assoc, arith, eqb-true, inl, inr}
use Rattle.std.specs.List.{cons_option, filter_map}
use Rattle.std.proofs.lemmas.List.{append-nil}
use Rattle.std.proofs.lemmas.Bool.{cases_Bool, cases_lt}
use Rattle.agree.specs.Points.{GoesOn}
use Rattle.agree.specs.Rows.{Row, record_of_vat, log_of_vat}
use Rattle.agree.specs.Streams.{passing, stream}
use Rattle.agree.proofs.Cuts.{taken}
use Rattle.agree.proofs.Points.{through, before_it, no_longer, shorter, same_length, kept}
use Rattle.decoded_records.specs.Past.{Past}
use Rattle.call_trace.specs.Naming.{message_at}
use Rattle.call_trace.specs.Running.{coming_next, step_received, step_of, steps_by, steps_of_row, IsNamedRow, IsUser, MayRun}
use Rattle.call_trace.specs.Types.{RpcMessage, DecodedRecord, Host, Wire, Message, Step}
use Rattle.call_trace.proofs.Carried.{pairs_as_long, message_later}
use Rattle.call_trace.proofs.Carrying.{named_next, log_here, steps_here, steps_there, steps_on}
use Rattle.call_trace.proofs.Naming.{mapped_is, then_is}
use Rattle.call_trace.proofs.Next.{IsComing, is_coming, received_here, run_before}
use Rattle.run_model.specs.Steps.{vat_of}

-- ---- points of lists

-- of a list the elements that give something are told apart by how many stand before them
nth_same : {A B : Type 0} (f : A → Option B) (xs b c : List A) (x y : A) (p q : B) → GoesOn xs (x ∷ b) → GoesOn xs (y ∷ c) → f x ≡ Some p → f y ≡ Some q →
    length (filter_map f b) ≡ length (filter_map f c) → b ≡ c
nth_same {A = A} {B = B} f xs b c x y p q at_x at_y is_x is_y number = elim (cases_lt (length b) (length c)) [
  | inl less ↦ absurd (too_many x b p c (shorter xs (x ∷ b) c at_x (before_it xs y c at_y) less) is_x (omega (arith, number)))
  | inr more ↦ elim (cases_lt (length c) (length b)) [
    | inl less ↦ absurd (too_many y c q b (shorter xs (y ∷ c) b at_y (before_it xs x b at_x) less) is_y (omega (arith, number)))
    | inr no_less ↦ same_length xs b c (before_it xs x b at_x) (before_it xs y c at_y) (omega (arith, more, no_less))
  ]
]
  where
    too_many : (z : A) (d : List A) (r : B) (l : List A) → GoesOn l (z ∷ d) → f z ≡ Some r → length (filter_map f d) ≡ length (filter_map f l) → ⊥
    too_many z d r l at_z is_z same =
        let le = no_longer (filter_map f l) (filter_map f (z ∷ d)) (kept f l (z ∷ d) at_z) in
        let one : length (filter_map f (z ∷ d)) ≡ length (filter_map f d) + 1 = ap (λ o. length (cons_option o (filter_map f d))) is_z ∙ omega arith in
        omega (arith, le, one, same)

-- ---- points of a row and its steps

-- the steps of a row that are its run
pub record IsDone (row : Row) (whole : List Step) : Type 0 where
  pub takes : steps_of_row row ≡ Some whole
  pub named : IsNamedRow row whole

record IsDoneNext (v : ℕ) (e : DecodedRecord) (row : Row) (whole : List Step) : Type 0 where
  pub step : Step
  pub before : List Step
  pub all : whole ≡ step ∷ before
  pub vat : vat_of step ≡ v
  pub takes : step_of v (log_of_vat v row) (steps_by v before) before e ≡ Some step
  pub rest : IsDone row before

heads : {A : Type 0} {x y : A} {xs ys : List A} → (x ∷ xs) ≡ (y ∷ ys) → x ≡ y
heads e = cc

tails : {A : Type 0} {x y : A} {xs ys : List A} → (x ∷ xs) ≡ (y ∷ ys) → xs ≡ ys
tails e = cc

done_next : (v : ℕ) (e : DecodedRecord) (row : Row) (whole : List Step) → IsDone ((v, e) ∷ row) whole → IsDoneNext v e row whole
done_next v e row whole done =
    let before = then_is (λ before. option_map (λ s. s ∷ before) (step_of v (log_of_vat v row) (steps_by v before) before e)) (steps_of_row row) whole done.takes in
    let step = mapped_is (λ s. s ∷ before.0) (step_of v (log_of_vat v row) (steps_by v before.0) before.0 e) whole before.2 in
    let n = named_next v e row whole done.named in
    record {
      step = step.0;
      before = before.0;
      all = sym step.2;
      vat = ap vat_of (heads (step.2 ∙ n.all)) ∙ n.vat;
      takes = step.1;
      rest = record { takes = before.1; named = subst (IsNamedRow row) (sym (tails (step.2 ∙ n.all))) n.rest };
    }

record IsDoneBefore (row : Row) (whole : List Step) : Type 0 where
  pub added : List Step
  pub before : List Step
  pub all : whole ≡ added ++ before
  pub done : IsDone row before

done_before : (later row : Row) (whole : List Step) → IsDone (later ++ row) whole → IsDoneBefore row whole
done_before [] row whole done = record { added = []; before = whole; all = refl; done = done }
done_before ((v, e) ∷ later) row whole done =
    let n = done_next v e (later ++ row) whole done in
    let r = done_before later row n.before n.rest in
    record { added = n.step ∷ r.added; before = r.before; all = n.all ∙ ap (λ l. n.step ∷ l) r.all; done = r.done }

no_steps : (whole : List Step) → IsDone [] whole → whole ≡ []
no_steps [] done = refl
no_steps (s ∷ whole) done = absurd (let no = done.takes in let n : ⊥ = cc in n)

-- ---- two rows of the same logs

-- a record takes the same step after the same steps of its vat, where the same message comes next
step_same : (v : ℕ) (es : Past) (steps one other : List Step) (e : DecodedRecord) →
    ((k c : ℕ) (rs : List ℕ) (m : RpcMessage) → e ≡ Wire false k c rs m → coming_next v k one ≡ coming_next v k other) → step_of v es steps one e ≡ step_of v es steps other e
step_same v es steps one other (Wire false k c rs m) comes = ap (option_and_then (step_received v es steps (Wire false k c rs m) k rs)) (comes k c rs m refl)
step_same v es steps one other (Host r object) comes = refl
step_same v es steps one other e comes = refl

module _ (one other : Row) (run : MayRun one) (run_too : MayRun other) (same : (v : ℕ) → log_of_vat v one ≡ log_of_vat v other) (whole : List Step) (done_too : IsDone other whole) where
  -- a vat's steps up to a point of the one are the first of its steps of the other
  abbrev StandsSo : List Step → Type 0
  StandsSo before = (v : ℕ) → GoesOn (steps_by v whole) (steps_by v before)

  log_there_too : (w : ℕ) (row : Row) (past : Past) → GoesOn one row → GoesOn (log_of_vat w row) past → GoesOn (log_of_vat w other) past
  log_there_too w row past p q =
      through (log_of_vat w other) (log_of_vat w row) past (subst (λ es. GoesOn es (log_of_vat w row)) (same w) (kept (record_of_vat w) one row p)) q

  user_too : (k w : ℕ) (row : Row) (m : RpcMessage) (sent : Bool) (e : DecodedRecord) (past : Past) → GoesOn one row → GoesOn (log_of_vat w row) (e ∷ past) → passing k sent e ≡ Some m → IsUser k w other
  user_too k w row m sent e past p q passes = let t = taken w other e past (log_there_too w row (e ∷ past) p q) in (t.0, e, t.1, (sent, m, passes))

  some_same : (M N : Message) → ◌≡◌ {A = Option Message} (Some M) (Some N) → M ≡ N
  some_same M N h = cc

  -- the same message comes next
  comes_same : (v k c : ℕ) (rs : List ℕ) (m : RpcMessage) (row row_too : Row) (x y : List Step) → GoesOn one ((v, Wire false k c rs m) ∷ row) → GoesOn other ((v, Wire false k c rs m) ∷ row_too) →
      log_of_vat v row ≡ log_of_vat v row_too → GoesOn whole y → StandsSo x → IsComing k c v rs m row x → IsComing k c v rs m row_too y → coming_next v k x ≡ coming_next v k y
  comes_same v k c rs m row row_too x y p q logs after so a b =
      a.comes ∙ ap (λ M. Some M) (some_same a.message b.message (sym first ∙ ap₂ (λ i w. message_at i (steps_by w whole)) (ap length from) vat ∙ second)) ∙ sym b.comes
    where
      e : DecodedRecord
      e = Wire false k c rs m

      earlier : GoesOn one row
      earlier = before_it one (v, e) row p

      at_v : IsUser k v other
      at_v = (row_too, e, q, (false, m, received_here k c rs m))

      at_w : IsUser k a.other other
      at_w = user_too k a.other row m true a.sent a.from earlier a.passed.sent_there a.passed.sends

      sent_there : GoesOn (log_of_vat b.other other) (b.sent ∷ b.from)
      sent_there = through (log_of_vat b.other other) (log_of_vat b.other row_too) (b.sent ∷ b.from) (kept (record_of_vat b.other) other row_too (before_it other (v, e) row_too q)) b.passed.sent_there

      at_u : IsUser k b.other other
      at_u = let t = taken b.other other b.sent b.from sent_there in (t.0, b.sent, t.1, (true, m, b.passed.sends))

      vat : a.other ≡ b.other
      vat = run_too.two_ends k v a.other b.other at_v at_w at_u a.apart b.apart

      from : a.from ≡ b.from
      from =
          nth_same (passing k true) (log_of_vat b.other other) a.from b.from a.sent b.sent m m
          (subst (λ w. GoesOn (log_of_vat w other) (a.sent ∷ a.from)) vat (log_there_too a.other row (a.sent ∷ a.from) earlier a.passed.sent_there)) sent_there a.passed.sends b.passed.sends
          (a.passed.same_number ∙ ap (λ es. length (stream k false es)) logs ∙ sym b.passed.same_number)

      first : message_at (length a.from) (steps_by a.other whole) ≡ Some a.message
      first = let s = so a.other in ap (message_at (length a.from)) s.1 ∙ message_later (length a.from) s.0 (steps_by a.other x) a.message a.was

      second : message_at (length b.from) (steps_by b.other whole) ≡ Some b.message
      second =
          ap (message_at (length b.from)) (steps_on b.other after.0 y whole after.1)
          ∙ message_later (length b.from) (steps_by b.other after.0) (steps_by b.other y) b.message b.was

  -- one record more
  module _ (v : ℕ) (e : DecodedRecord) (row : Row) (x : List Step) (p : GoesOn one ((v, e) ∷ row)) (done : IsDone row x) (so : StandsSo x) where
    it_there : GoesOn (log_of_vat v other) (e ∷ log_of_vat v row)
    it_there = log_there_too v ((v, e) ∷ row) (e ∷ log_of_vat v row) p ([], log_here v v e row refl)

    -- the same record in the other row, and its step
    module _ (row_too : Row) (q : GoesOn other ((v, e) ∷ row_too)) (logs : log_of_vat v row_too ≡ log_of_vat v row) (added : List Step) (all : List Step) (split : whole ≡ added ++ all)
        (n : IsDoneNext v e row_too all) where
      own : steps_by v whole ≡ steps_by v added ++ n.step ∷ steps_by v n.before
      own = steps_on v added all whole split ∙ ap (λ l. steps_by v added ++ l) (ap (steps_by v) n.all ∙ steps_here v n.step n.before n.vat)

      as_long : length (steps_by v x) ≡ length (steps_by v n.before)
      as_long =
          sym (pairs_as_long v (log_of_vat v row) (steps_by v x) (done.named.paired v)) ∙ ap length (sym logs)
          ∙ pairs_as_long v (log_of_vat v row_too) (steps_by v n.before) (n.rest.named.paired v)

      steps_same : steps_by v x ≡ steps_by v n.before
      steps_same =
          same_length (steps_by v whole) (steps_by v x) (steps_by v n.before) (so v) (before_it (steps_by v whole) n.step (steps_by v n.before) (steps_by v added, own)) as_long

      after : GoesOn whole n.before
      after = (added ++ n.step ∷ [], split ∙ ap (λ l. added ++ l) n.all ∙ sym (append_assoc added (n.step ∷ []) n.before))

      comes : (k c : ℕ) (rs : List ℕ) (m : RpcMessage) → e ≡ Wire false k c rs m → coming_next v k x ≡ coming_next v k n.before
      comes k c rs m is =
          let p_there = subst (λ e. GoesOn one ((v, e) ∷ row)) is p in
          let q_there = subst (λ e. GoesOn other ((v, e) ∷ row_too)) is q in
          comes_same v k c rs m row row_too x n.before p_there q_there (sym logs) after so
          (is_coming k c v rs m row x (run_before one ((v, Wire false k c rs m) ∷ row) p_there run) done.named)
          (is_coming k c v rs m row_too n.before (run_before other ((v, Wire false k c rs m) ∷ row_too) q_there run_too) n.rest.named)

      takes_same : step_of v (log_of_vat v row) (steps_by v x) x e ≡ Some n.step
      takes_same =
          step_same v (log_of_vat v row) (steps_by v x) x n.before e comes
          ∙ ap₂ (λ es steps. step_of v es steps n.before e) (sym logs) steps_same ∙ n.takes

      goes_on : (s : Step) → step_of v (log_of_vat v row) (steps_by v x) x e ≡ Some s → GoesOn (steps_by v whole) (s ∷ steps_by v x)
      goes_on s takes =
          let step : ◌≡◌ {A = Option Step} (Some n.step) (Some s) = sym takes_same ∙ takes in
          let is : n.step ≡ s = cc in
          (steps_by v added, own ∙ ap₂ (λ s l. steps_by v added ++ s ∷ l) is (sym steps_same))

    step_so : (s : Step) → step_of v (log_of_vat v row) (steps_by v x) x e ≡ Some s → GoesOn (steps_by v whole) (s ∷ steps_by v x)
    step_so s takes =
        let t = taken v other e (log_of_vat v row) it_there in
        let point = done_before t.1.0 ((v, e) ∷ t.0) whole (subst (λ r. IsDone r whole) t.1.1 done_too) in
        goes_on t.0 t.1 t.2 point.added point.before point.all (done_next v e t.0 point.before point.done) s takes

    steps_more : (s : Step) → vat_of s ≡ v → step_of v (log_of_vat v row) (steps_by v x) x e ≡ Some s → StandsSo (s ∷ x)
    steps_more s vat takes u = elim (cases_Bool (v == u)) [
      | inl own ↦
          let here : v ≡ u = eqb-true v u own in
          subst (λ w. GoesOn (steps_by w whole) (steps_by w (s ∷ x))) here (subst (GoesOn (steps_by v whole)) (sym (steps_here v s x vat)) (step_so s takes))
      | inr apart ↦ subst (GoesOn (steps_by u whole)) (sym (steps_there u s x (ap (λ w. w == u) vat ∙ apart))) (so u)
    ]

  stands : (row : Row) (x : List Step) → GoesOn one row → IsDone row x → StandsSo x
  stands [] x p done = λ v. (steps_by v whole, sym (append-nil (steps_by v whole)) ∙ ap (λ l. steps_by v whole ++ steps_by v l) (sym (no_steps x done)))
  stands ((v, e) ∷ row) x p done =
      let n = done_next v e row x done in
      subst StandsSo (sym n.all) (steps_more v e row n.before p n.rest (stands row n.before (before_it one (v, e) row p) n.rest) n.step n.vat n.takes)

  pub same_steps : (x : List Step) → IsDone one x → (v : ℕ) → steps_by v x ≡ steps_by v whole
  same_steps x done v =
      same_length (steps_by v whole) (steps_by v x) (steps_by v whole) (stands one x ([], refl) done v) ([], refl)
      (sym (pairs_as_long v (log_of_vat v one) (steps_by v x) (done.named.paired v)) ∙ ap length (same v) ∙ pairs_as_long v (log_of_vat v other) (steps_by v whole) (done_too.named.paired v))
