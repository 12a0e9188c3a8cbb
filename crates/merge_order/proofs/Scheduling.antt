-- A vat whose next record may come is ready, through each change of a schedule.
use Rattle.std.proofs.Common.{◌≡◌, ℕ, zero, suc, ◌+◌, ◌≤◌, Bool, true, false, cond, List, [], ◌∷◌, length, take, Option, Some, None, refl, sym, ap, subst, ◌∙◌, inl, inr, arith}
use Rattle.std.specs.Prelude.{◌≢◌, ◌⊎◌, ◌==◌, ◌||◌, map, is_some, nat_lt, slice_get, count_by}
use Rattle.std.specs.List.Sorted.{IsStrictlyIncreasing}
use Rattle.std.proofs.lemmas.Bool.{false≢true, eq-eqb, cases_eq, or_cases}
use Rattle.std.proofs.lemmas.List.{take_all}
use Rattle.std.proofs.lemmas.Option.{same_Some}
use Rattle.vat_log.specs.Log.{Log}
use Rattle.vat_log.specs.declared.body.Body.{Body}
use Rattle.vat_log.specs.declared.body.Body.TheVariants.{Send, Receive}
use Rattle.merge_order.specs.declared.ready_vats.ReadyVats.{ReadyVats}
use Rattle.merge_order.specs.declared.waiting_vats.WaitingVats.{WaitingVats}
use Rattle.merge_order.specs.Fits.{Part, sent_so_far, received_so_far, part_of, sent_by_the_others, may_come_behind, may_come_from, may_come, further, after}
use Rattle.vat_log.specs.Passages.{sends_frame}
use Rattle.merge_order.specs.Waits.{is_ready, waits, next_from, next_of, awaited_connection, sent_by, IsQueued, IsPutOff, IsWoken, IsScheduled}
use Rattle.merge_order.proofs.Greedy.{eqb_apart, further_log, other_stays, own_moves, part_stays, others_own, others_more}
use Rattle.merge_order.proofs.Steps.{rising_tail, rising_after}
use Rattle.merge_order.proofs.Tables.{none_more, count_next}
use Rattle.merge_order.proofs.Totals.{own_not_again, stays_all}

or_true : (b : Bool) → (b || true) ≡ true
or_true true = refl
or_true false = refl

or_grows : (a b c d : Bool) → (a ≡ true → c ≡ true) → (b ≡ true → d ≡ true) → (a || b) ≡ true → (c || d) ≡ true
or_grows true b c d left right e = ap (λ (t : Bool). t || d) (left refl)
or_grows false true c d left right e = ap (λ (t : Bool). c || t) (right refl) ∙ or_true c
or_grows false false c d left right e = absurd (false≢true e)

is_it : (o : Option ℕ) (n : ℕ) → (o ≡ Some n) ⊎ (o ≡ Some n → ⊥)
is_it None n = inr (λ e. cc)
is_it (Some m) n =
    elim (cases_eq m n) [
      | inl same ↦ inl (ap Some same)
      | inr other ↦ inr (λ e. other (same_Some m n e))
    ]

-- ---- at the begin each vat is ready

may_part_from : (v : ℕ) (ps : List Part) (o : Option Part) → may_come_from v ps o ≡ true → is_some o ≡ true
may_part_from v ps None may = absurd (false≢true may)
may_part_from v ps (Some own) may = refl

may_part : (ps : List Part) (v : ℕ) → may_come ps v ≡ true → is_some (part_of v ps) ≡ true
unfolding may_come
may_part ps v may = may_part_from v ps (part_of v ps) may

awaits_part : (o : Option Part) (connection : ℕ) → awaited_connection (next_from o) ≡ Some connection → is_some o ≡ true
awaits_part None connection e = absurd cc
awaits_part (Some own) connection e = refl

pub queued_begin : (ps : List Part) (ready : ReadyVats) (waiting : WaitingVats) → IsStrictlyIncreasing (map (λ q. q.log.vat) ps) → ((v : ℕ) → is_ready ready v ≡ is_some (part_of v ps)) → IsQueued ps ready waiting
queued_begin ps ready waiting rising all = record {
  rising = rising;
  comes = λ v may. all v ∙ may_part ps v may;
  awaits = λ v connection e. ap (λ (b : Bool). b || waits waiting connection v) (all v ∙ awaits_part (part_of v ps) connection e);
}

-- ---- where nothing is left

none_may : (v : ℕ) → may_come [] v ≡ false
unfolding may_come
none_may v = refl

pub scheduled_none : (ready : ReadyVats) (waiting : WaitingVats) → IsScheduled [] ready waiting None
scheduled_none ready waiting = record {
  queued = record {
    rising = λ i lt. omega (arith, lt);
    comes = λ v may. absurd (false≢true (sym (none_may v) ∙ may));
    awaits = λ v connection e. absurd cc;
  };
  least = none_may;
}

-- ---- a vat that was tried waits

ready_kept : (v u : ℕ) (old new : Bool) → v ≢ u → new ≡ cond (v == u) false old → old ≡ true → new ≡ true
ready_kept v u old new apart left e = left ∙ ap (λ (t : Bool). cond t false old) (eqb_apart v u apart) ∙ e

-- a vat that may not come was tried
pub queued_tried : (ps : List Part) (ready later : ReadyVats) (waiting left : WaitingVats) (v : ℕ) → IsQueued ps ready waiting → may_come ps v ≡ false → IsPutOff ps v waiting left
    → ((u : ℕ) → is_ready later u ≡ cond (v == u) false (is_ready ready u)) → IsQueued ps later left
queued_tried ps ready later waiting left v queued not off removed = record {
  rising = queued.rising;
  comes = λ u may.
      elim (cases_eq v u) [
        | inl same ↦ absurd (false≢true (sym not ∙ ap (may_come ps) same ∙ may))
        | inr apart ↦ ready_kept v u (is_ready ready u) (is_ready later u) apart (removed u) (queued.comes u may)
      ];
  awaits = λ u connection e.
      elim (cases_eq v u) [
        | inl same ↦
            (let own = off.own connection (ap (λ (w : ℕ). awaited_connection (next_of w ps)) same ∙ e) in
            let there : waits left connection u ≡ true = subst (λ (w : ℕ). waits left connection w ≡ true) same own in
            ap (λ (b : Bool). is_ready later u || b) there ∙ or_true (is_ready later u))
        | inr apart ↦
            or_grows (is_ready ready u) (waits waiting connection u) (is_ready later u) (waits left connection u)
            (ready_kept v u (is_ready ready u) (is_ready later u) apart (removed u)) (off.stays connection u) (queued.awaits u connection e)
      ];
}

-- ---- a step that doesn't send on a connection changes nothing there

past_end : (xs : List Body) (i : ℕ) → slice_get xs i ≡ None → length xs ≤ i
past_end [] i e = omega arith
past_end (x ∷ xs) zero e = absurd cc
past_end (x ∷ xs) (suc i) e = let later = past_end xs i e in omega (arith, later)

no_send : (connection : ℕ) (b : Body) → (sent_by (Some b) ≡ Some connection → ⊥) → sends_frame connection b ≡ false
no_send connection (Send on call references frame) other = eqb_apart on connection (λ same. other (ap Some same))
no_send connection _ other = refl

sends_none : (connection : ℕ) (xs : List Body) (i : ℕ) (o : Option Body) → slice_get xs i ≡ o → (sent_by o ≡ Some connection → ⊥) → count_by (sends_frame connection) (take (i + 1) xs) ≡ count_by (sends_frame connection) (take i xs)
sends_none connection xs i None e other =
    let le = past_end xs i e in
    ap (count_by (sends_frame connection)) (take_all (i + 1) xs (omega arith) ∙ sym (take_all i xs le))
sends_none connection xs i (Some b) e other =
    count_next (sends_frame connection) xs i b e
    ∙ ap (λ (t : Bool). count_by (sends_frame connection) (take i xs) + cond t 1 0) (no_send connection b other)
    ∙ sym (none_more (count_by (sends_frame connection) (take i xs)))

others_step : (u connection : ℕ) (p q : Part) (ps qs : List Part) → q.log.vat ≡ p.log.vat → sent_so_far connection q ≡ sent_so_far connection p → sent_by_the_others u connection qs ≡ sent_by_the_others u connection ps
    → sent_by_the_others u connection (q ∷ qs) ≡ sent_by_the_others u connection (p ∷ ps)
others_step u connection p q ps qs vat sent rest =
    elim (cases_eq p.log.vat u) [
      | inl same ↦ others_own u connection q qs (vat ∙ same) ∙ rest ∙ sym (others_own u connection p ps same)
      | inr other ↦ omega (arith, others_more u connection q qs (λ e. other (sym vat ∙ e)), others_more u connection p ps other, sent, rest)
    ]

part_first : (v : ℕ) (p : Part) (ps : List Part) → p.log.vat ≡ v → part_of v (p ∷ ps) ≡ Some p
part_first v p ps same = rw (eq-eqb _ _ same) refl

part_behind : (v : ℕ) (p : Part) (ps : List Part) → p.log.vat ≢ v → part_of v (p ∷ ps) ≡ part_of v ps
part_behind v p ps other = rw (eqb_apart _ _ other) refl

others_same : (u v connection : ℕ) (ps : List Part) → IsStrictlyIncreasing (map (λ q. q.log.vat) ps) → (sent_by (next_of v ps) ≡ Some connection → ⊥) → sent_by_the_others u connection (after v ps) ≡ sent_by_the_others u connection ps
others_same u v connection [] rising silent = refl
others_same u v connection (p ∷ ps) rising silent =
    let vat : (further v p).log.vat ≡ p.log.vat = ap (λ (l : Log). l.vat) (further_log v p) in
    elim (cases_eq p.log.vat v) [
      | inl same ↦
          let rest = stays_all v ps (ap (λ (x : ℕ). part_of x ps) (sym same) ∙ own_not_again p ps rising) in
          let none = sends_none connection p.log.records p.came (slice_get p.log.records p.came) refl (λ e. silent (ap (λ (o : Option Part). sent_by (next_from o)) (part_first v p ps same) ∙ e)) in
          others_step u connection p (further v p) ps (after v ps) vat (ap (sent_so_far connection) (own_moves v p same) ∙ none) (ap (sent_by_the_others u connection) rest)
      | inr other ↦
          let later = others_same u v connection ps (rising_tail p.log.vat (map (λ q. q.log.vat) ps) rising) (λ e. silent (ap (λ (o : Option Part). sent_by (next_from o)) (part_behind v p ps other) ∙ e)) in
          others_step u connection p (further v p) ps (after v ps) vat (ap (sent_so_far connection) (other_stays v p other)) later
    ]

-- ---- a vat that may come after a step of another might come before, or waits where the step sends

-- a vat waits where the step sends
pub record IsAwaited (o sent : Option Body) : Type 0 where
  pub connection : ℕ
  pub received : awaited_connection o ≡ Some connection
  pub sends : sent_by sent ≡ Some connection

comes_by : (u v : ℕ) (ps : List Part) (own : Part) (o : Option Body) → IsStrictlyIncreasing (map (λ q. q.log.vat) ps) → may_come_behind u (after v ps) own o ≡ true → (may_come_behind u ps own o ≡ true) ⊎ IsAwaited o (next_of v ps)
comes_by u v ps own None rising may = absurd (false≢true may)
comes_by u v ps own (Some (Receive connection call references frame)) rising may =
    elim (is_it (sent_by (next_of v ps)) connection) [
      | inl sends ↦ inr (record { connection = connection; received = refl; sends = sends })
      | inr silent ↦ inl (subst (λ (n : ℕ). nat_lt (received_so_far connection own) n ≡ true) (others_same u v connection ps rising silent) may)
    ]
comes_by u v ps own (Some _) rising may = inl refl

comes_from : (u v : ℕ) (ps : List Part) (o : Option Part) → IsStrictlyIncreasing (map (λ q. q.log.vat) ps) → may_come_from u (after v ps) o ≡ true → (may_come_from u ps o ≡ true) ⊎ IsAwaited (next_from o) (next_of v ps)
comes_from u v ps None rising may = absurd (false≢true may)
comes_from u v ps (Some own) rising may = comes_by u v ps own (slice_get own.log.records own.came) rising may

newly_comes : (u v : ℕ) (ps : List Part) → u ≢ v → IsStrictlyIncreasing (map (λ q. q.log.vat) ps) → may_come (after v ps) u ≡ true → (may_come ps u ≡ true) ⊎ IsAwaited (next_of u ps) (next_of v ps)
unfolding may_come
newly_comes u v ps apart rising may =
    comes_from u v ps (part_of u ps) rising (sym (ap (may_come_from u (after v ps)) (part_stays u v ps apart)) ∙ may)

-- a step of a vat that may come, and those that it wakes
pub queued_after : (ps : List Part) (ready later : ReadyVats) (waiting left : WaitingVats) (v : ℕ) → IsQueued ps ready waiting → may_come ps v ≡ true → IsWoken (sent_by (next_of v ps)) ready later waiting left → IsQueued (after v ps) later left
queued_after ps ready later waiting left v queued may step = record {
  rising = rising_after v ps (after v ps) refl queued.rising;
  comes = λ u may_later.
      elim (cases_eq u v) [
        | inl same ↦ step.still u (queued.comes u (ap (may_come ps) same ∙ may))
        | inr apart ↦
            elim (newly_comes u v ps apart queued.rising may_later) [
              | inl before ↦ step.still u (queued.comes u before)
              | inr awaited ↦
                  elim (or_cases _ _ (queued.awaits u awaited.connection awaited.received)) [
                    | inl there ↦ step.still u there
                    | inr waiter ↦ step.woken awaited.connection u awaited.sends waiter
                  ]
            ]
      ];
  awaits = λ u connection e.
      elim (cases_eq u v) [
        | inl same ↦ ap (λ (b : Bool). b || waits left connection u) (step.still u (queued.comes u (ap (may_come ps) same ∙ may)))
        | inr apart ↦
            elim (or_cases _ _ (queued.awaits u connection (sym (ap (λ (o : Option Part). awaited_connection (next_from o)) (part_stays u v ps apart)) ∙ e))) [
              | inl there ↦ ap (λ (b : Bool). b || waits left connection u) (step.still u there)
              | inr waiter ↦
                  elim (is_it (sent_by (next_of v ps)) connection) [
                    | inl sends ↦ ap (λ (b : Bool). b || waits left connection u) (step.woken connection u sends waiter)
                    | inr silent ↦ ap (λ (b : Bool). is_ready later u || b) (step.apart connection u silent waiter) ∙ or_true (is_ready later u)
                  ]
            ]
      ];
}
