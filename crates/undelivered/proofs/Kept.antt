-- What one more moment does to the tables is what it does to the calls that wait.
use Rattle.std.proofs.Common.{◌≡◌, ℕ, ◌<◌, true, false, eqb, ltb, List, [], ◌∷◌, length, Option, Some, None, refl, sym, ap, subst, ◌∙◌, arith, inl, inr}
use Rattle.std.specs.Prelude.{◌&&◌, if◌then◌else◌}
use Rattle.std.specs.List.{list_any}
use Rattle.std.proofs.lemmas.Bool.{eqb-true, eq-eqb, lt-ltb, ltb-true}
use Rattle.undelivered.specs.Places.{lesser, least_place}
use Rattle.undelivered.specs.Glue.{turn_of, call_made_at, is_behind, behind, is_waiting, made_of, wait_of, AreWaitsRising, IsMade, lowered, IsTaken, IsDelivered, AreExact, AreSameTables, AreTables}
use Rattle.undelivered.specs.Order.{PastCalls, AreOnce, tells_delivery, is_made_earlier, places_of, early, IsFault}
use Rattle.undelivered.specs.declared.moment.Moment.{Moment}
use Rattle.undelivered.specs.declared.moment.Moment.TheVariants.{Made, Delivered}
use Rattle.undelivered.specs.declared.wait_tables.WaitTables.{WaitTables}
use Rattle.undelivered.proofs.Places.{Place, split, and_first, and_second, option_split, lesser_swap, least_append, places_same, places_none, least_of_more, none_least, least_means}
use Rattle.undelivered.proofs.Turns.{same_number, turn_first, turn_second, other_than_new, has_turn, call_below, call_of_turn, turn_of_call, delivered_is_made, before_is_behind, not_behind}

abbrev Noted : Type 0
Noted = Option (Option Place)

abbrev noted : Option Place → Noted
noted u = Some u

abbrev nothing : Noted
nothing = None

abbrev wait_in : PastCalls → ℕ → ℕ → Noted
wait_in past r t = if is_waiting past (call_made_at r t past) then Some (least_place (behind r t past)) else None

swapped : (a b : ℕ) → eqb a b ≡ eqb b a
swapped a b =
    elim (split (eqb a b)) [
      | inl h ↦ h ∙ sym (eq-eqb b a (sym (eqb-true a b h)))
      | inr h ↦ elim (split (eqb b a)) [
        | inl k ↦ absurd (let l = eq-eqb a b (sym (eqb-true b a k)) in let none : true ≡ false = sym l ∙ h in cc)
        | inr k ↦ h ∙ sym k
      ]
    ]

both_swapped : (a b c d : ℕ) → (eqb a b && eqb c d) ≡ (eqb b a && eqb d c)
both_swapped a b c d = rw (swapped a b, swapped c d) refl

-- the same tables
pub same_kept : (past : PastCalls) (old new : WaitTables) → AreSameTables old new → AreExact past old → AreExact past new
same_kept past old new same exact = record {
  turns = λ c. same.turns c ∙ exact.turns c;
  waiting = λ r t. same.waiting r t ∙ exact.waiting r t;
  fault = same.fault ∙ exact.fault;
}

-- no call waits with a turn that is still to come
pub no_call_yet : (past : PastCalls) (tables : WaitTables) (r : ℕ) → AreExact past tables → wait_of tables r (length past) ≡ None
no_call_yet past tables r exact =
    elim (option_split (call_made_at r (length past) past)) [
      | inl none ↦ exact.waiting r (length past) ∙ rw none refl
      | inr found ↦ absurd (let below = call_below r (length past) past found.0 found.1 in omega arith)
    ]

-- ---- a call is made

new_is_not_delivered : (c r : ℕ) (past : PastCalls) → AreOnce (Made c r ∷ past) → list_any (tells_delivery c) past ≡ false
new_is_not_delivered c r past once =
    elim (split (list_any (tells_delivery c) past)) [
      | inl h ↦ absurd (let made = delivered_is_made c past once.1 h in let none : true ≡ false = sym made ∙ once.0 in cc)
      | inr h ↦ h
    ]

made_turns : (c r : ℕ) (past : PastCalls) (old new : WaitTables) → AreOnce (Made c r ∷ past) → AreExact past old → IsMade c r (length past) old new
    → (q : ℕ) → made_of new q ≡ (if list_any (tells_delivery q) (Made c r ∷ past) then None else turn_of q (Made c r ∷ past))
made_turns c r past old new once exact made q =
    elim (split (eqb q c)) [
      | inl h ↦
          let same : q ≡ c = eqb-true q c h in
          let back : eqb c q ≡ true = eq-eqb c q (sym same) in
          let waits : list_any (tells_delivery q) past ≡ false = subst (λ (n : ℕ). list_any (tells_delivery n) past ≡ false) (sym same) (new_is_not_delivered c r past once) in
          made.turns q ∙ rw (h, waits, back) refl
      | inr h ↦
          let back : eqb c q ≡ false = swapped c q ∙ h in
          made.turns q ∙ rw (h, back) (exact.turns q)
    ]

-- what was behind a turn stays so
behind_made : (c r : ℕ) (past : PastCalls) → AreOnce (Made c r ∷ past) → (q t : ℕ) → behind q t (Made c r ∷ past) ≡ behind q t past
behind_made c r past once q t = places_same (λ n. is_behind q t (turn_of n (Made c r ∷ past))) (λ n. is_behind q t (turn_of n past)) past (λ n h.
    let other : eqb c n ≡ false = other_than_new c n past once.0 (delivered_is_made n past once.1 h) in
    rw other refl)

nothing_behind : (past : PastCalls) (q : ℕ) → behind q (length past) past ≡ []
nothing_behind past q = places_none (λ n. is_behind q (length past) (turn_of n past)) past (λ n h. not_behind q (length past) n past (omega arith))

waiting_made : (c r : ℕ) (past : PastCalls) (found : Option ℕ) → is_waiting (Made c r ∷ past) found ≡ is_waiting past found
waiting_made c r past None = refl
waiting_made c r past (Some n) = refl

made_waiting : (c r : ℕ) (past : PastCalls) (old new : WaitTables) → AreOnce (Made c r ∷ past) → AreExact past old → IsMade c r (length past) old new
    → (q t : ℕ) → wait_of new q t ≡ wait_in (Made c r ∷ past) q t
made_waiting c r past old new once exact made q t =
    let test = eqb q r && eqb t (length past) in
    let flip : (eqb r q && eqb (length past) t) ≡ test = both_swapped r q (length past) t in
    elim (split test) [
      | inl h ↦
          let at : t ≡ length past = eqb-true t (length past) (and_second (eqb q r) (eqb t (length past)) h) in
          let free : list_any (tells_delivery c) past ≡ false = new_is_not_delivered c r past once in
          let empty : behind q t (Made c r ∷ past) ≡ [] = behind_made c r past once q t ∙ ap (λ (n : ℕ). behind q n past) at ∙ nothing_behind past q in
          let told : wait_of new q t ≡ noted None = made.waiting q t ∙ rw h refl in
          told ∙ sym (rw (flip, h, free, empty) refl)
      | inr h ↦
          let told : wait_of new q t ≡ wait_in past q t = made.waiting q t ∙ rw h (exact.waiting q t) in
          told ∙ sym (rw (flip, h, waiting_made c r past (call_made_at q t past), behind_made c r past once q t) refl)
    ]

pub made_kept : (c r : ℕ) (past : PastCalls) (old new : WaitTables) → AreOnce (Made c r ∷ past) → AreExact past old → IsMade c r (length past) old new → AreExact (Made c r ∷ past) new
made_kept c r past old new once exact made = record {
  turns = made_turns c r past old new once exact made;
  waiting = made_waiting c r past old new once exact made;
  fault = made.fault ∙ exact.fault;
}

-- ---- a call is delivered

waits_call : (past : PastCalls) (r t : ℕ) (u : Option Place) → wait_in past r t ≡ Some u → u ≡ least_place (behind r t past)
waits_call past r t u e =
    elim (split (is_waiting past (call_made_at r t past))) [
      | inl h ↦ let one : noted (least_place (behind r t past)) ≡ noted u = rw h at e in cc
      | inr h ↦ let none : nothing ≡ noted u = rw h at e in absurd cc
    ]

later_is_behind : (r a b : ℕ) (made : Option (ℕ × ℕ)) → a < b → is_behind r b made ≡ true → is_behind r a made ≡ true
later_is_behind r a b None lt h = h
later_is_behind r a b (Some made) lt h =
    let k : eqb made.0 r ≡ true = and_first (eqb made.0 r) (ltb b made.1) h in
    let l : b < made.1 = ltb-true b made.1 (and_second (eqb made.0 r) (ltb b made.1) h) in
    let m : ltb a made.1 ≡ true = lt-ltb a made.1 (omega arith) in
    rw (k, m) refl

rising : (past : PastCalls) (tables : WaitTables) → AreExact past tables → AreWaitsRising tables.waiting
rising past tables exact = λ r a b u w lt first second.
    let x = waits_call past r a u (sym (exact.waiting r a) ∙ first) in
    let y = waits_call past r b w (sym (exact.waiting r b) ∙ second) in
    rw (x, y) (least_of_more (λ n. is_behind r a (turn_of n past)) (λ n. is_behind r b (turn_of n past)) past (λ n h. later_is_behind r a b (turn_of n past) lt h))

taken_turns : (c : ℕ) (p : Place) (past : PastCalls) (r t : ℕ) (until : Option Place) (old new : WaitTables) → AreExact past old → IsTaken c p r t until old new
    → (q : ℕ) → made_of new q ≡ (if list_any (tells_delivery q) (Delivered c p ∷ past) then None else turn_of q (Delivered c p ∷ past))
taken_turns c p past r t until old new exact taken q =
    let flip : eqb c q ≡ eqb q c = swapped c q in
    elim (split (eqb q c)) [
      | inl h ↦ taken.turns q ∙ rw (flip, h) refl
      | inr h ↦ taken.turns q ∙ rw (flip, h) (exact.turns q)
    ]

behind_delivered : (c : ℕ) (p : Place) (past : PastCalls) (r t : ℕ) → turn_of c past ≡ Some (r, t) → (q s : ℕ)
    → least_place (behind q s (Delivered c p ∷ past)) ≡ (if eqb q r && ltb s t then lesser (least_place (behind q s past)) (Some p) else least_place (behind q s past))
behind_delivered c p past r t turn q s =
    elim (split (eqb q r && ltb s t)) [
      | inl h ↦
          let k : (eqb r q && ltb s t) ≡ true = rw (swapped r q) h in
          let one : is_behind q s (turn_of c past) ≡ true = rw turn k in
          rw (one, h) (lesser_swap (Some p) (least_place (behind q s past)))
      | inr h ↦
          let k : (eqb r q && ltb s t) ≡ false = rw (swapped r q) h in
          let one : is_behind q s (turn_of c past) ≡ false = rw turn k in
          rw (one, h) refl
    ]

abbrev turn_is : ℕ → ℕ → Option (ℕ × ℕ)
turn_is r t = Some (r, t)

-- the call at another turn is another call
other_call : (c : ℕ) (past : PastCalls) (r t q s n : ℕ) → AreOnce past → turn_of c past ≡ Some (r, t) → call_made_at q s past ≡ Some n → (eqb q r && eqb s t) ≡ false → eqb c n ≡ false
other_call c past r t q s n once turn found h =
    elim (split (eqb c n)) [
      | inl k ↦ absurd (
          let same : c ≡ n = eqb-true c n k in
          let here : turn_of n past ≡ Some (q, s) = turn_of_call q s past n once found in
          let both : turn_of n past ≡ Some (r, t) = subst (λ (m : ℕ). turn_of m past ≡ Some (r, t)) same turn in
          let pair : turn_is q s ≡ turn_is r t = sym here ∙ both in
          let first : eqb q r ≡ true = eq-eqb q r (turn_first q s r t pair) in
          let second : eqb s t ≡ true = eq-eqb s t (turn_second q s r t pair) in
          let none : true ≡ false = rw (first, second) at h in
          cc)
      | inr k ↦ k
    ]

lowered_here : (r t : ℕ) (p : Place) (q s : ℕ) (known : Noted) → (eqb q r && eqb s t) ≡ true → lowered r t p q s known ≡ None
lowered_here r t p q s known h = rw h refl

lowered_none : (r t : ℕ) (p : Place) (q s : ℕ) → lowered r t p q s None ≡ None
lowered_none r t p q s =
    elim (split (eqb q r && eqb s t)) [
      | inl h ↦ rw h refl
      | inr h ↦ elim (split (eqb q r && ltb s t)) [
        | inl k ↦ rw (h, k) refl
        | inr k ↦ rw (h, k) refl
      ]
    ]

lowered_some : (r t : ℕ) (p : Place) (q s : ℕ) (u : Option Place) → (eqb q r && eqb s t) ≡ false → lowered r t p q s (Some u) ≡ Some (if eqb q r && ltb s t then lesser u (Some p) else u)
lowered_some r t p q s u h =
    elim (split (eqb q r && ltb s t)) [
      | inl k ↦ rw (h, k) refl
      | inr k ↦ rw (h, k) refl
    ]

taken_waiting : (c : ℕ) (p : Place) (past : PastCalls) (r t : ℕ) (until : Option Place) (old new : WaitTables) → AreOnce past → AreExact past old → turn_of c past ≡ Some (r, t) → IsTaken c p r t until old new
    → (q s : ℕ) → wait_of new q s ≡ wait_in (Delivered c p ∷ past) q s
taken_waiting c p past r t until old new once exact turn taken q s =
    let told : wait_of new q s ≡ lowered r t p q s (wait_in past q s) = taken.waiting (rising past old exact) q s ∙ ap (λ u. lowered r t p q s u) (exact.waiting q s) in
    elim (split (eqb q r && eqb s t)) [
      | inl h ↦
          let first : q ≡ r = eqb-true q r (and_first (eqb q r) (eqb s t) h) in
          let second : s ≡ t = eqb-true s t (and_second (eqb q r) (eqb s t) h) in
          let found : call_made_at q s past ≡ Some c = rw (first, second) (call_of_turn c past r t turn) in
          told ∙ lowered_here r t p q s (wait_in past q s) h ∙ sym (rw (found, same_number c) refl)
      | inr h ↦ elim (option_split (call_made_at q s past)) [
        | inl none ↦
            let empty : wait_in past q s ≡ None = rw none refl in
            told ∙ ap (λ u. lowered r t p q s u) empty ∙ lowered_none r t p q s ∙ sym (rw none refl)
        | inr found ↦
            let other : eqb c found.0 ≡ false = other_call c past r t q s found.0 once turn found.1 h in
            elim (split (list_any (tells_delivery found.0) past)) [
              | inl gone ↦
                  let empty : wait_in past q s ≡ None = rw (found.1, gone) refl in
                  told ∙ ap (λ u. lowered r t p q s u) empty ∙ lowered_none r t p q s ∙ sym (rw (found.1, other, gone) refl)
              | inr waits ↦
                  let here : wait_in past q s ≡ noted (least_place (behind q s past)) = rw (found.1, waits) refl in
                  let more : wait_in (Delivered c p ∷ past) q s ≡ noted (least_place (behind q s (Delivered c p ∷ past))) = rw (found.1, other, waits) refl in
                  told ∙ ap (λ u. lowered r t p q s u) here ∙ lowered_some r t p q s (least_place (behind q s past)) h
                  ∙ ap noted (sym (behind_delivered c p past r t turn q s)) ∙ sym more
            ]
      ]
    ]

taken_fault : (c : ℕ) (p : Place) (past : PastCalls) (r t : ℕ) (old new : WaitTables) → AreOnce past → AreExact past old → turn_of c past ≡ Some (r, t) → IsTaken c p r t (least_place (behind r t past)) old new
    → new.fault ≡ least_place (early (Delivered c p ∷ past))
taken_fault c p past r t old new once exact turn taken =
    let same : places_of (λ n. is_made_earlier c n past) past ≡ behind r t past = places_same (λ n. is_made_earlier c n past) (λ n. is_behind r t (turn_of n past)) past (λ n h. before_is_behind c n past r t once turn) in
    taken.fault ∙ ap (λ u. lesser u (least_place (behind r t past))) exact.fault ∙ lesser_swap (least_place (early past)) (least_place (behind r t past))
    ∙ ap (λ (ps : List Place). lesser (least_place ps) (least_place (early past))) (sym same) ∙ sym (least_append (places_of (λ n. is_made_earlier c n past) past) (early past))

pub delivered_kept : (c : ℕ) (p : Place) (past : PastCalls) (old new : WaitTables) → AreOnce (Delivered c p ∷ past) → AreExact past old → IsDelivered c p old new → AreExact (Delivered c p ∷ past) new
delivered_kept c p past old new once exact delivered =
    let turn = has_turn c past once.0 in
    let r = turn.0 in
    let t = turn.1 in
    let found = call_of_turn c past r t turn.2 in
    let until = least_place (behind r t past) in
    let known : made_of old c ≡ Some (r, t) = exact.turns c ∙ rw once.1 turn.2 in
    let waits : wait_of old r t ≡ Some until = exact.waiting r t ∙ rw (found, once.1) refl in
    let taken : IsTaken c p r t until old new = delivered r t until known waits in
    record {
      turns = taken_turns c p past r t until old new exact taken;
      waiting = taken_waiting c p past r t until old new once.2 exact turn.2 taken;
      fault = taken_fault c p past r t old new once.2 exact turn.2 taken;
    }

-- ---- what is taken

-- a call is made, for which there is memory
pub take_made : (past : PastCalls) (m : Moment) (c r count : ℕ) (old new : WaitTables) → AreTables past count old → m ≡ Made c r → IsMade c r count old new → AreOnce (m ∷ past) → AreExact (m ∷ past) new
take_made past m c r count old new tables is made once =
    let all : AreOnce (Made c r ∷ past) = subst (λ (x : Moment). AreOnce (x ∷ past)) is once in
    let at : IsMade c r (length past) old new = subst (λ (n : ℕ). IsMade c r n old new) (sym tables.counted) made in
    subst (λ (x : Moment). AreExact (x ∷ past) new) (sym is) (made_kept c r past old new all (tables.exact all.1) at)

-- a call is delivered
pub take_delivered : (past : PastCalls) (m : Moment) (c : ℕ) (p : Place) (count : ℕ) (old new : WaitTables) → AreTables past count old → m ≡ Delivered c p → IsDelivered c p old new → AreOnce (m ∷ past) → AreExact (m ∷ past) new
take_delivered past m c p count old new tables is delivered once =
    let all : AreOnce (Delivered c p ∷ past) = subst (λ (x : Moment). AreOnce (x ∷ past)) is once in
    subst (λ (x : Moment). AreExact (x ∷ past) new) (sym is) (delivered_kept c p past old new all (tables.exact all.2) delivered)

-- memory is refused
pub take_none : (past : PastCalls) (r count : ℕ) (old new : WaitTables) → AreTables past count old → (wait_of old r count ≡ None → AreSameTables old new) → AreTables past count new
take_none past r count old new tables same = record {
  counted = tables.counted;
  exact = λ once.
      let exact = tables.exact once in
      let free : wait_of old r count ≡ None = subst (λ (n : ℕ). wait_of old r n ≡ None) tables.counted (no_call_yet past old r exact) in
      same_kept past old new (same free) exact;
}

-- ---- what is told

pub fault_means : (past : PastCalls) (told : Option Place) → told ≡ least_place (early past) → IsFault past told
fault_means past None e = none_least (early past) (sym e)
fault_means past (Some place) e = least_means (early past) place (sym e)
