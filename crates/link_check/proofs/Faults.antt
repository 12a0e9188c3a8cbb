-- What the outcome of a link means, and that a link has one.
use Rattle.std.proofs.Common.{◌≡◌, ℕ, zero, suc, ◌+◌, ◌-◌, ◌<◌, ◌≤◌, Bool, true, false, cond, List, [], ◌∷◌, ◌++◌, length, Option, Some, None, refl, sym, ap, subst, ◌∙◌, inl, inr, arith, length-append}
use Rattle.std.specs.Prelude.{◌⊎◌, ◌==◌, not, slice_get}
use Rattle.std.specs.Option.{option_map, option_to_list}
use Rattle.std.specs.List.{filter_map, cons_option}
use Rattle.vat_log.specs.Log.{Log}
use Rattle.std.specs.Str.{bytes_eq}
use Rattle.std.proofs.lemmas.Bool.{false≢true, cases_lt}
use Rattle.std.proofs.lemmas.Slice.Eq.{bytes_eq-Decides}
use Rattle.vat_log.specs.declared.body.Body.{Body}
use Rattle.vat_log.specs.declared.body.Body.TheVariants.{Send, Receive}
use Rattle.link_check.specs.declared.link_outcome.LinkOutcome.{LinkOutcome}
use Rattle.link_check.specs.declared.link_outcome.LinkOutcome.TheVariants.{Good, Broken}
use Rattle.link_check.specs.Prefix.{frames_sent, frames_received, Ends, IsPrefix, IsLeastFault, IsGood, IsBrokenAtFirst, IsBrokenAtSecond, IsOutcome}
use Rattle.vat_log.specs.Passages.{frame_sent, frame_received}
use Rattle.link_check.specs.Glue.{first_fault}

none_same : (b : Bool) (o : Option ℕ) → cond b (option_map suc o) (Some 0) ≡ None → (b ≡ true) × (o ≡ None)
none_same true None e = (refl, refl)
none_same true (Some k) e = absurd cc
none_same false o e = absurd cc

some_later : (b : Bool) (o : Option ℕ) (m : ℕ) → cond b (option_map suc o) (Some 0) ≡ Some m → ((b ≡ true) × ((k : ℕ) × (o ≡ Some k) × (suc k ≡ m))) ⊎ ((b ≡ false) × (m ≡ 0))
some_later true None m e = absurd cc
some_later true (Some k) m e = inl (refl, (k, refl, cc))
some_later false o m e = inr (refl, cc)

one_longer : (x y : List ℕ) (r s rest : List (List ℕ)) → x ≡ y → s ≡ r ++ rest → y ∷ s ≡ x ∷ (r ++ rest)
one_longer x y r s rest same e = cc

-- where no fault is found, all that was received is a prefix
pub prefix_from_none : (r s : List (List ℕ)) → first_fault r s ≡ None → IsPrefix r s
unfolding first_fault
prefix_from_none [] s e = (s, refl)
prefix_from_none (x ∷ r) [] e = absurd cc
prefix_from_none (x ∷ r) (y ∷ s) e =
    let h = none_same (bytes_eq x y) (first_fault r s) e in
    let rest = prefix_from_none r s h.1 in
    let same : x ≡ y = (bytes_eq-Decides x y).0 h.0 in
    (rest.0, one_longer x y r s rest.0 same rest.1)

at_zero : (x y : List ℕ) (r s : List (List ℕ)) → (x ≡ y → ⊥) → IsLeastFault (x ∷ r) (y ∷ s) 0
at_zero x y r s apart = record { came = omega arith; differs = λ e. apart cc; least = λ before lt. absurd (omega arith) }

least_later : (x y : List ℕ) (r s : List (List ℕ)) (k : ℕ) → x ≡ y → IsLeastFault r s k → (before : ℕ) → before < suc k → slice_get (y ∷ s) before ≡ slice_get (x ∷ r) before
least_later x y r s k same h zero lt = ap Some (sym same)
least_later x y r s k same h (suc before) lt = h.least before (omega arith)

later : (x y : List ℕ) (r s : List (List ℕ)) (k : ℕ) → x ≡ y → IsLeastFault r s k → IsLeastFault (x ∷ r) (y ∷ s) (suc k)
later x y r s k same h = record { came = omega (arith, h.came); differs = h.differs; least = least_later x y r s k same h }

-- the fault that is found is the least
pub least_from_some : (r s : List (List ℕ)) (m : ℕ) → first_fault r s ≡ Some m → IsLeastFault r s m
unfolding first_fault
least_from_some [] s m e = absurd cc
least_from_some (x ∷ r) [] m e =
    let zeroth : 0 ≡ m = cc in
    let P : ℕ → Type 0 = λ k. IsLeastFault (x ∷ r) [] k in
    subst P zeroth (record { came = omega arith; differs = λ f. cc; least = λ before lt. absurd (omega arith) })
least_from_some (x ∷ r) (y ∷ s) m e =
    let P : ℕ → Type 0 = λ k. IsLeastFault (x ∷ r) (y ∷ s) k in
    elim (some_later (bytes_eq x y) (first_fault r s) m e) [
      | inl h ↦ subst P h.1.2 (later x y r s h.1.0 ((bytes_eq-Decides x y).0 h.0) (least_from_some r s h.1.0 h.1.1))
      | inr h ↦ subst P (sym h.1) (at_zero x y r s (λ same. false≢true (sym h.0 ∙ (bytes_eq-Decides x y).1 same)))
    ]

pub length_prefix : (r s : List (List ℕ)) → IsPrefix r s → length r ≤ length s
length_prefix r s h = omega (arith, ap length h.1, length-append r h.0)

-- ---- a link has one outcome

prefix_at : (r rest : List (List ℕ)) (n : ℕ) → n < length r → slice_get (r ++ rest) n ≡ slice_get r n
prefix_at [] rest n lt = absurd (omega arith)
prefix_at (x ∷ r) rest zero lt = refl
prefix_at (x ∷ r) rest (suc n) lt = prefix_at r rest n (omega arith)

-- what is a prefix has no fault
faultless : (r s : List (List ℕ)) (m : ℕ) → IsPrefix r s → IsLeastFault r s m → ⊥
faultless r s m h fault = fault.differs (ap (λ (l : List (List ℕ)). slice_get l m) h.1 ∙ prefix_at r h.0 m fault.came)

same_fault : (r s : List (List ℕ)) (m n : ℕ) → IsLeastFault r s m → IsLeastFault r s n → m ≡ n
same_fault r s m n one other =
    elim (cases_lt m n) [
      | inl lt ↦ absurd (one.differs (other.least m lt))
      | inr ge ↦ elim (cases_lt n m) [
        | inl lt ↦ absurd (other.differs (one.least n lt))
        | inr le ↦ omega arith
      ]
    ]

broken_is : (v w m n : ℕ) → v ≡ w → m ≡ n → Broken v m ≡ Broken w n
broken_is v w m n e f = rw (e, f) refl

good_is : (d e f g : ℕ) → d ≡ e → f ≡ g → Good d f ≡ Good e g
good_is d e f g same left = rw (same, left) refl

goods_same : (link : Ends) (d f e g : ℕ) → IsGood link d f → IsGood link e g → Good d f ≡ Good e g
goods_same link d f e g one other = good_is d e f g (omega (arith, one.came, other.came)) (omega (arith, one.came, other.came, one.went, other.went))

not_good : (link : Ends) (d f v m : ℕ) → IsGood link d f → IsBrokenAtFirst link v m ⊎ IsBrokenAtSecond link v m → ⊥
not_good link d f v m good (inl at) = faultless _ _ m good.at_first at.fault
not_good link d f v m good (inr at) = faultless _ _ m good.at_second at.fault

breaks_same : (link : Ends) (v m w n : ℕ) → IsBrokenAtFirst link v m ⊎ IsBrokenAtSecond link v m → IsBrokenAtFirst link w n ⊎ IsBrokenAtSecond link w n → Broken v m ≡ Broken w n
breaks_same link v m w n (inl a) (inl b) = broken_is v w m n (a.end ∙ sym b.end) (same_fault _ _ m n a.fault b.fault)
breaks_same link v m w n (inl a) (inr b) = absurd (faultless _ _ m b.at_first a.fault)
breaks_same link v m w n (inr a) (inl b) = absurd (faultless _ _ n a.at_first b.fault)
breaks_same link v m w n (inr a) (inr b) = broken_is v w m n (a.end ∙ sym b.end) (same_fault _ _ m n a.fault b.fault)

pub one_outcome : (link : Ends) (a b : LinkOutcome) → IsOutcome link a → IsOutcome link b → a ≡ b
one_outcome link (Good d f) (Good e g) one other = goods_same link d f e g one other
one_outcome link (Good d f) (Broken v m) one other = absurd (not_good link d f v m one other)
one_outcome link (Broken v m) (Good d f) one other = absurd (not_good link d f v m other one)
one_outcome link (Broken v m) (Broken w n) one other = breaks_same link v m w n one other

-- a record sends a frame or receives one, and not both
at_most_one : (connection : ℕ) (b : Body) → length (option_to_list (frame_sent connection b)) + length (option_to_list (frame_received connection b)) ≤ 1
at_most_one connection (Send on call references frame) = elim (on == connection) as (λ t. length (option_to_list (cond t (Some frame) None)) + 0 ≤ 1) [ true ↦ omega arith | false ↦ omega arith ]
at_most_one connection (Receive on call references frame) = elim (on == connection) as (λ t. 0 + length (option_to_list (cond t (Some frame) None)) ≤ 1) [ true ↦ omega arith | false ↦ omega arith ]
at_most_one connection _ = omega arith

cons_length : {Y : Type 0} (o : Option Y) (ys : List Y) → length (cons_option o ys) ≡ length (option_to_list o) + length ys
cons_length None ys = omega arith
cons_length (Some y) ys = omega arith

within_list : (connection : ℕ) (bs : List Body) → length (filter_map (frame_sent connection) bs) + length (filter_map (frame_received connection) bs) ≤ length bs
within_list connection [] = omega arith
within_list connection (b ∷ bs) =
    let out = filter_map (frame_sent connection) bs in
    let into = filter_map (frame_received connection) bs in
    omega (arith, within_list connection bs, at_most_one connection b, cons_length (frame_sent connection b) out, cons_length (frame_received connection b) into)

-- no more frames than records
pub within : (connection : ℕ) (log : Log) → length (frames_sent connection log) + length (frames_received connection log) ≤ length log.records
within connection log = within_list connection log.records

-- ---- one message further

pub ends_here : (r s : List (List ℕ)) (m : ℕ) (total : Option ℕ) → total ≡ option_map (λ k. m + k) (first_fault r s) → r ≡ [] → None ≡ total
unfolding first_fault
ends_here r s m total so_far e = sym (so_far ∙ ap (λ l. option_map (λ k. m + k) (first_fault l s)) e)

pub none_sent : (r s : List (List ℕ)) (m : ℕ) (total : Option ℕ) (x : List ℕ) (rest : List (List ℕ)) → total ≡ option_map (λ k. m + k) (first_fault r s) → r ≡ x ∷ rest → s ≡ [] → Some m ≡ total
unfolding first_fault
none_sent r s m total x rest so_far e f =
    let one : option_map (λ k. m + k) (first_fault r s) ≡ Some (m + 0) = rw (e, f) refl in
    let zeroth : m + 0 ≡ m = omega arith in
    sym (so_far ∙ one ∙ ap Some zeroth)

not_same : (t : Bool) → not t ≡ true → t ≡ false
not_same true e = absurd cc
not_same false e = refl

same_after : (t : Bool) → not t ≡ false → t ≡ true
same_after true e = refl
same_after false e = absurd cc

pub another_sent : (r s : List (List ℕ)) (m : ℕ) (total : Option ℕ) (x y : List ℕ) (rs ss : List (List ℕ)) (b : Bool) → total ≡ option_map (λ k. m + k) (first_fault r s) → r ≡ x ∷ rs → s ≡ y ∷ ss → b ≡ not (bytes_eq x y) → b ≡ true → Some m ≡ total
unfolding first_fault
another_sent r s m total x y rs ss b so_far e f is fails =
    let one : option_map (λ k. m + k) (first_fault r s) ≡ Some (m + 0) = rw (e, f, not_same _ (sym is ∙ fails)) refl in
    let zeroth : m + 0 ≡ m = omega arith in
    sym (so_far ∙ one ∙ ap Some zeroth)

one_further : (m : ℕ) (o : Option ℕ) → option_map (λ k. m + k) (option_map suc o) ≡ option_map (λ k. m + 1 + k) o
one_further m None = refl
one_further m (Some k) = let e : m + suc k ≡ m + 1 + k = omega arith in ap Some e

pub goes_on : (r s : List (List ℕ)) (m : ℕ) (total : Option ℕ) (x y : List ℕ) (rs ss : List (List ℕ)) (b : Bool) → total ≡ option_map (λ k. m + k) (first_fault r s) → r ≡ x ∷ rs → s ≡ y ∷ ss → b ≡ not (bytes_eq x y) → b ≡ false
    → total ≡ option_map (λ k. m + 1 + k) (first_fault rs ss)
unfolding first_fault
goes_on r s m total x y rs ss b so_far e f is holds =
    let one : option_map (λ k. m + k) (first_fault r s) ≡ option_map (λ k. m + k) (option_map suc (first_fault rs ss)) = rw (e, f, same_after _ (sym is ∙ holds)) refl in
    so_far ∙ one ∙ one_further m (first_fault rs ss)

-- ---- the outcome, by what was found

pub broken_at_first : (link : Ends) (v m : ℕ) → v ≡ link.first.vat → Some m ≡ first_fault (frames_received link.connection link.first) (frames_sent link.connection link.second) → IsOutcome link (Broken v m)
broken_at_first link v m vat fault = inl (record { end = vat; fault = least_from_some _ _ m (sym fault) })

pub broken_at_second : (link : Ends) (v m : ℕ) → v ≡ link.second.vat → None ≡ first_fault (frames_received link.connection link.first) (frames_sent link.connection link.second)
    → Some m ≡ first_fault (frames_received link.connection link.second) (frames_sent link.connection link.first) → IsOutcome link (Broken v m)
broken_at_second link v m vat none fault = inr (record { end = vat; at_first = prefix_from_none _ _ (sym none); fault = least_from_some _ _ m (sym fault) })

pub good_link : (link : Ends) (r1 r2 s1 s2 : ℕ) → None ≡ first_fault (frames_received link.connection link.first) (frames_sent link.connection link.second) → None ≡ first_fault (frames_received link.connection link.second) (frames_sent link.connection link.first)
    → r1 ≡ length (frames_received link.connection link.first) → r2 ≡ length (frames_received link.connection link.second) → s1 ≡ length (frames_sent link.connection link.first) → s2 ≡ length (frames_sent link.connection link.second)
    → IsOutcome link (Good (r1 + r2) (s1 - r2 + (s2 - r1)))
good_link link r1 r2 s1 s2 first second er1 er2 es1 es2 =
    let p = prefix_from_none _ _ (sym first) in
    let q = prefix_from_none _ _ (sym second) in
    record { at_first = p; at_second = q; came = omega (arith, er1, er2); went = omega (arith, length_prefix _ _ p, length_prefix _ _ q, er1, er2, es1, es2) }
