-- Two lists of frames that are compared as they grow, and the fault that is found of them.
use Rattle.std.proofs.Common.{◌≡◌, ◌≢◌, ℕ, zero, suc, ◌<◌, ◌≤◌, Bool, true, false, cond, List, [], ◌∷◌, ◌++◌, length, take, drop, Option, Some, None, refl, sym, ap, subst, ◌∙◌, inl, inr, arith, length-append, append_assoc}
use Rattle.std.specs.Prelude.{is_some, reverse, slice_get, IfSome}
use Rattle.std.specs.Option.{option_copied, option_eq, option_map}
use Rattle.std.specs.Str.{bytes_eq}
use Rattle.std.proofs.lemmas.Bool.{false≢true}
use Rattle.std.proofs.lemmas.List.{append-nil, nil_from_length, reverse-append, take_at, take-append-le}
use Rattle.std.proofs.lemmas.Slice.Eq.{bytes_eq-Decides}
use Rattle.link_check.specs.Glue.{first_fault}
use Rattle.link_check.specs.Prefix.{IsLeastFault}
use Rattle.link_check.proofs.Faults.{least_from_some}
use Rattle.lock_step.specs.QueuedFrames.{AreCompared, Differ}
use denote.Ref.{Bor}

-- ---- elements

-- an element of the front
front_get : (xs ys : List (List ℕ)) (n : ℕ) → n < length xs → slice_get (xs ++ ys) n ≡ slice_get xs n
front_get [] ys n lt = absurd (omega arith)
front_get (x ∷ xs) ys zero lt = refl
front_get (x ∷ xs) ys (suc n) lt = front_get xs ys n (omega arith)

-- the one behind the front
seam_get : (xs ys : List (List ℕ)) → slice_get (xs ++ ys) (length xs) ≡ slice_get ys 0
seam_get [] ys = refl
seam_get (x ∷ xs) ys = seam_get xs ys

-- the first one, where it is this frame
pub first_same : (first : Option (Bor (List ℕ))) (waiting : List (List ℕ)) (frame : Bor (List ℕ)) (b : Bool) → option_copied first ≡ slice_get waiting 0 → b ≡ option_eq (λ x y. bytes_eq x.now y.now) first (Some frame)
    → b ≡ true → waiting ≡ frame.now ∷ drop 1 waiting
first_same None waiting frame b is e holds = absurd (false≢true (sym e ∙ holds))
first_same (Some x) [] frame b is e holds = absurd cc
first_same (Some x) (w ∷ ws) frame b is e holds =
    let same : x.now ≡ frame.now = (bytes_eq-Decides x.now frame.now).0 (sym e ∙ holds) in
    let front : x.now ≡ w = cc in
    ap (λ f. f ∷ ws) (sym front ∙ same)

-- the first one, where it isn't
pub first_other : (first : Option (Bor (List ℕ))) (waiting : List (List ℕ)) (frame : Bor (List ℕ)) (b : Bool) → option_copied first ≡ slice_get waiting 0 → b ≡ option_eq (λ x y. bytes_eq x.now y.now) first (Some frame)
    → b ≡ false → Some frame.now ≢ slice_get waiting 0
first_other None waiting frame b is e fails = λ same. cc
first_other (Some x) waiting frame b is e fails = λ same.
    let one : Some x.now ≡ Some frame.now = is ∙ sym same in
    let eq : x.now ≡ frame.now = cc in
    false≢true (sym fails ∙ e ∙ (bytes_eq-Decides x.now frame.now).1 eq)

-- ---- two lists, of which one grows

-- lists that differ go on to, whatever comes
differ_longer : (one other more later : List (List ℕ)) (m : ℕ) → Differ one other m → Differ (one ++ more) (other ++ later) m
differ_longer one other more later m d = record {
  in_one = omega (arith, d.in_one, length-append one more);
  in_other = omega (arith, d.in_other, length-append other later);
  differs = λ e. d.differs (sym (front_get one more m d.in_one) ∙ e ∙ front_get other later m d.in_other);
  same = take-append-le m one more (omega (arith, d.in_one)) ∙ d.same ∙ sym (take-append-le m other later (omega (arith, d.in_other)));
}

-- they differ already
pub still_apart : (own other waiting : List (List ℕ)) (frame : List ℕ) (difference : Option ℕ) → is_some difference ≡ true → AreCompared own other difference waiting → AreCompared (own ++ frame ∷ []) other difference waiting
still_apart own other waiting frame None e h = absurd cc
still_apart own other waiting frame (Some m) e (d, none) =
    (subst (λ l. Differ (own ++ frame ∷ []) l m) (append-nil other) (differ_longer own other (frame ∷ []) [] m d), none)

-- the shorter list is the beginning of the other
behind : (own other waiting : List (List ℕ)) → length own < length other → AreCompared own other None waiting → other ≡ own ++ waiting
behind own other waiting lt (inl ahead) = absurd (omega (arith, lt, ap length ahead, length-append other waiting))
behind own other waiting lt (inr back) = back

-- the frame that comes is the first one that waits
pub meets : (own other waiting : List (List ℕ)) (frame : List ℕ) (difference : Option ℕ) → is_some difference ≡ false → length own < length other → waiting ≡ frame ∷ drop 1 waiting
    → AreCompared own other difference waiting → AreCompared (own ++ frame ∷ []) other difference (drop 1 waiting)
meets own other waiting frame (Some m) e lt first h = absurd cc
meets own other waiting frame None e lt first h =
    inr (behind own other waiting lt h ∙ ap (λ l. own ++ l) first ∙ sym (append_assoc own (frame ∷ []) (drop 1 waiting)))

-- it isn't, so the lists differ there
pub parts : (own other waiting : List (List ℕ)) (frame : List ℕ) (difference : Option ℕ) (count : ℕ) → is_some difference ≡ false → length own ≡ count → length own < length other → Some frame ≢ slice_get waiting 0
    → AreCompared own other difference waiting → Differ (own ++ frame ∷ []) other count
parts own other waiting frame (Some m) count e here lt apart h = absurd cc
parts own other waiting frame None count e here lt apart h =
    let back = behind own other waiting lt h in
    subst (λ m. Differ (own ++ frame ∷ []) other m) here (record {
      in_one = omega (arith, length-append own (frame ∷ []));
      in_other = lt;
      differs = λ same. apart (sym (seam_get own (frame ∷ [])) ∙ same ∙ ap (λ l. slice_get l (length own)) back ∙ seam_get own waiting);
      same = take_at own (frame ∷ []) (length own) refl ∙ sym (take_at own waiting (length own) refl) ∙ ap (λ l. take (length own) l) (sym back);
    })

-- the two lists in the other order
pub other_way : (one other waiting : List (List ℕ)) (difference : Option ℕ) → AreCompared one other difference waiting → AreCompared other one difference waiting
other_way one other waiting None (inl h) = inr h
other_way one other waiting None (inr h) = inl h
other_way one other waiting (Some m) (d, none) =
    (record { in_one = d.in_other; in_other = d.in_one; differs = λ e. d.differs (sym e); same = sym d.same }, none)

-- one more in the second list, of which the newest is kept first
pub in_second : (one back : List (List ℕ)) (frame : List ℕ) (waiting : List (List ℕ)) (difference : Option ℕ) → AreCompared (reverse back ++ frame ∷ []) one difference waiting → AreCompared one (reverse (frame ∷ back)) difference waiting
in_second one back frame waiting difference h =
    subst (λ l. AreCompared one l difference waiting) (sym (reverse-append (frame ∷ []) back)) (other_way (reverse back ++ frame ∷ []) one waiting difference h)

-- ---- the fault

apart_here : (b : Bool) (o : Option ℕ) → b ≡ false → cond b (option_map suc o) (Some 0) ≡ Some 0
apart_here b o e = rw e refl

same_here : (b : Bool) (o : Option ℕ) (m : ℕ) → b ≡ true → o ≡ Some m → cond b (option_map suc o) (Some 0) ≡ Some (suc m)
same_here b o m e f = rw (e, f) refl

same_bytes : (r s : List ℕ) → s ≡ r → bytes_eq r s ≡ true
same_bytes r s e = (bytes_eq-Decides r s).1 (sym e)

not_same : (b : Bool) → (b ≡ true → ⊥) → b ≡ false
not_same true apart = absurd (apart refl)
not_same false apart = refl

-- where they differ
found : (received sent : List (List ℕ)) (m : ℕ) → Differ sent received m → first_fault received sent ≡ Some m
unfolding first_fault
found [] sent m d = absurd (omega (arith, d.in_other))
found (r ∷ received) [] m d = absurd (omega (arith, d.in_one))
found (r ∷ received) (s ∷ sent) zero d =
    apart_here (bytes_eq r s) (first_fault received sent) (not_same (bytes_eq r s) (λ e. d.differs (ap Some (sym ((bytes_eq-Decides r s).0 e)))))
found (r ∷ received) (s ∷ sent) (suc m) d =
    let front : s ≡ r = cc d.same in
    let rest : take m sent ≡ take m received = cc d.same in
    let within : m < length sent = omega (arith, d.in_one) in
    let other_within : m < length received = omega (arith, d.in_other) in
    same_here (bytes_eq r s) (first_fault received sent) m (same_bytes r s front) (found received sent m (record { in_one = within; in_other = other_within; differs = d.differs; same = rest }))

-- where more was received than sent
found_ahead : (sent waiting : List (List ℕ)) → 0 < length waiting → first_fault (sent ++ waiting) sent ≡ Some (length sent)
unfolding first_fault
found_ahead [] [] some = absurd (omega arith)
found_ahead [] (w ∷ waiting) some = refl
found_ahead (s ∷ sent) waiting some = same_here (bytes_eq s s) _ (length sent) (same_bytes s s refl) (found_ahead sent waiting some)

none_here : (b : Bool) (o : Option ℕ) → b ≡ true → o ≡ None → cond b (option_map suc o) (Some 0) ≡ None
none_here b o e f = rw (e, f) refl

-- where all that was received was sent
found_none : (received waiting : List (List ℕ)) → first_fault received (received ++ waiting) ≡ None
unfolding first_fault
found_none [] waiting = refl
found_none (r ∷ received) waiting = none_here (bytes_eq r r) _ (same_bytes r r refl) (found_none received waiting)

-- a difference is the fault
pub difference_is : (sent received waiting : List (List ℕ)) (difference : Option ℕ) → is_some difference ≡ true → AreCompared sent received difference waiting → difference ≡ first_fault received sent
difference_is sent received waiting None e h = absurd cc
difference_is sent received waiting (Some m) e (d, none) = sym (found received sent m d)

-- more was received than sent
pub ahead_is : (sent received waiting : List (List ℕ)) (difference : Option ℕ) → is_some difference ≡ false → length sent < length received → AreCompared sent received difference waiting → Some (length sent) ≡ first_fault received sent
ahead_is sent received waiting (Some m) e lt h = absurd cc
ahead_is sent received waiting None e lt h =
    let back = behind sent received waiting lt h in
    let some : 0 < length waiting = omega (arith, lt, ap length back, length-append sent waiting) in
    sym (ap (λ l. first_fault l sent) back ∙ found_ahead sent waiting some)

-- all that was received was sent
pub none_is : (sent received waiting : List (List ℕ)) (difference : Option ℕ) → is_some difference ≡ false → length received ≤ length sent → AreCompared sent received difference waiting → None ≡ first_fault received sent
none_is sent received waiting (Some m) e le h = absurd cc
none_is sent received waiting None e le (inl ahead) = sym (ap (λ l. first_fault received l) ahead ∙ found_none received waiting)
none_is sent received waiting None e le (inr back) =
    let none : waiting ≡ [] = nil_from_length waiting (omega (arith, le, ap length back, length-append sent waiting)) in
    let same : sent ≡ received ++ [] = sym (append-nil sent) ∙ ap (λ l. sent ++ l) (sym none) ∙ sym back ∙ sym (append-nil received) in
    sym (ap (λ l. first_fault received l) same ∙ found_none received [])

-- what is found is the least fault
pub least_is : (received sent : List (List ℕ)) (o : Option ℕ) → o ≡ first_fault received sent → IfSome o (λ message. IsLeastFault received sent message)
least_is received sent None e = tt
least_is received sent (Some m) e = least_from_some received sent m (sym e)
