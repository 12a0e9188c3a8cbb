-- Sequences of frames have numbers that tell them apart.
use Rattle.std.proofs.Common.{◌≡◌, ◌⊎◌, inl, inr, ◌∷◌, ◌++◌, [], ℕ, List, Bool, true, false, cond, Option, Some, None, length, take, drop, get_or, refl, sym, ap, ◌∙◌, arith, ◌≤◌, ◌<◌, ◌+◌, ◌-◌}
use Rattle.std.specs.Prelude.{slice_get, slice_index, option_and_then, unwrap_or, reverse}
use Rattle.std.proofs.lemmas.List.{append-nil, take-append-drop, take_all, take_at, take-append-le, reverse-append, reverse-reverse, length_push, get_or_push, get_or_append_left, nil_from_length, length-append}
use Rattle.std.proofs.lemmas.Option.{none-some, same_Some, option_and_then_some, slice_get-get_or, slice_get_within, get_or_from_slice_get, slice_get_past}
use Rattle.std.proofs.lemmas.Bool.{cases_lt}
use Rattle.link_check.specs.Prefix.{IsPrefix}
use Rattle.log_ends.specs.Glue.{number_from, AreGiven, AreNumberedApart, Traces}

-- ---- one more frame

and_itself : (o : Option ℕ) → option_and_then (λ n. Some n) o ≡ o
and_itself None = refl
and_itself (Some n) = refl

one_more : (next : ℕ × List ℕ → Option ℕ) (fs : List (List ℕ)) (frame : List ℕ) → ((n : ℕ) → number_from next n (fs ++ (frame ∷ [])) ≡ option_and_then (λ k. next (k, frame)) (number_from next n fs)) → (o : Option ℕ) →
    option_and_then (λ n. number_from next n (fs ++ (frame ∷ []))) o ≡ option_and_then (λ n. next (n, frame)) (option_and_then (λ n. number_from next n fs) o)
one_more next fs frame rest None = refl
one_more next fs frame rest (Some n) = rest n

-- the number of a sequence with one more frame
pub behind : (next : ℕ × List ℕ → Option ℕ) (at : ℕ) (frames : List (List ℕ)) (frame : List ℕ) → number_from next at (frames ++ (frame ∷ [])) ≡ option_and_then (λ n. next (n, frame)) (number_from next at frames)
unfolding number_from
behind next at [] frame = and_itself (next (at, frame))
behind next at (f ∷ fs) frame = one_more next fs frame (λ n. behind next n fs frame) (next (at, f))

pub behind_some : (next : ℕ × List ℕ → Option ℕ) (frames : List (List ℕ)) (frame : List ℕ) (n m : ℕ) → number_from next 0 frames ≡ Some n → next (n, frame) ≡ Some m → number_from next 0 (frames ++ (frame ∷ [])) ≡ Some m
behind_some next frames frame n m e h = behind next 0 frames frame ∙ ap (λ o. option_and_then (λ k. next (k, frame)) o) e ∙ h

pub of_none : (next : ℕ × List ℕ → Option ℕ) → number_from next 0 [] ≡ Some 0
unfolding number_from
of_none next = refl

-- ---- numbers stay where more are given

pub kept_from : (next later : ℕ × List ℕ → Option ℕ) → ((key : ℕ × List ℕ) (n : ℕ) → next key ≡ Some n → later key ≡ Some n) → (at : ℕ) (frames : List (List ℕ)) (n : ℕ) → number_from next at frames ≡ Some n → number_from later at frames ≡ Some n
unfolding number_from
kept_from next later more at [] n e = e
kept_from next later more at (f ∷ fs) n e =
    option_and_then_some (λ m. number_from next m fs) (next (at, f)) n e
    (λ m is rest. ap (λ o. option_and_then (λ k. number_from later k fs) o) (more (at, f) m is) ∙ kept_from next later more m fs n rest)

-- ---- the same number, the same sequence

-- the number of the sequence that is this one backwards
back : (ℕ × List ℕ → Option ℕ) → List (List ℕ) → Option ℕ
back next [] = Some 0
back next (f ∷ fs) = option_and_then (λ n. next (n, f)) (back next fs)

back_is : (next : ℕ × List ℕ → Option ℕ) (fs : List (List ℕ)) → number_from next 0 (reverse fs) ≡ back next fs
unfolding number_from back
back_is next [] = refl
back_is next (f ∷ fs) =
    let turned : reverse (f ∷ fs) ≡ reverse fs ++ (f ∷ []) = reverse-append (f ∷ []) fs in
    ap (λ l. number_from next 0 l) turned ∙ behind next 0 (reverse fs) f ∙ ap (λ o. option_and_then (λ n. next (n, f)) o) (back_is next fs)

back_told : (next : ℕ × List ℕ → Option ℕ) (count : ℕ) → AreGiven next count → (fs gs : List (List ℕ)) (n : ℕ) → back next fs ≡ Some n → back next gs ≡ Some n → fs ≡ gs
unfolding back
back_told next count given [] [] n e h = refl
back_told next count given [] (g ∷ gs) n e h =
    option_and_then_some (λ m. next (m, g)) (back next gs) n h (λ m is last. let above : 0 < n = (given.within (m, g) n last).0 in let none : 0 ≡ n = same_Some 0 n e in absurd (omega (arith, above, none)))
back_told next count given (f ∷ fs) [] n e h =
    option_and_then_some (λ m. next (m, f)) (back next fs) n e (λ m is last. let above : 0 < n = (given.within (m, f) n last).0 in let none : 0 ≡ n = same_Some 0 n h in absurd (omega (arith, above, none)))
back_told next count given (f ∷ fs) (g ∷ gs) n e h =
    option_and_then_some (λ m. next (m, f)) (back next fs) n e (λ m is last.
    option_and_then_some (λ k. next (k, g)) (back next gs) n h (λ k its ends.
    let same : (m, f) ≡ (k, g) = given.apart (m, f) (k, g) n last ends in
    let number : m ≡ k = ap (λ p. p.0) same in
    let frame : f ≡ g = ap (λ p. p.1) same in
    let front : fs ≡ gs = back_told next count given fs gs m is (its ∙ ap Some (sym number)) in
    ap (λ x. x ∷ fs) frame ∙ ap (λ l. g ∷ l) front))

pub told : (next : ℕ × List ℕ → Option ℕ) (count : ℕ) → AreGiven next count → AreNumberedApart (number_from next 0)
told next count given one other n e h =
    let turned : (s : List (List ℕ)) → number_from next 0 s ≡ Some n → back next (reverse s) ≡ Some n = λ s is. sym (back_is next (reverse s)) ∙ ap (λ l. number_from next 0 l) (reverse-reverse s) ∙ is in
    let same : reverse one ≡ reverse other = back_told next count given (reverse one) (reverse other) n (turned one e) (turned other h) in
    sym (reverse-reverse one) ∙ ap reverse same ∙ reverse-reverse other

-- ---- one more number is given

more_at : (key q : ℕ × List ℕ) (next : ℕ × List ℕ → Option ℕ) (made n : ℕ) (b : Bool) → (b ≡ true → key ≡ q) → next key ≡ None → next q ≡ Some n → cond b (Some made) (next q) ≡ Some n
more_at key q next made n true is absent e = absurd (none-some n (sym absent ∙ ap next (is refl) ∙ e))
more_at key q next made n false is absent e = e

-- all that was given stays
pub more : (next later : ℕ × List ℕ → Option ℕ) (test : ℕ × List ℕ → Bool) (key : ℕ × List ℕ) (made : ℕ) → ((q : ℕ × List ℕ) → test q ≡ true → key ≡ q) → next key ≡ None → ((q : ℕ × List ℕ) → later q ≡ cond (test q) (Some made) (next q)) → (q : ℕ × List ℕ) (n : ℕ) → next q ≡ Some n → later q ≡ Some n
more next later test key made is absent update q n e = update q ∙ more_at key q next made n (test q) (is q) absent e

within_at : (count n : ℕ) (b : Bool) (o : Option ℕ) → (o ≡ Some n → (0 < n) × (n ≤ count)) → cond b (Some (count + 1)) o ≡ Some n → (0 < n) × (n ≤ count + 1)
within_at count n true o old e = let is : count + 1 ≡ n = same_Some (count + 1) n e in (omega (arith, is), omega (arith, is))
within_at count n false o old e = (omega (arith, old e), omega (arith, old e))

apart_at : (count n : ℕ) (key p q : ℕ × List ℕ) (next : ℕ × List ℕ → Option ℕ) → AreGiven next count → (b c : Bool) → (b ≡ true → key ≡ p) → (c ≡ true → key ≡ q) → cond b (Some (count + 1)) (next p) ≡ Some n → cond c (Some (count + 1)) (next q) ≡ Some n → p ≡ q
apart_at count n key p q next given true true one other e h = sym (one refl) ∙ other refl
apart_at count n key p q next given true false one other e h =
    let is : count + 1 ≡ n = same_Some (count + 1) n e in
    absurd (omega (arith, is, given.within q n h))
apart_at count n key p q next given false true one other e h =
    let is : count + 1 ≡ n = same_Some (count + 1) n h in
    absurd (omega (arith, is, given.within p n e))
apart_at count n key p q next given false false one other e h = given.apart p q n e h

pub given_more : (next later : ℕ × List ℕ → Option ℕ) (test : ℕ × List ℕ → Bool) (key : ℕ × List ℕ) (count : ℕ) → AreGiven next count → ((q : ℕ × List ℕ) → test q ≡ true → key ≡ q) → ((q : ℕ × List ℕ) → later q ≡ cond (test q) (Some (count + 1)) (next q)) → AreGiven later (count + 1)
given_more next later test key count given is update =
    record {
      within = λ q n e. within_at count n (test q) (next q) (given.within q n) (sym (update q) ∙ e);
      apart = λ p q n e h. apart_at count n key p q next given (test p) (test q) (is p) (is q) (sym (update p) ∙ e) (sym (update q) ∙ h);
    }

-- ---- traces

pub traced_later : (numbers later : List (List ℕ) → Option ℕ) → ((frames : List (List ℕ)) (n : ℕ) → numbers frames ≡ Some n → later frames ≡ Some n) → (trace : List ℕ) (frames : List (List ℕ)) → Traces numbers trace frames → Traces later trace frames
traced_later numbers later keeps trace frames traces = record { count = traces.count; each = λ k lt. keeps (take (k + 1) frames) (slice_index trace k) (traces.each k lt) }

-- the number of all that passed is the last one
pub so_far : (numbers : List (List ℕ) → Option ℕ) (trace : List ℕ) (frames : List (List ℕ)) (last : ℕ) → Traces numbers trace frames → 0 < length trace → slice_get trace (length trace - 1) ≡ Some last → numbers frames ≡ Some last
so_far numbers trace frames last traces some is =
    let place : length trace - 1 < length frames = omega (arith, traces.count, some) in
    let whole : take (length trace - 1 + 1) frames ≡ frames = take_all (length trace - 1 + 1) frames (omega (arith, traces.count, some)) in
    let value : slice_index trace (length trace - 1) ≡ last = get_or_from_slice_get trace (length trace - 1) last 0 is in
    ap numbers (sym whole) ∙ traces.each (length trace - 1) place ∙ ap Some value

pub none_so_far : (numbers : List (List ℕ) → Option ℕ) (trace : List ℕ) (frames : List (List ℕ)) → numbers [] ≡ Some 0 → Traces numbers trace frames → length trace ≡ 0 → numbers frames ≡ Some 0
none_so_far numbers trace frames start traces none = ap numbers (nil_from_length frames (omega (arith, traces.count, none))) ∙ start

-- the number of all that passed is the last one, and 0 where nothing did
pub now_by_last : (numbers : List (List ℕ) → Option ℕ) (trace : List ℕ) (frames : List (List ℕ)) → numbers [] ≡ Some 0 → Traces numbers trace frames → numbers frames ≡ Some (unwrap_or (slice_get trace (length trace - 1)) 0)
now_by_last numbers trace frames start traces = at (cases_lt 0 (length trace)) where
  at : (0 < length trace) ⊎ (length trace ≤ 0) → numbers frames ≡ Some (unwrap_or (slice_get trace (length trace - 1)) 0)
  at (inl some) =
      let place : length trace - 1 < length trace = omega (arith, some) in
      let last : slice_get trace (length trace - 1) ≡ Some (get_or trace (length trace - 1) 0) = slice_get-get_or trace (length trace - 1) 0 place in
      so_far numbers trace frames (get_or trace (length trace - 1) 0) traces some last ∙ ap (λ o. Some (unwrap_or o 0)) (sym last)
  at (inr none) =
      let empty : length trace ≡ 0 = omega (arith, none) in
      let past : slice_get trace (length trace - 1) ≡ None = slice_get_past trace (length trace - 1) (omega (arith, empty)) in
      none_so_far numbers trace frames start traces empty ∙ ap (λ o. Some (unwrap_or o 0)) (sym past)

pub trace_more : (numbers later : List (List ℕ) → Option ℕ) → ((frames : List (List ℕ)) (n : ℕ) → numbers frames ≡ Some n → later frames ≡ Some n) → (trace : List ℕ) (frames : List (List ℕ)) (frame : List ℕ) (n : ℕ) → Traces numbers trace frames → later (frames ++ (frame ∷ [])) ≡ Some n → Traces later (trace ++ (n ∷ [])) (frames ++ (frame ∷ []))
trace_more numbers later keeps trace frames frame n traces last =
    record {
      count = length_push trace n ∙ ap (λ k. k + 1) traces.count ∙ sym (length_push frames frame);
      each = λ k lt. at k lt (cases_lt k (length frames));
    } where
      at : (k : ℕ) → k < length (frames ++ (frame ∷ [])) → (k < length frames) ⊎ (length frames ≤ k) → later (take (k + 1) (frames ++ (frame ∷ []))) ≡ Some (slice_index (trace ++ (n ∷ [])) k)
      at k lt (inl early) =
          let front : take (k + 1) (frames ++ (frame ∷ [])) ≡ take (k + 1) frames = take-append-le (k + 1) frames (frame ∷ []) (omega (arith, early)) in
          let value : get_or (trace ++ (n ∷ [])) k 0 ≡ get_or trace k 0 = get_or_append_left trace (n ∷ []) 0 k (omega (arith, early, traces.count)) in
          ap later front ∙ keeps (take (k + 1) frames) (get_or trace k 0) (traces.each k early) ∙ ap Some (sym value)
      at k lt (inr late) =
          let size : length (frames ++ (frame ∷ [])) ≡ length frames + 1 = length_push frames frame in
          let whole : take (k + 1) (frames ++ (frame ∷ [])) ≡ frames ++ (frame ∷ []) = take_all (k + 1) (frames ++ (frame ∷ [])) (omega (arith, size, late)) in
          let value : get_or (trace ++ (n ∷ [])) k 0 ≡ n = get_or_push trace n 0 k (omega (arith, traces.count, late, lt, size)) in
          ap later whole ∙ last ∙ ap Some (sym value)

-- ---- a prefix by its last number

pub prefix_none : (numbers : List (List ℕ) → Option ℕ) (one other : List ℕ) (ours others : List (List ℕ)) → Traces numbers one ours → length one ≡ 0 → IsPrefix ours others
prefix_none numbers one other ours others traces none = (others, ap (λ l. l ++ others) (sym (nil_from_length ours (omega (arith, traces.count, none)))))

pub prefix_from_last : (numbers : List (List ℕ) → Option ℕ) (one other : List ℕ) (ours others : List (List ℕ)) → AreNumberedApart numbers → Traces numbers one ours → Traces numbers other others → 0 < length one → slice_get other (length one - 1) ≡ slice_get one (length one - 1) → IsPrefix ours others
prefix_from_last numbers one other ours others tells traces theirs some same =
    let place : length one - 1 < length one = omega (arith, some) in
    let last : slice_get one (length one - 1) ≡ Some (get_or one (length one - 1) 0) = slice_get-get_or one (length one - 1) 0 place in
    let within : length one - 1 < length other = slice_get_within other (length one - 1) (get_or one (length one - 1) 0) (same ∙ last) in
    let value : get_or other (length one - 1) 0 ≡ get_or one (length one - 1) 0 = get_or_from_slice_get other (length one - 1) (get_or one (length one - 1) 0) 0 (same ∙ last) in
    let front : numbers (take (length one - 1 + 1) others) ≡ Some (get_or one (length one - 1) 0) = theirs.each (length one - 1) (omega (arith, within, theirs.count)) ∙ ap Some value in
    let alike : take (length one - 1 + 1) others ≡ ours = tells (take (length one - 1 + 1) others) ours (get_or one (length one - 1) 0) front (so_far numbers one ours (get_or one (length one - 1) 0) traces some last) in
    (drop (length one - 1 + 1) others, sym (take-append-drop (length one - 1 + 1) others) ∙ ap (λ l. l ++ drop (length one - 1 + 1) others) alike)

pub last_from_prefix : (numbers : List (List ℕ) → Option ℕ) (one other : List ℕ) (ours others : List (List ℕ)) → Traces numbers one ours → Traces numbers other others → 0 < length one → IsPrefix ours others → slice_get other (length one - 1) ≡ slice_get one (length one - 1)
last_from_prefix numbers one other ours others traces theirs some (rest, parts) =
    let size : length others ≡ length ours + length rest = ap length parts ∙ length-append ours rest in
    let place : length one - 1 < length one = omega (arith, some) in
    let within : length one - 1 < length other = omega (arith, some, traces.count, theirs.count, size) in
    let count : length ours ≡ length one - 1 + 1 = omega (arith, some, traces.count) in
    let front : take (length one - 1 + 1) others ≡ ours = ap (take (length one - 1 + 1)) parts ∙ take_at ours rest (length one - 1 + 1) count in
    let whole : take (length one - 1 + 1) ours ≡ ours = take_all (length one - 1 + 1) ours (omega (arith, count)) in
    let mine : numbers ours ≡ Some (get_or one (length one - 1) 0) = ap numbers (sym whole) ∙ traces.each (length one - 1) (omega (arith, some, traces.count)) in
    let its : numbers ours ≡ Some (get_or other (length one - 1) 0) = ap numbers (sym front) ∙ theirs.each (length one - 1) (omega (arith, some, traces.count, size)) in
    slice_get-get_or other (length one - 1) 0 within ∙ sym its ∙ mine ∙ sym (slice_get-get_or one (length one - 1) 0 place)

pub same_from_prefix : (numbers : List (List ℕ) → Option ℕ) (one other : List ℕ) (ours others : List (List ℕ)) → Traces numbers one ours → Traces numbers other others → length one ≡ length other → IsPrefix ours others → ours ≡ others
same_from_prefix numbers one other ours others traces theirs size (rest, parts) =
    let lengths : length others ≡ length ours + length rest = ap length parts ∙ length-append ours rest in
    let none : rest ≡ [] = nil_from_length rest (omega (arith, size, lengths, traces.count, theirs.count)) in
    sym (parts ∙ ap (λ l. ours ++ l) none ∙ append-nil ours)

pub prefix_from_same : (ours others : List (List ℕ)) → ours ≡ others → IsPrefix ours others
prefix_from_same ours others same = ([], sym same ∙ sym (append-nil ours))

pub not_longer : (numbers : List (List ℕ) → Option ℕ) (one other : List ℕ) (ours others : List (List ℕ)) → Traces numbers one ours → Traces numbers other others → length other < length one → IsPrefix ours others → ⊥
not_longer numbers one other ours others traces theirs longer (rest, parts) =
    let size : length others ≡ length ours + length rest = ap length parts ∙ length-append ours rest in
    omega (arith, size, longer, traces.count, theirs.count)
