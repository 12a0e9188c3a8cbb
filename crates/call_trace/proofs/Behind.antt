-- Until where calls are overtaken, by walking over the steps.
use Rattle.std.proofs.Common.{◌≡◌, ◌∙◌, ℕ, ◌+◌, ◌<◌, ◌≤◌, inl, inr, refl, sym, ap, ap₂, ◌==◌, List, [], ◌∷◌, ◌++◌, Bool, true, false, ◌&&◌, ◌||◌, reverse, take, drop, length, get_or, arith, nat_lt}
use Rattle.std.specs.List.{list_any}
use Rattle.std.proofs.lemmas.Bool.{cases_lt, le-ltb, lt-ltb}
use Rattle.std.proofs.lemmas.Bool.Decides.{nat_tests}
use Rattle.std.proofs.lemmas.List.{take_all, take_more, drop_all, drop-append-le, length-take-le, length_push}
use Rattle.std.proofs.lemmas.List.Folds.{list_any-append}
use Rattle.run_model.specs.Early.{overtakes}
use Rattle.run_model.specs.Legal.{delivers_call}
use Rattle.run_model.specs.Right.{is_made_before, makes_through}
use Rattle.run_model.specs.Steps.{PastSteps, call, is_same_call}
use Rattle.run_model.specs.declared.step.Step.TheVariants.{Host, Make, Deliver}
use Rattle.run_model.proofs.Numbers.{past_more}
use Rattle.call_trace.specs.Glue.Overtaking.{latest_of, IsPlaceNoted, AreDeliveries, AreOvertaken}
use Rattle.call_trace.specs.Types.{Name, Cap, Step}
use Rattle.call_trace.specs.declared.latest.Latest.{Latest}
use Rattle.call_trace.proofs.Noting.{later_if}

-- a step makes a call through this reference of this vat, and one of the later steps delivers it
abbrev pub reaches : ℕ → ℕ → List Step → Step → Bool
reaches v r later (Make w number cap reference interface method) = ((w == v) && (reference == r)) && list_any (delivers_call (call w number)) later
reaches v r later _ = false

-- a call that was made before this one through its reference is delivered by one of the later steps
abbrev pub is_behind : Name → List Step → PastSteps → Bool
is_behind c later [] = false
is_behind c later (Make v number cap reference interface method ∷ before) =
    (is_same_call (call v number) c && list_any (reaches v reference later) before) || is_behind c later before
is_behind c later (_ ∷ before) = is_behind c later before

-- ---- where calls are delivered

or_nothing : (b : Bool) → (b || false) ≡ b
or_nothing true = refl
or_nothing false = refl

or_swap : (a b : Bool) → (a || b) ≡ (b || a)
or_swap true true = refl
or_swap true false = refl
or_swap false true = refl
or_swap false false = refl

and_swap : (a b : Bool) → (a && b) ≡ (b && a)
and_swap true true = refl
and_swap true false = refl
and_swap false true = refl
and_swap false false = refl

-- of a front with one step more
any_pushed : (test : Step → Bool) (front : List Step) (s : Step) (k i : ℕ) → length front ≡ i → list_any test (drop k (front ++ s ∷ [])) ≡ ((test s && nat_lt k (i + 1)) || list_any test (drop k front))
any_pushed test front s k i is =
    elim (cases_lt i k) [
      | inl past ↦
          ap (list_any test) (drop_all k (front ++ s ∷ []) (let l = length_push front s in omega (arith, l, is, past)))
          ∙ sym (ap₂ (λ a b. (test s && a) || list_any test b) (le-ltb k (i + 1) (omega (arith, past))) (drop_all k front (omega (arith, is, past))) ∙ or_nothing _ ∙ and_swap (test s) false)
      | inr within ↦
          ap (list_any test) (drop-append-le k front (s ∷ []) (omega (arith, is, within)))
          ∙ list_any-append test (drop k front) (s ∷ [])
          ∙ or_swap (list_any test (drop k front)) (test s || false)
          ∙ ap (λ a. a || list_any test (drop k front)) (or_nothing (test s) ∙ and_swap true (test s) ∙ sym (ap (λ b. test s && b) (lt-ltb k (i + 1) (omega (arith, within)))))
    ]

pub any_more : (test : Step → Bool) (run : List Step) (i : ℕ) (s : Step) (k : ℕ) → i < length run → s ≡ get_or run i s
    → list_any test (drop k (take (i + 1) run)) ≡ ((test s && nat_lt k (i + 1)) || list_any test (drop k (take i run)))
any_more test run i s k lt is =
    ap (λ l. list_any test (drop k l)) (take_more run i s lt ∙ ap (λ t. take i run ++ t ∷ []) (sym is))
    ∙ any_pushed test (take i run) s k i (length-take-le i run (omega (arith, lt)))

pub delivers_none : (s : Step) → ((v : ℕ) (d : Name) (o : ℕ) → s ≡ Deliver v d o → ⊥) → (c : Name) → delivers_call c s ≡ false
delivers_none (Deliver v d o) not c = absurd (not v d o refl)
delivers_none (Host v o) not c = refl
delivers_none _ not c = refl

pub reaches_none : (s : Step) → ((v n : ℕ) (cap : Cap) (r f m : ℕ) → s ≡ Make v n cap r f m → ⊥) → (v r : ℕ) (later : List Step) → reaches v r later s ≡ false
reaches_none (Make w n cap q f m) not v r later = absurd (not w n cap q f m refl)
reaches_none (Host w o) not v r later = refl
reaches_none _ not v r later = refl

pub behind_none : (s : Step) → ((v n : ℕ) (cap : Cap) (r f m : ℕ) → s ≡ Make v n cap r f m → ⊥) → (c : Name) (later : List Step) (before : PastSteps) → is_behind c later (s ∷ before) ≡ is_behind c later before
behind_none (Make w n cap q f m) not c later before = absurd (not w n cap q f m refl)
behind_none (Host w o) not c later before = refl
behind_none _ not c later before = refl

-- ---- to be behind is to be overtaken

any_same : (f g : Step → Bool) (xs : List Step) → ((s : Step) → f s ≡ g s) → list_any f xs ≡ list_any g xs
any_same f g [] same = refl
any_same f g (s ∷ xs) same = ap₂ (λ a b. a || b) (same s) (any_same f g xs same)

any_never : (f : Step → Bool) (xs : List Step) → ((s : Step) → f s ≡ false) → list_any f xs ≡ false
any_never f [] never = refl
any_never f (s ∷ xs) never = ap₂ (λ a b. a || b) (never s) (any_never f xs never)

or_four : (a b c d : Bool) → ((a || b) || (c || d)) ≡ ((a || c) || (b || d))
or_four true b c d = refl
or_four false true true d = refl
or_four false true false d = refl
or_four false false c d = refl

any_or : (f g : Step → Bool) (xs : List Step) → list_any (λ s. f s || g s) xs ≡ (list_any f xs || list_any g xs)
any_or f g [] = refl
any_or f g (s ∷ xs) = ap (λ b. (f s || g s) || b) (any_or f g xs) ∙ or_four (f s) (g s) (list_any f xs) (list_any g xs)

any_and : (b : Bool) (f : Step → Bool) (xs : List Step) → list_any (λ s. b && f s) xs ≡ (b && list_any f xs)
any_and true f xs = refl
any_and false f xs = any_never (λ s. false) xs (λ s. refl)

-- a step delivers a call that was made through the reference
abbrev through : ℕ → ℕ → PastSteps → Step → Bool
through v r before (Deliver w d o) = list_any (makes_through v r d) before
through v r before _ = false

-- a step delivers the call that this step makes through the reference
abbrev through_one : ℕ → ℕ → Step → Step → Bool
through_one v r u (Deliver w d o) = makes_through v r d u
through_one v r u _ = false

no_through : (v r : ℕ) (s : Step) → through v r [] s ≡ false
no_through v r (Deliver w d o) = refl
no_through v r (Host w o) = refl
no_through v r _ = refl

through_more : (v r : ℕ) (u : Step) (before : PastSteps) (s : Step) → through v r (u ∷ before) s ≡ (through_one v r u s || through v r before s)
through_more v r u before (Deliver w d o) = refl
through_more v r u before (Host w o) = refl
through_more v r u before _ = refl

eq_swap : (m n : ℕ) → (m == n) ≡ (n == m)
eq_swap m n = grind (arith, nat_tests)

same_swap : (c d : Name) → is_same_call c d ≡ is_same_call d c
same_swap c d = ap₂ (λ a b. a && b) (eq_swap c.maker d.maker) (eq_swap c.number d.number)

-- the call that a Make makes
through_make : (v r w n : ℕ) (cap : Cap) (q f m : ℕ) (s : Step) → through_one v r (Make w n cap q f m) s ≡ (((w == v) && (q == r)) && delivers_call (call w n) s)
through_make v r w n cap q f m (Deliver x d o) = ap (λ b. ((w == v) && (q == r)) && b) (same_swap (call w n) d)
through_make v r w n cap q f m (Host x o) = sym (and_swap ((w == v) && (q == r)) false)
through_make v r w n cap q f m _ = sym (and_swap ((w == v) && (q == r)) false)

makes_none : (u : Step) → ((w n : ℕ) (cap : Cap) (q f m : ℕ) → u ≡ Make w n cap q f m → ⊥) → (v r : ℕ) (d : Name) → makes_through v r d u ≡ false
makes_none (Make w n cap q f m) not v r d = absurd (not w n cap q f m refl)
makes_none (Host w o) not v r d = refl
makes_none _ not v r d = refl

no_one : (v r : ℕ) (u : Step) → ((w n : ℕ) (cap : Cap) (q f m : ℕ) → u ≡ Make w n cap q f m → ⊥) → (s : Step) → through_one v r u s ≡ false
no_one v r u not (Deliver x d p) = makes_none u not v r d
no_one v r u not (Host x p) = refl
no_one v r u not _ = refl

-- a step reaches what the later steps deliver of what it makes
reaches_one : (v r : ℕ) (later : List Step) (u : Step) → list_any (through_one v r u) later ≡ reaches v r later u
reaches_one v r later (Make w n cap q f m) =
    any_same (through_one v r (Make w n cap q f m)) (λ s. ((w == v) && (q == r)) && delivers_call (call w n) s) later (through_make v r w n cap q f m)
    ∙ any_and ((w == v) && (q == r)) (delivers_call (call w n)) later
reaches_one v r later (Host w o) = any_never (through_one v r (Host w o)) later (no_one v r (Host w o) (λ w n cap q f m e. cc))
reaches_one v r later u = any_never (through_one v r u) later (no_one v r u (λ w n cap q f m e. cc))

-- the two ways to walk over pairs of steps
reaches_through : (v r : ℕ) (later : List Step) (before : PastSteps) → list_any (through v r before) later ≡ list_any (reaches v r later) before
reaches_through v r later [] = any_never (through v r []) later (no_through v r)
reaches_through v r later (u ∷ before) =
    any_same (through v r (u ∷ before)) (λ s. through_one v r u s || through v r before s) later (through_more v r u before)
    ∙ any_or (through_one v r u) (through v r before) later
    ∙ ap₂ (λ a b. a || b) (reaches_one v r later u) (reaches_through v r later before)

overtakes_none : (c : Name) (s : Step) → overtakes [] c s ≡ false
overtakes_none c (Deliver v d o) = refl
overtakes_none c (Host v o) = refl
overtakes_none c _ = refl

overtakes_make : (w n : ℕ) (cap : Cap) (q f m : ℕ) (before : PastSteps) (c : Name) (s : Step)
    → overtakes (Make w n cap q f m ∷ before) c s ≡ ((is_same_call (call w n) c && through w q before s) || overtakes before c s)
overtakes_make w n cap q f m before c (Deliver v d o) = refl
overtakes_make w n cap q f m before c (Host v o) = sym (or_nothing _ ∙ and_swap (is_same_call (call w n) c) false)
overtakes_make w n cap q f m before c _ = sym (or_nothing _ ∙ and_swap (is_same_call (call w n) c) false)

made_other : (u : Step) → ((w n : ℕ) (cap : Cap) (q f m : ℕ) → u ≡ Make w n cap q f m → ⊥) → (before : PastSteps) (d c : Name) → is_made_before d c (u ∷ before) ≡ is_made_before d c before
made_other (Make w n cap q f m) not before d c = absurd (not w n cap q f m refl)
made_other (Host w o) not before d c = refl
made_other _ not before d c = refl

overtakes_other : (u : Step) → ((w n : ℕ) (cap : Cap) (q f m : ℕ) → u ≡ Make w n cap q f m → ⊥) → (before : PastSteps) (c : Name) (s : Step) → overtakes (u ∷ before) c s ≡ overtakes before c s
overtakes_other u not before c (Deliver v d o) = made_other u not before d c
overtakes_other u not before c (Host v o) = refl
overtakes_other u not before c _ = refl

pub behind_is_overtaken : (c : Name) (later : List Step) (past : PastSteps) → is_behind c later past ≡ list_any (overtakes past c) later
behind_is_overtaken c later [] = sym (any_never (overtakes [] c) later (overtakes_none c))
behind_is_overtaken c later (Make w n cap q f m ∷ before) =
    sym (
    any_same (overtakes (Make w n cap q f m ∷ before) c) (λ s. (is_same_call (call w n) c && through w q before s) || overtakes before c s) later (overtakes_make w n cap q f m before c)
    ∙ any_or (λ s. is_same_call (call w n) c && through w q before s) (overtakes before c) later
    ∙ ap₂ (λ a b. a || b) (any_and (is_same_call (call w n) c) (through w q before) later ∙ ap (λ b. is_same_call (call w n) c && b) (reaches_through w q later before)) (sym (behind_is_overtaken c later before))
    )
behind_is_overtaken c later (Host w o ∷ before) =
    behind_is_overtaken c later before ∙ sym (any_same (overtakes (Host w o ∷ before) c) (overtakes before c) later (overtakes_other (Host w o) (λ w n cap q f m e. cc) before c))
behind_is_overtaken c later (u ∷ before) =
    behind_is_overtaken c later before ∙ sym (any_same (overtakes (u ∷ before) c) (overtakes before c) later (overtakes_other u (λ w n cap q f m e. cc) before c))

-- ---- tables, one step further

-- the table says where the calls are delivered last by the first steps
abbrev pub IsDelivered : List Step → ℕ → Latest → Type 0
IsDelivered run i table = (c : Name) (k : ℕ) → nat_lt k (latest_of table c.maker c.number) ≡ list_any (delivers_call c) (drop k (take i run))

pub delivered_more : (run : List Step) (i : ℕ) (s : Step) (v : ℕ) (d : Name) (o : ℕ) (old new : Latest) → i < length run → s ≡ get_or run i s → s ≡ Deliver v d o
    → IsPlaceNoted d.maker d.number (i + 1) old new → IsDelivered run i old → IsDelivered run (i + 1) new
delivered_more run i s v d o old new lt at is raise before c k =
    ap (λ n. nat_lt k n) (raise c.maker c.number)
    ∙ later_if (is_same_call d c) k (i + 1) (latest_of old c.maker c.number)
    ∙ ap₂ (λ a b. (a && nat_lt k (i + 1)) || b) (sym (ap (delivers_call c) is)) (before c k)
    ∙ sym (any_more (delivers_call c) run i s k lt at)

pub delivered_same : (run : List Step) (i : ℕ) (s : Step) (old : Latest) → i < length run → s ≡ get_or run i s → ((v : ℕ) (d : Name) (o : ℕ) → s ≡ Deliver v d o → ⊥)
    → IsDelivered run i old → IsDelivered run (i + 1) old
delivered_same run i s old lt at not before c k =
    before c k
    ∙ ap (λ a. (a && nat_lt k (i + 1)) || list_any (delivers_call c) (drop k (take i run))) (sym (delivers_none s not c))
    ∙ sym (any_more (delivers_call c) run i s k lt at)

-- the tables say what of the first steps is reached and behind by the later ones
abbrev pub IsReached : List Step → ℕ → Latest → Latest → Type 0
IsReached run i references calls =
    ((v r k : ℕ) → nat_lt k (latest_of references v r) ≡ list_any (reaches v r (drop k run)) (reverse (take i run)))
    × ((c : Name) (k : ℕ) → nat_lt k (latest_of calls c.maker c.number) ≡ is_behind c (drop k run) (reverse (take i run)))

pub reached_more : (run : List Step) (i : ℕ) (s : Step) (w n : ℕ) (cap : Cap) (q f m : ℕ) (delivered references calls later_references later_calls : Latest) → i < length run → s ≡ get_or run i s
    → s ≡ Make w n cap q f m → AreDeliveries run delivered → IsPlaceNoted w n (latest_of references w q) calls later_calls → IsPlaceNoted w q (latest_of delivered w n) references later_references
    → IsReached run i references calls → IsReached run (i + 1) later_references later_calls
reached_more run i s w n cap q f m delivered references calls later_references later_calls lt at is are raise_call raise_reference before =
    let past : reverse (take (i + 1) run) ≡ Make w n cap q f m ∷ reverse (take i run) = past_more run i s lt at ∙ ap (λ t. t ∷ reverse (take i run)) is in (
      λ v r k.
          ap (λ t. nat_lt k t) (raise_reference v r)
          ∙ later_if ((w == v) && (q == r)) k (latest_of delivered w n) (latest_of references v r)
          ∙ ap₂ (λ a b. (((w == v) && (q == r)) && a) || b) (are (call w n) k) (before.0 v r k)
          ∙ sym (ap (list_any (reaches v r (drop k run))) past),
      λ c k.
          ap (λ t. nat_lt k t) (raise_call c.maker c.number)
          ∙ later_if (is_same_call (call w n) c) k (latest_of references w q) (latest_of calls c.maker c.number)
          ∙ ap₂ (λ a b. (is_same_call (call w n) c && a) || b) (before.0 w q k) (before.1 c k)
          ∙ sym (ap (is_behind c (drop k run)) past),
    )

pub reached_same : (run : List Step) (i : ℕ) (s : Step) (references calls : Latest) → i < length run → s ≡ get_or run i s
    → ((w n : ℕ) (cap : Cap) (q f m : ℕ) → s ≡ Make w n cap q f m → ⊥) → IsReached run i references calls → IsReached run (i + 1) references calls
reached_same run i s references calls lt at not before =
    let past = past_more run i s lt at in (
      λ v r k.
          before.0 v r k
          ∙ ap (λ a. a || list_any (reaches v r (drop k run)) (reverse (take i run))) (sym (reaches_none s not v r (drop k run)))
          ∙ sym (ap (list_any (reaches v r (drop k run))) past),
      λ c k. before.1 c k ∙ sym (behind_none s not c (drop k run) (reverse (take i run))) ∙ sym (ap (is_behind c (drop k run)) past),
    )

pub all_reached : (run : List Step) (i : ℕ) (references calls : Latest) → length run ≤ i → IsReached run i references calls → AreOvertaken run calls
all_reached run i references calls le before c k =
    before.1 c k ∙ ap (λ l. is_behind c (drop k run) (reverse l)) (take_all i run le) ∙ behind_is_overtaken c (drop k run) (reverse run)
