-- Lists that have the same numbers, however often, have the same least one.
use Rattle.std.proofs.Common.{◌≡◌, ℕ, Bool, true, List, [], ◌∷◌, Option, Some, None, fold, refl, ap, subst, inl, inr, arith}
use Rattle.std.specs.Prelude.{◌⊎◌, Contains, filter}
use Rattle.std.proofs.lemmas.List.Elements.{All-contains, All-filter, All-contains_itself, Contains-append_right, Contains-append_cases, Contains-push_cases, filter_passes}
use Rattle.case_book.specs.Least.{lower, least, IsLeast}
use Rattle.case_book.proofs.Lowest.{least_of, only_least}
use Rattle.case_book.proofs.Numbers.{bool_cases}
use Rattle.log_lane.specs.UsedOnce.{HaveSame}

nowhere : (n : ℕ) → Contains [] n → ⊥
nowhere n h = let lt = h.1 in omega arith

pub first : (n : ℕ) (ns : List ℕ) → Contains (n ∷ ns) n
first n ns = (0, omega arith, refl)

pub later : (m n : ℕ) (ns : List ℕ) → Contains ns n → Contains (m ∷ ns) n
later m n ns h = Contains-append_right (m ∷ []) ns n h

pub first_or_later : (m n : ℕ) (ns : List ℕ) → Contains (m ∷ ns) n → (m ≡ n) ⊎ Contains ns n
first_or_later m n ns h =
    elim (Contains-append_cases (m ∷ []) ns n h) [
      | inl alone ↦ elim (Contains-push_cases [] m n alone) [
        | inl none ↦ absurd (nowhere n none)
        | inr same ↦ inl same
      ]
      | inr there ↦ inr there
    ]

-- with one number more
one_more : (m : ℕ) (ones others : List ℕ) → HaveSame ones others → HaveSame (m ∷ ones) (m ∷ others)
one_more m ones others same =
    record {
      there = λ n h. elim (first_or_later m n ones h) [
        | inl is ↦ subst (Contains (m ∷ others)) is (first m others)
        | inr there ↦ later m n others (same.there n there)
      ];
      back = λ n h. elim (first_or_later m n others h) [
        | inl is ↦ subst (Contains (m ∷ ones)) is (first m ones)
        | inr there ↦ later m n ones (same.back n there)
      ];
    }

-- ---- of which some pass a test

passing : (p : ℕ → Bool) (ns : List ℕ) (n : ℕ) → Contains ns n → p n ≡ true → Contains (filter p ns) n
passing p [] n h passes = absurd (nowhere n h)
passing p (m ∷ ns) n h passes =
    elim (bool_cases (p m)) [
      | inl here ↦ rw here (elim (first_or_later m n ns h) [
        | inl is ↦ subst (Contains (m ∷ filter p ns)) is (first m (filter p ns))
        | inr there ↦ later m n (filter p ns) (passing p ns n there passes)
      ])
      | inr fails ↦ rw fails (elim (first_or_later m n ns h) [
        | inl is ↦ absurd (let e : p m ≡ p n = ap p is in cc)
        | inr there ↦ passing p ns n there passes
      ])
    ]

was_there : (p : ℕ → Bool) (ns : List ℕ) (n : ℕ) → Contains (filter p ns) n → Contains ns n
was_there p ns n h = All-contains (Contains ns) (filter p ns) n (All-filter p (Contains ns) ns (All-contains_itself ns)) h

passes : (p : ℕ → Bool) (ns : List ℕ) (n : ℕ) → Contains (filter p ns) n → p n ≡ true
passes p ns n h = All-contains (λ m. p m ≡ true) (filter p ns) n (filter_passes p ns) h

filtered : (p : ℕ → Bool) (ones others : List ℕ) → HaveSame ones others → HaveSame (filter p ones) (filter p others)
filtered p ones others same =
    record {
      there = λ n h. passing p others n (same.there n (was_there p ones n h)) (passes p ones n h);
      back = λ n h. passing p ones n (same.back n (was_there p others n h)) (passes p others n h);
    }

-- ---- their least

least_too : (ones others : List ℕ) (found : Option ℕ) → HaveSame ones others → IsLeast ones found → IsLeast others found
least_too ones [] None same none = refl
least_too ones (n ∷ others) None same none = absurd (nowhere n (subst (λ (ns : List ℕ). Contains ns n) none (same.back n (first n others))))
least_too ones others (Some n) same least = (same.there n least.0, λ other h. least.1 other (same.back other h))

same_least : (ones others : List ℕ) → HaveSame ones others → least ones ≡ least others
same_least ones others same = only_least others (least ones) (least_too ones others (least ones) same (least_of ones))

same_lowest : (found : Option ℕ) (ones others : List ℕ) → HaveSame ones others → fold lower found ones ≡ fold lower found others
same_lowest None ones others same = same_least ones others same
same_lowest (Some m) ones others same = same_least (m ∷ ones) (m ∷ others) (one_more m ones others same)

-- the least of those that pass a test, and of one found before
pub lowest_passing : (p : ℕ → Bool) (found : Option ℕ) (ones others : List ℕ) → HaveSame ones others → fold lower found (filter p ones) ≡ fold lower found (filter p others)
lowest_passing p found ones others same = same_lowest found (filter p ones) (filter p others) (filtered p ones others same)
