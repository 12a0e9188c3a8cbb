-- At a consistent cut the exporter of a number holds it no less often than the importer does.
use Rattle.std.proofs.Common.{◌≡◌, ◌≤◌, refl, sym, subst, ℕ, List, [], ◌∷◌, ◌++◌, length, Bool, true, false, Option, if◌then◌else◌, arith}
use Rattle.std.proofs.lemmas.Bool.{or_right, false≢true}
use Rattle.decoded_records.specs.Past.{Past, id, Each}
use Rattle.decoded_records.specs.Lives.{introduced_count, released_count, held, GivesBackHeld}
use Rattle.decoded_records.specs.Uses.{UsesQuestions}
use Rattle.agree.specs.Told.{Telling, tellings, AreTold}
use Rattle.agree.specs.Alive.{Closer, is_same_closer, as_closer, closer_of, is_closed, introductions_in, alive_in, releases_in_all, alive, let_go}
use Rattle.agree.proofs.Held.{all_alive, held_is_alive, alive_is_held}

-- what more was told closes more, brings more, and releases more
more_closed : (later ts : List Telling) (c : Option Closer) → is_closed ts c ≡ true → is_closed (later ++ ts) c ≡ true
more_closed [] ts c e = e
more_closed (t ∷ later) ts c e = or_right (is_same_closer (as_closer t) c) (is_closed (later ++ ts) c) (more_closed later ts c e)

less : (a b : Bool) (d : ℕ) → (b ≡ true → a ≡ true) → (if a then 0 else d) ≤ (if b then 0 else d)
less true true d f = omega arith
less true false d f = omega arith
less false false d f = omega arith
less false true d f = absurd (false≢true (f refl))

less_alive : (n : ℕ) (later closers ts : List Telling) → alive_in n (later ++ closers) ts ≤ alive_in n closers ts
less_alive n later closers [] = omega arith
less_alive n later closers (t ∷ ts) =
    let c = closer_of t (length ts) in
    let here = less (is_closed (later ++ closers) c) (is_closed closers c) (introductions_in n t.0) (more_closed later closers c) in
    let rest = less_alive n later closers ts in omega (arith, here, rest)

more_alive : (n : ℕ) (closers later ts : List Telling) → alive_in n closers ts ≤ alive_in n closers (later ++ ts)
more_alive n closers [] ts = omega arith
more_alive n closers (t ∷ later) ts = let rest = more_alive n closers later ts in omega (arith, rest)

more_released : (n : ℕ) (later ts : List Telling) → releases_in_all n ts ≤ releases_in_all n (later ++ ts)
more_released n [] ts = omega arith
more_released n (t ∷ later) ts = let rest = more_released n later ts in omega (arith, rest)

module _ (k n : ℕ) (exporter importer : Past) (cut : AreTold k exporter importer) where
  -- what is alive at the importer is alive at the exporter
  pub alive_at_cut : alive (id k false n) importer ≤ alive (id k true n) exporter
  alive_at_cut =
      let first : alive_in n (tellings k true importer) (tellings k false importer) ≤ alive_in n (tellings k false exporter) (tellings k false importer) =
      subst (λ l. alive_in n l (tellings k false importer) ≤ alive_in n (tellings k false exporter) (tellings k false importer)) (sym cut.to_one.1)
      (less_alive n cut.to_one.0 (tellings k false exporter) (tellings k false importer)) in
      let second : alive_in n (tellings k false exporter) (tellings k false importer) ≤ alive_in n (tellings k false exporter) (tellings k true exporter) =
      subst (λ l. alive_in n (tellings k false exporter) (tellings k false importer) ≤ alive_in n (tellings k false exporter) l) (sym cut.to_other.1)
      (more_alive n (tellings k false exporter) cut.to_other.0 (tellings k false importer)) in
      omega (arith, first, second)

  -- what the exporter knows to be released the importer released
  pub released_at_cut : let_go (id k true n) exporter ≤ let_go (id k false n) importer
  released_at_cut = subst (λ l. releases_in_all n (tellings k false exporter) ≤ releases_in_all n l) (sym cut.to_one.1) (more_released n cut.to_one.0 (tellings k false exporter))

  module _ (uses_exporter : Each UsesQuestions exporter) (uses_importer : Each UsesQuestions importer) where
    pub held_at_cut : held (id k false n) importer ≤ held (id k true n) exporter
    held_at_cut =
        let at_x = held_is_alive k true n exporter uses_exporter in
        let at_y = held_is_alive k false n importer uses_importer in
        omega (arith, at_x, at_y, alive_at_cut, released_at_cut)

    -- where the importer gives back no more than it holds, no more goes at the exporter than came
    pub exporter_counts : Each GivesBackHeld importer → released_count (id k true n) exporter ≤ introduced_count (id k true n) exporter
    exporter_counts counts =
        let at_x = all_alive k true n exporter uses_exporter in
        let at_y = alive_is_held k false n importer uses_importer counts in
        omega (arith, at_x, at_y, alive_at_cut, released_at_cut)
