-- An order is taken some steps at a time, and lanes are read ahead between.
use Rattle.std.proofs.Common.{◌≡◌, ℕ, suc, zero, ◌+◌, ◌<◌, ◌≤◌, List, [], ◌∷◌, ◌++◌, length, take, drop, Option, refl, sym, ap, ◌∙◌, arith}
use Rattle.std.specs.Prelude.{slice_get}
use Rattle.std.proofs.lemmas.List.{append_assoc, take-append-drop, drop-take}
use Rattle.turn_taking.specs.Turns.{order_of}
use Rattle.turn_taking.specs.Lanes.{LaneSoFar}
use Rattle.turn_taking.specs.Turned.{Taken}
use Rattle.turn_taking.specs.Followed.{AreFollowed, AreFollowedToTheEnd}
use Rattle.turn_taking.specs.Pass.{AreThere, AreFilled}
use Rattle.turn_taking.proofs.Ordered.{further_on}
use Rattle.turn_taking.proofs.Over.{filled_further}

-- ---- parts of a list

take_less : (xs : List ℕ) (n m : ℕ) → n ≤ m → take n (take m xs) ≡ take n xs
take_less xs zero m le = refl
take_less [] (suc n) zero le = refl
take_less [] (suc n) (suc m) le = refl
take_less (x ∷ xs) (suc n) zero le = absurd (omega (arith, le))
take_less (x ∷ xs) (suc n) (suc m) le = ap (λ (l : List ℕ). x ∷ l) (take_less xs n m (omega (arith, le)))

get_behind : (xs : List ℕ) (a n : ℕ) → slice_get xs (a + n) ≡ slice_get (drop a xs) n
get_behind xs zero n =
    let e : 0 + n ≡ n = omega arith in
    ap (slice_get xs) e
get_behind [] (suc a) n = none (suc a + n) n
  where
    none : (m n : ℕ) → ◌≡◌ {A = Option ℕ} (slice_get [] m) (slice_get [] n)
    none m n = refl
get_behind (x ∷ xs) (suc a) n =
    let e : suc a + n ≡ suc (a + n) = omega arith in
    ap (slice_get (x ∷ xs)) e ∙ get_behind xs a n

take_on : (xs : List ℕ) (a n : ℕ) → take (a + n) xs ≡ take a xs ++ take n (drop a xs)
take_on xs a n =
    sym (take-append-drop a (take (a + n) xs)) ∙ ap (λ (l : List ℕ). l ++ drop a (take (a + n) xs)) (take_less xs a (a + n) (omega arith))
    ∙ ap (λ (l : List ℕ). take a xs ++ l) (drop-take a n xs)

get_before : (xs : List ℕ) (m n : ℕ) → n < m → slice_get (take m xs) n ≡ slice_get xs n
get_before xs zero n lt = absurd (omega (arith, lt))
get_before [] (suc m) n lt = refl
get_before (x ∷ xs) (suc m) zero lt = refl
get_before (x ∷ xs) (suc m) (suc n) lt = get_before xs m n (omega (arith, lt))

-- ---- some steps more

module _ (lanes now longer after : List (Option LaneSoFar)) (taken more next : Taken) (order : List ℕ) (count size n : ℕ)
    (so : AreFollowed lanes now taken more order count) (grown : AreFilled now longer) (there : AreThere longer)
    (portion : AreFollowedToTheEnd longer after more next (take size (drop count order)) n) (few : n ≤ size) where
  pub portion_followed : AreFollowed lanes after taken next order (count + n)
  portion_followed = record {
    pass = portion.followed.pass;
    further = further_on lanes longer after (further_on lanes now longer so.further (filled_further now longer more so.pass grown there)) portion.followed.further;
    phase = portion.followed.phase ∙ so.phase;
    turns = portion.followed.turns ∙ ap (λ (l : List ℕ). l ++ take n (take size (drop count order))) so.turns
        ∙ append_assoc (order_of taken.in_order) (take count order) (take n (take size (drop count order)))
        ∙ ap (λ (l : List ℕ). order_of taken.in_order ++ (take count order ++ l)) (take_less (drop count order) n size few)
        ∙ ap (λ (l : List ℕ). order_of taken.in_order ++ l) (sym (take_on order count n));
    counted = (let first = so.counted in let second = portion.followed.counted in omega (arith, first, second));
  }

  -- where not all of them may be taken
  pub portion_stops : n < size → count + n ≤ length order → AreFollowedToTheEnd lanes after taken next order (count + n)
  portion_stops lt within = record {
    followed = portion_followed;
    few = within;
    stops = λ vat at. portion.stops vat (get_before (drop count order) size n lt ∙ sym (get_behind order count n) ∙ at);
  }
