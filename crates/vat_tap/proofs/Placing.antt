-- Records that are put at their tickets stand there, where each ticket is there once.
use Rattle.std.proofs.Common.{◌≡◌, ◌≢◌, ℕ, zero, suc, ◌+◌, ◌<◌, ◌≤◌, Bool, cond, eqb, List, [], ◌∷◌, ◌++◌, map, length, get_or, set, take, All, Some, refl, sym, ap, ◌∙◌, subst, arith}
use Rattle.std.specs.Prelude.{slice_get}
use Rattle.std.proofs.lemmas.List.{length-map, get_or-map, take_more, length-set, set_past}
use Rattle.std.proofs.lemmas.List.Sums.{sum_by-cons}
use Rattle.vat_log.specs.declared.body.Body.{Body}
use Rattle.vat_tap.specs.Tickets.{Ticketed, tickets_of, times}
use Rattle.vat_tap.specs.Glue.Taps.{put, in_ticket_order}

module _ {X Y : Type 0} where
  -- what a function sees of a list after one place was set, and where there is no such place
  pub set_seen : (f : X → Y) (xs : List X) (i : ℕ) (x : X) → map f (set xs i x) ≡ set (map f xs) i (f x)
  set_seen f [] i x = refl
  set_seen f (y ∷ ys) zero x = refl
  set_seen f (y ∷ ys) (suc i) x = ap (λ zs. f y ∷ zs) (set_seen f ys i x)

  pub set_unseen : (f : X → Y) (xs : List X) (i : ℕ) (y : Y) → length xs ≤ i → map f xs ≡ set (map f xs) i y
  set_unseen f xs i y past = sym (set_past (map f xs) i y (omega (arith, length-map xs f)))

  pub map_map : {Z : Type 0} (f : X → Y) (g : Y → Z) (xs : List X) → map (λ x. g (f x)) xs ≡ map g (map f xs)
  map_map f g [] = refl
  map_map f g (x ∷ xs) = ap (λ zs. g (f x) ∷ zs) (map_map f g xs)

  -- one more of what a function gives of a list
  pub took_more : (f : X → Y) (xs : List X) (i : ℕ) (x : X) → i < length xs → x ≡ get_or xs i x → take (i + 1) (map f xs) ≡ take i (map f xs) ++ f x ∷ []
  took_more f xs i x lt is =
      take_more (map f xs) i (f x) (omega (arith, length-map xs f)) ∙ ap (λ y. take i (map f xs) ++ y ∷ []) (get_or-map f xs i x (f x) lt ∙ ap f (sym is))

module _ {X : Type 0} where
  pub get_set : (xs : List X) (i : ℕ) (x : X) → i < length xs → slice_get (set xs i x) i ≡ Some x
  get_set [] i x lt = absurd (omega arith)
  get_set (y ∷ ys) zero x lt = refl
  get_set (y ∷ ys) (suc i) x lt = get_set ys i x (omega arith)

  pub get_set_else : (xs : List X) (i j : ℕ) (x : X) → i ≢ j → slice_get (set xs i x) j ≡ slice_get xs j
  get_set_else [] i j x apart = refl
  get_set_else (y ∷ ys) zero zero x apart = absurd (apart refl)
  get_set_else (y ∷ ys) zero (suc j) x apart = refl
  get_set_else (y ∷ ys) (suc i) zero x apart = refl
  get_set_else (y ∷ ys) (suc i) (suc j) x apart = get_set_else ys i j x (λ e. apart (ap suc e))

  pub All_cons : (P : X → Type 0) (x : X) (xs : List X) → P x → All P xs → All P (x ∷ xs)
  All_cons P x xs here rest zero d lt = here
  All_cons P x xs here rest (suc i) d lt = rest i d (omega arith)

-- what is put where no later one goes stays
stays : (records : List Body) (items : List Ticketed) (ticket : ℕ) → times ticket (tickets_of items) ≡ 0 → slice_get (put records items) ticket ≡ slice_get records ticket
stays records [] ticket none = refl
stays records (item ∷ items) ticket none =
    let split = sum_by-cons (λ k. cond (eqb k ticket) 1 0) item.0 (tickets_of items) in
    let apart : item.0 ≢ ticket = λ e. one_else item.0 ticket e (omega (arith, split)) in
    stays (set records item.0 item.1) items ticket (omega (arith, split)) ∙ get_set_else records item.0 ticket item.1 apart
  where
    one_else : (n ticket : ℕ) → n ≡ ticket → cond (eqb n ticket) 1 0 ≡ zero → ⊥
    one_else n ticket e none = let b = Rattle.std.proofs.Common.eq-eqb n ticket e in absurd (omega (arith, none, ap (λ (t : Bool). cond t (suc zero) zero) b))

pub placed_among : (records : List Body) (items : List Ticketed) → ((ticket : ℕ) → times ticket (tickets_of items) ≤ 1) → All (λ item. item.0 < length records) items
    → All (λ item. slice_get (put records items) item.0 ≡ Some item.1) items
placed_among records [] once within = λ i d lt. absurd (omega arith)
placed_among records (item ∷ items) once within =
    let split = λ (ticket : ℕ). sum_by-cons (λ k. cond (eqb k ticket) 1 0) item.0 (tickets_of items) in
    let unit : ℕ = 1 in
    let one : cond (eqb item.0 item.0) unit 0 ≡ unit = ap (λ (b : Bool). cond b unit 0) (Rattle.std.proofs.Common.eq-eqb item.0 item.0 refl) in
    let none : times item.0 (tickets_of items) ≡ 0 = omega (arith, split item.0, once item.0, one) in
    let here : slice_get (put records (item ∷ items)) item.0 ≡ Some item.1 = stays (set records item.0 item.1) items item.0 none ∙ get_set records item.0 item.1 (within 0 item (omega arith)) in
    All_cons (λ it. slice_get (put records (item ∷ items)) it.0 ≡ Some it.1) item items here
    (placed_among (set records item.0 item.1) items (λ ticket. omega (arith, split ticket, once ticket))
    (λ i d lt. subst (λ n. (get_or items i d).0 < n) (sym (length-set records item.0 item.1)) (within (suc i) d (omega arith))))

length_put : (records : List Body) (items : List Ticketed) → length (put records items) ≡ length records
length_put records [] = refl
length_put records (item ∷ items) = length_put (set records item.0 item.1) items ∙ length-set records item.0 item.1

pub length_arranged : (items : List Ticketed) → length (in_ticket_order items) ≡ length items
length_arranged items = length_put (map (λ item. item.1) items) items ∙ length-map items (λ item. item.1)
