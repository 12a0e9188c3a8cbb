-- Points of lists, and how many stand before them.
use Rattle.std.proofs.Common.{◌≡◌, refl, sym, ◌∙◌, ap, subst, ℕ, ◌<◌, ◌≤◌, List, [], ◌∷◌, ◌++◌, length, Option, Some, None, append_assoc, length-append, arith, ◌⊎◌, inl, inr}
use Rattle.std.specs.List.{cons_option, filter_map}
use Rattle.std.proofs.lemmas.List.Elements.{filter_map-append}
use Rattle.std.proofs.lemmas.Bool.{cases_lt}
use Rattle.agree.specs.Points.{GoesOn, IsNth, AtEach}
use Rattle.agree.specs.Types.{DecodedRecord}
use Rattle.decoded_records.specs.Past.{Past, Each}

module _ {A : Type 0} where
  pub through : (a b c : List A) → GoesOn a b → GoesOn b c → GoesOn a c
  through a b c p q = (p.0 ++ q.0, p.1 ∙ ap (λ l. p.0 ++ l) q.1 ∙ sym (append_assoc p.0 q.0 c))

  pub before_it : (a : List A) (x : A) (b : List A) → GoesOn a (x ∷ b) → GoesOn a b
  before_it a x b p = through a (x ∷ b) b p (x ∷ [], refl)

  pub no_longer : (a b : List A) → GoesOn a b → length b ≤ length a
  no_longer a b p = omega (arith, ap length p.1, length-append p.0 b)

  pub heads : {x y : A} {xs ys : List A} → (x ∷ xs) ≡ (y ∷ ys) → x ≡ y
  heads e = cc

  pub tails : {x y : A} {xs ys : List A} → (x ∷ xs) ≡ (y ∷ ys) → xs ≡ ys
  tails e = cc

  shorter_from : (k a l b : List A) → k ++ a ≡ l ++ b → length a ≤ length b → GoesOn b a
  shorter_from k a [] b e le = (k, sym e)
  shorter_from [] a (y ∷ l) b e le = absurd (omega (arith, ap length e, length-append l b))
  shorter_from (x ∷ k) a (y ∷ l) b e le = shorter_from k a l b (tails e) le

  -- of two points of one list the longer goes on from the shorter
  pub shorter : (w a b : List A) → GoesOn w a → GoesOn w b → length a ≤ length b → GoesOn b a
  shorter w a b p q le = shorter_from p.0 a q.0 b (sym p.1 ∙ q.1) le

  same_from : (l a b : List A) → b ≡ l ++ a → length a ≡ length b → a ≡ b
  same_from [] a b e le = sym e
  same_from (x ∷ l) a b e le = absurd (omega (arith, ap length e, length-append l a))

  -- points with as many elements are one
  pub same_length : (w a b : List A) → GoesOn w a → GoesOn w b → length a ≡ length b → a ≡ b
  same_length w a b p q e = let g = shorter w a b p q (omega arith) in same_from g.0 a b g.1 e

  -- of two points of one list one goes on from the other
  pub either : (w a b : List A) → GoesOn w a → GoesOn w b → GoesOn b a ⊎ GoesOn a b
  either w a b p q = elim (cases_lt (length a) (length b)) [
    | inl less ↦ inl (shorter w a b p q (omega (arith, less)))
    | inr more ↦ inr (shorter w b a q p more)
  ]

  pub at_each_before : (P : List A → A → Type 0) (xs b : List A) → GoesOn xs b → AtEach P xs → AtEach P b
  at_each_before P xs b p h c x q = h c x (through xs b (x ∷ c) p q)

module _ {A B : Type 0} (f : A → Option B) where
  -- what is kept of a point is a point of what is kept
  pub kept : (a b : List A) → GoesOn a b → GoesOn (filter_map f a) (filter_map f b)
  kept a b p = (filter_map f p.0, ap (λ l. filter_map f l) p.1 ∙ filter_map-append f p.0 b)

  -- and each point of what is kept comes from one
  abbrev pub Lifted : List A → B → List B → Type 0
  Lifted xs y ys = (x : A) × (before : List A) × GoesOn xs (x ∷ before) × (f x ≡ Some y) × (filter_map f before ≡ ys)

  lifted_later : (x : A) (xs : List A) (y : B) (ys : List B) → Lifted xs y ys → Lifted (x ∷ xs) y ys
  lifted_later x xs y ys r = (r.0, r.1, (x ∷ r.2.0, ap (λ l. x ∷ l) r.2.1), r.3, r.4)

  lifted_at : (x : A) (xs : List A) (y : B) (ys : List B) (o : Option B) → f x ≡ o → ((later : List B) → filter_map f xs ≡ later ++ y ∷ ys → Lifted xs y ys) →
      (later : List B) → cons_option o (filter_map f xs) ≡ later ++ y ∷ ys → Lifted (x ∷ xs) y ys
  lifted_at x xs y ys None g rest later e = lifted_later x xs y ys (rest later e)
  lifted_at x xs y ys (Some z) g rest [] e = let same : z ≡ y = cc in (x, xs, ([], refl), g ∙ ap (λ b. Some b) same, tails e)
  lifted_at x xs y ys (Some z) g rest (w ∷ later) e = lifted_later x xs y ys (rest later (tails e))

  lifted_from : (xs : List A) (y : B) (ys later : List B) → filter_map f xs ≡ later ++ y ∷ ys → Lifted xs y ys
  lifted_from [] y ys later e = absurd (omega (arith, ap length e, length-append later (y ∷ ys)))
  lifted_from (x ∷ xs) y ys later e = lifted_at x xs y ys (f x) refl (lifted_from xs y ys) later e

  pub lifted : (xs : List A) (y : B) (ys : List B) → GoesOn (filter_map f xs) (y ∷ ys) → Lifted xs y ys
  lifted xs y ys p = lifted_from xs y ys p.0 p.1

  -- the n-th of a list stands in each point of the list that keeps more than n
  pub nth_within : (n : ℕ) (xs l b : List A) (x : A) → IsNth f n xs b x → GoesOn xs l → n < length (filter_map f l) → GoesOn l b
  nth_within n xs l b x p q lt = elim (cases_lt (length b) (length l)) [
    | inl less ↦ before_it l x b (shorter xs (x ∷ b) l p.there q less)
    | inr more ↦ absurd (omega (arith, no_longer _ _ (kept b l (shorter xs l b q (before_it xs x b p.there) more)), p.number, lt))
  ]

-- ---- what each record of a log is

each_from : (P : Past → DecodedRecord → Type 0) (l b : Past) → Each P (l ++ b) → Each P b
each_from P [] b h = h
each_from P (e ∷ l) b h = each_from P l b h.1

pub each_before : (P : Past → DecodedRecord → Type 0) (past b : Past) → GoesOn past b → Each P past → Each P b
each_before P past b p h = each_from P p.0 b (subst (λ l. Each P l) p.1 h)

pub each_at : (P : Past → DecodedRecord → Type 0) (past : Past) → Each P past → AtEach P past
each_at P past h b e p = (each_before P past (e ∷ b) p h).0

pub each_so : (P Q : Past → DecodedRecord → Type 0) → ((b : Past) (e : DecodedRecord) → P b e → Q b e) → (past : Past) → Each P past → Each Q past
each_so P Q f [] h = h
each_so P Q f (e ∷ b) h = (f b e h.0, each_so P Q f b h.1)
