-- What is gone of the words is no more than the visits cost together, whatever is answered.
use Rattle.std.proofs.Common.{◌≡◌, ℕ, suc, ◌+◌, ◌-◌, ◌<◌, ◌≤◌, List, [], ◌∷◌, ◌++◌, Option, Some, Result, Ok, Err, refl, sym, ap, ◌∙◌, arith, inl, inr}
use Rattle.std.proofs.lemmas.Bool.{cases_lt, lt-ltb, le-ltb}
use Rattle.cap_reader.specs.declared.pointee.Pointee.{Pointee}
use Rattle.cap_reader.specs.declared.pointee.Pointee.TheVariants as leads
use Rattle.cap_reader.specs.declared.place.StructAt.{StructAt}
use Rattle.cap_reader.specs.declared.read_error.ReadError.{ReadError}
use Rattle.cap_reader.specs.declared.read_error.ReadError.TheVariants as errors
use Rattle.cap_reader.specs.Pointers.{extent, pointee_at}
use Rattle.cap_reader.specs.Tree.{tree_behind, structure_at, tree_at}
use Rattle.cap_reader.specs.Reading.{Reading, Sections, done, fault, visit, and_then, pay_for, run, price, each, structure_in}
use Rattle.cap_reader.specs.Glue.{with_front}
use Rattle.cap_reader.specs.Fields.{fields_in}
use Rattle.cap_reader.specs.Places.{child_at}
use Rattle.cap_reader.proofs.Prices.{err_ok}
use Rattle.cap_reader.proofs.Adding.{fields_below, structure_found, below_there, child_is}

-- ---- one reading and then another

-- what is paid for the first is what the price of both falls by
paid_then : {E A B : Type 0} (too_much : E) (reading : Reading E A) (next : A → Reading E B) (words left : ℕ) (value : A) → pay_for too_much reading words ≡ (Ok value, left)
    → words + price (next value) ≡ left + price (and_then reading next)
unfolding pay_for price and_then
paid_then {E} {A} too_much (done v) next words left value h =
    let gone : words ≡ left = ap (λ (r : Result A E × ℕ). r.1) h in
    let found : ◌≡◌ {A = Result A E} (Ok v) (Ok value) = ap (λ (r : Result A E × ℕ). r.0) h in
    let same : v ≡ value = cc in
    rw (gone, same) refl
paid_then too_much (fault e) next words left value h = absurd (err_ok e value words left h)
paid_then too_much (visit cost rest) next words left value h =
    elim (cases_lt words cost) [
      | inl few ↦ absurd (err_ok too_much value words left (rw (lt-ltb words cost few) at h))
      | inr enough ↦ let more = paid_then too_much rest next (words - cost) left value (rw (le-ltb words cost enough) at h) in omega (arith, more, enough)
    ]

-- the first costs no more than both
first_costs : {E A B : Type 0} (reading : Reading E A) (next : A → Reading E B) → price reading ≤ price (and_then reading next)
unfolding price and_then
first_costs (done value) next = omega arith
first_costs (fault e) next = omega arith
first_costs (visit cost rest) next = let more = first_costs rest next in omega (arith, more)

-- what is made of a value costs nothing
made_costs : {E A B : Type 0} (reading : Reading E A) (made : A → B) → price (and_then reading (λ value. done (made value))) ≡ price reading
unfolding price and_then
made_costs (done value) made = refl
made_costs (fault e) made = refl
made_costs (visit cost rest) made = ap (λ (p : ℕ). cost + p) (made_costs rest made)

-- ---- numbers one after another

not_ok : {A : Type 0} (e : ReadError) (y : List A) → ◌≡◌ {A = Result (List A) ReadError} (Err e) (Ok y) → ⊥
not_ok e y h = cc

behind : {A : Type 0} (front next : List A) (ran : Result (List A) ReadError × ℕ) (left : ℕ) → with_front front ran ≡ (Ok next, left) → (xs : List A) × (ran ≡ (Ok xs, left))
behind {A} front next (Ok xs, l) left e =
    let same : l ≡ left = ap (λ (r : Result (List A) ReadError × ℕ). r.1) e in (xs, rw same refl)
behind {A} front next (Err d, l) left e = absurd (not_ok d next (ap (λ (r : Result (List A) ReadError × ℕ). r.0) e))

module _ {A : Type 0} (f : ℕ → Reading ReadError (List A)) where
  abbrev onwards : ℕ → ℕ → List A → Reading ReadError (List A)
  onwards i n first = and_then (each f (i + 1) n) (λ others. done (first ++ others))

  step_paid : (front next : List A) (i n words left : ℕ) → with_front front (run (f i) words) ≡ (Ok next, left) → words + price (each f (i + 1) n) ≡ left + price (each f i (suc n))
  unfolding each
  step_paid front next i n words left h =
      let found = behind front next (run (f i) words) left h in
      ap (λ (p : ℕ). words + p) (sym (made_costs (each f (i + 1) n) (λ others. found.0 ++ others))) ∙ paid_then errors.TooMuch (f i) (onwards i n) words left found.0 found.1

  step_costs : (i n : ℕ) → price (f i) ≤ price (each f i (suc n))
  unfolding each
  step_costs i n = first_costs (f i) (onwards i n)

  -- one more was read
  one_paid : (front next : List A) (count i words left : ℕ) → i < count → with_front front (run (f i) words) ≡ (Ok next, left) → words + price (each f (i + 1) (count - (i + 1))) ≡ left + price (each f i (count - i))
  one_paid front next count i words left lt h =
      let k : count - i ≡ suc (count - (i + 1)) = omega arith in rw k (step_paid front next i (count - (i + 1)) words left h)

  one_costs : (count i : ℕ) → i < count → price (f i) ≤ price (each f i (count - i))
  one_costs count i lt =
      let k : count - i ≡ suc (count - (i + 1)) = omega arith in rw k (step_costs i (count - (i + 1)))

-- ---- one pointer of a struct after another

module _ (path : List ℕ) (segments : List (List ℕ)) (content : StructAt) where
  abbrev field_at : ℕ → Reading ReadError (List (List ℕ × ℕ))
  field_at n = fields_in (path ++ n ∷ []) (child_at segments content n)

  same_field : (longer : List ℕ) (i at : ℕ) → i < content.pointer_count → longer ≡ path ++ i ∷ [] → at ≡ content.start + content.data_words + i
      → fields_in longer (tree_at content.below segments content.segment at) ≡ field_at i
  same_field longer i at lt same there = rw (same, there, child_is segments content i lt) refl

  pub field_paid : (front next : List (List ℕ × ℕ)) (longer : List ℕ) (i at words left : ℕ) → i < content.pointer_count → longer ≡ path ++ i ∷ [] → at ≡ content.start + content.data_words + i
      → with_front front (run (fields_in longer (tree_at content.below segments content.segment at)) words) ≡ (Ok next, left)
      → words + price (each field_at (i + 1) (content.pointer_count - (i + 1))) ≡ left + price (each field_at i (content.pointer_count - i))
  field_paid front next longer i at words left lt same there h =
      one_paid field_at front next content.pointer_count i words left lt (ap (λ (r : Reading ReadError (List (List ℕ × ℕ))). with_front front (run r words)) (sym (same_field longer i at lt same there)) ∙ h)

  pub field_costs : (longer : List ℕ) (i at : ℕ) → i < content.pointer_count → longer ≡ path ++ i ∷ [] → at ≡ content.start + content.data_words + i
      → price (fields_in longer (tree_at content.below segments content.segment at)) ≤ price (each field_at i (content.pointer_count - i))
  field_costs longer i at lt same there =
      rw (same_field longer i at lt same there) (one_costs field_at content.pointer_count i lt)

-- ---- the struct itself

module _ (path : List ℕ) (depth : ℕ) (segments : List (List ℕ)) (segment at words far_segment : ℕ) (start : Option ℕ) (data_words pointer_count : ℕ) (h : pointee_at segments segment at ≡ Ok (leads.Struct far_segment start data_words pointer_count)) where
  fields_are : fields_in path (tree_at depth segments segment at) ≡ and_then (structure_in (structure_found depth segments far_segment start data_words pointer_count)) (fields_below path)
  unfolding tree_behind
  fields_are =
      ap (λ (p : Result Pointee ReadError). fields_in path (tree_behind (structure_at depth segments) segments p)) h
      ∙ below_there path depth segments far_segment data_words pointer_count (extent segments far_segment start (data_words + pointer_count))

  pub struct_paid : (sections : Sections) (left : ℕ) → run (structure_in (structure_found depth segments far_segment start data_words pointer_count)) words ≡ (Ok (Some sections), left)
      → words + price (each (λ n. fields_in (path ++ n ∷ []) (sections.child n)) 0 (sections.pointer_count - 0)) ≡ left + price (fields_in path (tree_at depth segments segment at))
  struct_paid sections left e =
      let all : sections.pointer_count - 0 ≡ sections.pointer_count = omega arith in
      rw (all, fields_are) (paid_then errors.TooMuch (structure_in (structure_found depth segments far_segment start data_words pointer_count)) (fields_below path) words left (Some sections) e)
