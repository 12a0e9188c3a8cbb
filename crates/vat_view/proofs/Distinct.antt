-- Numbers of which none stands twice, and the rule REF from its parts.
use Rattle.std.proofs.Common.{◌≡◌, ◌≢◌, ◌⊎◌, inl, inr, ℕ, ◌+◌, ◌==◌, ◌≤◌, length, arith, List, [], ◌∷◌, ◌++◌, take, drop, Bool, true, false, not, ◌&&◌, ◌||◌, if◌then◌else◌, refl, sym, ◌∙◌, ap, subst, None}
use Rattle.std.specs.Prelude.{Decides}
use Rattle.std.specs.Bool.{beq}
use Rattle.std.specs.List.{list_all}
use Rattle.std.proofs.lemmas.Bool.{false≢true, eqb-true, eq-eqb}
use Rattle.std.proofs.lemmas.Bool.Decides.{eqb_tells}
use Rattle.std.proofs.lemmas.List.{take-append-drop}
use Rattle.std.proofs.lemmas.List.Folds.{list_any-append}
use Rattle.vat_view.specs.Types.{RpcMessage, Bootstrap, Call, DecodedRecord, Host, Vow, Make, Field, Deliver, Fault, Wire}
use Rattle.decoded_records.specs.Past.{Past}
use Rattle.decoded_records.specs.Questions.{question_opened}
use Rattle.decoded_records.specs.Bindings.{Refers, contains, is_bound, is_bound_call, is_distinct, new_references, new_calls, named_references, named_calls, notes_call}
use Rattle.vat_view.specs.Glue.Plain.{IsNotedAlone}

both : (a b : Bool) → (a && b) ≡ true → (a ≡ true) × (b ≡ true)
both true true e = (refl, refl)
both true false e = absurd (false≢true e)
both false b e = absurd (false≢true e)

join : (a b : Bool) → a ≡ true → b ≡ true → (a && b) ≡ true
join true true x y = refl
join true false x y = y
join false b x y = x

-- what stands in a list stands in a longer one, or is what was added
contains_more : (q x : ℕ) (xs : List ℕ) → contains q (xs ++ x ∷ []) ≡ (if x == q then true else contains q xs)
contains_more q x xs = list_any-append (λ y. y == q) xs (x ∷ []) ∙ swap (contains q xs) (x == q)
  where
    swap : (a b : Bool) → (a || (b || false)) ≡ (if b then true else a)
    swap true true = refl
    swap true false = refl
    swap false true = refl
    swap false false = refl

pub met_more : (q x : ℕ) (xs : List ℕ) (had has : Bool) → had ≡ contains q xs → has ≡ (if x == q then true else had) → has ≡ contains q (xs ++ x ∷ [])
met_more q x xs had has was is = is ∙ ap (λ b. if x == q then true else b) was ∙ sym (contains_more q x xs)

or_left : (a b : Bool) → a ≡ true → (a || b) ≡ true
or_left true b e = refl
or_left false b e = absurd (false≢true e)

neither : (a b : Bool) → (a || b) ≡ false → (a ≡ false) × (b ≡ false)
neither true b e = absurd (false≢true (sym e))
neither false b e = (refl, e)

one_of : (a b : Bool) → (a || b) ≡ true → (a ≡ true) ⊎ (b ≡ true)
one_of true b e = inl refl
one_of false b e = inr e

turned : (x y : ℕ) (b : Bool) → (x == y) ≡ b → (y == x) ≡ b
turned x y true e = eq-eqb y x (sym (eqb-true x y e))
turned x y false e = case (eqb_tells y x)
  where
    case : ((((y == x) ≡ true) × (y ≡ x)) ⊎ (((y == x) ≡ false) × (y ≢ x))) → (y == x) ≡ false
    case (inl same) = absurd (false≢true (sym e ∙ eq-eqb x y (sym same.1)))
    case (inr apart) = apart.0

-- a list of which none stands twice, and a number that isn't there
pub distinct_more : (x : ℕ) (xs : List ℕ) → is_distinct xs ≡ true → contains x xs ≡ false → is_distinct (xs ++ x ∷ []) ≡ true
distinct_more x [] d no_x = refl
distinct_more x (y ∷ ys) d no_x =
    let parts = both (not (contains y ys)) (is_distinct ys) d in
    let away = neither (y == x) (contains x ys) no_x in
    let apart : contains y (ys ++ x ∷ []) ≡ contains y ys = contains_more y x ys ∙ ap (λ b. if b then true else contains y ys) (turned y x false away.0) in
    join (not (contains y (ys ++ x ∷ []))) (is_distinct (ys ++ x ∷ [])) (ap not apart ∙ parts.0) (distinct_more x ys parts.1 away.1)

-- a number that is there stands twice
pub distinct_not : (x : ℕ) (xs ys : List ℕ) → contains x xs ≡ true → is_distinct ((xs ++ x ∷ []) ++ ys) ≡ false
distinct_not x [] ys has_x = absurd (false≢true has_x)
distinct_not x (y ∷ zs) ys has_x = either (one_of (y == x) (contains x zs) has_x) (distinct_not x zs ys)
  where
    rest : List ℕ
    rest = (zs ++ x ∷ []) ++ ys

    and_false : (a : Bool) → (a && false) ≡ false
    and_false true = refl
    and_false false = refl

    either : (((y == x) ≡ true) ⊎ (contains x zs ≡ true)) → (contains x zs ≡ true → is_distinct rest ≡ false) → (not (contains y rest) && is_distinct rest) ≡ false
    either (inl same) below =
        let there : contains y (zs ++ x ∷ []) ≡ true = contains_more y x zs ∙ ap (λ b. if b then true else contains y zs) (turned y x true same) in
        ap (λ b. not b && is_distinct rest) (list_any-append (λ z. z == y) (zs ++ x ∷ []) ys ∙ or_left (contains y (zs ++ x ∷ [])) (contains y ys) there)
    either (inr later) below = ap (λ b. not (contains y rest) && b) (below later) ∙ and_false (not (contains y rest))

-- at a number of a list that stands before it too
pub distinct_none : (xs : List ℕ) (k : ℕ) (x : ℕ) → take (k + 1) xs ≡ take k xs ++ x ∷ [] → contains x (take k xs) ≡ true → is_distinct xs ≡ false
distinct_none xs k x more has_x =
    ap is_distinct (sym (take-append-drop (k + 1) xs) ∙ ap (λ l. l ++ drop (k + 1) xs) more) ∙ distinct_not x (take k xs) (drop (k + 1) xs) has_x

-- REF from its parts
pub refers_from : (before : Past) (e : DecodedRecord) (distinct unused unused_call bound bound_call noted first second all : Bool) →
    distinct ≡ is_distinct (new_references e) → unused ≡ list_all (λ r. not (is_bound before r)) (new_references e) →
    unused_call ≡ list_all (λ c. not (is_bound_call before c)) (new_calls e) → bound ≡ list_all (is_bound before) (named_references e) →
    bound_call ≡ list_all (is_bound_call before) (named_calls e) → noted ≡ notes_call e →
    first ≡ ((distinct && unused) && unused_call) → second ≡ ((bound && bound_call) && noted) → all ≡ (first && second) → Decides all (Refers before e)
refers_from before e distinct unused unused_call bound bound_call noted first second all is_a is_b is_c is_d is_e is_f is_first is_second is_all = (so, from)
  where
    so : all ≡ true → Refers before e
    so holds =
        let halves = both first second (sym is_all ∙ holds) in
        let left = both (distinct && unused) unused_call (sym is_first ∙ halves.0) in
        let right = both (bound && bound_call) noted (sym is_second ∙ halves.1) in
        let ab = both distinct unused left.0 in
        let de = both bound bound_call right.0 in
        record {
          distinct = sym is_a ∙ ab.0;
          unused = sym is_b ∙ ab.1;
          unused_call = sym is_c ∙ left.1;
          bound = sym is_d ∙ de.0;
          bound_call = sym is_e ∙ de.1;
          noted = sym is_f ∙ right.1;
        }

    from : Refers before e → all ≡ true
    from refers =
        is_all ∙ join first second
        (is_first ∙ join (distinct && unused) unused_call (join distinct unused (is_a ∙ refers.distinct) (is_b ∙ refers.unused)) (is_c ∙ refers.unused_call))
        (is_second ∙ join (bound && bound_call) noted (join bound bound_call (is_d ∙ refers.bound) (is_e ∙ refers.bound_call)) (is_f ∙ refers.noted))

pub not_false : (b : Bool) → not b ≡ false → b ≡ true
not_false true e = refl
not_false false e = absurd (false≢true (sym e))

-- one number at most is distinct
pub short_distinct : (xs : List ℕ) → length xs ≤ 1 → is_distinct xs ≡ true
short_distinct [] short = refl
short_distinct (x ∷ []) short = refl
short_distinct (x ∷ y ∷ xs) short = absurd (let no : ⊥ = omega (arith, short) in no)

-- a message that opens no question, and has no references beside it, names nothing where it notes no call
alone_noted : (b : Bool) → b ≡ beq b true
alone_noted true = refl
alone_noted false = refl

alone : (before : Past) (s : Bool) (k c : ℕ) (rs : List ℕ) (m : RpcMessage) (b : Bool) → question_opened (Wire s k c rs m) ≡ None → b ≡ (c == 0) → Decides b (Refers before (Wire s k c [] m))
alone before s k c rs (Bootstrap q) b opens is = absurd (let no : ⊥ = cc in no)
alone before s k c rs (Call head t p) b opens is = absurd (let no : ⊥ = cc in no)
alone before true k c rs _ b opens is = refers_from before _ true true true true true b true b b refl refl refl refl refl (is ∙ alone_noted (c == 0)) refl refl refl
alone before false k c rs _ b opens is = refers_from before _ true true true true true b true b b refl refl refl refl refl (is ∙ alone_noted (c == 0)) refl refl refl

pub refers_alone : (before : Past) (e : DecodedRecord) (c : ℕ) (b : Bool) → IsNotedAlone c e → b ≡ (c == 0) → Decides b (Refers before e)
refers_alone before (Wire s k d rs m) c b h is =
    subst (λ l. Decides b (Refers before (Wire s k d l m))) (sym h.1) (alone before s k d rs m b h.2 (is ∙ ap (λ n. n == 0) h.3))
refers_alone before _ c b h is = absurd (false≢true h.0)

-- records that bind and name one number or two are as they should be where the new ones are unused and the others bound
and_true : (b : Bool) → b ≡ (b && true)
and_true true = refl
and_true false = refl

and_both : (b : Bool) → b ≡ ((b && true) && true)
and_both b = and_true b ∙ and_true (b && true)

pub refers_host : (before : Past) (r object : ℕ) (b : Bool) → b ≡ not (is_bound before r) → Decides b (Refers before (Host r object))
refers_host before r object b is =
    refers_from before _ true b true true true true b true b refl (is ∙ and_true (not (is_bound before r))) refl refl refl refl (and_true b) refl (and_true b)

pub refers_vow : (before : Past) (r : ℕ) (b : Bool) → b ≡ not (is_bound before r) → Decides b (Refers before (Vow r))
refers_vow before r b is =
    refers_from before _ true b true true true true b true b refl (is ∙ and_true (not (is_bound before r))) refl refl refl refl (and_true b) refl (and_true b)

pub refers_make : (before : Past) (call r interface method : ℕ) (free bound b : Bool) → free ≡ not (is_bound_call before call) → bound ≡ is_bound before r →
    b ≡ (free && bound) → Decides b (Refers before (Make call r interface method))
refers_make before call r interface method free bound b unused is so =
    refers_from before _ true true free bound true true free bound b refl refl (unused ∙ and_true (not (is_bound_call before call))) (is ∙ and_true (is_bound before r)) refl refl refl (and_both bound) so

pub refers_field : (before : Past) (r call : ℕ) (path : List ℕ) (free bound b : Bool) → free ≡ not (is_bound before r) → bound ≡ is_bound_call before call →
    b ≡ (free && bound) → Decides b (Refers before (Field r call path))
refers_field before r call path free bound b unused is so =
    refers_from before _ true free true true bound true free bound b refl (unused ∙ and_true (not (is_bound before r))) refl refl (is ∙ and_true (is_bound_call before call)) refl (and_true free) (and_true bound) so

pub refers_deliver : (before : Past) (call object : ℕ) (b : Bool) → b ≡ is_bound_call before call → Decides b (Refers before (Deliver call object))
refers_deliver before call object b is =
    refers_from before _ true true true true b true true b b refl refl refl refl (is ∙ and_true (is_bound_call before call)) refl refl (and_true b) refl

pub refers_fault : (before : Past) (call : ℕ) (b : Bool) → b ≡ is_bound_call before call → Decides b (Refers before (Fault call))
refers_fault before call b is =
    refers_from before _ true true true true b true true b b refl refl refl refl (is ∙ and_true (is_bound_call before call)) refl refl (and_true b) refl
