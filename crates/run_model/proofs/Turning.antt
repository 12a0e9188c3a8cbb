-- Turns go one way, since what turns a cap comes once.
use Rattle.std.proofs.Common.{◌≡◌, inl, inr, refl, sym, ◌∙◌, ap, ℕ, List, [], ◌∷◌, Bool, true, false, not, subst, true≢false}
use Rattle.std.specs.List.{list_any}
use Rattle.std.specs.Str.{bytes_eq as same_path}
use Rattle.std.proofs.lemmas.Bool.{and_from, or_left, or_right, eq-eqb, or_parts, and_parts}
use Rattle.std.proofs.lemmas.Slice.Eq.{bytes_eq-Decides}
use Rattle.run_model.specs.Types.{Name, Cap, Object, Promise, FieldOf, Host, Fulfil, Answer, AnswerBy, Step}
use Rattle.run_model.specs.Leads.{Leads, MakesTurn, Turns, here, turn}
use Rattle.run_model.specs.Legal.{IsLegal, has_distinct_paths, ends, answers_or_faults}
use Rattle.run_model.specs.Steps.{EachStep, OneOf, PastSteps, is_same_call}

object_is_no_promise : {v o w p : ℕ} → Object v o ≡ Promise w p → ⊥
object_is_no_promise e = cc

object_is_no_field : {v o : ℕ} {c : Name} {path : List ℕ} → Object v o ≡ FieldOf c path → ⊥
object_is_no_field e = cc

promise_is_no_field : {v o : ℕ} {c : Name} {path : List ℕ} → Promise v o ≡ FieldOf c path → ⊥
promise_is_no_field e = cc

-- a field answered here is a field
of_results : (a b : Cap) (c : Name) (results : List (List ℕ × Cap)) → OneOf (λ r. (a ≡ FieldOf c r.0) × (b ≡ r.1)) results → (path : List ℕ) × (a ≡ FieldOf c path)
of_results a b c [] h = absurd h
of_results a b c (r ∷ rs) (inl e) = (r.0, e.0)
of_results a b c (r ∷ rs) (inr h) = of_results a b c rs h

no_turn_of_object : (s : Step) (v o : ℕ) (b : Cap) → MakesTurn (Object v o) b s → ⊥
no_turn_of_object (Fulfil w p to) v o b h = object_is_no_promise h.0
no_turn_of_object (Answer w c results) v o b h = object_is_no_field (of_results (Object v o) b c results h).1
no_turn_of_object (AnswerBy w c by) v o b h = object_is_no_field h.1
no_turn_of_object (Host w n) v o b h = h
no_turn_of_object _ v o b h = h

pub objects_stay : (before : PastSteps) (v o : ℕ) (b : Cap) → Turns before (Object v o) b → ⊥
objects_stay [] v o b h = h
objects_stay (s ∷ before) v o b (inl h) = no_turn_of_object s v o b h
objects_stay (s ∷ before) v o b (inr h) = objects_stay before v o b h

pub same_to_itself : (c : Name) → is_same_call c c ≡ true
same_to_itself c = and_from _ _ (eq-eqb c.maker c.maker refl) (eq-eqb c.number c.number refl)

-- a promise that turned was kept
kept_at : (s : Step) (v p : ℕ) (b : Cap) → MakesTurn (Promise v p) b s → ends v p s ≡ true
kept_at (Fulfil w q to) v p b h = let v_same : v ≡ w = (let e = h.0 in cc) in let p_same : p ≡ q = (let e = h.0 in cc) in
    and_from _ _ (eq-eqb w v (sym v_same)) (eq-eqb q p (sym p_same))
kept_at (Answer w c results) v p b h = absurd (promise_is_no_field (of_results (Promise v p) b c results h).1)
kept_at (AnswerBy w c by) v p b h = absurd (promise_is_no_field h.1)
kept_at (Host w n) v p b h = absurd h
kept_at _ v p b h = absurd h

kept : (before : PastSteps) (v p : ℕ) (b : Cap) → Turns before (Promise v p) b → list_any (ends v p) before ≡ true
kept [] v p b h = absurd h
kept (s ∷ before) v p b (inl h) = or_left _ _ (kept_at s v p b h)
kept (s ∷ before) v p b (inr h) = or_right _ _ (kept before v p b h)

-- a call whose field turned was settled
settled_at : (s : Step) (c : Name) (path : List ℕ) (b : Cap) → MakesTurn (FieldOf c path) b s → answers_or_faults c s ≡ true
settled_at (Fulfil w q to) c path b h = absurd (promise_is_no_field (sym h.0))
settled_at (Answer w d results) c path b h =
    let e = (of_results (FieldOf c path) b d results h).1 in let same : c ≡ d = cc in rw (sym same) (same_to_itself c)
settled_at (AnswerBy w d by) c path b h = let e = h.1 in let same : c ≡ d = cc in rw (sym same) (same_to_itself c)
settled_at (Host w n) c path b h = absurd h
settled_at _ c path b h = absurd h

settled : (before : PastSteps) (c : Name) (path : List ℕ) (b : Cap) → Turns before (FieldOf c path) b → list_any (answers_or_faults c) before ≡ true
settled [] c path b h = absurd h
settled (s ∷ before) c path b (inl h) = or_left _ _ (settled_at s c path b h)
settled (s ∷ before) c path b (inr h) = or_right _ _ (settled before c path b h)

pub clash : {b : Bool} → b ≡ true → b ≡ false → ⊥
clash e f = true≢false (sym e ∙ f)

-- a cap at a path that no other result has
not_there : (a b : Cap) (c : Name) (path : List ℕ) (results : List (List ℕ × Cap)) → a ≡ FieldOf c path → list_any (λ other. same_path path other.0) results ≡ false →
    OneOf (λ r. (a ≡ FieldOf c r.0) × (b ≡ r.1)) results → ⊥
not_there a b c path [] e none h = h
not_there a b c path (r ∷ rs) e none (inl f) =
    let f0 = f.0 in let same : path ≡ r.0 = cc in clash ((bytes_eq-Decides path r.0).1 same) (or_parts _ _ none).0
not_there a b c path (r ∷ rs) e none (inr h) = not_there a b c path rs e (or_parts _ _ none).1 h

false_of_not : (b : Bool) → not b ≡ true → b ≡ false
false_of_not true e = sym e
false_of_not false e = refl

one_result : (a b d : Cap) (c : Name) (results : List (List ℕ × Cap)) → has_distinct_paths results ≡ true →
    OneOf (λ r. (a ≡ FieldOf c r.0) × (b ≡ r.1)) results → OneOf (λ r. (a ≡ FieldOf c r.0) × (d ≡ r.1)) results → b ≡ d
one_result a b d c [] distinct h k = absurd h
one_result a b d c (r ∷ rs) distinct (inl h) (inl k) = h.1 ∙ sym k.1
one_result a b d c (r ∷ rs) distinct (inl h) (inr k) = absurd (not_there a d c r.0 rs h.0 (false_of_not _ (and_parts _ _ distinct).0) k)
one_result a b d c (r ∷ rs) distinct (inr h) (inl k) = absurd (not_there a b c r.0 rs k.0 (false_of_not _ (and_parts _ _ distinct).0) h)
one_result a b d c (r ∷ rs) distinct (inr h) (inr k) = one_result a b d c rs (and_parts _ _ distinct).1 h k

by_one_step : (before : PastSteps) (s : Step) → IsLegal before s → (a b c : Cap) → MakesTurn a b s → MakesTurn a c s → b ≡ c
by_one_step before (Fulfil v p to) legal a b c h k = h.1 ∙ sym k.1
by_one_step before (Answer v d results) legal a b c h k = one_result a b c d results legal.1.2 h k
by_one_step before (AnswerBy v d by) legal a b c h k =
    let e = h.1 in let f = k.1 in let same : h.0 ≡ k.0 = cc in h.2 ∙ ap (λ path. FieldOf by path) same ∙ sym k.2
by_one_step before (Host v o) legal a b c h k = absurd h
by_one_step before _ legal a b c h k = absurd h

not_again : (before : PastSteps) (s : Step) → IsLegal before s → (a b c : Cap) → MakesTurn a b s → Turns before a c → ⊥
not_again before (Fulfil v p to) legal a b c h k = clash (kept before v p c (subst (λ x. Turns before x c) h.0 k)) legal.1.1
not_again before (Answer v d results) legal a b c h k =
    let e = of_results a b d results h in clash (settled before d e.0 c (subst (λ x. Turns before x c) e.1 k)) legal.1.1
not_again before (AnswerBy v d by) legal a b c h k = clash (settled before d h.0 c (subst (λ x. Turns before x c) h.1 k)) legal.1.1
not_again before (Host v o) legal a b c h k = h
not_again before _ legal a b c h k = h

pub turns_one_way : (before : PastSteps) → EachStep IsLegal before → (a b c : Cap) → Turns before a b → Turns before a c → b ≡ c
turns_one_way [] legal a b c h k = absurd h
turns_one_way (s ∷ before) legal a b c (inl h) (inl k) = by_one_step before s legal.0 a b c h k
turns_one_way (s ∷ before) legal a b c (inl h) (inr k) = absurd (not_again before s legal.0 a b c h k)
turns_one_way (s ∷ before) legal a b c (inr h) (inl k) = absurd (not_again before s legal.0 a c b k h)
turns_one_way (s ∷ before) legal a b c (inr h) (inr k) = turns_one_way before legal.1 a b c h k

pub from_object : (before : PastSteps) (v o : ℕ) (x y : Cap) → x ≡ Object v o → Leads before x y → y ≡ Object v o
from_object before v o x y e here = e
from_object before v o x y e (turn {b = b} t l) = absurd (objects_stay before v o b (subst (λ z. Turns before z b) e t))

one_end : (before : PastSteps) → EachStep IsLegal before → (v o w n : ℕ) (a x y : Cap) → x ≡ Object v o → y ≡ Object w n → Leads before a x → Leads before a y → x ≡ y
one_end before legal v o w n a x y e f here l = e ∙ sym (from_object before v o a y e l)
one_end before legal v o w n a x y e f (turn {b = b} t l) here = absurd (objects_stay before w n b (subst (λ z. Turns before z b) f t))
one_end before legal v o w n a x y e f (turn {b = b} t l) (turn {b = d} u k) =
    one_end before legal v o w n b x y e f l (subst (λ z. Leads before z y) (turns_one_way before legal a d b u t) k)

pub leads_to_one_object : (before : PastSteps) → EachStep IsLegal before → (a : Cap) (v o w n : ℕ) → Leads before a (Object v o) → Leads before a (Object w n) → (v ≡ w) × (o ≡ n)
leads_to_one_object before legal a v o w n l k =
    let e = one_end before legal v o w n a (Object v o) (Object w n) refl refl l k in ((let s : v ≡ w = cc in s), (let s : o ≡ n = cc in s))
