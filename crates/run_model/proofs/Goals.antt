-- Wherever a call is, the cap of its Make and its goal are one.
use Rattle.std.proofs.Common.{◌≡◌, refl, sym, ◌∙◌, ap, subst, ℕ, ◌==◌, [], ◌∷◌, ◌++◌, Bool, true, false, ◌&&◌, Option, Some, None, if◌then◌else◌, IsSomeAnd, true≢false}
use Rattle.std.specs.List.{list_any}
use Rattle.std.specs.Option.{option_or}
use Rattle.std.proofs.lemmas.Bool.{and_parts, or_left, or_right}
use Rattle.run_model.specs.Types.{Name, Cap, Message, Boot, Call, Step, Host, Make, Deliver, Fault, Send, Receive}
use Rattle.run_model.proofs.Meeting.{meets_itself, meets_later, meets_through}
use Rattle.run_model.proofs.Sending.{was_sent}
use Rattle.run_model.proofs.Once.{names_same}
use Rattle.run_model.specs.Leads.{Meets}
use Rattle.run_model.specs.Legal.{IsLegal, begins_call}
use Rattle.run_model.specs.Links.{IsLinked}
use Rattle.run_model.specs.Places.{Asked, asked_by_parts, Move, brings_it, takes_it_away, leaves_it, move_of, asked_after, at_vat}
use Rattle.run_model.specs.Right.{request_in_make}
use Rattle.run_model.specs.Steps.{EachStep, PastSteps, call, is_same_call, last_step_answer}

-- what is asked for and a goal are one, by the same method
abbrev pub Reaches : PastSteps → Asked → Asked → Type 0
Reaches before goal a = Meets before a.goal goal.goal × (goal.interface ≡ a.interface) × (goal.method ≡ a.method)

-- the cap of a call's Make and a goal are one
abbrev pub IsGoal : PastSteps → Name → Asked → Type 0
IsGoal before c goal = IsSomeAnd (last_step_answer (request_in_make c) before) (Reaches before goal)

-- so it is wherever a call is
abbrev pub AllGo : PastSteps → Type 0
AllGo before = (c : Name) (v : ℕ) (goal : Asked) → at_vat before c v ≡ Some goal → IsGoal before c goal

none_some : {A : Type 0} {x : A} → None ≡ Some x → ⊥
none_some e = cc

from_if : {A : Type 0} (b : Bool) (x y : A) → (if b then Some x else None) ≡ Some y → (b ≡ true) × (x ≡ y)
from_if true x y e = (refl, cc)
from_if false x y e = absurd (none_some e)

-- a call that was made was begun
pub begun_at : (s : Step) (c : Name) (a : Asked) → request_in_make c s ≡ Some a → begins_call c s ≡ true
begun_at (Make v n cap r i m) c a e = (from_if (is_same_call (call v n) c) (asked_by_parts cap i m) a e).0
begun_at (Host v o) c a e = absurd (none_some e)
begun_at _ c a e = absurd (none_some e)

begun_or : (s : Step) (before : PastSteps) (c : Name) (o : Option Asked) (P : Asked → Type 0) → request_in_make c s ≡ o → (IsSomeAnd (last_step_answer (request_in_make c) before) P → list_any (begins_call c) before ≡ true) →
    IsSomeAnd (option_or o (last_step_answer (request_in_make c) before)) P → list_any (begins_call c) (s ∷ before) ≡ true
begun_or s before c None P e rest h = or_right _ _ (rest h)
begun_or s before c (Some a) P e rest h = or_left _ _ (begun_at s c a e)

pub begun : (before : PastSteps) (c : Name) (P : Asked → Type 0) → IsSomeAnd (last_step_answer (request_in_make c) before) P → list_any (begins_call c) before ≡ true
begun [] c P h = absurd h
begun (s ∷ before) c P h = begun_or s before c (request_in_make c s) P refl (begun before c P) h

-- a call that was made isn't made again
made_once : (before : PastSteps) (s : Step) (c : Name) (a : Asked) → IsLegal before s → list_any (begins_call c) before ≡ true → request_in_make c s ≡ Some a → ⊥
made_once before (Make v n cap r i m) c a legal b e =
    let same = names_same (call v n) c (from_if (is_same_call (call v n) c) (asked_by_parts cap i m) a e).0 in
    true≢false (sym b ∙ subst (λ d. list_any (begins_call d) before ≡ false) same legal.1)
made_once before (Host v o) c a legal b e = none_some e
made_once before _ c a legal b e = none_some e

longer : (s : Step) (before : PastSteps) (goal : Asked) (o : Option Asked) → IsSomeAnd o (Reaches before goal) → IsSomeAnd o (Reaches (s ∷ before) goal)
longer s before goal None h = h
longer s before goal (Some a) h = (meets_later (s ∷ []) before a.goal goal.goal h.0, h.1, h.2)

more_of : (s : Step) (before : PastSteps) (c : Name) (goal : Asked) (o : Option Asked) → request_in_make c s ≡ o → ((a : Asked) → request_in_make c s ≡ Some a → ⊥) → IsGoal before c goal →
    IsSomeAnd (option_or o (last_step_answer (request_in_make c) before)) (Reaches (s ∷ before) goal)
more_of s before c goal None e never h = longer s before goal (last_step_answer (request_in_make c) before) h
more_of s before c goal (Some a) e never h = absurd (never a e)

one_more : (s : Step) (before : PastSteps) (c : Name) (goal : Asked) → IsLegal before s → IsGoal before c goal → IsGoal (s ∷ before) c goal
one_more s before c goal legal h = more_of s before c goal (request_in_make c s) refl (λ a. made_once before s c a legal (begun before c (Reaches before goal) h)) h

more : (later before : PastSteps) (c : Name) (goal : Asked) → EachStep IsLegal (later ++ before) → IsGoal before c goal → IsGoal (later ++ before) c goal
more [] before c goal legal h = h
more (s ∷ later) before c goal legal h = one_more s (later ++ before) c goal legal.0 (more later before c goal legal.1 h)

each_up_to : (P : PastSteps → Step → Type 0) (later earlier : PastSteps) → EachStep P (later ++ earlier) → EachStep P earlier
each_up_to P [] earlier h = h
each_up_to P (x ∷ later) earlier h = each_up_to P later earlier h.1

-- one goal and another are one
onwards : (before : PastSteps) → EachStep IsLegal before → (c : Name) (there : Asked) (target : Cap) (i j : ℕ) (o : Option Asked) → Meets before there.goal target → i ≡ there.interface → j ≡ there.method →
    IsSomeAnd o (Reaches before there) → IsSomeAnd o (Reaches before (asked_by_parts target i j))
onwards before legal c there target i j None l e f h = h
onwards before legal c there target i j (Some a) l e f h = (meets_through before legal a.goal there.goal target h.0 l, e ∙ h.1, f ∙ h.2)

pub sent_on : (before : PastSteps) → EachStep IsLegal before → (c : Name) (w : ℕ) (target : Cap) (i j : ℕ) (o : Option Asked) → at_vat before c w ≡ o → AllGo before →
    IsSomeAnd o (λ a. Meets before a.goal target × (i ≡ a.interface) × (j ≡ a.method)) → IsGoal before c (asked_by_parts target i j)
sent_on before legal c w target i j None e all h = absurd h
sent_on before legal c w target i j (Some a) e all h = onwards before legal c a target i j (last_step_answer (request_in_make c) before) h.0 h.1 h.2 (all c w a e)

never : (b : Bool) (a : Asked) → (if b then takes_it_away else leaves_it) ≡ brings_it a → ⊥
never true a e = cc
never false a e = cc

left_brought : {a : Asked} → leaves_it ≡ brings_it a → ⊥
left_brought e = cc

-- a step that brings a call somewhere passes the test
brought_if : (b : Bool) (a goal : Asked) → (if b then brings_it a else leaves_it) ≡ brings_it goal → (b ≡ true) × (a ≡ goal)
brought_if true a goal e = (refl, cc)
brought_if false a goal e = absurd (left_brought e)

first : (before : PastSteps) (goal a : Asked) (o rest : Option Asked) → o ≡ Some a → a ≡ goal → IsSomeAnd (option_or o rest) (Reaches before goal)
first before goal a None rest e f = absurd (none_some e)
first before goal a (Some b) rest e f = let same : b ≡ goal = cc in subst (λ g. Reaches before g b) same (meets_itself before b.goal, refl, refl)

-- a call that comes to a vat comes with such a goal
came : (s : Step) (before : PastSteps) → EachStep IsLegal (s ∷ before) → EachStep IsLinked (s ∷ before) → EachStep (λ b t. AllGo b) before → (c : Name) (v : ℕ) (goal : Asked) →
    move_of c v s ≡ brings_it goal → IsGoal (s ∷ before) c goal
came (Make w n cap r i j) before legal linked all c v goal e =
    let f = brought_if ((w == v) && is_same_call (call w n) c) (asked_by_parts cap i j) goal e in
    let same = (and_parts (w == v) (is_same_call (call w n) c) f.0).1 in
    let asked = f.1 in
    first (Make w n cap r i j ∷ before) goal (asked_by_parts cap i j) (request_in_make c (Make w n cap r i j)) (last_step_answer (request_in_make c) before)
    (ap (λ b. if b then Some (asked_by_parts cap i j) else None) same) asked
came (Receive w k (Call d target i j caps) bound) before legal linked all c v goal e =
    let m : Message = Call d target i j caps in
    let f = brought_if ((w == v) && is_same_call d c) (asked_by_parts target i j) goal e in
    let asked = f.1 in
    let same = names_same d c (and_parts (w == v) (is_same_call d c) f.0).1 in
    let was = was_sent before w k m bound linked.0 in
    let s : Step = Send was.0 k m in
    let there = subst (λ b. EachStep IsLegal b) was.4 legal.1 in
    let legal_there : EachStep IsLegal (s ∷ was.2) = each_up_to IsLegal was.1 (s ∷ was.2) there in
    let all_there : EachStep (λ b t. AllGo b) (s ∷ was.2) = each_up_to (λ b t. AllGo b) was.1 (s ∷ was.2) (subst (λ b. EachStep (λ b t. AllGo b) b) was.4 all) in
    let sent : IsGoal was.2 d (asked_by_parts target i j) = sent_on was.2 legal_there.1 d was.0 target i j (at_vat was.2 d was.0) refl all_there.0 legal_there.0.1 in
    let now : IsGoal before d (asked_by_parts target i j) =
    subst (λ b. IsGoal b d (asked_by_parts target i j)) (sym was.4) (more was.1 (s ∷ was.2) d (asked_by_parts target i j) there (one_more s was.2 d (asked_by_parts target i j) legal_there.0 sent)) in
    subst (λ g. IsGoal (Receive w k m bound ∷ before) c g) asked
    (subst (λ x. IsGoal (Receive w k m bound ∷ before) x (asked_by_parts target i j)) same (one_more (Receive w k m bound) before d (asked_by_parts target i j) legal.0 now))
came (Receive w k (Boot d) bound) before legal linked all c v goal e = absurd (left_brought e)
came (Receive w k m bound) before legal linked all c v goal e = absurd (left_brought e)
came (Send w k (Call d target i j caps)) before legal linked all c v goal e = absurd (never _ goal e)
came (Send w k (Boot d)) before legal linked all c v goal e = absurd (left_brought e)
came (Send w k m) before legal linked all c v goal e = absurd (left_brought e)
came (Deliver w d o) before legal linked all c v goal e = absurd (never _ goal e)
came (Fault w d) before legal linked all c v goal e = absurd (never _ goal e)
came (Host w o) before legal linked all c v goal e = absurd (left_brought e)
came _ before legal linked all c v goal e = absurd (left_brought e)

decide : (s : Step) (before : PastSteps) → EachStep IsLegal (s ∷ before) → EachStep IsLinked (s ∷ before) → AllGo before → EachStep (λ b t. AllGo b) before → (c : Name) (v : ℕ) (goal : Asked) →
    (m : Move) → move_of c v s ≡ m → asked_after m (at_vat before c v) ≡ Some goal → IsGoal (s ∷ before) c goal
decide s before legal linked now all c v goal leaves_it g e = one_more s before c goal legal.0 (now c v goal e)
decide s before legal linked now all c v goal takes_it_away g e = absurd (none_some e)
decide s before legal linked now all c v goal (brings_it a) g e =
    let same : a ≡ goal = cc in came s before legal linked all c v goal (g ∙ ap (λ x. brings_it x) same)

pub all_go : (before : PastSteps) → EachStep IsLegal before → EachStep IsLinked before → AllGo before × EachStep (λ b t. AllGo b) before
all_go [] legal linked = ((λ c v goal e. absurd (none_some e)), tt)
all_go (s ∷ before) legal linked =
    let r = all_go before legal.1 linked.1 in ((λ c v goal e. decide s before legal linked r.0 r.1 c v goal (move_of c v s) refl e), (r.0, r.1))

pub goes_to_goal : (before : PastSteps) → EachStep IsLegal before → EachStep IsLinked before → (c : Name) (v : ℕ) (goal : Asked) →
    at_vat before c v ≡ Some goal → IsSomeAnd (last_step_answer (request_in_make c) before) (λ a. Meets before a.goal goal.goal × (goal.interface ≡ a.interface) × (goal.method ≡ a.method))
goes_to_goal before legal linked c v goal e = (all_go before legal linked).0 c v goal e
