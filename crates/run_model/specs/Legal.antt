-- When a step may come (rpc.capnp, the comments of Bootstrap, Call, Return, Resolve, CapDescriptor and Payload).
use Rattle.std.specs.Prelude.{ℕ, List, [], Bool, true, false, not, ⊤, filter, map, is_some, IsTrue, IsFalse, IsSomeAnd, ◌≡◌, ◌⊎◌, ◌∷◌, ◌++◌, ◌&&◌, ◌||◌, ◌==◌}
use Rattle.std.specs.List.{list_any, AllByRecursion}
use Rattle.std.specs.Str.{bytes_eq as same_path}
use Rattle.run_model.specs.Has.{Has, comes_to}
use Rattle.run_model.specs.Leads.{Turns, Leads, Meets}
use Rattle.run_model.specs.Places.{at_vat}
use Rattle.run_model.specs.Steps.{PastSteps, call, is_same_call, vat_of, EachOf}
use Rattle.run_model.specs.Types.{Name, Cap, Object, Promise, FieldOf, Nothing, Message, Boot, Call, Return, Late, Failed, Taken, Elsewhere, Resolve, Broken, Plain, Step, Host, Vow, Fulfil, Break, Make, Named, Deliver, Answer, AnswerBy, Fault, Send, Receive}

-- a cap is there: it isn't Nothing
abbrev pub is_present : Cap → Bool
is_present Nothing = false
is_present (Object v object) = true
is_present (Promise v promise) = true
is_present (FieldOf c path) = true

-- the caps that are there, of these
abbrev pub present : List Cap → List Cap
present caps = filter is_present caps

-- the caps that a message brings to its receiver, by place: those of a Call or a Return, and what a promise resolved to
abbrev pub caps_brought : Message → List Cap
caps_brought (Call c target interface method caps) = caps
caps_brought (Return c results caps) = caps
caps_brought (Resolve promise cap) = cap ∷ []
caps_brought (Boot c) = []
caps_brought (Late c) = []
caps_brought (Failed c) = []
caps_brought (Taken c by) = []
caps_brought (Elsewhere c) = []
caps_brought (Broken promise) = []
caps_brought (Plain plain) = []

-- the caps in a message
abbrev pub caps_of : Message → List Cap
caps_of (Call c target interface method caps) = target ∷ caps
caps_of (Return c results caps) = map (λ result. result.1) results ++ caps
caps_of (Resolve promise cap) = promise ∷ cap ∷ []
caps_of (Broken promise) = promise ∷ []
caps_of (Boot c) = []
caps_of (Late c) = []
caps_of (Failed c) = []
caps_of (Taken c by) = []
caps_of (Elsewhere c) = []
caps_of (Plain plain) = []

-- the caps that a step uses; a Receive uses none
abbrev pub used_caps : Step → List Cap
used_caps (Fulfil v promise to) = to ∷ []
used_caps (Make v number cap reference interface method) = cap ∷ []
used_caps (Named v cap) = cap ∷ []
used_caps (Answer v c results) = map (λ result. result.1) results
used_caps (Send v connection m) = caps_of m
used_caps (Host v object) = []
used_caps (Vow v promise) = []
used_caps (Break v promise) = []
used_caps (Deliver v c object) = []
used_caps (AnswerBy v c by) = []
used_caps (Fault v c) = []
used_caps (Receive v connection m bound) = []

-- the vat has every capability that the step uses, other than Nothing
abbrev pub HasUsed : PastSteps → Step → Type 0
HasUsed before s = AllByRecursion (Has before (vat_of s)) (present (used_caps s))

-- a step makes the call, or sends its Bootstrap
abbrev pub begins_call : Name → Step → Bool
begins_call c (Make v number cap reference interface method) = is_same_call (call v number) c
begins_call c (Send v connection (Boot d)) = is_same_call d c
begins_call c _ = false

-- a step vows this promise of this vat
abbrev pub vows : ℕ → ℕ → Step → Bool
vows v p (Vow w q) = (w == v) && (q == p)
vows v p _ = false

-- a step keeps or breaks this promise of this vat
abbrev pub ends : ℕ → ℕ → Step → Bool
ends v p (Fulfil w q to) = (w == v) && (q == p)
ends v p (Break w q) = (w == v) && (q == p)
ends v p _ = false

-- a step delivers the call
abbrev pub delivers_call : Name → Step → Bool
delivers_call c (Deliver v d object) = is_same_call d c
delivers_call c _ = false

-- a step delivers the call at this vat, or receives its Bootstrap there: it is this vat's to answer
abbrev pub arrives : Name → ℕ → Step → Bool
arrives c v (Deliver w d object) = (w == v) && is_same_call d c
arrives c v (Receive w connection (Boot d) bound) = (w == v) && is_same_call d c
arrives c v _ = false

-- a step answers the call, with results or by another call
abbrev pub answers_call : Name → Step → Bool
answers_call c (Answer v d results) = is_same_call d c
answers_call c (AnswerBy v d by) = is_same_call d c
answers_call c _ = false

-- a step answers or faults the call
abbrev pub answers_or_faults : Name → Step → Bool
answers_or_faults c (Answer v d results) = is_same_call d c
answers_or_faults c (AnswerBy v d by) = is_same_call d c
answers_or_faults c (Fault v d) = is_same_call d c
answers_or_faults c _ = false

-- no path twice
abbrev pub has_distinct_paths : List (List ℕ × Cap) → Bool
has_distinct_paths [] = true
has_distinct_paths (result ∷ rest) = not (list_any (λ other. same_path result.0 other.0) rest) && has_distinct_paths rest

-- no call of this name was made or booted
abbrev pub IsNew : PastSteps → Name → Type 0
IsNew before c = IsFalse (list_any (begins_call c) before)

-- a vat vowed the promise, and neither kept nor broke it
abbrev pub MayEnd : PastSteps → ℕ → ℕ → Type 0
MayEnd before v p = IsTrue (list_any (vows v p) before) × IsFalse (list_any (ends v p) before)

-- a step answers the first call by the second
abbrev pub hands : Name → Name → Step → Bool
hands c d (AnswerBy v x y) = is_same_call x c && is_same_call y d
hands c d _ = false

-- a step of the vat sends the call on
abbrev pub sends_on : Name → ℕ → Step → Bool
sends_on c v (Send w connection (Call d target interface method caps)) = (w == v) && is_same_call d c
sends_on c v _ = false

-- (rpc.capnp, Return.takeFromOtherQuestion)
-- a step passes the call back: the Return takes the call's own results, since the call led back over the connection by which
-- it came and was sent on there
abbrev pub passes_back : Name → Step → Bool
passes_back c (Send v connection (Taken d by)) = is_same_call d c && is_same_call by c
passes_back c _ = false

-- a vat, whichever it is, passed the call back on one of its connections
abbrev pub is_passed_back : Name → PastSteps → Bool
is_passed_back c before = list_any (passes_back c) before

-- the cap is a field of a call that was passed back
abbrev pub is_passed_field : Cap → PastSteps → Bool
is_passed_field (FieldOf c path) before = is_passed_back c before
is_passed_field _ before = false

-- a cap became another: it turned, and both are one; a field of a call that was passed back need not have turned, since it
-- comes back to where it stands for itself
abbrev pub Became : PastSteps → Cap → Cap → Type 0
Became before a b = Meets before a b × (((c : Cap) × Turns before a c) ⊎ IsTrue (is_passed_field a before))

-- what a vat may send
abbrev pub MaySend : PastSteps → ℕ → Message → Type 0
-- a Bootstrap: it is the vat's own call, and new
MaySend before v (Boot c) = (c.maker ≡ v) × IsNew before c
-- a Call: it is at the vat, its goal and the target are one, and interface and method are those with which it came there
MaySend before v (Call c target interface method caps) =
    IsSomeAnd (at_vat before c v) (λ asked. Meets before asked.goal target × (interface ≡ asked.interface) × (method ≡ asked.method))
-- a Return with results: the call was answered or passed back, and its field became the cap given at each path
MaySend before v (Return c results caps) =
    IsTrue (list_any (answers_call c) before || is_passed_back c before) × AllByRecursion (λ result. Became before (FieldOf c result.0) result.1) results
-- a Resolve: the promise became the cap
MaySend before v (Resolve promise cap) = Became before promise cap
-- a Return that takes the results of a call: the one that it returns was answered by that one, or is that one and the vat
-- sent it on
MaySend before v (Taken c by) = IsTrue (list_any (hands c by) before || (is_same_call c by && list_any (sends_on c v) before))
-- nothing is asked of the others
MaySend before v (Late c) = ⊤
MaySend before v (Failed c) = ⊤
MaySend before v (Elsewhere c) = ⊤
MaySend before v (Broken promise) = ⊤
MaySend before v (Plain plain) = ⊤

-- what a vat binds when it receives a message: the caps that it brings and that are there; or none of a Return's, which may
-- be late where it is received
abbrev pub MayBind : Message → List Cap → Type 0
MayBind (Return c results caps) bound = (bound ≡ present caps) ⊎ (bound ≡ [])
MayBind m bound = bound ≡ present (caps_brought m)

-- what is asked of a step by its kind
abbrev pub MayCome : PastSteps → Step → Type 0
-- a promise is kept or broken once, by the vat that vowed it
MayCome before (Fulfil v p to) = MayEnd before v p
MayCome before (Break v p) = MayEnd before v p
-- a call that is made is new
MayCome before (Make v number cap reference interface method) = IsNew before (call v number)
-- a call that is delivered is at the vat, and its goal leads to the vat's object
MayCome before (Deliver v c object) = IsSomeAnd (at_vat before c v) (λ asked. Leads before asked.goal (Object v object))
-- a call is answered at the vat at which it was delivered or its Bootstrap received, and once; no path has two results
MayCome before (Answer v c results) = IsTrue (list_any (arrives c v) before) × IsFalse (list_any (answers_or_faults c) before) × IsTrue (has_distinct_paths results)
-- so it is answered by another call, one that came to the vat
MayCome before (AnswerBy v c by) =
    IsTrue (list_any (arrives c v) before) × IsFalse (list_any (answers_or_faults c) before) × IsTrue (list_any (comes_to v by) before)
-- so it is faulted, or where it is at the vat
MayCome before (Fault v c) = IsTrue (list_any (arrives c v) before || is_some (at_vat before c v)) × IsFalse (list_any (answers_or_faults c) before)
MayCome before (Send v connection m) = MaySend before v m
MayCome before (Receive v connection m bound) = MayBind m bound
-- nothing is asked of Host, Vow and Name
MayCome before (Host v object) = ⊤
MayCome before (Vow v promise) = ⊤
MayCome before (Named v cap) = ⊤

-- a step is legal: its vat has the caps that it uses, and it may come
abbrev pub IsLegal : PastSteps → Step → Type 0
IsLegal before s = HasUsed before s × MayCome before s

-- a run of the level 1 machine: each step is legal
abbrev pub IsLegalRun : List Step → Type 0
IsLegalRun run = EachOf IsLegal run
