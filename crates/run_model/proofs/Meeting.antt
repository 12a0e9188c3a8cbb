-- Caps that are one, and what a cap became.
use Rattle.std.proofs.Common.{◌⊎◌, inl, inr, refl, subst, ℕ, ◌++◌}
use Rattle.run_model.specs.Types.{Cap, Object}
use Rattle.run_model.proofs.Growing.{turns_grow, leads_grow, leads_through, passed_later}
use Rattle.run_model.proofs.Turning.{turns_one_way, from_object}
use Rattle.run_model.specs.Leads.{Leads, LeadsByTurns, Meets, Turns, here, turn}
use Rattle.run_model.specs.Legal.{Became, IsLegal}
use Rattle.run_model.specs.Steps.{EachStep, PastSteps}

pub meets_itself : (before : PastSteps) (a : Cap) → Meets before a a
meets_itself before a = (a, here, here)

pub meets_back : (before : PastSteps) (a b : Cap) → Meets before a b → Meets before b a
meets_back before a b m = (m.0, m.2, m.1)

pub meets_later : (later before : PastSteps) (a b : Cap) → Meets before a b → Meets (later ++ before) a b
meets_later later before a b m = (m.0, leads_grow later before a m.0 m.1, leads_grow later before b m.0 m.2)

pub leads_meet : (before : PastSteps) (a b : Cap) → Leads before a b → Meets before a b
leads_meet before a b l = (b, l, here)

-- of two caps to which one leads, the first leads to the second or the second to the first
pub walks_fork : (before : PastSteps) → EachStep IsLegal before → (a b c : Cap) → Leads before a b → Leads before a c → Leads before b c ⊎ Leads before c b
walks_fork before legal a b c here l = inl l
walks_fork before legal a b c (turn t k) here = inr (turn t k)
walks_fork before legal a b c (turn {b = d} t k) (turn {b = e} u l) =
    walks_fork before legal d b c k (subst (λ x. Leads before x c) (turns_one_way before legal a e d u t) l)

joined : (before : PastSteps) (a c x y : Cap) → Leads before a x → Leads before c y → Leads before x y ⊎ Leads before y x → Meets before a c
joined before a c x y k l (inl on) = (y, leads_through before a x y k on, l)
joined before a c x y k l (inr on) = (x, k, leads_through before c y x l on)

pub meets_through : (before : PastSteps) → EachStep IsLegal before → (a b c : Cap) → Meets before a b → Meets before b c → Meets before a c
meets_through before legal a b c m n = joined before a c m.0 n.0 m.1 n.2 (walks_fork before legal b m.0 n.0 m.2 n.1)

-- a cap that is one with an object leads to it, since an object turns to nothing
pub meets_object : (before : PastSteps) (a : Cap) (v o : ℕ) → Meets before a (Object v o) → Leads before a (Object v o)
meets_object before a v o m = subst (Leads before a) (from_object before v o (Object v o) m.0 refl m.2) m.1

pub became_meets : (before : PastSteps) (a b : Cap) → Became before a b → Meets before a b
became_meets before a b h = h.0

pub became_later : (later before : PastSteps) (a b : Cap) → Became before a b → Became (later ++ before) a b
became_later later before a b (m, inl turned) = (meets_later later before a b m, inl (turned.0, turns_grow later before a turned.0 turned.1))
became_later later before a b (m, inr passed) = (meets_later later before a b m, inr (passed_later later before a passed))

-- a cap became each cap that is one with what it became
pub became_through : (before : PastSteps) → EachStep IsLegal before → (a b c : Cap) → Became before a b → Meets before b c → Became before a c
became_through before legal a b c h m = (meets_through before legal a b c h.0 m, h.1)

-- what a cap turns to is one with what the cap is one with
pub became_first : (before : PastSteps) → EachStep IsLegal before → (a b c : Cap) → Turns before a c → Meets before a b → Meets before c b
became_first before legal a b c t m =
    meets_through before legal c a b (meets_back before a c (leads_meet before a c (turn t here))) m

-- a cap became what it leads to by 1 or more turns
pub leads_on_became : (before : PastSteps) (a b : Cap) → LeadsByTurns before a b → Became before a b
leads_on_became before a b l = (leads_meet before a b (turn l.1 l.2), inl (l.0, l.1))
