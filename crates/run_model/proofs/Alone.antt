-- A call is in one place: at a vat, or under way, or gone.
use Rattle.std.proofs.Common.{◌≡◌, subst, ap, ℕ, false, None, IsSome, is_some, arith}
use Rattle.std.specs.List.{list_any}
use Rattle.run_model.specs.Types.{Name, Call, Send}
use Rattle.run_model.specs.Steps.{PastSteps, EachStep}
use Rattle.run_model.specs.Places.{at_vat}
use Rattle.run_model.specs.Legal.{IsLegal, delivers_call, answers_or_faults}
use Rattle.run_model.specs.Links.{IsLinked}
use Rattle.run_model.specs.UnderWay.{IsUnderWay}
use Rattle.run_model.proofs.Turning.{clash, same_to_itself}
use Rattle.run_model.proofs.Once.{none_of}
use Rattle.run_model.proofs.Token.{is_call, AllDone, done_at}
use Rattle.run_model.proofs.Spent.{spends, delivers_spends, settles_spends}
use Rattle.run_model.proofs.Places.{Place, idle, held, flying, place}

-- a call of which each Send was received isn't under way
not_under_way : (past : PastSteps) (c : Name) → AllDone (is_call c) past past → IsUnderWay past c → ⊥
not_under_way past c all u =
    let s = Send u.from u.connection (Call c u.target u.interface u.method u.caps) in
    let r = done_at (is_call c) past u.later u.earlier s (subst (λ l. AllDone (is_call c) past l) u.sent all) (same_to_itself c) in
    let few = u.waits r.0 r.1 in
    let many = r.2 in omega (arith, few, many)

nowhere : (past : PastSteps) (c : Name) (v : ℕ) → IsSome (at_vat past c v) → at_vat past c v ≡ None → ⊥
nowhere past c v here e = clash here (ap (λ o. is_some o) e)

rests : (past : PastSteps) (c : Name) → Place c past → (v : ℕ) → IsSome (at_vat past c v) → IsUnderWay past c → ⊥
rests past c (idle none all) v here u = nowhere past c v here (none v)
rests past c (held w rest all b f) v here u = not_under_way past c all u
rests past c (flying none left b f) v here u = nowhere past c v here (none v)

fresh_here : (past : PastSteps) (c : Name) → Place c past → (v : ℕ) → IsSome (at_vat past c v) → list_any (spends c) past ≡ false
fresh_here past c (idle none all) v here = absurd (nowhere past c v here (none v))
fresh_here past c (held w rest all b f) v here = f
fresh_here past c (flying none left b f) v here = f

fresh_there : (past : PastSteps) (c : Name) → Place c past → IsUnderWay past c → list_any (spends c) past ≡ false
fresh_there past c (idle none all) u = absurd (not_under_way past c all u)
fresh_there past c (held w rest all b f) u = f
fresh_there past c (flying none left b f) u = f

pub at_rest : (before : PastSteps) → EachStep IsLegal before → EachStep IsLinked before → (c : Name) (v : ℕ) → IsSome (at_vat before c v) → IsUnderWay before c → ⊥
at_rest before legal linked c = rests before c (place before c legal linked)

pub undelivered_here : (before : PastSteps) → EachStep IsLegal before → EachStep IsLinked before → (c : Name) (v : ℕ) → IsSome (at_vat before c v) → list_any (delivers_call c) before ≡ false
undelivered_here before legal linked c v here = none_of (delivers_call c) (spends c) (delivers_spends c) before (fresh_here before c (place before c legal linked) v here)

pub unsettled_here : (before : PastSteps) → EachStep IsLegal before → EachStep IsLinked before → (c : Name) (v : ℕ) → IsSome (at_vat before c v) → list_any (answers_or_faults c) before ≡ false
unsettled_here before legal linked c v here = none_of (answers_or_faults c) (spends c) (settles_spends c) before (fresh_here before c (place before c legal linked) v here)

pub undelivered_there : (before : PastSteps) → EachStep IsLegal before → EachStep IsLinked before → (c : Name) → IsUnderWay before c → list_any (delivers_call c) before ≡ false
undelivered_there before legal linked c u = none_of (delivers_call c) (spends c) (delivers_spends c) before (fresh_there before c (place before c legal linked) u)

pub unsettled_there : (before : PastSteps) → EachStep IsLegal before → EachStep IsLinked before → (c : Name) → IsUnderWay before c → list_any (answers_or_faults c) before ≡ false
unsettled_there before legal linked c u = none_of (answers_or_faults c) (spends c) (settles_spends c) before (fresh_there before c (place before c legal linked) u)
