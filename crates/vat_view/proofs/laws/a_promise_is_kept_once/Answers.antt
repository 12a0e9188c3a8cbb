use Rattle.vat_view.proofs.Turning.{fulfil_once, break_once}
use Rattle.vat_view.proofs.laws.a_promise_is_kept_once.Goals as goal

pub returns-clause-fulfilled : goal.returns-clause-fulfilled
returns-clause-fulfilled c = λ before r to p stands unkept. fulfil_once before r p stands unkept to

pub returns-clause-broken : goal.returns-clause-broken
returns-clause-broken c = break_once
