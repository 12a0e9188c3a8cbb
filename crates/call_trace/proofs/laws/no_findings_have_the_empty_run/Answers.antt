use Rattle.std.proofs.Common.{refl, [], arith, Contains}
use Rattle.merge_order.specs.Fits.{IsRising, IsFitting, used_up}
use Rattle.call_trace.proofs.laws.no_findings_have_the_empty_run.Goals as goal

-- nothing stands in an empty list
nothing_there : {A : Type 0} {x : A} → Contains [] x → ⊥
nothing_there there = let below = there.1 in omega (arith, below)

none_rise : IsRising []
none_rise = λ k below. absurd (let no : ⊥ = omega (arith, below) in no)

none_fit : IsFitting [] []
unfolding used_up
none_fit = refl

pub returns-clause-asked : goal.returns-clause-asked
returns-clause-asked c = record {
  good = refl;
  rising = none_rise;
  fits = none_fit;
  two_ends = λ k one other third shared. absurd (nothing_there shared.one_there);
  linked = λ k one other shared. absurd (nothing_there shared.one_there);
}

pub returns-clause-named : goal.returns-clause-named
returns-clause-named c = record {
  by_order = refl;
  parts = record { parts = tt; no_others = tt };
  legal = tt;
  linked = tt;
  reached = tt;
  connected = tt;
  lives = tt;
  balanced = λ i k one other there. absurd (nothing_there there);
}
