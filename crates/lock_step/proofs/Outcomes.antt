-- What is found of both directions of a connection, in the logs of its ends.
use Rattle.std.proofs.Common.{◌≡◌, ℕ, ◌+◌, ◌≤◌, length, Option, Some, None, sym, subst, arith}
use Rattle.link_check.specs.declared.link_outcome.LinkOutcome.TheVariants.{Good, Broken}
use Rattle.link_check.specs.Glue.{first_fault}
use Rattle.link_check.specs.Prefix.{Ends, IsGood, IsOutcome}
use Rattle.link_check.proofs.Faults.{broken_at_first, broken_at_second, length_prefix, prefix_from_none}
use Rattle.lock_step.specs.Directions.{BothWays, Direction, between}

-- the fault of a direction
abbrev pub fault_of : Direction → Option ℕ
fault_of way = first_fault way.received way.sent

pub at_first : (link : Ends) (ways : BothWays) (v m : ℕ) → link.first.vat ≡ v → between link ≡ ways → Some m ≡ fault_of ways.to_first → IsOutcome link (Broken v m)
at_first link ways v m vat same fault = broken_at_first link v m (sym vat) (subst (λ (w : BothWays). Some m ≡ fault_of w.to_first) (sym same) fault)

pub at_second : (link : Ends) (ways : BothWays) (v m : ℕ) → link.second.vat ≡ v → between link ≡ ways → None ≡ fault_of ways.to_first → Some m ≡ fault_of ways.to_second → IsOutcome link (Broken v m)
at_second link ways v m vat same none fault =
    broken_at_second link v m (sym vat) (subst (λ (w : BothWays). None ≡ fault_of w.to_first) (sym same) none) (subst (λ (w : BothWays). Some m ≡ fault_of w.to_second) (sym same) fault)

-- how many frames both ends together sent, and received
abbrev pub sent_in : BothWays → ℕ
sent_in ways = length ways.to_first.sent + length ways.to_second.sent

abbrev pub received_in : BothWays → ℕ
received_in ways = length ways.to_first.received + length ways.to_second.received

good_by : (link : Ends) (delivered in_flight : ℕ) → None ≡ fault_of (between link).to_first → None ≡ fault_of (between link).to_second → delivered ≡ received_in (between link) → delivered + in_flight ≡ sent_in (between link) → IsGood link delivered in_flight
good_by link delivered in_flight one other came went = record {
  at_first = prefix_from_none _ _ (sym one);
  at_second = prefix_from_none _ _ (sym other);
  came = came;
  went = omega (arith, went);
}

pub at_neither : (link : Ends) (ways : BothWays) (delivered in_flight : ℕ) → between link ≡ ways → None ≡ fault_of ways.to_first → None ≡ fault_of ways.to_second → delivered ≡ received_in ways → delivered + in_flight ≡ sent_in ways → IsOutcome link (Good delivered in_flight)
at_neither link ways delivered in_flight same one other came went =
    good_by link delivered in_flight (subst (λ (w : BothWays). None ≡ fault_of w.to_first) (sym same) one) (subst (λ (w : BothWays). None ≡ fault_of w.to_second) (sym same) other)
    (subst (λ (w : BothWays). delivered ≡ received_in w) (sym same) came) (subst (λ (w : BothWays). delivered + in_flight ≡ sent_in w) (sym same) went)

-- no more was received than was sent
pub fewer_came : (ways : BothWays) → None ≡ fault_of ways.to_first → None ≡ fault_of ways.to_second → received_in ways ≤ sent_in ways
fewer_came ways one other =
    omega (arith, length_prefix _ _ (prefix_from_none _ _ (sym one)), length_prefix _ _ (prefix_from_none _ _ (sym other)))
