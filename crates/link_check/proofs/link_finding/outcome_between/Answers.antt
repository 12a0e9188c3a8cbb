use Rattle.std.proofs.Common.{sym, arith}
use Rattle.link_check.proofs.Faults.{length_prefix, prefix_from_none, broken_at_first, broken_at_second, good_link}
use Rattle.link_check.proofs.link_finding.outcome_between.Goals as goal

pub returns-in-Some : goal.returns-in-Some
returns-in-Some c = broken_at_first _ _ _ c.vat.ensures c.in-Some.ensures

pub returns-in-Some-find_fault : goal.returns-in-Some-find_fault
returns-in-Some-find_fault c = broken_at_second _ _ _ c.vat-in-Some-find_fault.ensures c.in_default.ensures c.in-Some-find_fault.ensures

pub overflow_add-delivered : goal.overflow_add-delivered
overflow_add-delivered c =
    let q = length_prefix _ _ (prefix_from_none _ _ (sym c.in_default-find_fault.ensures)) in
    omega (arith, q, c.count_received.ensures.count, c.count_received-2.ensures.count, c.count_sent.ensures.count, c.count_sent.ensures.fits)

pub overflow_sub-in_flight : goal.overflow_sub-in_flight
overflow_sub-in_flight c =
    let q = length_prefix _ _ (prefix_from_none _ _ (sym c.in_default-find_fault.ensures)) in
    omega (arith, q, c.count_received-2.ensures.count, c.count_sent.ensures.count)

pub overflow_sub-in_flight-2 : goal.overflow_sub-in_flight-2
overflow_sub-in_flight-2 c =
    let p = length_prefix _ _ (prefix_from_none _ _ (sym c.in_default.ensures)) in
    omega (arith, p, c.count_received.ensures.count, c.count_sent-2.ensures.count)

pub returns : goal.returns
returns c =
    good_link _ _ _ _ _ c.in_default.ensures c.in_default-find_fault.ensures c.count_received.ensures.count c.count_received-2.ensures.count c.count_sent.ensures.count c.count_sent-2.ensures.count
