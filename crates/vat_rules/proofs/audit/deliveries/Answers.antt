use Rattle.std.proofs.Common.{◌≡◌, ℕ, ◌+◌, ◌<◌, List, length, get_or, take, Bool, true, false, sym, ◌∙◌, ap, arith}
use Rattle.std.specs.Prelude.{count_by}
use Rattle.std.proofs.lemmas.List.Sums.{count_by_more_yes, count_by_more_no}
use Rattle.vat_rules.specs.Telling.{is_delivery}
use Rattle.vat_rules.proofs.audit.deliveries.Goals as goal
use Rattle.vat_rules.proofs.audit.deliveries.Goals.{then-is_delivery, else-is_delivery}

one_more : {X : Type 0} (p : X → Bool) (xs : List X) (i n : ℕ) (e : X) (b : Bool) → n ≡ count_by p (take i xs) → i < length xs → e ≡ get_or xs i e → b ≡ p e → b ≡ true → n + 1 ≡ count_by p (take (i + 1) xs)
one_more p xs i n e b so_far lt is test holds =
    let here : p (get_or xs i e) ≡ true = sym (ap p is) ∙ sym test ∙ holds in
    omega (arith, so_far, count_by_more_yes p xs i e lt here)

none_more : {X : Type 0} (p : X → Bool) (xs : List X) (i n : ℕ) (e : X) (b : Bool) → n ≡ count_by p (take i xs) → i < length xs → e ≡ get_or xs i e → b ≡ p e → b ≡ false → n ≡ count_by p (take (i + 1) xs)
none_more p xs i n e b so_far lt is test fails =
    let here : p (get_or xs i e) ≡ false = sym (ap p is) ∙ sym test ∙ fails in
    omega (arith, so_far, count_by_more_no p xs i e lt here)

pub loop-event-preserved : goal.loop-event-preserved
loop-event-preserved c =
    let loop = c.loop-event in
    let item = c.event-item in
    elim c.if-is_delivery.branch [
      | then-is_delivery w ↦ record {
        count = w.delivered-is ∙ one_more is_delivery c.args.events.now loop.event-index loop.delivered item.result c.is_delivery.result loop.invariant.count c.loop-event-test.true item.is c.is_delivery.ensures w.if-is_delivery.true;
        small = omega (arith, w.delivered-is, loop.invariant.small);
      }
      | else-is_delivery w ↦ record {
        count = w.delivered-is ∙ none_more is_delivery c.args.events.now loop.event-index loop.delivered item.result c.is_delivery.result loop.invariant.count c.loop-event-test.true item.is c.is_delivery.ensures w.if-is_delivery.false;
        small = omega (arith, w.delivered-is, loop.invariant.small);
      }
    ]
