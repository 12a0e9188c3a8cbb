use Rattle.std.proofs.Common.{◌≡◌, ◌∙◌, sym}
use Rattle.std.specs.List.{list_all}
use Rattle.decoded_records.specs.Lives.{descriptors, is_in_life}
use Rattle.decoded_records.specs.Uses.{number_targeted, number_described, number_released, numbers_used}
use Rattle.vat_view.proofs.Using.{joined}
use Rattle.vat_view.proofs.state.VatState.message_uses_numbers.Goals as goal

pub returns : goal.returns
returns c =
    let e = c.args.event.now in
    let all : c.all_three.result ≡ list_all (λ i. is_in_life i c.args.self.now) (numbers_used e) =
    joined (λ i. is_in_life i c.args.self.now) c.number_targeted.result (number_targeted e) c.number_released.result (number_released e) (number_described e) (descriptors e)
    c.all_three.result c.is_in_life.result c.describes_in_life.result c.is_in_life-2.result
    c.all_three.ensures c.is_in_life.ensures c.number_targeted.ensures c.describes_in_life.ensures c.is_in_life-2.ensures c.number_released.ensures in
    (λ so. sym all ∙ so, λ so. all ∙ so)
