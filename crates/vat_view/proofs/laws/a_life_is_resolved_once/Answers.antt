use Rattle.vat_view.proofs.Unresolved.{resolve_turns_once}
use Rattle.vat_view.proofs.laws.a_life_is_resolved_once.Goals as goal

pub returns : goal.returns
returns c = resolve_turns_once
