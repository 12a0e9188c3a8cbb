use Rattle.std.proofs.Common.{◌≡◌, ◌∙◌, ap, ℕ, option_map}
use Rattle.vat_view.specs.declared.tables.turns.settlements.Settlements.{Settlements}
use Rattle.decoded_records.specs.Past.{Past}
use Rattle.decoded_records.specs.Calls.{answered_by}
use Rattle.vat_view.specs.Glue.TurnTables.{AreSettled, handover_at}
use Rattle.vat_view.proofs.Handed.{answered_known}
use Rattle.vat_view.proofs.state.VatState.answered_by.Goals as goal

known : (items past : Past) (table : Settlements) (call : ℕ) → items ≡ past → AreSettled items table → option_map (λ h. h.by) (handover_at table call) ≡ answered_by call past
known items past table call view_is kept = ap (λ o. option_map (λ h. h.by) o) (kept.handed call) ∙ answered_known call items ∙ ap (λ p. answered_by call p) view_is

pub returns-in-Some : goal.returns-in-Some
returns-in-Some c = ap (λ o. option_map (λ h. h.by) o) c.in-Some.ensures ∙ known c.self.inside.past.items c.args.self.now c.self.inside.tables.turns c.args.call c.self.view_is c.self.invariant.0.2

pub returns-in-None : goal.returns-in-None
returns-in-None c = ap (λ o. option_map (λ h. h.by) o) c.in-None.ensures ∙ known c.self.inside.past.items c.args.self.now c.self.inside.tables.turns c.args.call c.self.view_is c.self.invariant.0.2
