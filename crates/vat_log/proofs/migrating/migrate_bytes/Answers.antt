use Rattle.std.proofs.Common.{◌≡◌, ◌∙◌, ℕ, List, Ok, ap, subst}
use Rattle.std.proofs.lemmas.Result.{IfOk-weaker}
use Rattle.vat_log.specs.Migrated.{migrated_version}
use Rattle.vat_log.specs.Reading.{log_of}
use Rattle.vat_log.proofs.Respelled.{migrated_by_header}
use Rattle.vat_log.proofs.migrating.migrate_bytes.Goals as goal

pub returns-clause-made : goal.returns-clause-made
returns-clause-made c =
    let start = c.in_ok-reader.reader.log in
    let wanted = c.migrated.ensures.value ∙ ap migrated_version c.log_version.ensures in
    IfOk-weaker c.respelled.result _ _ (λ made h.
    let read = subst (λ (b : List ℕ). log_of b ≡ Ok h.0) c.in_ok-reader.ensures.bytes h.1 in
    (h.0, read, h.2 ∙ migrated_by_header c.args.bytes start h.0 c.migrated.result c.in_ok-reader.ensures.header read wanted)) c.respelled.ensures.made
