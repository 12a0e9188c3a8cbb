use Rattle.std.proofs.Common.{List, ℕ, sym, subst}
use Rattle.vat_log.specs.declared.body.Body.{Body}
use Rattle.vat_log.specs.Ends.{AreEnds}
use Rattle.vat_log.proofs.log.spelled.Goals as goal

pub cut_frames-requires-clause-ends : goal.cut_frames-requires-clause-ends
cut_frames-requires-clause-ends c =
    subst (λ (ends : List ℕ). AreEnds c.in_ok-written.written.bytes c.args.records.now.items ends) (sym c.deref-2.ensures.value)
    (subst (λ (records : List Body). AreEnds c.in_ok-written.written.bytes records c.in_ok-written.written.ends.items) c.deref.ensures.value c.in_ok-written.ensures.ends)
