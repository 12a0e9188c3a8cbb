use Rattle.std.proofs.Common.{◌∙◌, refl, ap, subst, sym, List}
use Rattle.std.specs.Prelude.{◌↔◌, AllPairs, Contains, reverse}
use Rattle.decoded_records.specs.Past.{Past}
use Rattle.left_open.specs.Types.{Open}
use Rattle.left_open.specs.Left.{IsOpen, OpensBefore}
use Rattle.left_open.specs.Glue.{begun_in, opened_from}
use Rattle.left_open.proofs.Exact.{exact, in_order}
use Rattle.left_open.proofs.log_ending.open_at_end.Goals as goal

pub returns-in-Some-clause-exact : goal.returns-in-Some-clause-exact
returns-in-Some-clause-exact c = λ o.
    let w = c.watch.new.watched in
    let past : Past = reverse c.args.records.now in
    let found = rw c.in-Some.is at c.in_ok-state.ensures in
    let listed =
    c.in_ok-list_open-in-Some.ensures
    ∙ ap (λ p. opened_from (begun_in w.questions) (begun_in w.unfinished) (begun_in w.loopbacks) (begun_in w.lives) p 0 c.args.records.now) found.0 in
    let P : List Open → Type 0 = λ l. Contains l o ↔ IsOpen past o in
    subst P (sym listed)
    (exact (begun_in w.questions) (begun_in w.unfinished) (begun_in w.loopbacks) (begun_in w.lives) past found.2.questions found.2.unfinished found.2.loopbacks found.2.lives c.args.records.now refl o)

pub returns-in-Some-clause-in_order : goal.returns-in-Some-clause-in_order
returns-in-Some-clause-in_order c =
    let w = c.watch.new.watched in
    let P : List Open → Type 0 = λ l. AllPairs OpensBefore l in
    subst P (sym c.in_ok-list_open-in-Some.ensures) (in_order (begun_in w.questions) (begun_in w.unfinished) (begun_in w.loopbacks) (begun_in w.lives) c.in-Some.state c.args.records.now)
