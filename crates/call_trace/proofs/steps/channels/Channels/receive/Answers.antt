use Rattle.std.proofs.Common.{◌∙◌, refl, sym, ap, subst, ◌<◌, ◌≤◌, length}
use Rattle.std.specs.List.{slice_get}
use Rattle.std.proofs.lemmas.Bool.{ltb-true, ltb-false}
use Rattle.std.proofs.lemmas.Option.{slice_get_read}
use Rattle.call_trace.proofs.Passing.{is_first, nothing_comes, one_comes, received_more}
use Rattle.call_trace.proofs.steps.channels.Channels.receive.Goals as goal

pub returns-in_default-clause-next : goal.returns-in_default-clause-next
returns-in_default-clause-next c before are =
    let place = c.first_of_others-place in
    let sends = c.on-sends in
    let first = is_first c.args.vat c.args.connection c.args.self.now place.result c.passed_by.result sends.result.now sends.ensures c.passed_by.ensures place.ensures.none_between place.ensures.other in
    let past : length sends.result.now ≤ place.result = ltb-false _ _ (sym c.in_default.ensures.lookup.0) in
    nothing_comes c.args.vat c.args.connection before c.args.self.now place.result are first (subst (λ l. length l ≤ place.result) sends.ensures past)

pub returns-in_default-clause-received : goal.returns-in_default-clause-received
returns-in_default-clause-received c before m bound comes are =
    let place = c.first_of_others-place in
    let sends = c.on-sends in
    let first = is_first c.args.vat c.args.connection c.args.self.now place.result c.passed_by.result sends.result.now sends.ensures c.passed_by.ensures place.ensures.none_between place.ensures.other in
    let past : length sends.result.now ≤ place.result = ltb-false _ _ (sym c.in_default.ensures.lookup.0) in
    let none = nothing_comes c.args.vat c.args.connection before c.args.self.now place.result are first (subst (λ l. length l ≤ place.result) sends.ensures past) in
    absurd (let no : ⊥ = cc in no)

pub returns-clause-next : goal.returns-clause-next
returns-clause-next c before are =
    let place = c.first_of_others-place in
    let sends = c.on-sends in
    let first = is_first c.args.vat c.args.connection c.args.self.now place.result c.passed_by.result sends.result.now sends.ensures c.passed_by.ensures place.ensures.none_between place.ensures.other in
    let there : place.result < length sends.result.now = ltb-true _ _ (sym c.in-Some.ensures.lookup.0) in
    one_comes c.args.vat c.args.connection before c.args.self.now place.result c.in-Some.field-0.now are first
    (ap (λ l. slice_get l place.result) (sym sends.ensures) ∙ slice_get_read sends.result.now (length sends.result.now) place.result c.in-Some.field-0.now refl there c.in-Some.ensures.lookup.1)

pub returns-clause-received : goal.returns-clause-received
returns-clause-received c before m bound comes are =
    let place = c.first_of_others-place in
    let sends = c.on-sends in
    let first = is_first c.args.vat c.args.connection c.args.self.now place.result c.passed_by.result sends.result.now sends.ensures c.passed_by.ensures place.ensures.none_between place.ensures.other in
    let there : place.result < length sends.result.now = ltb-true _ _ (sym c.in-Some.ensures.lookup.0) in
    received_more c.args.vat c.args.connection m bound before place.result c.args.self.now c.pass.new.self are first
    (subst (λ l. place.result < length l) sends.ensures there) c.pass.ensures.sends c.in_ok-pass.ensures.passed
