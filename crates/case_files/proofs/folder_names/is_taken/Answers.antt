use Rattle.std.proofs.Common.{◌≡◌, ◌∙◌, Some, ap, arith, inr, map, rules, string_bytes, sym}
use Rattle.case_files.proofs.FileNaming.{name_there, not_more}
use Rattle.case_files.proofs.folder_names.is_taken.Goals as goal

pub returns-then-eq-2 : goal.returns-then-eq-2
returns-then-eq-2 c =
    let at = name_there c.args.names.now c.loop-place.place c.index-names-place.result c.loop-place-test.true c.index-names-place.is in
    let same : c.as_str.result.now ≡ c.args.name.now = search rules in
    inr (c.loop-place.place, omega (arith, c.loop-place.auto.place), at ∙ ap (λ n. Some n) (sym c.as_str.ensures.value ∙ same))

pub loop-place-preserved : goal.loop-place-preserved
loop-place-preserved c =
    let at = name_there c.args.names.now c.loop-place.place c.index-names-place.result c.loop-place-test.true c.index-names-place.is in
    let differs : c.as_str.result.now ≡ c.args.name.now → ⊥ = search rules in
    not_more (map string_bytes c.args.names.now) c.args.name.now (string_bytes c.index-names-place.result) c.args.begin c.loop-place.place at (λ e. differs (c.as_str.ensures.value ∙ e)) c.loop-place.invariant
