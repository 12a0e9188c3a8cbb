use Rattle.std.proofs.Common.{◌≡◌, ◌+◌, ℕ, length, refl, subst, arith}
use Rattle.std.proofs.lemmas.Option.{slice_get_read}
use Rattle.log_ends.specs.Numbers.{HasNoVat, AreApartUpTo}
use Rattle.log_ends.proofs.NewNumbers.{apart_more, apart_from}
use Rattle.log_ends.proofs.renumbering.are_apart.Goals as goal

pub loop-place-preserved : goal.loop-place-preserved
loop-place-preserved c =
    let at = slice_get_read c.args.logs.now (length c.args.logs.now) c.loop-place.place c.index-logs-place.result refl c.loop-place-test.true c.index-logs-place.is in
    apart_more c.args.logs.now c.loop-place.place c.index-logs-place.result at c.loop-place.invariant (subst (λ (v : ℕ). HasNoVat c.args.logs.now v (c.loop-place.place + 1) (length c.args.logs.now)) c.vat-vat.ensures c.if-has_vat.ensures)

pub returns : goal.returns
returns c =
    let whole : c.loop-place.place ≡ length c.args.logs.now = omega (arith, c.loop-place-test.false, c.loop-place.auto) in
    apart_from c.args.logs.now (subst (λ (n : ℕ). AreApartUpTo c.args.logs.now n) whole c.loop-place.invariant)
