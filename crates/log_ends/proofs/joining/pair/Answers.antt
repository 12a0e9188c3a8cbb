use Rattle.std.proofs.Common.{◌≡◌, ◌∙◌, ◌<◌, ◌++◌, ◌∷◌, [], ◌+◌, ℕ, List, Bool, true, false, length, get_or, set, sym, ap₂, subst, arith}
use Rattle.std.specs.Prelude.{vec_len}
use Rattle.std.proofs.lemmas.List.{get_or_read}
use Rattle.log_ends.specs.Glue.{end_at, HasNoneFree, IsPartner, HasPaired}
use Rattle.log_ends.specs.declared.log_end.LogEnd.{LogEnd}
use Rattle.log_ends.specs.declared.log_end.EndPair.{EndPair}
use Rattle.log_ends.proofs.Pairing.{goes_on, one_paired, left_over}
use Rattle.log_ends.proofs.joining.pair.Goals as goal

flag : (taken : List Bool) (place count : ℕ) (now known : Bool) → length taken ≡ count → place < count → now ≡ get_or taken place now → now ≡ known → get_or taken place true ≡ known
flag taken place count now known size within read is = sym (get_or_read taken place now (omega (arith, size, within)) read true) ∙ is

pair_of : LogEnd → LogEnd → EndPair
pair_of a b = record { first = a; second = b }

pub returns-then-index : goal.returns-then-index
returns-then-index c =
    goes_on c.args.rows.now c.args.place c.args.taken.now.items c.args.pairs.now.items c.requires.paired
    (flag c.args.taken.now.items c.args.place (vec_len c.args.rows.now.rows) c.index.result.now true c.requires.paired.flags c.requires.place c.index.ensures c.if-index.true)

pub returns-in_default : goal.returns-in_default
returns-in_default c =
    left_over c.args.rows.now c.requires.rows c.requires.clear c.args.place c.args.taken.now.items c.args.pairs.now.items c.requires.place c.requires.paired
    (flag c.args.taken.now.items c.args.place (vec_len c.args.rows.now.rows) c.index.result.now false c.requires.paired.flags c.requires.place c.index.ensures c.if-index.false)
    (subst (λ (taken : List Bool). HasNoneFree c.args.rows.now taken c.args.place (vec_len c.args.rows.now.rows)) c.deref.ensures.value c.in_default.ensures)

pub returns : goal.returns
unfolding pair_of
returns c =
    let same : pair_of (end_at c.args.rows.now c.args.place) (end_at c.args.rows.now c.in-Some.other) ≡ pair_of c.end.result c.end-2.result = ap₂ pair_of (sym c.end.ensures) (sym c.end-2.ensures) in
    subst (λ (pairs : List EndPair). HasPaired c.args.rows.now (c.args.place + 1) (set (set c.args.taken.now.items c.args.place true) c.in-Some.other true) pairs) (sym c.in_ok-push.ensures.items)
    (subst (λ (p : EndPair). HasPaired c.args.rows.now (c.args.place + 1) (set (set c.args.taken.now.items c.args.place true) c.in-Some.other true) (c.args.pairs.now.items ++ (p ∷ []))) same
    (one_paired c.args.rows.now c.requires.rows c.args.place c.in-Some.other c.args.taken.now.items c.args.pairs.now.items c.requires.place c.requires.paired
    (flag c.args.taken.now.items c.args.place (vec_len c.args.rows.now.rows) c.index.result.now false c.requires.paired.flags c.requires.place c.index.ensures c.if-index.false)
    (subst (λ (taken : List Bool). IsPartner c.args.rows.now taken c.args.place c.in-Some.other) c.deref.ensures.value c.in-Some.ensures)))
