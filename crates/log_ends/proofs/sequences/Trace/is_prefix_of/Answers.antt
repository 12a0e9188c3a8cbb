use Rattle.std.proofs.Common.{◌≡◌, ◌<◌, ◌-◌, ◌∙◌, length, Some, refl, sym, ap, arith}
use Rattle.std.specs.Prelude.{slice_get}
use Rattle.std.proofs.lemmas.Option.{slice_get_read}
use Rattle.std.proofs.lemmas.Bool.{false≢true, eqb-true, eq-eqb}
use Rattle.log_ends.proofs.Numbering.{prefix_none, prefix_from_last, last_from_prefix, not_longer}
use Rattle.log_ends.proofs.sequences.Trace.is_prefix_of.Goals as goal

pub returns-then-count-eq0 : goal.returns-then-count-eq0
returns-then-count-eq0 c =
    λ numbers ours others tells one two. ((λ t. prefix_none numbers c.args.self.now.numbers.items c.args.other.now.numbers.items ours others one (omega (arith, c.len-count.ensures, c.if-count-eq0.true))), (λ p. refl))

pub returns-then-len-count : goal.returns-then-len-count
returns-then-len-count c =
    λ numbers ours others tells one two. ((λ t. absurd (false≢true t)), (λ p. absurd (not_longer numbers c.args.self.now.numbers.items c.args.other.now.numbers.items ours others one two (omega (arith, c.len.ensures, c.len-count.ensures, c.if-len-count.true)) p)))

-- the last number of these, and what the others have at its place
mine : (c : goal.After-row_known-2-1) → slice_get c.args.self.now.numbers.items (length c.args.self.now.numbers.items - 1) ≡ Some c.index-2.result.now
mine c =
    let count : c.len-count.result ≡ length c.args.self.now.numbers.items = omega (arith, c.len-count.ensures) in
    ap (λ n. slice_get c.args.self.now.numbers.items (n - 1)) (sym count) ∙ slice_get_read c.args.self.now.numbers.items c.len-count.result (c.len-count.result - 1) c.index-2.result.now count (omega (arith, c.if-count-eq0.false)) c.index-2.ensures

theirs : (c : goal.After-row_known-2-1) → slice_get c.args.other.now.numbers.items (length c.args.self.now.numbers.items - 1) ≡ Some c.index.result.now
theirs c =
    let count : c.len-count.result ≡ length c.args.self.now.numbers.items = omega (arith, c.len-count.ensures) in
    let others : c.len.result ≡ length c.args.other.now.numbers.items = omega (arith, c.len.ensures) in
    ap (λ n. slice_get c.args.other.now.numbers.items (n - 1)) (sym count) ∙ slice_get_read c.args.other.now.numbers.items c.len.result (c.len-count.result - 1) c.index.result.now others (omega (arith, c.if-count-eq0.false, c.if-len-count.false)) c.index.ensures

pub returns : goal.returns
returns c =
    λ numbers ours others tells one two.
    let some : 0 < length c.args.self.now.numbers.items = omega (arith, c.len-count.ensures, c.if-count-eq0.false) in (
      (λ t. prefix_from_last numbers c.args.self.now.numbers.items c.args.other.now.numbers.items ours others tells one two some (theirs c ∙ ap Some (eqb-true c.index.result.now c.index-2.result.now t) ∙ sym (mine c))),
      (λ p. eq-eqb c.index.result.now c.index-2.result.now (let same = last_from_prefix numbers c.args.self.now.numbers.items c.args.other.now.numbers.items ours others one two some p in
          let value : Some c.index.result.now ≡ Some c.index-2.result.now = sym (theirs c) ∙ same ∙ mine c in cc)),
    )
