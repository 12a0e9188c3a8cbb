use Rattle.std.proofs.Common.{◌≡◌, ◌∷◌, List, refl, ap, ◌∙◌, arith}
use Rattle.undelivered.specs.declared.moment.Moment.{Moment}
use Rattle.undelivered.proofs.Kept.{take_delivered, take_made, take_none}
use Rattle.undelivered.proofs.undelivered.Undelivered.take.Goals as goal
use Rattle.undelivered.proofs.undelivered.Undelivered.take.Goals.{in-Made+in_ok-make-in-Made, in-Delivered}

pub invariant_of-self : goal.invariant_of-self
invariant_of-self c = take_none c.self.inside.past.items _ c.self.inside.count c.self.inside.tables c.make.new.self c.self.invariant c.in_err-make-in-Made.ensures.err

pub invariant_of-self-2 : goal.invariant_of-self-2
invariant_of-self-2 c = elim c.match-moment.branch [
  | in-Made+in_ok-make-in-Made w ↦
      let past : c.match-moment.self-inside.past.items ≡ c.self.inside.past.items = rw w.self-inside-is refl in
      let items : c.with-self-inside.result.items ≡ c.args.moment.now ∷ c.self.inside.past.items = c.with-self-inside.ensures ∙ ap (λ (l : List Moment). c.args.moment.now ∷ l) past in
      let tables : c.match-moment.self-inside.tables ≡ w.make.new.self = rw w.self-inside-is refl in
      rw (items, tables) (record {
        counted = omega (arith, c.self.invariant.counted, c.in-Some.ensures);
        exact = take_made c.self.inside.past.items c.args.moment.now _ _ c.self.inside.count c.self.inside.tables w.make.new.self c.self.invariant w.in-Made.is w.in_ok-make-in-Made.ensures.ok;
      })
  | in-Delivered w ↦
      let past : c.match-moment.self-inside.past.items ≡ c.self.inside.past.items = rw w.self-inside-is refl in
      let items : c.with-self-inside.result.items ≡ c.args.moment.now ∷ c.self.inside.past.items = c.with-self-inside.ensures ∙ ap (λ (l : List Moment). c.args.moment.now ∷ l) past in
      let tables : c.match-moment.self-inside.tables ≡ w.deliver.new.self = rw w.self-inside-is refl in
      rw (items, tables) (record {
        counted = omega (arith, c.self.invariant.counted, c.in-Some.ensures);
        exact = take_delivered c.self.inside.past.items c.args.moment.now _ _ c.self.inside.count c.self.inside.tables w.deliver.new.self c.self.invariant w.in-Delivered.is w.deliver.ensures;
      })
]
