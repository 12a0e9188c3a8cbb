use Rattle.std.proofs.Common.{◌≡◌, ℕ, List, Option, Some, ◌∙◌, sym, ap, refl, ◌==◌, if◌then◌else◌}
use Rattle.std.specs.Prelude.{option_map}
use Rattle.rising_table.specs.Entries.{entry_at}
use Rattle.number_tables.proofs.Siding.{look, changed_value, written_side, same_side}
use Rattle.number_tables.specs.Glue.Sides.{side_of}
use Rattle.number_tables.proofs.by_connection.ByConnection.get_mut.Goals as goal

pub returns-in-Some : goal.returns-in-Some
returns-in-Some g c =
    let old : ℕ → Option (List (ℕ × g.row.V.Denot)) = λ s. entry_at c.args.self.now.tables s in
    let here = c.side.ensures in
    let had : Some c.in-Some.table.now ≡ old (side_of c.args.number) = c.in-Some.ensures.value ∙ ap old here in
    let side : (now : List (ℕ × g.row.V.Denot)) (s : ℕ) → entry_at (c.get_mut.follows.lender now) s ≡ (if side_of c.args.number == s then option_map (λ _. now) (old s) else old s) =
    λ now s. (c.get_mut.follows.holds now).0 s ∙ ap (λ k. if k == s then option_map (λ _. now) (old s) else old s) here in (
      (
        refl,
        (λ w. let now = c.get_mut-in-Some.follows.lender w in
            changed_value old (λ s. entry_at (c.get_mut.follows.lender now) s) c.args.number c.in-Some.table.now now (option_map (λ _. w))
            (λ s. side now s ∙ written_side old (side_of c.args.number) c.in-Some.table.now now had s)
            (λ k. ap (λ o. look o k) (sym had))
            (λ k. (c.get_mut-in-Some.follows.holds w).0 k ∙ ap (λ q. if q == k then option_map (λ _. w) (entry_at c.in-Some.table.now k) else entry_at c.in-Some.table.now k) c.from.ensures)),
        (λ j. let now = c.get_mut-in-Some.follows.lender-at-none in
            ap (λ o. look o j.number) (side now (side_of j) ∙ same_side old (side_of c.args.number) c.in-Some.table.now now had c.get_mut-in-Some.follows.holds-at-none (side_of j))),
      ),
      record {
        writes_back = tt;
        value = c.get_mut-in-Some.ensures.value ∙ ap (λ k. entry_at c.in-Some.table.now k) c.from.ensures ∙ ap (λ o. look o c.args.number.number) had;
      },
    )
