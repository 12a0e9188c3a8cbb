-- Rounds of turns, one after another.
use Rattle.std.proofs.Common.{◌≡◌, Bool, true, false, List, Option, refl, sym, ap, ◌∙◌}
use Rattle.std.specs.Prelude.{slice_get}
use Rattle.turn_taking.specs.Lanes.{LaneSoFar}
use Rattle.turn_taking.specs.Turned.{Taken}
use Rattle.turn_taking.specs.Pass.{AreThere, IsRound}

-- rounds were taken, none of them or some
pub record RoundsSoFar (lanes now : List (Option LaneSoFar)) (taken more : Taken) (some : Bool) : Type 0 where
  pub there : AreThere now
  pub round : IsRound lanes now taken more true
  pub none : some ≡ false → now ≡ lanes

pub rounds_begin : (lanes : List (Option LaneSoFar)) (taken : Taken) → AreThere lanes → RoundsSoFar lanes lanes taken taken false
rounds_begin lanes taken there = record {
  there = there;
  round = record {
    in_step = λ so. so;
    in_order = λ so. so;
    phase = refl;
    kept = λ stuck. refl;
    alike = λ free same. same;
    reads = λ i lane is. (lane, is, refl, refl, refl);
    same = λ no. absurd cc;
    still = λ no. absurd cc;
  };
  none = λ nothing. refl;
}

module _ (lanes now after : List (Option LaneSoFar)) (taken more next : Taken) (some last : Bool) (so : RoundsSoFar lanes now taken more some) where
  -- two rounds make one, whatever the second took
  both : IsRound now after more next last → (whole : Bool)
      → (whole ≡ false → (some ≡ false) × (last ≡ false)) → IsRound lanes after taken next whole
  both round whole none = record {
    in_step = λ begun. round.in_step (so.round.in_step begun);
    in_order = λ begun. round.in_order (so.round.in_order begun);
    phase = round.phase ∙ so.round.phase;
    kept = λ stuck. round.kept (so.round.phase ∙ stuck) ∙ so.round.kept stuck;
    alike = λ free same. round.alike (so.round.phase ∙ free) (so.round.alike free same);
    reads = λ i lane is. (
        let second = round.reads i lane is in
        let first = so.round.reads i second.0 second.1 in
        (first.0, first.1, second.2 ∙ first.2, second.3 ∙ first.3, second.4 ∙ first.4)
        );
    same = λ nothing i lane is. (
        let no = none nothing in
        ap (λ (l : List (Option LaneSoFar)). slice_get l i) (sym (so.none no.0)) ∙ round.same no.1 i lane is
        );
    still = λ nothing. round.still (none nothing).1;
  }

  pub rounds_go_on : AreThere after → IsRound now after more next last → RoundsSoFar lanes after taken next true
  rounds_go_on there round = record { there = there; round = both round true (λ no. absurd cc); none = λ no. absurd cc }

  pub rounds_end : IsRound now after more next last → last ≡ false → IsRound lanes after taken next some
  rounds_end round ended = both round some (λ nothing. (nothing, ended))
