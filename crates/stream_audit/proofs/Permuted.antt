-- What turns tell of logs holds of the same logs in another order.
use Rattle.std.proofs.Common.{ℕ, List}
use Rattle.std.specs.Prelude.{Contains}
use Rattle.std.specs.List.Sorted.{IsPermutation}
use Rattle.std.proofs.lemmas.List.Elements.{All-contains, All-contains_itself}
use Rattle.std.proofs.lemmas.List.Sorted.{All-permutation, IsPermutation-sym}
use Rattle.vat_log.specs.Log.{Log}
use Rattle.turn_taking.specs.Turns.{Turns, AreAll, AreOf}
use Rattle.turn_taking.specs.Orders.{AreLeft, AreStuck, IsHeldUp}

contains_from : (xs ys : List Log) → IsPermutation xs ys → (x : Log) → Contains ys x → Contains xs x
contains_from xs ys moved x has = All-contains (Contains xs) ys x (All-permutation (Contains xs) xs ys moved (All-contains_itself xs)) has

module _ (logs held : List Log) (moved : IsPermutation logs held) (turns : Turns) where
  back : (log : Log) → Contains held log → Contains logs log
  back log has = contains_from logs held moved log has

  on : (log : Log) → Contains logs log → Contains held log
  on log has = contains_from held logs (IsPermutation-sym logs held moved) log has

  pub all_held : AreAll logs turns → AreAll held turns
  all_held all = record {
    taken = λ log has. all.taken log (back log has);
    known = λ turn has. (let k = all.known turn has in (k.0, on k.0 k.1, k.2));
  }

  pub of_held : AreOf logs turns → AreOf held turns
  of_held are = record {
    taken = λ log has. are.taken log (back log has);
    known = λ turn has. (let k = are.known turn has in (k.0, on k.0 k.1, k.2));
  }

  pub held_up : (v : ℕ) → IsHeldUp logs turns v → IsHeldUp held turns v
  held_up v held_so log has own next goes = held_so log (back log has) own next goes

  pub stuck_held : AreStuck logs turns → AreStuck held turns
  stuck_held stuck v = held_up v (stuck v)

  pub left_held : AreLeft logs turns → AreLeft held turns
  left_held left = (left.0, on left.0 left.1, left.2, left.3)
