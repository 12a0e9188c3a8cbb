-- What the exporter holds is what the importer holds and what is under way.
use Rattle.std.proofs.Common.{◌≡◌, refl, sym, ◌∙◌, ap, ap₂, ℕ, List, [], length, true, false, arith}
use Rattle.agree.specs.Types.{RpcMessage}
use Rattle.decoded_records.specs.Past.{Past, id, Each}
use Rattle.decoded_records.specs.Lives.{introduces, gives_back, GivesBackHeld}
use Rattle.decoded_records.specs.Uses.{OpensFree, UsesQuestions}
use Rattle.vat_view.proofs.Counting.{no_more_went}
use Rattle.agree.specs.Points.{GoesOn}
use Rattle.agree.specs.Streams.{stream}
use Rattle.agree.specs.Agreeing.{AreLinked}
use Rattle.agree.specs.Told.{tellings, AreTold}
use Rattle.agree.specs.Alive.{alive_in, releases_in_all, alive, let_go}
use Rattle.agree.specs.Balance.{AreUnderWay, as_received, after_coming, IsNumberBalanced}
use Rattle.agree.proofs.Points.{same_length}
use Rattle.agree.proofs.Cuts.{linked_back}
use Rattle.agree.proofs.Openings.{openings_so}
use Rattle.agree.proofs.Telling.{told_length}
use Rattle.agree.proofs.Mates.{are_told}
use Rattle.agree.proofs.Closing.{introduces_none}
use Rattle.agree.proofs.Held.{gives_none, all_alive_once}
use Rattle.agree.proofs.Coming.{goes_not, stream_after, stream_kept, sum_after, none_coming, causal, due, idle, ends_there}

-- what was told is the same where as much passed
same_told : (k : ℕ) (one other : Past) → GoesOn (tellings k true other) (tellings k false one) → stream k true other ≡ stream k false one → tellings k false one ≡ tellings k true other
same_told k one other g same =
    let a = told_length k true other in
    let b = told_length k false one in
    let l = ap length same in same_length (tellings k true other) (tellings k false one) (tellings k true other) g ([], refl) (omega (arith, a, b, l))

module _ (k n : ℕ) (x y : Past) (to_y to_x : List RpcMessage) (linked : AreLinked k x y) (uses_x : Each UsesQuestions x) (uses_y : Each UsesQuestions y) (free_x : Each OpensFree x) (free_y : Each OpensFree y)
    (there : AreUnderWay k x y to_y) (back : AreUnderWay k y x to_x) where
  abbrev x_after : Past
  x_after = after_coming k to_x x

  abbrev y_after : Past
  y_after = after_coming k to_y y

  all_there : stream k true x_after ≡ stream k false y_after
  all_there = stream_kept k to_x x ∙ there ∙ sym (stream_after k to_y y)

  all_back : stream k true y_after ≡ stream k false x_after
  all_back = stream_kept k to_y y ∙ back ∙ sym (stream_after k to_x x)

  linked_after : AreLinked k x_after y_after
  linked_after = record {
    cut = record { to_one = ([], all_back); to_other = ([], all_there) };
    there = causal k x y to_x to_y linked there back;
    back = causal k y x to_y to_x (linked_back k x y linked) back there;
  }

  told_after : AreTold k x_after y_after
  told_after = are_told k x_after y_after linked_after.cut
      (openings_so k x_after y_after linked_after (due k x y to_x to_y linked there back uses_x uses_y free_x free_y) (idle k x y to_x to_y linked there back uses_x uses_y free_x free_y))
      (openings_so k y_after x_after (linked_back k x_after y_after linked_after) (due k y x to_y to_x (linked_back k x y linked) back there uses_y uses_x free_y free_x)
      (idle k y x to_y to_x (linked_back k x y linked) back there uses_y uses_x free_y free_x))

  -- where all has come, as much is alive at both ends, and as much was released
  same_alive : alive (id k true n) x_after ≡ alive (id k false n) y_after
  same_alive = ap₂ (λ a b. alive_in n a b) (same_told k x_after y_after told_after.to_one all_back) (sym (same_told k y_after x_after told_after.to_other all_there))

  same_released : let_go (id k true n) x_after ≡ let_go (id k false n) y_after
  same_released = ap (λ a. releases_in_all n a) (same_told k x_after y_after told_after.to_one all_back)

  pub balanced : Each GivesBackHeld y → IsNumberBalanced k n x y to_y to_x
  balanced counts =
      let at_x = all_alive_once k true n x_after (ends_there k y x to_y to_x (linked_back k x y linked) back there uses_y uses_x free_y free_x) in
      let at_y = all_alive_once k false n y_after (ends_there k x y to_x to_y linked there back uses_x uses_y free_x free_y) in
      let came_x = sum_after (introduces (id k true n)) k to_x x in
      let none_x = none_coming (introduces (id k true n)) k (λ before m. introduces_none k true n before (as_received k m) (goes_not k m)) to_x x in
      let went_x = sum_after (gives_back (id k true n)) k to_x x in
      let came_y = sum_after (introduces (id k false n)) k to_y y in
      let went_y = sum_after (gives_back (id k false n)) k to_y y in
      let none_y = none_coming (gives_back (id k false n)) k (λ before m. gives_none k false n before (as_received k m) (goes_not k m)) to_y y in
      let le = no_more_went y counts (id k false n) in
      omega (arith, at_x, at_y, came_x, none_x, went_x, came_y, went_y, none_y, le, same_alive, same_released)
