-- What good logs give.
use Rattle.std.proofs.Common.{◌∷◌, List, refl, ℕ, true, false}
use Rattle.agree.specs.Types.{RpcMessage, DecodedRecord, Host, Wire}
use Rattle.decoded_records.specs.Past.{Past, Each}
use Rattle.decoded_records.specs.Uses.{OpensFree, UsesQuestions}
use Rattle.decoded_records.specs.Bindings.{NotesEach}
use Rattle.vat_view.specs.Sound.{IsSound}
use Rattle.vat_rules.specs.declared.rule.Rule.TheVariants as rule
use Rattle.vat_rules.specs.Judged.{IsGood}
use Rattle.decoded_records.specs.Lives.{GivesBackHeld}
use Rattle.agree.specs.Points.{GoesOn}
use Rattle.agree.specs.Streams.{IsCut, IsPassed}
use Rattle.agree.specs.Arrival.{ArrivesWell}
use Rattle.agree.specs.Balance.{AreUnderWay, IsNumberBalanced}
use Rattle.agree.specs.Agreeing.{AreLinked}
use Rattle.agree.specs.Standing.{AgreeOneWay, Agree}
use Rattle.agree.proofs.Points.{each_so, each_before}
use Rattle.agree.proofs.Cuts.{linked_back}
use Rattle.agree.proofs.Openings.{openings_linked, late_linked}
use Rattle.agree.proofs.Standing.{lives_agree, linked_before}
use Rattle.agree.proofs.Balance.{balanced}
use Rattle.agree.proofs.Arriving.{arrives}

notes_each : (before : Past) (e : DecodedRecord) → IsGood before e → NotesEach before e
notes_each before (Wire true k c rs m) good = (good rule.Desc).noted_each refl
notes_each before (Wire false k c rs m) good = good rule.RecvRef refl
notes_each before (Host r x) good = refl
notes_each before _ good = refl

good_sound : (before : Past) (e : DecodedRecord) → IsGood before e → IsSound before e
good_sound before e good = record {
  refers = good rule.Ref;
  uses_questions = good rule.QUse;
  uses_numbers = good rule.XUse;
  gives_back_held = good rule.Count;
  notes_each = notes_each before e good;
}

-- good records are as vat_view's laws ask of them
pub all_sound : (past : Past) → Each IsGood past → Each IsSound past
all_sound past good = each_so IsGood IsSound good_sound past good

pub all_use : (past : Past) → Each IsGood past → Each UsesQuestions past
all_use past good = each_so IsGood UsesQuestions (λ b e g. g rule.QUse) past good

all_free : (past : Past) → Each IsGood past → Each OpensFree past
all_free past good = each_so IsGood OpensFree (λ b e g. g rule.QNew) past good

one_way : (k : ℕ) (one other : Past) → Each IsGood one → Each IsGood other → AreLinked k one other → AgreeOneWay k one other
one_way k one other good good_other linked =
    let there = openings_linked k one other linked (all_use one good) (all_free other good_other) in
    let back = openings_linked k other one (linked_back k one other linked) (all_use other good_other) (all_free one good) in
    record {
      openings = there;
      late = late_linked k one other linked (all_use one good) (all_free other good_other);
      lives = lives_agree k one other (all_sound one good) (all_use other good_other) linked there back;
    }

-- the ends of two good logs that are linked agree
pub good_agree : (k : ℕ) (one other : Past) → Each IsGood one → Each IsGood other → AreLinked k one other → Agree k one other
good_agree k one other good good_other linked =
    record { there = one_way k one other good good_other linked; back = one_way k other one good_other good (linked_back k one other linked) }

-- and at each consistent cut their counts are balanced
pub good_balanced : (k : ℕ) (one other : Past) → Each IsGood one → Each IsGood other → AreLinked k one other → (n : ℕ) (exporter importer : Past) (there back : List RpcMessage) →
    GoesOn one exporter → GoesOn other importer → IsCut k exporter importer → AreUnderWay k exporter importer there → AreUnderWay k importer exporter back → IsNumberBalanced k n exporter importer there back
good_balanced k one other good good_other linked n x y there back e f cut on returning =
    let good_x = each_before IsGood one x e good in
    let good_y = each_before IsGood other y f good_other in
    balanced k n x y there back (linked_before k one other x y e f cut linked) (all_use x good_x) (all_use y good_y) (all_free x good_x) (all_free y good_y) on returning
    (each_so IsGood GivesBackHeld (λ b e g. g rule.Count) y good_y)

-- a message whose sending was good arrives well, where the records before it were good
pub good_arrives : (k : ℕ) (one other : Past) → AreLinked k one other → (m : RpcMessage) (from to : Past) (sent received : DecodedRecord) → IsPassed k m one other from to sent received →
    Each IsGood (sent ∷ from) → Each IsGood to → ArrivesWell to received
good_arrives k one other linked m from to sent received p good_x good_y =
    arrives k one other linked m from to sent received p (all_use (sent ∷ from) good_x) (all_free (sent ∷ from) good_x)
    (each_so IsGood GivesBackHeld (λ b e g. g rule.Count) (sent ∷ from) good_x) (good_x.0 rule.XUse) (all_use to good_y) (all_free to good_y)
