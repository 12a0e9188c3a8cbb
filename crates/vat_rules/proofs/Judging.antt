-- A record that meets each rule.
use Rattle.std.proofs.Common.{refl}
use Rattle.vat_rules.specs.Types.{Edition, DecodedRecord, Host, Vow, Fulfil, Break, Make, Field, Deliver, Answer, AnswerBy, Fault, Wire}
use Rattle.decoded_records.specs.Past.{Past}
use Rattle.vat_rules.specs.declared.rule.Rule.{Rule}
use Rattle.vat_rules.specs.declared.rule.Rule.TheVariants as rule
use Rattle.std.specs.Prelude.{true, false}
use Rattle.decoded_records.specs.Bindings.{NotesEach}
use Rattle.vat_rules.specs.Rules.{Meets}
use Rattle.vat_rules.specs.OfCaps.{Describes, BindsEach}
use Rattle.vat_rules.specs.Judged.{IsGoodBy}
use Rattle.vat_view.specs.Sound.{IsSound}

-- a record that meets each rule is good
pub all_met : (edition : Edition) (before : Past) (e : DecodedRecord) → Meets edition rule.Closed before e → Meets edition rule.Ref before e → Meets edition rule.Vow before e → Meets edition rule.Here before e → Meets edition rule.QNew before e → Meets edition rule.QUse before e →
    Meets edition rule.XUse before e → Meets edition rule.Goal before e → Meets edition rule.Answer before e → Meets edition rule.Desc before e → Meets edition rule.Count before e → Meets edition rule.Result before e →
    Meets edition rule.Resolve before e → Meets edition rule.RecvRef before e → Meets edition rule.Emb before e → (each : Rule) → Meets edition each before e
all_met edition before e o a v b c d f g h i j k r l m rule.Closed = o
all_met edition before e o a v b c d f g h i j k r l m rule.Ref = a
all_met edition before e o a v b c d f g h i j k r l m rule.Vow = v
all_met edition before e o a v b c d f g h i j k r l m rule.Here = b
all_met edition before e o a v b c d f g h i j k r l m rule.QNew = c
all_met edition before e o a v b c d f g h i j k r l m rule.QUse = d
all_met edition before e o a v b c d f g h i j k r l m rule.XUse = f
all_met edition before e o a v b c d f g h i j k r l m rule.Goal = g
all_met edition before e o a v b c d f g h i j k r l m rule.Answer = h
all_met edition before e o a v b c d f g h i j k r l m rule.Desc = i
all_met edition before e o a v b c d f g h i j k r l m rule.Count = j
all_met edition before e o a v b c d f g h i j k r l m rule.Result = k
all_met edition before e o a v b c d f g h i j k r l m rule.Resolve = r
all_met edition before e o a v b c d f g h i j k r l m rule.RecvRef = l
all_met edition before e o a v b c d f g h i j k r l m rule.Emb = m

-- a record that is as DESC and RECVREF say notes each of its capabilities
notes_from : (edition : Edition) (before : Past) (e : DecodedRecord) → Describes edition before e → BindsEach before e → NotesEach before e
notes_from edition before (Host r object) d b = refl
notes_from edition before (Vow r) d b = refl
notes_from edition before (Fulfil r to) d b = refl
notes_from edition before (Break r) d b = refl
notes_from edition before (Make call r interface method) d b = refl
notes_from edition before (Field r call path) d b = refl
notes_from edition before (Deliver call object) d b = refl
notes_from edition before (Answer call results) d b = refl
notes_from edition before (AnswerBy call by) d b = refl
notes_from edition before (Fault call) d b = refl
notes_from edition before (Wire true k call rs m) d b = d.noted_each refl
notes_from edition before (Wire false k call rs m) d b = b refl

-- so does a good record
pub good_notes : (edition : Edition) (before : Past) (e : DecodedRecord) → IsGoodBy edition before e → NotesEach before e
good_notes edition before e good = notes_from edition before e (good rule.Desc) (good rule.RecvRef)

-- a good record is sound
pub good_sound : (edition : Edition) (before : Past) (e : DecodedRecord) → IsGoodBy edition before e → IsSound before e
good_sound edition before e good = record {
  refers = good rule.Ref;
  uses_questions = good rule.QUse;
  uses_numbers = good rule.XUse;
  gives_back_held = good rule.Count;
  notes_each = good_notes edition before e good;
}
