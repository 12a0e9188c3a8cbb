-- Which rules a record can't break, by its kind: those that it is asked suffice.
use Rattle.std.proofs.Common.{◌≡◌, inl, inr, ◌≤◌, ℕ, List, [], ◌∷◌, ◌++◌, length, refl, sym, ◌∙◌, ap, subst, arith, Bool, true, false, if◌then◌else◌}
use Rattle.std.proofs.lemmas.Bool.{false≢true}
use Rattle.std.specs.Prelude.{IsTrue, not, ◌||◌, ⊤}
use Rattle.std.specs.List.{AllByRecursion, filter, filter_map, list_all, zip}
use Rattle.decoded_records.specs.Past.{Past}
use Rattle.decoded_records.specs.Questions.{is_late, is_unfinished}
use Rattle.decoded_records.specs.Lives.{descriptors, is_in_life, keeps_kind}
use Rattle.decoded_records.specs.Uses.{question_described, number_described}
use Rattle.decoded_records.specs.Views.{places, places_from, references}
use Rattle.decoded_records.specs.Bindings.{Refers, NotesEach}
use Rattle.vat_rules.specs.Types.{Edition, RpcMessage, Bootstrap, Call, Return, Finish, Resolve, Release, Disembargo, Abort, DecodedRecord, Fulfil, Break, Deliver, Answer, AnswerBy, Fault, Wire}
use Rattle.vat_rules.specs.declared.rule.Rule.{Rule}
use Rattle.vat_rules.specs.declared.rule.Rule.TheVariants as rule
use Rattle.vat_rules.specs.OfCalls.{IsHere, GoesToGoal, MayAnswer}
use Rattle.vat_rules.specs.OfCaps.{NotesView}
use Rattle.vat_rules.specs.OfPromises.{KeepsVow}
use Rattle.vat_rules.specs.Rules.{Meets, rules}
use Rattle.vat_rules.specs.Judged.{IsGoodBy, BreaksFirst}
use Rattle.vat_rules.specs.Glue.Asked.{is_own, own_may_break, bare_may_break, is_of_caps, is_of_own, carrying_may_break, IsBare, Suffice}
use Rattle.vat_rules.proofs.Judging.{all_met}
use Rattle.vat_rules.proofs.Owning.{own_open, own_opens, own_uses, own_numbers, own_describes, own_gives, own_returns, own_resolves, own_binds, own_embargo}

-- each of these rules holds
abbrev pub MeetsEach : Edition → List Rule → Past → DecodedRecord → Type 0
MeetsEach edition rules before e = AllByRecursion (λ rule. Meets edition rule before e) rules

nothing_given : (n : ℕ) → 0 ≤ n
nothing_given n = omega arith

-- ---- the first rule broken of those that may be broken

widened : (edition : Edition) (before : Past) (e : DecodedRecord) (broken each : Rule) (some all : List Rule) (b : Bool) → (b ≡ false → Meets edition each before e) →
    (BreaksFirst edition some before e broken → BreaksFirst edition all before e broken) → BreaksFirst edition (if b then each ∷ some else some) before e broken → BreaksFirst edition (each ∷ all) before e broken
widened edition before e broken each some all true met more (inl here) = inl here
widened edition before e broken each some all true met more (inr (holds, later)) = inr (holds, more later)
widened edition before e broken each some all false met more later = inr (met refl, more later)

breaks_of : (edition : Edition) (before : Past) (e : DecodedRecord) (broken : Rule) (p : Rule → Bool) → ((each : Rule) → p each ≡ false → Meets edition each before e) →
    (all : List Rule) → BreaksFirst edition (filter p all) before e broken → BreaksFirst edition all before e broken
breaks_of edition before e broken p met [] h = h
breaks_of edition before e broken p met (each ∷ all) h =
    widened edition before e broken each (filter p all) all (p each) (met each) (breaks_of edition before e broken p met all) h

gathered : (edition : Edition) (before : Past) (e : DecodedRecord) (each : Rule) (some all : List Rule) (b : Bool) → (b ≡ false → Meets edition each before e) →
    (MeetsEach edition some before e → MeetsEach edition all before e) → MeetsEach edition (if b then each ∷ some else some) before e → MeetsEach edition (each ∷ all) before e
gathered edition before e each some all true met more (holds, later) = (holds, more later)
gathered edition before e each some all false met more later = (met refl, more later)

meets_of : (edition : Edition) (before : Past) (e : DecodedRecord) (p : Rule → Bool) → ((each : Rule) → p each ≡ false → Meets edition each before e) →
    (all : List Rule) → MeetsEach edition (filter p all) before e → MeetsEach edition all before e
meets_of edition before e p met [] h = h
meets_of edition before e p met (each ∷ all) h = gathered edition before e each (filter p all) all (p each) (met each) (meets_of edition before e p met all) h

-- a record that meets each rule is good
good_of : (edition : Edition) (before : Past) (e : DecodedRecord) → MeetsEach edition rules before e → IsGoodBy edition before e
good_of edition before e (closed, (refers, (vow, (here, (opens, (uses, (numbers, (goal, (answer, (desc, (count, (result, (resolve, (binds, (embargo, last))))))))))))))) =
    all_met edition before e closed refers vow here opens uses numbers goal answer desc count result resolve binds embargo

-- of rules that suffice, the first that a record breaks is the first that it breaks of all
pub suffice_broken : (edition : Edition) (before : Past) (e : DecodedRecord) (some : List Rule) (broken : Rule) → Suffice e some → BreaksFirst edition some before e broken → BreaksFirst edition rules before e broken
suffice_broken edition before e some broken (may_break, is, others) first =
    breaks_of edition before e broken may_break (λ each h. others each h edition before) rules (subst (λ xs. BreaksFirst edition xs before e broken) is first)

-- a record that meets rules that suffice is good
pub suffice_good : (edition : Edition) (before : Past) (e : DecodedRecord) (some : List Rule) → Suffice e some → MeetsEach edition some before e → IsGoodBy edition before e
suffice_good edition before e some (may_break, is, others) met =
    good_of edition before e (meets_of edition before e may_break (λ each h. others each h edition before) rules (subst (λ xs. MeetsEach edition xs before e) is met))

-- ---- rules tried in turn

-- the rules that are still to be tried are all that matter of these
pub record Remain (edition : Edition) (before : Past) (e : DecodedRecord) (rest all : List Rule) : Type 0 where
  pub broken : (rule : Rule) → BreaksFirst edition rest before e rule → BreaksFirst edition all before e rule
  pub met : MeetsEach edition rest before e → MeetsEach edition all before e

pub remain_all : (edition : Edition) (before : Past) (e : DecodedRecord) (all : List Rule) → Remain edition before e all all
remain_all edition before e all = record { broken = λ rule h. h; met = λ h. h }

pub remain_next : (edition : Edition) (before : Past) (e : DecodedRecord) (rule : Rule) (rest next all : List Rule) → rest ≡ rule ∷ next → Meets edition rule before e → Remain edition before e rest all → Remain edition before e next all
remain_next edition before e rule rest next all is met so = record {
  broken = λ later h. so.broken later (subst (λ xs. BreaksFirst edition xs before e later) (sym is) (inr (met, h)));
  met = λ h. so.met (subst (λ xs. MeetsEach edition xs before e) (sym is) (met, h));
}

pub remain_broken : (edition : Edition) (before : Past) (e : DecodedRecord) (rule : Rule) (rest next all : List Rule) → rest ≡ rule ∷ next → (Meets edition rule before e → ⊥) → Remain edition before e rest all → BreaksFirst edition all before e rule
remain_broken edition before e rule rest next all is broken so = so.broken rule (subst (λ xs. BreaksFirst edition xs before e rule) (sym is) (inl (refl, broken)))

pub remain_none : (edition : Edition) (before : Past) (e : DecodedRecord) (rest all : List Rule) → rest ≡ [] → Remain edition before e rest all → MeetsEach edition all before e
remain_none edition before e rest all none so = so.met (subst (λ xs. MeetsEach edition xs before e) (sym none) tt)

-- ---- HERE is tried before GOAL

-- of the rules that are still to be tried, HERE stands before GOAL; or else it is met
abbrev pub HereFirst : Past → DecodedRecord → List Rule → Type 0
HereFirst before e [] = ⊤
HereFirst before e (rule.Here ∷ rest) = ⊤
HereFirst before e (rule.Goal ∷ rest) = IsHere before e
HereFirst before e (_ ∷ rest) = HereFirst before e rest

-- where HERE is met, any rules may be tried
one_more : (before : Past) (e : DecodedRecord) (each : Rule) (rest : List Rule) → IsHere before e → HereFirst before e rest → HereFirst before e (each ∷ rest)
one_more before e rule.Here rest met first = tt
one_more before e rule.Goal rest met first = met
one_more before e _ rest met first = first

here_met : (before : Past) (e : DecodedRecord) (rest : List Rule) → IsHere before e → HereFirst before e rest
here_met before e [] met = tt
here_met before e (each ∷ rest) met = one_more before e each rest met (here_met before e rest met)

-- it is so behind a rule that was met
behind : (before : Past) (e : DecodedRecord) (edition : Edition) (each : Rule) (next : List Rule) → Meets edition each before e → HereFirst before e (each ∷ next) → HereFirst before e next
behind before e edition rule.Here next met first = here_met before e next met
behind before e edition rule.Goal next met first = here_met before e next first
behind before e edition _ next met first = first

pub here_next : (edition : Edition) (before : Past) (e : DecodedRecord) (each : Rule) (rest next : List Rule) → rest ≡ each ∷ next → Meets edition each before e → HereFirst before e rest → HereFirst before e next
here_next edition before e each rest next is met first = behind before e edition each next met (subst (HereFirst before e) is first)

-- so a record for which GOAL is tried next meets HERE
pub here_at_goal : (before : Past) (e : DecodedRecord) (each : Rule) (rest next : List Rule) → rest ≡ each ∷ next → HereFirst before e rest → each ≡ rule.Goal → IsHere before e
here_at_goal before e each rest next is first goal = subst (λ rule. HereFirst before e (rule ∷ next)) goal (subst (HereFirst before e) is first)

passed_over : (before : Past) (e : DecodedRecord) (each : Rule) (rest : List Rule) (b : Bool) → (HereFirst before e rest → HereFirst before e (each ∷ rest)) → HereFirst before e rest → HereFirst before e (if b then each ∷ rest else rest)
passed_over before e each rest true other first = other first
passed_over before e each rest false other first = first

asked_here : (before : Past) (e : DecodedRecord) (rest : List Rule) (b : Bool) → (b ≡ false → IsHere before e) → HereFirst before e (if b then rule.Here ∷ rest else rest)
asked_here before e rest true met = tt
asked_here before e rest false met = here_met before e rest (met refl)

-- of rules that suffice HERE is tried before GOAL, or else is met by every record of this kind
pub here_first : (edition : Edition) (before : Past) (e : DecodedRecord) (some : List Rule) → Suffice e some → HereFirst before e some
here_first edition before e some (may_break, is, others) = subst (HereFirst before e) (sym is)
    (passed_over before e rule.Closed _ (may_break rule.Closed) (λ h. h) (passed_over before e rule.Ref _ (may_break rule.Ref) (λ h. h) (passed_over before e rule.Vow _ (may_break rule.Vow) (λ h. h)
    (asked_here before e _ (may_break rule.Here) (λ h. others rule.Here h edition before)))))

-- ---- what carries no capability notes and describes none

either_none : (b : Bool) → ◌≡◌ {A = ℕ} 0 (if b then 0 else 0)
either_none true = refl
either_none false = refl

pub bare_notes : (before : Past) (e : DecodedRecord) → IsBare e → NotesEach before e
bare_notes before e bare = ap length bare.unnoted ∙ either_none (is_late before e) ∙ ap (λ ds. if is_late before e then 0 else length (places_from 0 ds)) (sym bare.uncarried)

none_placed : (edition : Edition) (before : Past) (e : DecodedRecord) (rs : List ℕ) (ps : List ℕ) → rs ≡ [] → AllByRecursion (NotesView edition before e) (zip rs ps)
none_placed edition before e rs ps none = subst (λ rs. AllByRecursion (NotesView edition before e) (zip rs ps)) (sym none) tt

pub bare_describes : (edition : Edition) (before : Past) (e : DecodedRecord) → IsBare e → Meets edition rule.Desc before e
bare_describes edition before e bare = record {
  noted_each = λ sent. bare_notes before e bare;
  leads = λ sent late. none_placed edition before e (references e) (places e) bare.unnoted;
  light = λ sent late light. bare.unnoted;
  kinds = λ late. subst (λ ds. IsTrue (list_all (keeps_kind before e) ds)) (sym bare.uncarried) refl;
}

-- ---- the rules that a message of each kind can't break

here_of : (edition : Edition) (before : Past) (sent : Bool) (k c : ℕ) (rs : List ℕ) (m : RpcMessage) → bare_may_break m rule.Here ≡ false → Meets edition rule.Here before (Wire sent k c rs m)
here_of edition before true k c rs (Call head target params) h = absurd (false≢true (sym h))
here_of edition before false k c rs (Call head target params) h = absurd (false≢true (sym h))
here_of edition before true k c rs _ h = tt
here_of edition before false k c rs _ h = tt

opens_of : (edition : Edition) (before : Past) (sent : Bool) (k c : ℕ) (rs : List ℕ) (m : RpcMessage) → bare_may_break m rule.QNew ≡ false → Meets edition rule.QNew before (Wire sent k c rs m)
opens_of edition before sent k c rs (Bootstrap q) h = absurd (false≢true (sym h))
opens_of edition before sent k c rs (Call head target params) h = absurd (false≢true (sym h))
opens_of edition before sent k c rs _ h = tt

no_questions : (before : Past) (e : DecodedRecord) → IsBare e → IsTrue (list_all (λ q. is_unfinished q before) (filter_map (question_described e) (descriptors e) ++ [] ++ []))
no_questions before e bare = subst (λ ds. IsTrue (list_all (λ q. is_unfinished q before) (filter_map (question_described e) ds ++ [] ++ []))) (sym bare.uncarried) refl

uses_of : (edition : Edition) (before : Past) (sent : Bool) (k c : ℕ) (rs : List ℕ) (m : RpcMessage) → IsBare (Wire sent k c rs m) → bare_may_break m rule.QUse ≡ false → Meets edition rule.QUse before (Wire sent k c rs m)
uses_of edition before sent k c rs (Call head target params) bare h = absurd (false≢true (sym h))
uses_of edition before sent k c rs (Return head outcome) bare h = absurd (false≢true (sym h))
uses_of edition before sent k c rs (Finish q release) bare h = absurd (false≢true (sym h))
uses_of edition before sent k c rs (Disembargo number loopback target) bare h = absurd (false≢true (sym h))
uses_of edition before sent k c rs (Bootstrap q) bare h = record { used = refl; returned_once = tt; taken_once = tt }
uses_of edition before sent k c rs (Resolve promise resolution) bare h = record { used = no_questions before _ bare; returned_once = tt; taken_once = tt }
uses_of edition before sent k c rs (Release n count) bare h = record { used = refl; returned_once = tt; taken_once = tt }
uses_of edition before sent k c rs Abort bare h = record { used = refl; returned_once = tt; taken_once = tt }

no_numbers : (before : Past) (e : DecodedRecord) → IsBare e → IsTrue (list_all (λ i. is_in_life i before) (filter_map (number_described e) (descriptors e) ++ []))
no_numbers before e bare = subst (λ ds. IsTrue (list_all (λ i. is_in_life i before) (filter_map (number_described e) ds ++ []))) (sym bare.uncarried) refl

numbers_of : (edition : Edition) (before : Past) (sent : Bool) (k c : ℕ) (rs : List ℕ) (m : RpcMessage) → IsBare (Wire sent k c rs m) → bare_may_break m rule.XUse ≡ false → Meets edition rule.XUse before (Wire sent k c rs m)
numbers_of edition before sent k c rs (Call head target params) bare h = absurd (false≢true (sym h))
numbers_of edition before sent k c rs (Release n count) bare h = absurd (false≢true (sym h))
numbers_of edition before sent k c rs (Disembargo number loopback target) bare h = absurd (false≢true (sym h))
numbers_of edition before sent k c rs (Bootstrap q) bare h = refl
numbers_of edition before sent k c rs (Return head outcome) bare h = no_numbers before _ bare
numbers_of edition before sent k c rs (Finish q release) bare h = refl
numbers_of edition before sent k c rs (Resolve promise resolution) bare h = no_numbers before _ bare
numbers_of edition before sent k c rs Abort bare h = refl

goal_of : (edition : Edition) (before : Past) (sent : Bool) (k c : ℕ) (rs : List ℕ) (m : RpcMessage) → bare_may_break m rule.Goal ≡ false → Meets edition rule.Goal before (Wire sent k c rs m)
goal_of edition before true k c rs (Call head target params) h = absurd (false≢true (sym h))
goal_of edition before false k c rs (Call head target params) h = absurd (false≢true (sym h))
goal_of edition before true k c rs _ h = tt
goal_of edition before false k c rs _ h = tt

count_of : (edition : Edition) (before : Past) (sent : Bool) (k c : ℕ) (rs : List ℕ) (m : RpcMessage) → bare_may_break m rule.Count ≡ false → Meets edition rule.Count before (Wire sent k c rs m)
count_of edition before sent k c rs (Return head outcome) h = absurd (false≢true (sym h))
count_of edition before sent k c rs (Finish q release) h = absurd (false≢true (sym h))
count_of edition before sent k c rs (Release n count) h = absurd (false≢true (sym h))
count_of edition before sent k c rs _ h = λ i. nothing_given _

result_of : (edition : Edition) (before : Past) (sent : Bool) (k c : ℕ) (rs : List ℕ) (m : RpcMessage) → bare_may_break m rule.Result ≡ false → Meets edition rule.Result before (Wire sent k c rs m)
result_of edition before true k c rs (Return head outcome) h = absurd (false≢true (sym h))
result_of edition before false k c rs (Return head outcome) h = absurd (false≢true (sym h))
result_of edition before true k c rs _ h = tt
result_of edition before false k c rs _ h = tt

resolve_of : (edition : Edition) (before : Past) (sent : Bool) (k c : ℕ) (rs : List ℕ) (m : RpcMessage) → bare_may_break m rule.Resolve ≡ false → Meets edition rule.Resolve before (Wire sent k c rs m)
resolve_of edition before true k c rs (Resolve promise resolution) h = absurd (false≢true (sym h))
resolve_of edition before false k c rs (Resolve promise resolution) h = absurd (false≢true (sym h))
resolve_of edition before true k c rs _ h = tt
resolve_of edition before false k c rs _ h = tt

embargo_of : (edition : Edition) (before : Past) (sent : Bool) (k c : ℕ) (rs : List ℕ) (m : RpcMessage) → bare_may_break m rule.Emb ≡ false → Meets edition rule.Emb before (Wire sent k c rs m)
embargo_of edition before true k c rs (Disembargo number loopback target) h = absurd (false≢true (sym h))
embargo_of edition before false k c rs (Disembargo number loopback target) h = absurd (false≢true (sym h))
embargo_of edition before true k c rs _ h = tt
embargo_of edition before false k c rs _ h = tt

unasked_bare : (edition : Edition) (before : Past) (sent : Bool) (k c : ℕ) (rs : List ℕ) (m : RpcMessage) → IsBare (Wire sent k c rs m) → (each : Rule) → bare_may_break m each ≡ false → Meets edition each before (Wire sent k c rs m)
unasked_bare edition before sent k c rs m bare rule.Closed h = absurd (false≢true (sym h))
unasked_bare edition before sent k c rs m bare rule.Ref h = absurd (false≢true (sym h))
unasked_bare edition before sent k c rs m bare rule.Vow h = tt
unasked_bare edition before sent k c rs m bare rule.Here h = here_of edition before sent k c rs m h
unasked_bare edition before sent k c rs m bare rule.QNew h = opens_of edition before sent k c rs m h
unasked_bare edition before sent k c rs m bare rule.QUse h = uses_of edition before sent k c rs m bare h
unasked_bare edition before sent k c rs m bare rule.XUse h = numbers_of edition before sent k c rs m bare h
unasked_bare edition before sent k c rs m bare rule.Goal h = goal_of edition before sent k c rs m h
unasked_bare edition before sent k c rs m bare rule.Answer h = tt
unasked_bare edition before sent k c rs m bare rule.Desc h = bare_describes edition before _ bare
unasked_bare edition before sent k c rs m bare rule.Count h = count_of edition before sent k c rs m h
unasked_bare edition before sent k c rs m bare rule.Result h = result_of edition before sent k c rs m h
unasked_bare edition before sent k c rs m bare rule.Resolve h = resolve_of edition before sent k c rs m h
unasked_bare edition before sent k c rs m bare rule.RecvRef h = λ received. bare_notes before _ bare
unasked_bare edition before sent k c rs m bare rule.Emb h = embargo_of edition before sent k c rs m h

-- ---- the rules that a record without a message can't break

own_vow : (before : Past) (e : DecodedRecord) → own_may_break e rule.Vow ≡ false → KeepsVow before e
own_vow before (Fulfil r to) h = absurd (false≢true (sym h))
own_vow before (Break r) h = absurd (false≢true (sym h))
own_vow before _ h = tt

own_here : (before : Past) (e : DecodedRecord) → is_own e ≡ true → own_may_break e rule.Here ≡ false → IsHere before e
own_here before (Wire sent k c rs m) own h = absurd (false≢true own)
own_here before (Deliver call object) own h = absurd (false≢true (sym h))
own_here before _ own h = tt

own_goal : (edition : Edition) (before : Past) (e : DecodedRecord) → is_own e ≡ true → own_may_break e rule.Goal ≡ false → GoesToGoal edition before e
own_goal edition before (Wire sent k c rs m) own h = absurd (false≢true own)
own_goal edition before (Deliver call object) own h = absurd (false≢true (sym h))
own_goal edition before _ own h = tt

own_answer : (before : Past) (e : DecodedRecord) → own_may_break e rule.Answer ≡ false → MayAnswer before e
own_answer before (Answer call results) h = absurd (false≢true (sym h))
own_answer before (AnswerBy call by) h = absurd (false≢true (sym h))
own_answer before (Fault call) h = absurd (false≢true (sym h))
own_answer before _ h = tt

own_refers : (before : Past) (e : DecodedRecord) → is_own e ≡ true → own_may_break e rule.Ref ≡ false → Refers before e
own_refers before (Wire sent k c rs m) own h = absurd (false≢true own)
own_refers before _ own h = absurd (false≢true (sym h))

pub unasked_own : (e : DecodedRecord) → is_own e ≡ true → (each : Rule) → own_may_break e each ≡ false → (edition : Edition) (before : Past) → Meets edition each before e
unasked_own e own rule.Closed h edition before = own_open edition before e own
unasked_own e own rule.Ref h edition before = own_refers before e own h
unasked_own e own rule.Vow h edition before = own_vow before e h
unasked_own e own rule.Here h edition before = own_here before e own h
unasked_own e own rule.QNew h edition before = own_opens edition before e own
unasked_own e own rule.QUse h edition before = own_uses edition before e own
unasked_own e own rule.XUse h edition before = own_numbers edition before e own
unasked_own e own rule.Goal h edition before = own_goal edition before e own h
unasked_own e own rule.Answer h edition before = own_answer before e h
unasked_own e own rule.Desc h edition before = own_describes edition before e own
unasked_own e own rule.Count h edition before = own_gives edition before e own
unasked_own e own rule.Result h edition before = own_returns edition before e own
unasked_own e own rule.Resolve h edition before = own_resolves edition before e own
unasked_own e own rule.RecvRef h edition before = own_binds edition before e own
unasked_own e own rule.Emb h edition before = own_embargo edition before e own

-- ---- the same of messages that carry capabilities

-- neither of two is so
not_first : (a b : Bool) → (a || b) ≡ false → a ≡ false
not_first true b h = absurd (false≢true (sym h))
not_first false b h = refl

second_is : (a : Bool) → (a || true) ≡ false → ⊥
second_is true h = false≢true (sym h)
second_is false h = false≢true (sym h)

-- a message that may carry capabilities, and breaks none of the rules on them
unasked_of_caps : (sent : Bool) (k c : ℕ) (rs : List ℕ) (m : RpcMessage) (each : Rule) → (bare_may_break m each || is_of_caps each) ≡ false → (edition : Edition) (before : Past) → Meets edition each before (Wire sent k c rs m)
unasked_of_caps sent k c rs m rule.Closed h edition before = absurd (false≢true (sym h))
unasked_of_caps sent k c rs m rule.Ref h edition before = absurd (false≢true (sym h))
unasked_of_caps sent k c rs m rule.Vow h edition before = tt
unasked_of_caps sent k c rs m rule.Here h edition before = here_of edition before sent k c rs m (not_first (bare_may_break m rule.Here) false h)
unasked_of_caps sent k c rs m rule.QNew h edition before = opens_of edition before sent k c rs m (not_first (bare_may_break m rule.QNew) false h)
unasked_of_caps sent k c rs m rule.QUse h edition before = absurd (second_is (bare_may_break m rule.QUse) h)
unasked_of_caps sent k c rs m rule.XUse h edition before = absurd (second_is (bare_may_break m rule.XUse) h)
unasked_of_caps sent k c rs m rule.Goal h edition before = goal_of edition before sent k c rs m (not_first (bare_may_break m rule.Goal) false h)
unasked_of_caps sent k c rs m rule.Answer h edition before = tt
unasked_of_caps sent k c rs m rule.Desc h edition before = absurd (second_is (bare_may_break m rule.Desc) h)
unasked_of_caps sent k c rs m rule.Count h edition before = count_of edition before sent k c rs m (not_first (bare_may_break m rule.Count) false h)
unasked_of_caps sent k c rs m rule.Result h edition before = result_of edition before sent k c rs m (not_first (bare_may_break m rule.Result) false h)
unasked_of_caps sent k c rs m rule.Resolve h edition before = resolve_of edition before sent k c rs m (not_first (bare_may_break m rule.Resolve) false h)
unasked_of_caps sent k c rs m rule.RecvRef h edition before = absurd (second_is (bare_may_break m rule.RecvRef) h)
unasked_of_caps sent k c rs m rule.Emb h edition before = embargo_of edition before sent k c rs m (not_first (bare_may_break m rule.Emb) false h)

-- of any message, the rules on records without one
unasked_message : (sent : Bool) (k c : ℕ) (rs : List ℕ) (m : RpcMessage) (each : Rule) → not (is_of_own each) ≡ false → (edition : Edition) (before : Past) → Meets edition each before (Wire sent k c rs m)
unasked_message sent k c rs m rule.Vow h edition before = tt
unasked_message sent k c rs m rule.Answer h edition before = tt
unasked_message sent k c rs m _ h edition before = absurd (false≢true (sym h))

unasked_carrying : (sent : Bool) (k c : ℕ) (rs : List ℕ) (m : RpcMessage) (each : Rule) → carrying_may_break m each ≡ false → (edition : Edition) (before : Past) → Meets edition each before (Wire sent k c rs m)
unasked_carrying sent k c rs (Call head target params) each h edition before = unasked_of_caps sent k c rs (Call head target params) each h edition before
unasked_carrying sent k c rs (Return head outcome) each h edition before = unasked_of_caps sent k c rs (Return head outcome) each h edition before
unasked_carrying sent k c rs (Resolve promise resolution) each h edition before = unasked_of_caps sent k c rs (Resolve promise resolution) each h edition before
unasked_carrying sent k c rs m each h edition before = unasked_message sent k c rs m each h edition before

-- ---- what is asked suffices

own_otherwise : (e : DecodedRecord) → ((sent : Bool) (k c : ℕ) (rs : List ℕ) (m : RpcMessage) → e ≡ Wire sent k c rs m → ⊥) → is_own e ≡ true
own_otherwise (Wire sent k c rs m) other = absurd (other sent k c rs m refl)
own_otherwise _ other = refl

pub own_suffice : (e : DecodedRecord) {some : List Rule} → ((sent : Bool) (k c : ℕ) (rs : List ℕ) (m : RpcMessage) → e ≡ Wire sent k c rs m → ⊥) → some ≡ filter (own_may_break e) rules → Suffice e some
own_suffice e other is = (own_may_break e, is, unasked_own e (own_otherwise e other))

pub bare_suffice : (e : DecodedRecord) {sent : Bool} {k c : ℕ} {rs : List ℕ} {m : RpcMessage} {some : List Rule} → e ≡ Wire sent k c rs m → IsBare e → some ≡ filter (bare_may_break m) rules → Suffice e some
bare_suffice e {sent} {k} {c} {rs} {m} {some} whole bare is =
    (bare_may_break m, is, λ each h edition before. subst (λ x. Meets edition each before x) (sym whole) (unasked_bare edition before sent k c rs m (subst IsBare whole bare) each h))

pub carrying_suffice : (e : DecodedRecord) {sent : Bool} {k c : ℕ} {rs : List ℕ} {m : RpcMessage} {some : List Rule} → e ≡ Wire sent k c rs m → some ≡ filter (carrying_may_break m) rules → Suffice e some
carrying_suffice e {sent} {k} {c} {rs} {m} {some} whole is =
    (carrying_may_break m, is, λ each h edition before. subst (λ x. Meets edition each before x) (sym whole) (unasked_carrying sent k c rs m each h edition before))
