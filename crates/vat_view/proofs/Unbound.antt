-- Nothing is known of a call that isn't bound.
use Rattle.std.proofs.Common.{◌≡◌, inl, inr, refl, sym, ◌∙◌, ap, subst, ℕ, ◌==◌, [], ◌∷◌, Bool, true, false, not, ◌&&◌, ◌||◌, Option, Some, None, if◌then◌else◌}
use Rattle.std.specs.Prelude.{is_some}
use Rattle.std.specs.List.{list_all}
use Rattle.std.specs.Option.{option_or}
use Rattle.std.proofs.lemmas.Bool.{cases_Bool, and_parts, and_from, or_parts, or_left, or_right, false≢true, eqb-true}
use Rattle.vat_view.specs.Types.{Bootstrap, Call, Return, Results, Exception, Canceled, TakeFrom, DecodedRecord, Make, Deliver, Answer, AnswerBy, Fault, Wire, Request, TableKey}
use Rattle.decoded_records.specs.Past.{Past, point, id, is, last_answer, last_where, Each}
use Rattle.decoded_records.specs.Questions.{opens, opening, call_at, is_late}
use Rattle.decoded_records.specs.Views.{view_of_reference, view_of_target}
use Rattle.decoded_records.specs.Calls.{brings, request_of, takes, moves, delivers, boots, settles, knows, has_passed, is_settled, is_known, call_taken_from}
use Rattle.decoded_records.specs.Bindings.{Refers, new_calls, contains, is_bound_call}
use Rattle.vat_view.specs.Sound.{IsSound}

-- no record before says anything of a call
pub record IsUnknown (c : ℕ) (past : Past) : Type 0 where
  pub asked : request_of c past ≡ None
  pub moved : last_answer (moves c) past ≡ None
  pub delivered : has_passed (delivers c) past ≡ false
  pub booted : has_passed (boots c) past ≡ false
  pub settled : is_settled c past ≡ false
  pub known : is_known c past ≡ false

-- a record says nothing of a call
record IsApart (c : ℕ) (before : Past) (e : DecodedRecord) : Type 0 where
  pub brings : brings c before e ≡ None
  pub takes : takes c before e ≡ false
  pub delivers : delivers c before e ≡ false
  pub boots : boots c before e ≡ false
  pub settles : settles c before e ≡ false
  pub knows : knows c before e ≡ false

-- ---- a call that is noted beside an opening is bound

is_there : (c d : ℕ) (rest : Bool) → (d == c) ≡ true → (((d == c) || false) || rest) ≡ true
is_there c d rest h = or_left ((d == c) || false) rest (or_left (d == c) false h)

named_bound : (before : Past) (c d : ℕ) → list_all (is_bound_call before) (d ∷ []) ≡ true → (d == c) ≡ true → is_bound_call before c ≡ true
named_bound before c d h same = subst (λ x. is_bound_call before x ≡ true) (eqb-true d c same) (and_parts (is_bound_call before d) true h).0

noted_bound : (before : Past) (e : DecodedRecord) (q : TableKey) (c : ℕ) → Refers before e → opens q before e ≡ true → is c (call_at (Some (point before e))) ≡ true → is_bound_call (e ∷ before) c ≡ true
noted_bound before (Wire s k d rs (Bootstrap n)) q c refers new same = is_there c d (is_bound_call before c) same
noted_bound before (Wire false k d rs (Call head t p)) q c refers new same = is_there c d (is_bound_call before c) same
noted_bound before (Wire true k d rs (Call head t p)) q c refers new same = named_bound before c d refers.bound_call same
noted_bound before _ q c refers new same = absurd (false≢true new)

pub opening_bound : (past : Past) → Each IsSound past → (q : TableKey) (c : ℕ) → is c (call_at (opening q past)) ≡ true → is_bound_call past c ≡ true
opening_bound [] sound q c h = absurd (false≢true h)
opening_bound (e ∷ before) sound q c h = elim (cases_Bool (opens q before e)) [
  | inl new ↦ noted_bound before e q c sound.0.refers new (sym (ap (λ b. is c (call_at (if b then Some (point before e) else opening q before))) new) ∙ h)
  | inr old ↦ or_right (contains c (new_calls e)) (is_bound_call before c)
      (opening_bound before sound.1 q c (sym (ap (λ b. is c (call_at (if b then Some (point before e) else opening q before))) old) ∙ h))
]

-- ---- a record says nothing of a call that isn't bound after it

module _ (c : ℕ) (before : Past) (sound : Each IsSound before) (unbound : is_bound_call before c ≡ false) where
  not_named : (d : ℕ) → list_all (is_bound_call before) (d ∷ []) ≡ true → (d == c) ≡ false
  not_named d h = elim (cases_Bool (d == c)) [
    | inl same ↦ absurd (false≢true (sym unbound ∙ named_bound before c d h same))
    | inr apart ↦ apart
  ]

  not_opening : (q : TableKey) → is c (call_at (opening q before)) ≡ false
  not_opening q = elim (cases_Bool (is c (call_at (opening q before)))) [
    | inl same ↦ absurd (false≢true (sym unbound ∙ opening_bound before sound q c same))
    | inr apart ↦ apart
  ]

  not_new : (d : ℕ) → contains c (d ∷ []) ≡ false → (d == c) ≡ false
  not_new d h = (or_parts (d == c) false h).0

  nothing : (e : DecodedRecord) → Refers before e → contains c (new_calls e) ≡ false → IsApart c before e
  nothing (Make d r f m) refers h = record {
    brings = (let a : Request = record { goal = view_of_reference before r; interface = f; method = m } in ap (λ b. if b then Some a else None) (not_new d h));
    takes = refl;
    delivers = refl;
    boots = refl;
    settles = refl;
    knows = refl;
  }
  nothing (Deliver d object) refers h = record { brings = refl; takes = not_named d refers.bound_call; delivers = not_named d refers.bound_call; boots = refl; settles = refl; knows = refl }
  nothing (Answer d results) refers h = record { brings = refl; takes = refl; delivers = refl; boots = refl; settles = not_named d refers.bound_call; knows = not_named d refers.bound_call }
  nothing (AnswerBy d by) refers h =
      let apart : (d == c) ≡ false = not_named d (and_from (is_bound_call before d) true (and_parts (is_bound_call before d) (list_all (is_bound_call before) (by ∷ [])) refers.bound_call).0 refl) in
      record { brings = refl; takes = refl; delivers = refl; boots = refl; settles = apart; knows = apart }
  nothing (Fault d) refers h = record { brings = refl; takes = not_named d refers.bound_call; delivers = refl; boots = refl; settles = not_named d refers.bound_call; knows = refl }
  nothing (Wire false k d rs (Bootstrap q)) refers h = record { brings = refl; takes = refl; delivers = refl; boots = not_new d h; settles = refl; knows = refl }
  nothing (Wire false k d rs (Call head t p)) refers h = record {
    brings = (let a : Request = record { goal = view_of_target before (Wire false k d rs (Call head t p)); interface = head.interface; method = head.method } in ap (λ b. if b then Some a else None) (not_new d h));
    takes = refl;
    delivers = refl;
    boots = refl;
    settles = refl;
    knows = refl;
  }
  nothing (Wire true k d rs (Call head t p)) refers h = record { brings = refl; takes = not_named d refers.bound_call; delivers = refl; boots = refl; settles = refl; knows = refl }
  nothing (Wire true k d rs (Return head Exception)) refers h = record { brings = refl; takes = not_opening (id k false head.answer); delivers = refl; boots = refl; settles = refl; knows = refl }
  nothing (Wire true k d rs (Return head Canceled)) refers h = record { brings = refl; takes = not_opening (id k false head.answer); delivers = refl; boots = refl; settles = refl; knows = refl }
  nothing (Wire false k d rs (Return head (Results payload))) refers h = record {
    brings = refl;
    takes = refl;
    delivers = refl;
    boots = refl;
    settles = refl;
    knows = ap (λ b. b && not (is_late before (Wire false k d rs (Return head (Results payload))))) (not_opening (id k true head.answer));
  }
  nothing (Wire false k d rs (Return head (TakeFrom n))) refers h = record {
    brings = refl;
    takes = refl;
    delivers = refl;
    boots = refl;
    settles = refl;
    knows = ap (λ b. is_some (if b then call_taken_from before (Wire false k d rs (Return head (TakeFrom n))) else None)) (not_opening (id k true head.answer));
  }
  nothing _ refers h = record { brings = refl; takes = refl; delivers = refl; boots = refl; settles = refl; knows = refl }

passed_apart : (test : Past → DecodedRecord → Bool) (before : Past) (e : DecodedRecord) → test before e ≡ false → has_passed test before ≡ false → has_passed test (e ∷ before) ≡ false
passed_apart test before e apart rest = ap (λ b. is_some (if b then Some (point before e) else last_where test before)) apart ∙ rest

moves_none : (o : Option Request) (b : Bool) → o ≡ None → b ≡ false → (if is_some o then Some true else if b then Some false else None) ≡ None
moves_none o b none apart = ap (λ x. if is_some x then Some true else if b then Some false else None) none ∙ ap (λ x. if x then Some false else None) apart

pub unknown : (past : Past) → Each IsSound past → (c : ℕ) → is_bound_call past c ≡ false → IsUnknown c past
unknown [] sound c h = record { asked = refl; moved = refl; delivered = refl; booted = refl; settled = refl; known = refl }
unknown (e ∷ before) sound c h =
    let parts = or_parts (contains c (new_calls e)) (is_bound_call before c) h in
    let rest : IsUnknown c before = unknown before sound.1 c parts.1 in
    let apart : IsApart c before e = nothing c before sound.1 parts.1 e sound.0.refers parts.0 in record {
      asked = ap (λ o. option_or o (request_of c before)) apart.brings ∙ rest.asked;
      moved = ap (λ o. option_or o (last_answer (moves c) before)) (moves_none (brings c before e) (takes c before e) apart.brings apart.takes) ∙ rest.moved;
      delivered = passed_apart (delivers c) before e apart.delivers rest.delivered;
      booted = passed_apart (boots c) before e apart.boots rest.booted;
      settled = passed_apart (settles c) before e apart.settles rest.settled;
      known = passed_apart (knows c) before e apart.knows rest.known;
    }
