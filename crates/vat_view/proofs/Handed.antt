-- The calls that were answered by others.
use Rattle.std.proofs.Common.{◌≡◌, ◌<◌, inl, inr, refl, sym, ◌∙◌, ap, subst, ℕ, [], ◌∷◌, length, Bool, true, false, Option, Some, None, if◌then◌else◌, option_map, arith}
use Rattle.std.specs.Option.{option_or}
use Rattle.std.proofs.lemmas.Bool.{cases_Bool, eq-eqb, ne_eqb}
use Rattle.vat_view.specs.declared.record.unsettled.Unsettled.TheVariants.{Results as ResultsOf}
use Rattle.vat_view.specs.declared.tables.turns.handovers.Handover.{Handover}
use Rattle.vat_view.specs.Types.{Return, TakeFrom, DecodedRecord, AnswerBy, Wire}
use Rattle.decoded_records.specs.Past.{Past, Point, point, id, record_index}
use Rattle.decoded_records.specs.Questions.{call_at, opening}
use Rattle.decoded_records.specs.Calls.{answerer, answered_by, call_taken_from}
use Rattle.vat_view.specs.Glue.TurnTables.{is_this, settlement_of, settler, handing, handover_of, by_handover}
use Rattle.vat_view.proofs.Landed.{is_results}

none_some : {A : Type 0} {x : A} → None ≡ Some x → ⊥
none_some e = cc

some_same : {A : Type 0} {x y : A} → Some x ≡ Some y → x ≡ y
some_same e = cc

no_call : (b : Bool) (t : Option ℕ) → t ≡ None → None ≡ (if b then t else None)
no_call true t none = sym none
no_call false t none = refl

-- a record answers a call by another where it settles that call so
pub answerer_settles : (c : ℕ) (before : Past) (e : DecodedRecord) → answerer c before e ≡ (if is_this (ResultsOf c) (settlement_of before e) then call_taken_from before e else None)
answerer_settles c before (AnswerBy d by) = refl
answerer_settles c before (Wire false k d rs (Return head (TakeFrom n))) =
    ap (λ b. if b then call_taken_from before (Wire false k d rs (Return head (TakeFrom n))) else None) (is_results c (call_at (opening (id k true head.answer) before)))
answerer_settles c before e = no_call (is_this (ResultsOf c) (settlement_of before e)) (call_taken_from before e) refl

-- what the table has of a call after a record
pub handed_step : (b : Bool) (taken : Option ℕ) (number : ℕ) (old : Option Handover) →
    (if b then option_or (option_map (handing number) taken) old else old) ≡ option_or (option_map (handing number) (if b then taken else None)) old
handed_step true taken number old = refl
handed_step false taken number old = refl

-- the record that answered a call by another stands before
handed_before : (c : ℕ) (past : Past) (h : Handover) → handover_of c past ≡ Some h → h.number < length past
handed_before c [] h there = absurd (none_some there)
handed_before c (e ∷ before) h there = inner (handed_before c before h) (answerer c before e) there
  where
    inner : (handover_of c before ≡ Some h → h.number < length before) → (o : Option ℕ) → option_or (option_map (handing (length before)) o) (handover_of c before) ≡ Some h →
        h.number < length (e ∷ before)
    inner rest (Some by) g = let same : length before ≡ h.number = ap (λ x. x.number) (some_same g) in omega (arith, same)
    inner rest None g = let less = rest g in omega (arith, less)

-- where the last record that settled a call answered it by another, the table has that one's number
module _ (c : ℕ) where
  not_again : (before : Past) (o : Option Handover) → handover_of c before ≡ o → by_handover (length before) o ≡ None
  not_again before None there = refl
  not_again before (Some h) there =
      let less = handed_before c before h there in
      ap (λ b. if b then Some h.by else None) (ne_eqb h.number (length before) (λ same. let no : ⊥ = omega (arith, less, same) in no))

  matched_here : (before : Past) (taken : Option ℕ) → by_handover (length before) (option_or (option_map (handing (length before)) taken) (handover_of c before)) ≡ taken
  matched_here before (Some by) = ap (λ b. if b then Some by else None) (eq-eqb (length before) (length before) refl)
  matched_here before None = not_again before (handover_of c before) refl

  pub matched : (past : Past) (q : Point) → settler (ResultsOf c) past ≡ Some q → by_handover (record_index q) (handover_of c past) ≡ call_taken_from q.before q.event
  matched [] q h = absurd (none_some h)
  matched (e ∷ before) q h = elim (cases_Bool (is_this (ResultsOf c) (settlement_of before e))) [
    | inl here ↦
        let same : point before e ≡ q = some_same (sym (ap (λ b. if b then Some (point before e) else settler (ResultsOf c) before) here) ∙ h) in
        subst (λ x. by_handover (record_index x) (handover_of c (e ∷ before)) ≡ call_taken_from x.before x.event) same
        (ap (λ o. by_handover (length before) (option_or (option_map (handing (length before)) o) (handover_of c before)))
        (answerer_settles c before e ∙ ap (λ b. if b then call_taken_from before e else None) here)
        ∙ matched_here before (call_taken_from before e))
    | inr apart ↦
        ap (λ o. by_handover (record_index q) (option_or (option_map (handing (length before)) o) (handover_of c before)))
        (answerer_settles c before e ∙ ap (λ b. if b then call_taken_from before e else None) apart)
        ∙ matched before q (sym (ap (λ b. if b then Some (point before e) else settler (ResultsOf c) before) apart) ∙ h)
  ]

-- the call by which a call was answered last, by the table
pub answered_known : (c : ℕ) (past : Past) → option_map (λ h. h.by) (handover_of c past) ≡ answered_by c past
answered_known c [] = refl
answered_known c (e ∷ before) = inner (answered_known c before) (answerer c before e)
  where
    inner : option_map (λ h. h.by) (handover_of c before) ≡ answered_by c before → (o : Option ℕ) →
        option_map (λ h. h.by) (option_or (option_map (handing (length before)) o) (handover_of c before)) ≡ option_or o (answered_by c before)
    inner rest (Some by) = refl
    inner rest None = rest
