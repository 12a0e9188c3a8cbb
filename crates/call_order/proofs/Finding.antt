-- The least place at which one of the vats tells of a break is the order fault of the run.
use Rattle.std.proofs.Common.{◌≡◌, inl, inr, refl, sym, ◌∙◌, subst, ℕ, List, [], ◌∷◌, map, reverse, Bool, true, false, Option, Some, None}
use Rattle.std.specs.List.{AllByRecursion, zip}
use Rattle.std.proofs.lemmas.List.{append-nil, reverse-reverse}
use Rattle.call_trace.proofs.Next.{may_run}
use Rattle.call_trace.proofs.Single.{named_row}
use Rattle.call_trace.proofs.Whole.{vats_taken}
use Rattle.call_trace.specs.Findings.{logs_of, AreTrue, MayBeNamed}
use Rattle.call_trace.specs.Named.{IsRunOf}
use Rattle.call_trace.specs.Taking.{taken_by, row_of}
use Rattle.call_trace.specs.Types.{Step}
use Rattle.run_model.proofs.Order.{ordered_unless_early}
use Rattle.run_model.specs.Early.{IsAtMost, IsOrderFault, early as early_in_run}
use Rattle.run_model.specs.Legal.{IsLegal}
use Rattle.run_model.specs.Links.{IsLinked}
use Rattle.run_model.specs.Steps.{EachStep}
use Rattle.undelivered.proofs.OfRuns.{told_once, told_early}
use Rattle.undelivered.specs.OfRuns.{moments_of}
use Rattle.undelivered.specs.Order.{AreOnce, early}
use Rattle.turn_taking.specs.Turns.{Turns, records_taken, order_of, AreAll}
use Rattle.vat_log.specs.declared.body.Body.{Body}
use Rattle.vat_rules.specs.Audit.{Found}
use Rattle.call_order.specs.Glue.Reached.{turns_unless, AreRead, AreKept, AreTablesOf}
use Rattle.call_order.specs.Glue.Told.{calls_told, AreAllOnce, IsEarlyIn, IsFaultIn}
use Rattle.call_order.specs.declared.order_tables.OrderTables.{OrderTables}
use Rattle.call_order.specs.declared.told.Told.{Told}
use Rattle.call_order.proofs.Least.{Place, In}
use Rattle.call_order.proofs.Reading.{are_read}
use Rattle.call_order.proofs.Turning.{vats_of}

none_in : (xs : List Place) → ((q : Place) → In q xs → ⊥) → xs ≡ []
none_in [] none = refl
none_in (x ∷ xs) none = absurd (none x (inl refl))

all_in : (P : Place → Type 0) (xs : List Place) → ((q : Place) → In q xs → P q) → AllByRecursion P xs
all_in P [] h = tt
all_in P (x ∷ xs) h = (h x (inl refl), all_in P xs (λ q there. h q (inr there)))

module _ (run : List Step) (told : Told) (legal : EachStep IsLegal (reverse run)) (linked : EachStep IsLinked (reverse run)) (is : (v : ℕ) → calls_told told v ≡ moments_of v (reverse run)) where
  all_once : AreAllOnce told
  all_once v = subst AreOnce (sym (is v)) (told_once (reverse run) legal linked v)

  there : (q : Place) → In q (early_in_run run) → IsEarlyIn told q
  there q h = let by = (told_early (reverse run) legal linked q).0 h in (by.0, subst (λ past. In q (early past)) (sym (is by.0)) by.1)

  back : (q : Place) → IsEarlyIn told q → In q (early_in_run run)
  back q h = (told_early (reverse run) legal linked q).1 (h.0, subst (λ past. In q (early past)) (is h.0) h.1)

  fault_is : (found : Option Place) → IsFaultIn told found → IsOrderFault run found
  fault_is None none = (ordered_unless_early run).0 (none_in (early_in_run run) (λ q h. none q (there q h)))
  fault_is (Some p) least = (back p least.0, all_in (IsAtMost p) (early_in_run run) (λ q h. least.1 q (there q h)))

-- ---- of turns that took all records of logs

-- the turns are known, unless memory was refused
pub turns_held : (refused : Bool) (vats : List ℕ) (records : List Body) (turns : Turns) → turns_unless refused vats records ≡ Some turns → (refused ≡ false) × (zip vats records ≡ turns)
turns_held true vats records turns h = absurd (let no : ⊥ = cc in no)
turns_held false vats records turns h = (refl, cc)

module _ (findings : List Found) (turns : Turns) (run : List Step) (tables : OrderTables) (all : AreAll (logs_of findings) turns) (true_all : AreTrue findings) (asked : MayBeNamed findings (order_of turns))
    (is : IsRunOf findings (order_of turns) run) (reached : AreTablesOf turns tables) where
  steps : reverse (order_of turns) ≡ vats_of turns
  steps = reverse-reverse (vats_of turns)

  read : AreRead (row_of findings (order_of turns)) turns
  read =
      subst (λ l. AreRead (taken_by findings l) turns) (sym steps)
      (are_read findings turns (λ log there. ([], all.taken log there ∙ sym (append-nil (records_taken log.vat turns))))
      (subst (λ l. map (λ r. r.0) (taken_by findings l) ≡ l) steps (vats_taken findings (order_of turns) true_all asked (reverse (order_of turns)) ([], refl))))

  kept : AreKept (row_of findings (order_of turns)) (reverse run) tables
  kept = reached (row_of findings (order_of turns)) (reverse run) read (may_run findings (order_of turns) true_all asked) (named_row findings (order_of turns) true_all asked run is)

  pub run_fault : (found : Option Place) → (AreAllOnce tables.told → IsFaultIn tables.told found) → IsOrderFault run found
  run_fault found fault = fault_is run tables.told is.legal is.linked kept.told found (fault (all_once run tables.told is.legal is.linked kept.told))
