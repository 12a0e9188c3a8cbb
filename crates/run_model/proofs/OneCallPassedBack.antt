-- An example, and no part of a proof: a call goes from vat 1 over vats 2 and 3 to vat 4, whose promise led back to an
-- object of vat 3. So vat 4 sends the call on to vat 3, and passes it back. Vat 3, which has the call twice now, returns to
-- vat 2 what it stands for: a field of that same call. Vat 2 does so too, though it never received that a call was passed
-- back. The run, and that it has what a run is promised to have.
use Rattle.std.proofs.Common.{◌≡◌, refl, inl, inr, List, [], ◌∷◌}
use Rattle.run_model.specs.Types.{Step}
use Rattle.run_model.specs.declared.cap.Cap.TheVariants as cap
use Rattle.run_model.specs.declared.message.Message.TheVariants as message
use Rattle.run_model.specs.declared.step.Step.TheVariants as step
use Rattle.run_model.specs.Steps.{call, EachOf}
use Rattle.run_model.specs.Leads.{here, turn}
use Rattle.run_model.specs.Legal.{IsLegalRun}
use Rattle.run_model.specs.Links.{IsLinkedRun}
use Rattle.run_model.specs.Right.{ReachesObject}
use Rattle.run_model.specs.Early.{early}

abbrev pub run : List Step
run =
    (step.Send 1 0 (message.Boot (call 1 1))) ∷
    (step.Name 1 (cap.Field (call 1 1) [])) ∷
    (step.Make 1 2 (cap.Field (call 1 1) []) 2 4660 2) ∷
    (step.Send 1 0 (message.Call (call 1 2) (cap.Field (call 1 1) []) 4660 2 [])) ∷
    (step.Send 2 1 (message.Boot (call 2 1))) ∷
    (step.Name 2 (cap.Field (call 2 1) [])) ∷
    (step.Receive 2 0 (message.Boot (call 1 1)) []) ∷
    (step.Answer 2 (call 1 1) (([], (cap.Field (call 2 1) [])) ∷ [])) ∷
    (step.Receive 2 0 (message.Call (call 1 2) (cap.Field (call 1 1) []) 4660 2 []) []) ∷
    (step.Send 2 1 (message.Call (call 1 2) (cap.Field (call 2 1) []) 4660 2 [])) ∷
    (step.Host 3 5) ∷
    (step.Send 3 2 (message.Boot (call 3 1))) ∷
    (step.Name 3 (cap.Field (call 3 1) [])) ∷
    (step.Receive 3 1 (message.Boot (call 2 1)) []) ∷
    (step.Answer 3 (call 2 1) (([], (cap.Field (call 3 1) [])) ∷ [])) ∷
    (step.Receive 3 1 (message.Call (call 1 2) (cap.Field (call 2 1) []) 4660 2 []) []) ∷
    (step.Send 3 2 (message.Call (call 1 2) (cap.Field (call 3 1) []) 4660 2 ((cap.Object 3 5) ∷ []))) ∷
    (step.Vow 4 1) ∷
    (step.Receive 4 2 (message.Boot (call 3 1)) []) ∷
    (step.Answer 4 (call 3 1) (([], (cap.Promise 4 1)) ∷ [])) ∷
    (step.Receive 4 2 (message.Call (call 1 2) (cap.Field (call 3 1) []) 4660 2 ((cap.Object 3 5) ∷ [])) ((cap.Object 3 5) ∷ [])) ∷
    (step.Fulfil 4 1 (cap.Object 3 5)) ∷
    (step.Send 4 2 (message.Call (call 1 2) (cap.Object 3 5) 4660 2 [])) ∷
    (step.Receive 3 2 (message.Call (call 1 2) (cap.Object 3 5) 4660 2 []) []) ∷
    (step.Send 4 2 (message.Taken (call 1 2) (call 1 2))) ∷
    (step.Receive 3 2 (message.Taken (call 1 2) (call 1 2)) []) ∷
    (step.Send 3 1 (message.Return (call 1 2) (((0 ∷ []), (cap.Field (call 1 2) (0 ∷ []))) ∷ []) ((cap.Field (call 1 2) (0 ∷ [])) ∷ []))) ∷
    (step.Receive 2 1 (message.Return (call 1 2) (((0 ∷ []), (cap.Field (call 1 2) (0 ∷ []))) ∷ []) ((cap.Field (call 1 2) (0 ∷ [])) ∷ [])) ((cap.Field (call 1 2) (0 ∷ [])) ∷ [])) ∷
    (step.Send 2 0 (message.Return (call 1 2) (((0 ∷ []), (cap.Field (call 1 2) (0 ∷ []))) ∷ []) ((cap.Field (call 1 2) (0 ∷ [])) ∷ []))) ∷
    (step.Receive 1 0 (message.Return (call 1 2) (((0 ∷ []), (cap.Field (call 1 2) (0 ∷ []))) ∷ []) ((cap.Field (call 1 2) (0 ∷ [])) ∷ [])) ((cap.Field (call 1 2) (0 ∷ [])) ∷ [])) ∷
    []

pub is_legal : IsLegalRun run
is_legal = ((tt, inl refl), ((((inr (inr (inr (inr (inr (inr (inr (inr (inr (inr (inr (inr (inr (inr (inr (inr (inr (inr (inr (inl (refl, inr ((0 ∷ []), refl)))))))))))))))))))))), ((inr (inr (inr (inr (inr (inr (inr (inr (inr (inr (inr (inr (inr (inr (inr (inr (inr (inr (inr (inl (refl, inr ((0 ∷ []), refl)))))))))))))))))))))), tt)), (refl, (((cap.Field (call 1 2) (0 ∷ []), here, here), inr refl), tt))), ((tt, inl refl), ((((inr (inr (inr (inr (inr (inr (inr (inr (inr (inr (inl (refl, inr ((0 ∷ []), refl))))))))))))), ((inr (inr (inr (inr (inr (inr (inr (inr (inr (inr (inl (refl, inr ((0 ∷ []), refl))))))))))))), tt)), (refl, (((cap.Field (call 1 2) (0 ∷ []), here, here), inr refl), tt))), ((tt, refl), ((tt, refl), ((tt, refl), ((((inr (inl (refl, inl (inl refl)))), tt), ((cap.Object 3 5, turn (inr (inr (inl (inl (refl, refl))))) (turn (inl (refl, refl)) here), here), refl, refl)), ((((inl (refl, inl (inl refl))), tt), (refl, refl)), ((tt, refl), ((((inr (inl (refl, refl))), tt), (refl, refl, refl)), ((tt, refl), ((tt, tt), ((((inr (inr (inr (inr (inl (refl, ([], refl))))))), ((inr (inr (inr (inr (inr (inl (refl, refl))))))), tt)), ((cap.Field (call 3 1) [], turn (inr (inl (inl (refl, refl)))) here, here), refl, refl)), ((tt, refl), ((((inr (inr (inl (refl, ([], refl))))), tt), (refl, refl, refl)), ((tt, refl), ((((inl (refl, ([], refl))), tt), tt), ((tt, (refl, refl)), ((tt, tt), ((((inr (inr (inr (inr (inl (refl, ([], refl))))))), tt), ((cap.Field (call 2 1) [], turn (inr (inl (inl (refl, refl)))) here, here), refl, refl)), ((tt, refl), ((((inr (inr (inl (refl, ([], refl))))), tt), (refl, refl, refl)), ((tt, refl), ((((inl (refl, ([], refl))), tt), tt), ((tt, (refl, refl)), ((((inr (inr (inl (refl, ([], refl))))), tt), ((cap.Field (call 1 1) [], here, here), refl, refl)), ((((inr (inl (refl, ([], refl)))), tt), refl), ((((inl (refl, ([], refl))), tt), tt), ((tt, (refl, refl)), tt))))))))))))))))))))))))))))))

pub is_linked : IsLinkedRun run
is_linked = ((refl, refl), (refl, ((refl, refl), (refl, ((refl, refl), (refl, ((refl, refl), (refl, (tt, ((refl, refl), (tt, ((refl, refl), (tt, (refl, ((refl, refl), (tt, ((refl, refl), (tt, (refl, (tt, (refl, ((refl, refl), (tt, ((refl, refl), (tt, (refl, (refl, (tt, (tt, (refl, tt))))))))))))))))))))))))))))))

pub reaches : EachOf ReachesObject run
reaches = (tt, (tt, (tt, (tt, (tt, (tt, ((refl, refl), ((refl, refl), (tt, ((refl, refl), (tt, (tt, (tt, ((refl, refl), ((refl, refl), (tt, (tt, (tt, (tt, (tt, ((refl, refl), ((refl, refl), (tt, (tt, (tt, (tt, ((refl, refl), (tt, (tt, (tt, tt))))))))))))))))))))))))))))))

pub in_order : early run ≡ []
in_order = refl
