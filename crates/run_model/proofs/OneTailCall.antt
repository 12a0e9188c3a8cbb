-- An example, and no part of a proof: vat 1 calls vat 2, which answers that call by one of its own to an object of vat 1. The
-- results of the second call never come to vat 2: they are the first one's. The run, and that it has what a run is promised
-- to have.
use Rattle.std.proofs.Common.{◌≡◌, refl, inl, inr, List, [], ◌∷◌}
use Rattle.run_model.specs.Types.{Step}
use Rattle.run_model.specs.declared.cap.Cap.TheVariants as cap
use Rattle.run_model.specs.declared.message.Message.TheVariants as message
use Rattle.run_model.specs.declared.step.Step.TheVariants as step
use Rattle.run_model.specs.Steps.{call, EachOf}
use Rattle.run_model.specs.Leads.{here, turn}
use Rattle.run_model.specs.Legal.{IsLegalRun}
use Rattle.run_model.specs.Links.{IsLinkedRun}
use Rattle.run_model.specs.Right.{ReachesObject}
use Rattle.run_model.specs.Early.{early}

abbrev pub run : List Step
run =
    (step.Host 1 5) ∷
    (step.Host 1 6) ∷
    (step.Send 1 0 (message.Boot (call 1 1))) ∷
    (step.Name 1 (cap.Field (call 1 1) [])) ∷
    (step.Make 1 2 (cap.Field (call 1 1) []) 3 4660 2) ∷
    (step.Send 1 0 (message.Call (call 1 2) (cap.Field (call 1 1) []) 4660 2 ((cap.Object 1 5) ∷ []))) ∷
    (step.Host 2 7) ∷
    (step.Receive 2 0 (message.Boot (call 1 1)) []) ∷
    (step.Answer 2 (call 1 1) (([], (cap.Object 2 7)) ∷ [])) ∷
    (step.Receive 2 0 (message.Call (call 1 2) (cap.Field (call 1 1) []) 4660 2 ((cap.Object 1 5) ∷ [])) ((cap.Object 1 5) ∷ [])) ∷
    (step.Deliver 2 (call 1 2) 7) ∷
    (step.Make 2 3 (cap.Object 1 5) 2 4660 2) ∷
    (step.AnswerBy 2 (call 1 2) (call 2 3)) ∷
    (step.Send 2 0 (message.Call (call 2 3) (cap.Object 1 5) 4660 2 [])) ∷
    (step.Send 2 0 (message.Taken (call 1 2) (call 2 3))) ∷
    (step.Receive 1 0 (message.Call (call 2 3) (cap.Object 1 5) 4660 2 []) []) ∷
    (step.Receive 1 0 (message.Taken (call 1 2) (call 2 3)) []) ∷
    (step.Deliver 1 (call 2 3) 5) ∷
    (step.Answer 1 (call 2 3) (((0 ∷ []), (cap.Object 1 6)) ∷ [])) ∷
    (step.Send 1 0 (message.Elsewhere (call 2 3))) ∷
    (step.Receive 2 0 (message.Elsewhere (call 2 3)) []) ∷
    (step.Name 1 (cap.Field (call 1 2) (0 ∷ []))) ∷
    (step.Make 1 4 (cap.Field (call 1 2) (0 ∷ [])) 4 4660 2) ∷
    (step.Deliver 1 (call 1 4) 6) ∷
    []

pub is_legal : IsLegalRun run
is_legal = ((tt, (turn (inr (inr (inr (inr (inr (inr (inr (inr (inr (inr (inl ((0 ∷ []), refl, refl)))))))))))) (turn (inr (inr (inr (inr (inl (inl (refl, refl))))))) here))), ((((inr (inr (inr (inr (inr (inr (inr (inr (inr (inr (inr (inr (inr (inr (inr (inr (inr (inl (refl, ((0 ∷ []), refl)))))))))))))))))))), tt), refl), ((((inr (inr (inr (inr (inr (inr (inr (inr (inr (inr (inr (inr (inr (inr (inr (inr (inl (refl, ((0 ∷ []), refl))))))))))))))))))), tt), tt), ((tt, refl), ((tt, tt), ((((inr (inr (inr (inr (inr (inr (inr (inr (inr (inr (inr (inr (inr (inr (inr (inr (inl (refl, refl)))))))))))))))))), tt), (refl, refl, refl)), ((tt, here), ((tt, refl), ((tt, refl), ((tt, refl), ((((inr (inr (inr (inl (refl, inl (inl refl)))))), tt), ((cap.Object 1 5, here, here), refl, refl)), ((tt, (refl, refl, refl)), ((((inr (inl (refl, inl (inl refl)))), tt), refl), ((tt, (turn (inr (inl (inl (refl, refl)))) here)), ((tt, refl), ((((inr (inl (refl, refl))), tt), (refl, refl, refl)), ((tt, refl), ((tt, tt), ((((inr (inr (inl (refl, ([], refl))))), ((inr (inr (inr (inr (inl (refl, refl)))))), tt)), ((cap.Field (call 1 1) [], here, here), refl, refl)), ((((inr (inl (refl, ([], refl)))), tt), refl), ((((inl (refl, ([], refl))), tt), tt), ((tt, (refl, refl)), ((tt, tt), ((tt, tt), tt))))))))))))))))))))))))

pub is_linked : IsLinkedRun run
is_linked = (tt, (tt, (tt, ((refl, refl), (refl, (tt, (tt, ((refl, refl), ((refl, refl), (refl, (refl, (tt, (tt, (tt, ((refl, refl), (tt, ((refl, refl), (tt, (refl, (tt, (tt, (refl, (tt, (tt, tt))))))))))))))))))))))))

pub reaches : EachOf ReachesObject run
reaches = ((refl, (turn (inr (inr (inr (inr (inr (inr (inr (inr (inr (inr (inl ((0 ∷ []), refl, refl)))))))))))) (turn (inr (inr (inr (inr (inl (inl (refl, refl))))))) here)), refl), (tt, (tt, (tt, (tt, (tt, ((refl, here, refl), (tt, ((refl, refl), (tt, ((refl, refl), (tt, (tt, ((refl, (turn (inr (inl (inl (refl, refl)))) here), refl), ((refl, refl), (tt, (tt, (tt, ((refl, refl), (tt, (tt, (tt, (tt, (tt, tt))))))))))))))))))))))))

pub in_order : early run ≡ []
in_order = refl
