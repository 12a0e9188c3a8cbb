-- An example, and no part of a proof: vat 1 asks vat 2 for its bootstrap object and, with no answer yet, calls a method on
-- what the answer will be. The two logs, their run, and that it has what a run is promised to have.
use Rattle.std.proofs.Common.{◌≡◌, refl, inl, inr, List, [], ◌∷◌, true, false, reverse}
use Rattle.decoded_records.specs.Past.{Each as EachRecord}
use Rattle.call_trace.specs.Types.{SenderHosted, Promised, Results, Bootstrap, Call, Return, DecodedRecord, Host, Make, Field, Deliver, Answer, Wire, Step}
use Rattle.run_model.specs.declared.cap.Cap.TheVariants as cap
use Rattle.run_model.specs.declared.message.Message.TheVariants as message
use Rattle.run_model.specs.declared.step.Step.TheVariants as step
use Rattle.run_model.specs.Steps.{call, EachOf}
use Rattle.run_model.specs.Leads.{here, turn}
use Rattle.run_model.specs.Legal.{IsLegalRun}
use Rattle.run_model.specs.Links.{IsLinkedRun}
use Rattle.run_model.specs.Right.{ReachesObject, IsConnected}
use Rattle.run_model.specs.Early.{early}
use Rattle.call_trace.specs.Part.{IsPart}
use Rattle.call_trace.specs.InLife.{UsesLives}
use Rattle.rpc_view.specs.Message.{plain_call, plain_return}

abbrev pub log_1 : List DecodedRecord
log_1 =
    (Wire true 0 1 [] (Bootstrap 0)) ∷
    (Field 1 1 []) ∷
    (Make 2 1 4660 2) ∷
    (Wire true 0 2 [] (Call (plain_call 1 4660 2) (Promised 0 []) (record { descriptors = []; fields = [] }))) ∷
    (Wire false 0 0 (2 ∷ []) (Return (plain_return 0 true) (Results (record { descriptors = ((SenderHosted 0) ∷ []); fields = (([], 0) ∷ []) })))) ∷
    (Wire false 0 0 [] (Return (plain_return 1 true) (Results (record { descriptors = []; fields = [] })))) ∷
    []

abbrev pub log_2 : List DecodedRecord
log_2 =
    (Host 1 7) ∷
    (Wire false 0 1 [] (Bootstrap 0)) ∷
    (Wire false 0 2 [] (Call (plain_call 1 4660 2) (Promised 0 []) (record { descriptors = []; fields = [] }))) ∷
    (Answer 1 ((1, []) ∷ [])) ∷
    (Deliver 2 7) ∷
    (Wire true 0 0 (1 ∷ []) (Return (plain_return 0 true) (Results (record { descriptors = ((SenderHosted 0) ∷ []); fields = (([], 0) ∷ []) })))) ∷
    (Answer 2 []) ∷
    (Wire true 0 0 [] (Return (plain_return 1 true) (Results (record { descriptors = []; fields = [] })))) ∷
    []

abbrev pub run : List Step
run =
    (step.Send 1 0 (message.Boot (call 1 1))) ∷
    (step.Name 1 (cap.Field (call 1 1) [])) ∷
    (step.Make 1 2 (cap.Field (call 1 1) []) 1 4660 2) ∷
    (step.Send 1 0 (message.Call (call 1 2) (cap.Field (call 1 1) []) 4660 2 [])) ∷
    (step.Host 2 7) ∷
    (step.Receive 2 0 (message.Boot (call 1 1)) []) ∷
    (step.Receive 2 0 (message.Call (call 1 2) (cap.Field (call 1 1) []) 4660 2 []) []) ∷
    (step.Answer 2 (call 1 1) (([], (cap.Object 2 7)) ∷ [])) ∷
    (step.Deliver 2 (call 1 2) 7) ∷
    (step.Send 2 0 (message.Return (call 1 1) (([], (cap.Object 2 7)) ∷ []) ((cap.Object 2 7) ∷ []))) ∷
    (step.Receive 1 0 (message.Return (call 1 1) (([], (cap.Object 2 7)) ∷ []) ((cap.Object 2 7) ∷ [])) ((cap.Object 2 7) ∷ [])) ∷
    (step.Answer 2 (call 1 2) []) ∷
    (step.Send 2 0 (message.Return (call 1 2) [] [])) ∷
    (step.Receive 1 0 (message.Return (call 1 2) [] []) []) ∷
    []

pub is_legal : IsLegalRun run
is_legal = ((tt, inl refl), ((tt, (refl, tt)), ((tt, (refl, refl, refl)), ((tt, inl refl), ((((inr (inr (inr (inr (inl (refl, refl)))))), ((inr (inr (inr (inr (inl (refl, refl)))))), tt)), (refl, (((cap.Object 2 7, turn (inr (inl (inl (refl, refl)))) here, here), inl (cap.Object 2 7, inr (inl (inl (refl, refl))))), tt))), ((tt, (turn (inl (inl (refl, refl))) here)), ((((inr (inr (inl (refl, refl)))), tt), (refl, refl, refl)), ((tt, refl), ((tt, refl), ((tt, tt), ((((inr (inr (inl (refl, ([], refl))))), tt), ((cap.Field (call 1 1) [], here, here), refl, refl)), ((((inr (inl (refl, ([], refl)))), tt), refl), ((((inl (refl, ([], refl))), tt), tt), ((tt, (refl, refl)), tt))))))))))))))

pub is_linked : IsLinkedRun run
is_linked = ((refl, refl), (refl, (tt, ((refl, refl), (refl, (tt, (tt, ((refl, refl), ((refl, refl), (tt, (refl, (tt, (tt, (refl, tt))))))))))))))

pub reaches : EachOf ReachesObject run
reaches = (tt, (tt, (tt, (tt, (tt, ((refl, (turn (inl (inl (refl, refl))) here), refl), (tt, ((refl, refl), (tt, (tt, ((refl, refl), (tt, (tt, (tt, tt))))))))))))))

pub connected : IsConnected run
connected = (tt, (tt, (tt, (tt, (((inr (inr (inr (inr (inl (refl, refl)))))), ((inr (inr (inr (inr (inl (refl, refl)))))), tt)), (tt, (((inr (inr (inl (refl, refl)))), tt), (tt, (tt, (tt, (((inr (inr (inl (refl, ([], refl))))), tt), (((inr (inl (refl, ([], refl)))), tt), (((inl (refl, ([], refl))), tt), (tt, tt))))))))))))))

pub part_1 : IsPart run 1 (reverse log_1)
part_1 = (record { message = (message.Return (call 1 2) [] []); bound = []; step = refl; reads = refl; binds = refl }, (record { message = (message.Return (call 1 1) (([], (cap.Object 2 7)) ∷ []) ((cap.Object 2 7) ∷ [])); bound = ((cap.Object 2 7) ∷ []); step = refl; reads = refl; binds = refl }, (refl, (refl, (refl, (refl, tt))))))

pub part_2 : IsPart run 2 (reverse log_2)
part_2 = (refl, (refl, (refl, (refl, (refl, (record { message = (message.Call (call 1 2) (cap.Field (call 1 1) []) 4660 2 []); bound = []; step = refl; reads = refl; binds = refl }, (record { message = (message.Boot (call 1 1)); bound = []; step = refl; reads = refl; binds = refl }, (refl, tt))))))))

pub in_order : early run ≡ []
in_order = refl

pub lives_1 : EachRecord UsesLives (reverse log_1)
lives_1 = (record { numbers = refl; questions = record { used = refl; returned_once = refl; taken_once = tt }; openings = tt; resolves = tt; echoes = tt }, (record { numbers = refl; questions = record { used = refl; returned_once = refl; taken_once = tt }; openings = tt; resolves = tt; echoes = tt }, (record { numbers = refl; questions = record { used = refl; returned_once = tt; taken_once = tt }; openings = refl; resolves = tt; echoes = tt }, (record { numbers = refl; questions = record { used = refl; returned_once = tt; taken_once = tt }; openings = tt; resolves = tt; echoes = tt }, (record { numbers = refl; questions = record { used = refl; returned_once = tt; taken_once = tt }; openings = tt; resolves = tt; echoes = tt }, (record { numbers = refl; questions = record { used = refl; returned_once = tt; taken_once = tt }; openings = refl; resolves = tt; echoes = tt }, tt))))))

pub lives_2 : EachRecord UsesLives (reverse log_2)
lives_2 = (record { numbers = refl; questions = record { used = refl; returned_once = refl; taken_once = tt }; openings = tt; resolves = tt; echoes = tt }, (record { numbers = refl; questions = record { used = refl; returned_once = tt; taken_once = tt }; openings = tt; resolves = tt; echoes = tt }, (record { numbers = refl; questions = record { used = refl; returned_once = refl; taken_once = tt }; openings = tt; resolves = tt; echoes = tt }, (record { numbers = refl; questions = record { used = refl; returned_once = tt; taken_once = tt }; openings = tt; resolves = tt; echoes = tt }, (record { numbers = refl; questions = record { used = refl; returned_once = tt; taken_once = tt }; openings = tt; resolves = tt; echoes = tt }, (record { numbers = refl; questions = record { used = refl; returned_once = tt; taken_once = tt }; openings = refl; resolves = tt; echoes = tt }, (record { numbers = refl; questions = record { used = refl; returned_once = tt; taken_once = tt }; openings = refl; resolves = tt; echoes = tt }, (record { numbers = refl; questions = record { used = refl; returned_once = tt; taken_once = tt }; openings = tt; resolves = tt; echoes = tt }, tt))))))))
