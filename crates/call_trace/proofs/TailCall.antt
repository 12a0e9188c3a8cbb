-- An example, and no part of a proof: vat 1 calls vat 2, which answers by a call that it makes to vat 1. The results stay
-- there, and vat 2 says so in place of them. The two logs, their run, and that it has what a run is promised to have.
use Rattle.std.proofs.Common.{◌≡◌, refl, inl, inr, List, [], ◌∷◌, true, false, reverse}
use Rattle.decoded_records.specs.Past.{Each as EachRecord}
use Rattle.call_trace.specs.Types.{SenderHosted, Imported, Promised, Elsewhere, TakeFrom, Bootstrap, Call, Return, DecodedRecord, Host, Make, Field, Deliver, Answer, AnswerBy, Wire, Step}
use Rattle.run_model.specs.declared.cap.Cap.TheVariants as cap
use Rattle.run_model.specs.declared.message.Message.TheVariants as message
use Rattle.run_model.specs.declared.step.Step.TheVariants as step
use Rattle.run_model.specs.Steps.{call, EachOf}
use Rattle.run_model.specs.Leads.{here, turn}
use Rattle.run_model.specs.Legal.{IsLegalRun}
use Rattle.run_model.specs.Links.{IsLinkedRun}
use Rattle.run_model.specs.Right.{ReachesObject, IsConnected}
use Rattle.run_model.specs.Early.{early}
use Rattle.call_trace.specs.Part.{IsPart}
use Rattle.call_trace.specs.InLife.{UsesLives}
use Rattle.rpc_view.specs.Message.{plain_call, plain_return, tail_call}

abbrev pub log_1 : List DecodedRecord
log_1 =
    Host 1 5 ∷
    Host 2 6 ∷
    Wire true 0 1 [] (Bootstrap 0) ∷
    Field 3 1 [] ∷
    Make 2 3 4660 2 ∷
    Wire true 0 2 (1 ∷ []) (Call (plain_call 1 4660 2) (Promised 0 []) (record { descriptors = SenderHosted 0 ∷ []; fields = [] })) ∷
    Wire false 0 3 [] (Call (tail_call 0 4660 2) (Imported 0) (record { descriptors = []; fields = [] })) ∷
    Wire false 0 0 [] (Return (plain_return 1 true) (TakeFrom 0)) ∷
    Deliver 3 5 ∷
    Answer 3 ((2, 0 ∷ []) ∷ []) ∷
    Wire true 0 0 [] (Return (plain_return 0 true) Elsewhere) ∷
    Field 4 2 (0 ∷ []) ∷
    Make 4 4 4660 2 ∷
    Deliver 4 6 ∷
    []

abbrev pub log_2 : List DecodedRecord
log_2 =
    Host 1 7 ∷
    Wire false 0 1 [] (Bootstrap 0) ∷
    Answer 1 ((1, []) ∷ []) ∷
    Wire false 0 2 (2 ∷ []) (Call (plain_call 1 4660 2) (Promised 0 []) (record { descriptors = SenderHosted 0 ∷ []; fields = [] })) ∷
    Deliver 2 7 ∷
    Make 3 2 4660 2 ∷
    AnswerBy 2 3 ∷
    Wire true 0 3 [] (Call (tail_call 0 4660 2) (Imported 0) (record { descriptors = []; fields = [] })) ∷
    Wire true 0 0 [] (Return (plain_return 1 true) (TakeFrom 0)) ∷
    Wire false 0 0 [] (Return (plain_return 0 true) Elsewhere) ∷
    []

abbrev pub run : List Step
run =
    step.Host 1 5 ∷
    step.Host 1 6 ∷
    step.Send 1 0 (message.Boot (call 1 1)) ∷
    step.Name 1 (cap.Field (call 1 1) []) ∷
    step.Make 1 2 (cap.Field (call 1 1) []) 3 4660 2 ∷
    step.Send 1 0 (message.Call (call 1 2) (cap.Field (call 1 1) []) 4660 2 (cap.Object 1 5 ∷ [])) ∷
    step.Host 2 7 ∷
    step.Receive 2 0 (message.Boot (call 1 1)) [] ∷
    step.Answer 2 (call 1 1) (([], cap.Object 2 7) ∷ []) ∷
    step.Receive 2 0 (message.Call (call 1 2) (cap.Field (call 1 1) []) 4660 2 (cap.Object 1 5 ∷ [])) (cap.Object 1 5 ∷ []) ∷
    step.Deliver 2 (call 1 2) 7 ∷
    step.Make 2 3 (cap.Object 1 5) 2 4660 2 ∷
    step.AnswerBy 2 (call 1 2) (call 2 3) ∷
    step.Send 2 0 (message.Call (call 2 3) (cap.Object 1 5) 4660 2 []) ∷
    step.Send 2 0 (message.Taken (call 1 2) (call 2 3)) ∷
    step.Receive 1 0 (message.Call (call 2 3) (cap.Object 1 5) 4660 2 []) [] ∷
    step.Receive 1 0 (message.Taken (call 1 2) (call 2 3)) [] ∷
    step.Deliver 1 (call 2 3) 5 ∷
    step.Answer 1 (call 2 3) ((0 ∷ [], cap.Object 1 6) ∷ []) ∷
    step.Send 1 0 (message.Elsewhere (call 2 3)) ∷
    step.Receive 2 0 (message.Elsewhere (call 2 3)) [] ∷
    step.Name 1 (cap.Field (call 1 2) (0 ∷ [])) ∷
    step.Make 1 4 (cap.Field (call 1 2) (0 ∷ [])) 4 4660 2 ∷
    step.Deliver 1 (call 1 4) 6 ∷
    []

pub is_legal : IsLegalRun run
is_legal = ((tt, turn (inr (inr (inr (inr (inr (inr (inr (inr (inr (inr (inl (0 ∷ [], refl, refl)))))))))))) (turn (inr (inr (inr (inr (inl (inl (refl, refl))))))) here)), (((inr (inr (inr (inr (inr (inr (inr (inr (inr (inr (inr (inr (inr (inr (inr (inr (inr (inl (refl, (0 ∷ [], refl))))))))))))))))))), tt), refl), (((inr (inr (inr (inr (inr (inr (inr (inr (inr (inr (inr (inr (inr (inr (inr (inr (inl (refl, (0 ∷ [], refl)))))))))))))))))), tt), tt), ((tt, refl), ((tt, tt), (((inr (inr (inr (inr (inr (inr (inr (inr (inr (inr (inr (inr (inr (inr (inr (inr (inl (refl, refl))))))))))))))))), tt), (refl, refl, refl)), ((tt, here), ((tt, refl), ((tt, refl), ((tt, refl), (((inr (inr (inr (inl (refl, inl (inl refl))))), tt), ((cap.Object 1 5, here, here), refl, refl)), ((tt, (refl, refl, refl)), (((inr (inl (refl, inl (inl refl))), tt), refl), ((tt, turn (inr (inl (inl (refl, refl)))) here), ((tt, refl), (((inr (inl (refl, refl)), tt), (refl, refl, refl)), ((tt, refl), ((tt, tt), (((inr (inr (inl (refl, ([], refl)))), (inr (inr (inr (inr (inl (refl, refl))))), tt)), ((cap.Field (call 1 1) [], here, here), refl, refl)), (((inr (inl (refl, ([], refl))), tt), refl), (((inl (refl, ([], refl)), tt), tt), ((tt, (refl, refl)), ((tt, tt), ((tt, tt), tt))))))))))))))))))))))))

pub is_linked : IsLinkedRun run
is_linked = (tt, (tt, (tt, ((refl, refl), (refl, (tt, (tt, ((refl, refl), ((refl, refl), (refl, (refl, (tt, (tt, (tt, ((refl, refl), (tt, ((refl, refl), (tt, (refl, (tt, (tt, (refl, (tt, (tt, tt))))))))))))))))))))))))

pub reaches : EachOf ReachesObject run
reaches = ((refl, turn (inr (inr (inr (inr (inr (inr (inr (inr (inr (inr (inl (0 ∷ [], refl, refl)))))))))))) (turn (inr (inr (inr (inr (inl (inl (refl, refl))))))) here), refl), (tt, (tt, (tt, (tt, (tt, ((refl, here, refl), (tt, ((refl, refl), (tt, ((refl, refl), (tt, (tt, ((refl, turn (inr (inl (inl (refl, refl)))) here, refl), ((refl, refl), (tt, (tt, (tt, ((refl, refl), (tt, (tt, (tt, (tt, (tt, tt))))))))))))))))))))))))

pub connected : IsConnected run
connected = (tt, ((inr (inr (inr (inr (inr (inr (inr (inr (inr (inr (inr (inr (inr (inr (inr (inr (inr (inl (refl, (0 ∷ [], refl))))))))))))))))))), tt), ((inr (inr (inr (inr (inr (inr (inr (inr (inr (inr (inr (inr (inr (inr (inr (inr (inl (refl, (0 ∷ [], refl)))))))))))))))))), tt), (tt, (tt, ((inr (inr (inr (inr (inr (inr (inr (inr (inr (inr (inr (inr (inr (inr (inr (inr (inl (refl, refl))))))))))))))))), tt), (tt, (tt, (tt, (tt, ((inr (inr (inr (inl (refl, inl (inl refl))))), tt), (tt, ((inr (inl (refl, inl (inl refl))), tt), (tt, (tt, ((inr (inl (refl, refl)), tt), (tt, (tt, ((inr (inr (inl (refl, ([], refl)))), (inr (inr (inr (inr (inl (refl, refl))))), tt)), ((inr (inl (refl, ([], refl))), tt), ((inl (refl, ([], refl)), tt), (tt, (tt, (tt, tt))))))))))))))))))))))))

pub part_1 : IsPart run 1 (reverse log_1)
part_1 = (refl, (refl, (refl, (refl, (refl, (refl, (record { message = message.Taken (call 1 2) (call 2 3); bound = []; step = refl; reads = refl; binds = refl }, (record { message = message.Call (call 2 3) (cap.Object 1 5) 4660 2 []; bound = []; step = refl; reads = refl; binds = refl }, (refl, (refl, (refl, (refl, (refl, (refl, tt))))))))))))))

pub part_2 : IsPart run 2 (reverse log_2)
part_2 = (record { message = message.Elsewhere (call 2 3); bound = []; step = refl; reads = refl; binds = refl }, (refl, (refl, (refl, (refl, (refl, (record { message = message.Call (call 1 2) (cap.Field (call 1 1) []) 4660 2 (cap.Object 1 5 ∷ []); bound = cap.Object 1 5 ∷ []; step = refl; reads = refl; binds = refl }, (refl, (record { message = message.Boot (call 1 1); bound = []; step = refl; reads = refl; binds = refl }, (refl, tt))))))))))

pub in_order : early run ≡ []
in_order = refl

pub lives_1 : EachRecord UsesLives (reverse log_1)
lives_1 = (record { numbers = refl; questions = record { used = refl; returned_once = tt; taken_once = tt }; openings = tt; resolves = tt; echoes = tt }, (record { numbers = refl; questions = record { used = refl; returned_once = tt; taken_once = tt }; openings = tt; resolves = tt; echoes = tt }, (record { numbers = refl; questions = record { used = refl; returned_once = tt; taken_once = tt }; openings = tt; resolves = tt; echoes = tt }, (record { numbers = refl; questions = record { used = refl; returned_once = refl; taken_once = tt }; openings = tt; resolves = tt; echoes = tt }, (record { numbers = refl; questions = record { used = refl; returned_once = tt; taken_once = tt }; openings = tt; resolves = tt; echoes = tt }, (record { numbers = refl; questions = record { used = refl; returned_once = tt; taken_once = tt }; openings = tt; resolves = tt; echoes = tt }, (record { numbers = refl; questions = record { used = refl; returned_once = refl; taken_once = refl }; openings = tt; resolves = tt; echoes = tt }, (record { numbers = refl; questions = record { used = refl; returned_once = tt; taken_once = tt }; openings = refl; resolves = tt; echoes = tt }, (record { numbers = refl; questions = record { used = refl; returned_once = tt; taken_once = tt }; openings = refl; resolves = tt; echoes = tt }, (record { numbers = refl; questions = record { used = refl; returned_once = tt; taken_once = tt }; openings = tt; resolves = tt; echoes = tt }, (record { numbers = refl; questions = record { used = refl; returned_once = tt; taken_once = tt }; openings = tt; resolves = tt; echoes = tt }, (record { numbers = refl; questions = record { used = refl; returned_once = tt; taken_once = tt }; openings = refl; resolves = tt; echoes = tt }, (record { numbers = refl; questions = record { used = refl; returned_once = tt; taken_once = tt }; openings = tt; resolves = tt; echoes = tt }, (record { numbers = refl; questions = record { used = refl; returned_once = tt; taken_once = tt }; openings = tt; resolves = tt; echoes = tt }, tt))))))))))))))

pub lives_2 : EachRecord UsesLives (reverse log_2)
lives_2 = (record { numbers = refl; questions = record { used = refl; returned_once = refl; taken_once = tt }; openings = tt; resolves = tt; echoes = tt }, (record { numbers = refl; questions = record { used = refl; returned_once = refl; taken_once = refl }; openings = tt; resolves = tt; echoes = tt }, (record { numbers = refl; questions = record { used = refl; returned_once = tt; taken_once = tt }; openings = refl; resolves = tt; echoes = tt }, (record { numbers = refl; questions = record { used = refl; returned_once = tt; taken_once = tt }; openings = tt; resolves = tt; echoes = tt }, (record { numbers = refl; questions = record { used = refl; returned_once = tt; taken_once = tt }; openings = tt; resolves = tt; echoes = tt }, (record { numbers = refl; questions = record { used = refl; returned_once = tt; taken_once = tt }; openings = tt; resolves = tt; echoes = tt }, (record { numbers = refl; questions = record { used = refl; returned_once = tt; taken_once = tt }; openings = refl; resolves = tt; echoes = tt }, (record { numbers = refl; questions = record { used = refl; returned_once = tt; taken_once = tt }; openings = tt; resolves = tt; echoes = tt }, (record { numbers = refl; questions = record { used = refl; returned_once = tt; taken_once = tt }; openings = refl; resolves = tt; echoes = tt }, (record { numbers = refl; questions = record { used = refl; returned_once = tt; taken_once = tt }; openings = tt; resolves = tt; echoes = tt }, tt))))))))))
