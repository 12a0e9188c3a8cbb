-- Examples, and no part of a proof: Balance where Finishes are under way. Vat 2 exports number 0 to vat 1 by a Return.
use Rattle.std.proofs.Common.{refl, [], ◌∷◌, true, false}
use Rattle.decoded_records.specs.Past.{Past}
use Rattle.call_trace.specs.Types.{RpcMessage, SenderHosted, Results, Bootstrap, Return, Finish, Host, Answer, Wire}
use Rattle.call_trace.specs.Balance.{IsBalanced}
use Rattle.rpc_view.specs.Message.{plain_return}

abbrev pub returned : RpcMessage
returned = Return (plain_return 0 true) (Results (record { descriptors = SenderHosted 0 ∷ []; fields = ([], 0) ∷ [] }))

-- vat 2, the exporter, has received the Bootstrap and sent its Return; the newest record first
abbrev pub exporter : Past
exporter = Wire true 0 0 (1 ∷ []) returned ∷ Answer 1 ((1, []) ∷ []) ∷ Wire false 0 1 [] (Bootstrap 0) ∷ Host 1 7 ∷ []

-- vat 1 has received the Return, and uses the question's number twice: of the two Finishes under way the first alone gives
-- back
abbrev pub importer : Past
importer = Wire true 0 0 [] (Finish 0 true) ∷ Wire true 0 2 [] (Bootstrap 0) ∷ Wire true 0 0 [] (Finish 0 true) ∷ Wire false 0 0 (2 ∷ []) returned
    ∷ Wire true 0 1 [] (Bootstrap 0) ∷ []

pub first_gives_back : IsBalanced 0 0 exporter importer
first_gives_back = record {
  there = [];
  back = Finish 0 true ∷ Bootstrap 0 ∷ Finish 0 true ∷ [];
  to_importer = refl;
  to_exporter = refl;
  counts = refl;
}

-- vat 1 has sent its Finish, and the Return is still under way to it: the Return introduces nothing, and the Finish gives
-- back what the Return introduced at its exporter
pub late_introduces_nothing : IsBalanced 0 0 exporter (Wire true 0 0 [] (Finish 0 true) ∷ Wire true 0 1 [] (Bootstrap 0) ∷ [])
late_introduces_nothing = record { there = returned ∷ []; back = Finish 0 true ∷ []; to_importer = refl; to_exporter = refl; counts = refl }

-- vat 1 has sent no Finish: the Return under way introduces the number
pub return_introduces : IsBalanced 0 0 exporter (Wire true 0 1 [] (Bootstrap 0) ∷ [])
return_introduces = record { there = returned ∷ []; back = []; to_importer = refl; to_exporter = refl; counts = refl }
