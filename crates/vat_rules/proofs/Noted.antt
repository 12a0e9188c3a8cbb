-- The references that are noted beside a message.
use Rattle.std.proofs.Common.{◌≡◌, ℕ, List, ◌++◌, map, refl, sym, subst, Bool, true, false, Option}
use Rattle.std.proofs.lemmas.List.{append-nil}
use Rattle.std.specs.Prelude.{Result, IfOk}
use Rattle.decoded_records.specs.Past.{Past}
use Rattle.decoded_records.specs.Views.{view_of_reference}
use Rattle.decoded_records.specs.Bindings.{new_references, named_references}
use Rattle.vat_rules.specs.Types.{RpcMessage, DecodedRecord, Wire, View}

all_noted : (sent : Bool) (k c : ℕ) (rs : List ℕ) (m : RpcMessage) → new_references (Wire sent k c rs m) ++ named_references (Wire sent k c rs m) ≡ rs
all_noted true k c rs m = refl
all_noted false k c rs m = append-nil rs

-- what the references that a record with a message binds and names stand for: those noted beside it
pub noted_views : (past : Past) (e : DecodedRecord) {sent : Bool} {k c : ℕ} {rs : List ℕ} {m : RpcMessage} → e ≡ Wire sent k c rs m → {E : Type 0} (r : Result (List (Option View)) E) →
    IfOk r (λ v. v ≡ map (view_of_reference past) rs) → IfOk r (λ v. v ≡ map (view_of_reference past) (new_references e ++ named_references e))
noted_views past e {sent} {k} {c} {rs} {m} is r noted =
    subst (λ x. IfOk r (λ v. v ≡ map (view_of_reference past) (new_references x ++ named_references x))) (sym is)
    (subst (λ xs. IfOk r (λ v. v ≡ map (view_of_reference past) xs)) (sym (all_noted sent k c rs m)) noted)
