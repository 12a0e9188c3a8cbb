-- Lists that are gathered item by item, where each is there.
use Rattle.std.proofs.Common.{◌≡◌, refl, ap, List, [], ◌∷◌, ◌++◌, Option, Some, None, option_map, append_assoc}
use Rattle.call_trace.specs.Said.{all_there}
use Rattle.call_trace.specs.Glue.Ledgers.{gathered_behind}

gathered_by : {A : Type 0} (xs : List A) (x : A) (o : Option (List A)) → option_map (λ ys. (xs ++ x ∷ []) ++ ys) o ≡ option_map (λ ys. xs ++ ys) (option_map (λ ys. x ∷ ys) o)
gathered_by xs x None = refl
gathered_by xs x (Some ys) = ap Some (append_assoc xs (x ∷ []) ys)

-- one more that is there
pub gathered_more : {A : Type 0} (xs : List A) (x : A) (os : List (Option A)) → gathered_behind (xs ++ x ∷ []) os ≡ gathered_behind xs (Some x ∷ os)
gathered_more xs x os = gathered_by xs x (all_there os)

of_none : {A : Type 0} (o : Option (List A)) → option_map (λ ys. [] ++ ys) o ≡ o
of_none None = refl
of_none (Some ys) = refl
