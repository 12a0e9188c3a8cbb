-- What a frame's message costs.
use Rattle.std.proofs.Common.{◌≡◌, ℕ, ◌<◌, ◌≤◌, List, Result, Ok, Err, refl, sym, ap, ◌∙◌, inl, inr, arith}
use Rattle.std.specs.Prelude.{IfOk}
use Rattle.std.proofs.lemmas.Bool.{cases_lt}
use Rattle.cap_reader.specs.declared.limits.Limits.{Limits}
use Rattle.cap_reader.specs.declared.read_error.ReadError.TheVariants.{TooMuch}
use Rattle.cap_reader.specs.Tree.{root_tree}
use Rattle.cap_reader.specs.Reading.{Reading, price, ending}
use Rattle.cap_reader.proofs.Prices.{affordable, too_dear, ends_so}
use Rattle.rpc_view.specs.declared.edition.Edition.{Edition}
use Rattle.rpc_view.specs.declared.message.RpcMessage.{RpcMessage}
use Rattle.rpc_view.specs.declared.view_error.ViewError.{ViewError}
use Rattle.rpc_view.specs.declared.view_error.ViewError.TheVariants as errors
use Rattle.rpc_view.specs.Reading.{run, GivesInMemory, Fails}
use Rattle.rpc_view.specs.Glue.{RunsInMemory, Refuses}
use Rattle.rpc_view.specs.Message.{message_in, message_of, HasPrice}

-- ---- the answer without what is left

fails_so : {A : Type 0} (e : ViewError) (left : ℕ) (ran : Result A ViewError × ℕ) → Refuses e left ran → Fails e ran.0
fails_so errors.OutOfMemory left ran p = tt
fails_so (errors.Read e) left ran p = rw p refl
fails_so (errors.Outside e) left ran p = rw p refl
fails_so errors.BadTag left ran p = rw p refl
fails_so (errors.Frame e) left ran p = rw p refl

answers_so : {A : Type 0} (r : Result A ViewError) (left : ℕ) (ran : Result A ViewError × ℕ) → RunsInMemory (λ found. found) r left ran → GivesInMemory (λ found. found) r ran.0
answers_so (Ok x) left ran p = rw p refl
answers_so (Err e) left ran p = fails_so e left ran p

pub is_message : (edition : Edition) (segments : List (List ℕ)) (limits : Limits) (left : ℕ) (r : Result RpcMessage ViewError) → RunsInMemory (λ found. found) r left (run (message_in edition (root_tree limits.depth segments)) limits.words) → GivesInMemory (λ message. message) r (message_of edition segments limits)
unfolding message_of
is_message edition segments limits left r p = answers_so r left (run (message_in edition (root_tree limits.depth segments)) limits.words) p

-- ---- the price

ok_err : {A : Type 0} (x : A) (e : ViewError) → ◌≡◌ {A = Result A ViewError} (Ok x) (Err e) → ⊥
ok_err x e h = cc

record Priced {A : Type 0} (reading : Reading ViewError A) (value : A) (words : ℕ) : Type 0 where
  pub enough_words : price reading ≤ words
  pub enough : (n : ℕ) → price reading ≤ n → (run reading n).0 ≡ Ok value
  pub too_few : (n : ℕ) → n < price reading → (run reading n).0 ≡ Err (errors.Read TooMuch)

is_priced : {A : Type 0} (reading : Reading ViewError A) (value : A) (words : ℕ) → (run reading words).0 ≡ Ok value → Priced reading value words
is_priced {A} reading value words e =
    elim (cases_lt words (price reading)) [
      | inl few ↦ absurd (ok_err value (errors.Read TooMuch) (sym e ∙ too_dear (errors.Read TooMuch) reading words few))
      | inr all ↦
          let at_end : ending reading ≡ Ok value = ends_so (errors.Read TooMuch) reading words (run reading words).1 value (ap (λ (r : Result A ViewError). (r, (run reading words).1)) e) in
          record {
            enough_words = all;
            enough = λ n le. ap (λ (ran : Result A ViewError × ℕ). ran.0) (affordable (errors.Read TooMuch) reading n le) ∙ at_end;
            too_few = λ n lt. too_dear (errors.Read TooMuch) reading n lt;
          }
    ]

pub has_price : (edition : Edition) (segments : List (List ℕ)) (limits : Limits) (r : Result RpcMessage ViewError) → GivesInMemory (λ message. message) r (message_of edition segments limits) → IfOk r (λ message. (cost : ℕ) × (cost ≤ limits.words) × HasPrice edition segments limits.depth message cost)
unfolding message_of
has_price edition segments limits (Ok message) e =
    let reading = message_in edition (root_tree limits.depth segments) in
    let p = is_priced reading message limits.words e in (
      price reading,
      p.enough_words,
      record { enough = p.enough; too_few = p.too_few },
    )
has_price edition segments limits (Err e) h = tt

-- more words never change a message
pub with_more : (edition : Edition) (segments : List (List ℕ)) (depth least words : ℕ) (message : RpcMessage) → message_of edition segments (record { words = least; depth = depth }) ≡ Ok message → least ≤ words → message_of edition segments (record { words = words; depth = depth }) ≡ Ok message
unfolding message_of
with_more edition segments depth least words message e more =
    let p = is_priced (message_in edition (root_tree depth segments)) message least e in
    p.enough words (omega (arith, p.enough_words))
