-- One more piece of a file of frames, and its line.
use Rattle.std.proofs.Common.{◌≡◌, ◌≢◌, ◌∙◌, ℕ, Bool, true, false, ◌&&◌, cond, eqb, ltb, List, [], ◌∷◌, ◌++◌, take, drop, Option, Result, Ok, Err, refl, sym, ap, subst, arith, append-nil}
use Rattle.std.specs.Prelude.{max}
use Rattle.std.specs.Ordering.{is_lt, nat_cmp, ord_max}
use Rattle.std.specs.Cmp.{nat_cmp_is}
use Rattle.std.specs.declared.cmp.Ordering.TheVariants.{Less, Equal, Greater}
use Rattle.std.proofs.lemmas.Bool.{ltb-true, ltb-false}
use Rattle.std.specs.List.{list_all}
use Rattle.std.specs.Io.KnownBytes.{Appends}
use Rattle.std.proofs.KnownBytes.{Appends-trans}
use Rattle.std.proofs.lemmas.List.Folds.{list_all-append}
use Rattle.std.proofs.lemmas.Grind.{flat_map-append}
use Rattle.rpc_view.specs.declared.edition.Edition.TheVariants.{First}
use Rattle.rpc_view.specs.Message.{message_of_bytes}
use Rattle.rpc_view.specs.declared.message.RpcMessage.{RpcMessage}
use Rattle.rpc_view.specs.declared.view_error.ViewError.{ViewError}
use Rattle.command_run.specs.Answers.{view_status}
use Rattle.cap_reader.specs.Defaults.{default_limits}
use Rattle.command_run.specs.FrameFiles.{Falls, lines, piece_len, piece_line, piece_status, status_of}

-- the first piece of the rest falls off too
falls_more : (bytes : List ℕ) (pieces : List (List ℕ)) (rest : List ℕ) → Falls bytes pieces rest → rest ≢ []
    → Falls bytes (pieces ++ take (piece_len rest) rest ∷ []) (drop (piece_len rest) rest)
falls_more bytes [] rest is some = (
  λ none. some (sym is ∙ none),
  ap (λ b. take (piece_len b) b) (sym is),
  ap (λ b. drop (piece_len b) b) is,
)
falls_more bytes (piece ∷ pieces) rest falls some = (falls.0, falls.1, falls_more (drop (piece_len bytes) bytes) pieces rest falls.2 some)

lines_more : (pieces : List (List ℕ)) (piece : List ℕ) → lines (pieces ++ piece ∷ []) ≡ lines pieces ++ piece_line piece
lines_more pieces piece = flat_map-append piece_line pieces (piece ∷ []) ∙ ap (λ t. lines pieces ++ t) (append-nil (piece_line piece))

-- a piece is a message, and its status 0, or else 2 is the greater
message_or_not : (all : Bool) (view : Result RpcMessage ViewError) → cond (all && (eqb (view_status view) 0 && true)) 0 2 ≡ max (cond all 0 2) (view_status view)
message_or_not true (Ok message) = refl
message_or_not true (Err fault) = refl
message_or_not false (Ok message) = refl
message_or_not false (Err fault) = refl

status_more : (pieces : List (List ℕ)) (piece : List ℕ) → status_of (pieces ++ piece ∷ []) ≡ max (status_of pieces) (piece_status piece)
status_more pieces piece =
    let is_message : List ℕ → Bool = λ p. eqb (piece_status p) 0 in
    ap (λ (all : Bool). cond all 0 2) (list_all-append is_message pieces (piece ∷ []))
    ∙ message_or_not (list_all is_message pieces) (message_of_bytes First piece default_limits)

-- the greater of two numbers
pub ord_max-max : (a b : ℕ) → ord_max nat_cmp a b ≡ max a b
ord_max-max a b = go (ltb b a) (ltb a b) refl refl
  where
    go : (below above : Bool) → ltb b a ≡ below → ltb a b ≡ above → ord_max nat_cmp a b ≡ max a b
    go true above lt is = let less : Less ≡ nat_cmp b a = nat_cmp_is b a Less (ltb-true _ _ lt) in ap (λ o. cond (is_lt o) a b) (sym less) ∙ omega (arith, ltb-true _ _ lt)
    go false true le gt = let more : Greater ≡ nat_cmp b a = nat_cmp_is b a Greater (ltb-true _ _ gt) in ap (λ o. cond (is_lt o) a b) (sym more) ∙ omega (arith, ltb-true _ _ gt)
    go false false le ge =
        let same : Equal ≡ nat_cmp b a = nat_cmp_is b a Equal (omega (arith, ltb-false _ _ le, ltb-false _ _ ge)) in
        ap (λ o. cond (is_lt o) a b) (sym same) ∙ omega (arith, ltb-false _ _ le)

-- some pieces have fallen off, their lines were written, and this is their status
pub record AreShown (bytes : List ℕ) (old new : Option (List ℕ)) (rest : List ℕ) (status : ℕ) : Type 0 where
  pub pieces : List (List ℕ)
  pub falls : Falls bytes pieces rest
  pub shown : Appends old new (lines pieces)
  pub worst : status ≡ status_of pieces

-- one more
pub one_more : (bytes rest : List ℕ) (old now new : Option (List ℕ)) (status : ℕ) → AreShown bytes old now rest status → rest ≢ []
    → Appends now new (piece_line (take (piece_len rest) rest))
    → AreShown bytes old new (drop (piece_len rest) rest) (max status (piece_status (take (piece_len rest) rest)))
one_more bytes rest old now new status so_far some wrote =
    let piece = take (piece_len rest) rest in
    record {
      pieces = so_far.pieces ++ piece ∷ [];
      falls = falls_more bytes so_far.pieces rest so_far.falls some;
      shown = subst (λ t. Appends old new t) (sym (lines_more so_far.pieces piece)) (Appends-trans old now new (lines so_far.pieces) (piece_line piece) so_far.shown wrote);
      worst = ap (λ s. max s (piece_status piece)) so_far.worst ∙ sym (status_more so_far.pieces piece);
    }
