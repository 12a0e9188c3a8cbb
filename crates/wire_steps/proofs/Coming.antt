-- A log comes further, by one record.
use Rattle.std.proofs.Common.{◌≡◌, ◌∷◌, ◌++◌, [], ℕ, List, Option, Some, None, length, take, get_or, refl, sym, ap, subst, ◌∙◌, arith, ◌<◌, ◌+◌, drop}
use Rattle.std.specs.Prelude.{slice_get, IfSome}
use Rattle.std.specs.List.{All, filter_map, cons_option}
use Rattle.std.proofs.lemmas.List.{append-nil, take-append-drop, take_all}
use Rattle.std.proofs.lemmas.List.Elements.{All-push, filter_map-append}
use Rattle.std.proofs.lemmas.Option.{slice_get_within, get_or_from_slice_get}
use Rattle.std.proofs.Math.Numerals.{add-one}
use Rattle.std.proofs.Math.Seq.{take-suc}
use Rattle.vat_log.specs.Log.{Log}
use Rattle.vat_log.specs.declared.body.Body.{Body}
use Rattle.vat_log.specs.declared.body.Body.TheVariants.{Send, Receive}
use Rattle.link_check.specs.Prefix.{frames_sent, frames_received, IsPrefix}
use Rattle.vat_log.specs.Passages.{frame_sent, frame_received, used_by}
use Rattle.wire_steps.specs.Glue.{HasCome}
use Rattle.wire_steps.specs.Parts.{EndsFull, HasParts, HasAll, IsFullBefore, IsNext, UsesNoOther}
use Rattle.wire_steps.specs.declared.end_log.EndCounts.{EndCounts}

-- a record of which a test gives nothing changes nothing of what it gives
given_none : (h : Body → Option (List ℕ)) (xs ys : List Body) (b : Body) → h b ≡ None → ys ≡ xs ++ (b ∷ []) → filter_map h ys ≡ filter_map h xs
given_none h xs ys b none grown =
    ap (λ l. filter_map h l) grown ∙ filter_map-append h xs (b ∷ []) ∙ ap (λ o. filter_map h xs ++ cons_option o []) none ∙ append-nil (filter_map h xs)

-- one of which it gives something adds that
given_one : (h : Body → Option (List ℕ)) (xs ys : List Body) (b : Body) (frame : List ℕ) → h b ≡ Some frame → ys ≡ xs ++ (b ∷ []) → filter_map h ys ≡ filter_map h xs ++ (frame ∷ [])
given_one h xs ys b frame some grown =
    ap (λ l. filter_map h l) grown ∙ filter_map-append h xs (b ∷ []) ∙ ap (λ o. filter_map h xs ++ cons_option o []) some

-- one more of a list
take_one_more : (xs : List (List ℕ)) (k : ℕ) (x : List ℕ) → slice_get xs k ≡ Some x → take k xs ++ (x ∷ []) ≡ take (k + 1) xs
take_one_more xs k x there =
    let within : k < length xs = slice_get_within xs k x there in
    let same : get_or xs k [] ≡ x = get_or_from_slice_get xs k x [] there in
    ap (λ y. take k xs ++ (y ∷ [])) (sym same) ∙ sym (take-suc xs k [] within) ∙ ap (λ n. take n xs) (sym (add-one k))

abbrev IsOfUs : Body → Type 0
IsOfUs body = IfSome (used_by body) (λ used. used ≡ 0)

-- one more record that uses no other connection
no_other_more : (old new : Log) (b : Body) → UsesNoOther old → IsOfUs b → new.records ≡ old.records ++ (b ∷ []) → UsesNoOther new
no_other_more old new b before one grown =
    let P : List Body → Type 0 = λ l. All IsOfUs l in subst P (sym grown) (All-push IsOfUs old.records b before one)

-- the next frame of the own file is sent
pub sends_next : (own peer : List (List ℕ)) (counts : EndCounts) (old new : Log) (call : ℕ) (references : List ℕ) (frame : List ℕ) → HasCome own peer counts old → slice_get own counts.sent ≡ Some frame → new.records ≡ old.records ++ (Send 0 call references frame ∷ []) → HasCome own peer (record { sent = counts.sent + 1; received = counts.received }) new
sends_next own peer counts old new call references frame come there grown =
    let within : counts.sent < length own = slice_get_within own counts.sent frame there in
    record {
      sent = given_one (frame_sent 0) old.records new.records (Send 0 call references frame) frame refl grown ∙ ap (λ l. l ++ (frame ∷ [])) come.sent ∙ take_one_more own counts.sent frame there;
      received = given_none (frame_received 0) old.records new.records (Send 0 call references frame) refl grown ∙ come.received;
      few_sent = omega (arith, within);
      few_received = come.few_received;
      no_other = no_other_more old new (Send 0 call references frame) come.no_other refl grown;
    }

-- the next frame of the other file is received
pub receives_next : (own peer : List (List ℕ)) (counts : EndCounts) (old new : Log) (call : ℕ) (references : List ℕ) (frame : List ℕ) → HasCome own peer counts old → slice_get peer counts.received ≡ Some frame → new.records ≡ old.records ++ (Receive 0 call references frame ∷ []) → HasCome own peer (record { sent = counts.sent; received = counts.received + 1 }) new
receives_next own peer counts old new call references frame come there grown =
    let within : counts.received < length peer = slice_get_within peer counts.received frame there in
    record {
      sent = given_none (frame_sent 0) old.records new.records (Receive 0 call references frame) refl grown ∙ come.sent;
      received = given_one (frame_received 0) old.records new.records (Receive 0 call references frame) frame refl grown ∙ ap (λ l. l ++ (frame ∷ [])) come.received ∙ take_one_more peer counts.received frame there;
      few_sent = come.few_sent;
      few_received = omega (arith, within);
      no_other = no_other_more old new (Receive 0 call references frame) come.no_other refl grown;
    }

-- a record that is no frame is put behind the others
pub notes_one : (own peer : List (List ℕ)) (counts : EndCounts) (old new : Log) (body : Body) → HasCome own peer counts old → frame_sent 0 body ≡ None → frame_received 0 body ≡ None → used_by body ≡ None → new.records ≡ old.records ++ (body ∷ []) → HasCome own peer counts new
notes_one own peer counts old new body come not_sent not_received unused grown =
    record {
      sent = given_none (frame_sent 0) old.records new.records body not_sent grown ∙ come.sent;
      received = given_none (frame_received 0) old.records new.records body not_received grown ∙ come.received;
      few_sent = come.few_sent;
      few_received = come.few_received;
      no_other = no_other_more old new body come.no_other (let P : Option ℕ → Type 0 = λ o. IfSome o (λ used. used ≡ 0) in subst P (sym unused) cc) grown;
    }

prefix_of : (xs ys : List (List ℕ)) (k : ℕ) → xs ≡ take k ys → IsPrefix xs ys
prefix_of xs ys k same = (drop k ys, sym (take-append-drop k ys) ∙ ap (λ l. l ++ drop k ys) (sym same))

-- what a log that has come so far has of both files
pub come_so_far : (own peer : List (List ℕ)) (counts : EndCounts) (log : Log) → HasCome own peer counts log → HasParts own peer log
come_so_far own peer counts log come =
    record {
      sent = prefix_of (frames_sent 0 log) own counts.sent come.sent;
      received = prefix_of (frames_received 0 log) peer counts.received come.received;
      no_other = come.no_other;
    }

all_of : (xs ys : List (List ℕ)) (k : ℕ) → k ≡ length ys → xs ≡ take k ys → xs ≡ ys
all_of xs ys k whole same = same ∙ take_all k ys (omega (arith, whole))

-- what it has where it has come to the end
pub come_to_the_end : (own peer : List (List ℕ)) (counts : EndCounts) (log : Log) → counts.sent ≡ length own → counts.received ≡ length peer → HasCome own peer counts log → HasAll own peer log
come_to_the_end own peer counts log all_sent all_received come =
    record {
      sent = all_of (frames_sent 0 log) own counts.sent all_sent come.sent;
      received = all_of (frames_received 0 log) peer counts.received all_received come.received;
      no_other = come.no_other;
    }
