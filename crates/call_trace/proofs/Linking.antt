-- What one vat received of another is the beginning of what that one sent, message for message.
use Rattle.std.proofs.Common.{◌≡◌, refl, sym, ◌∙◌, ap, ap₂, subst, ℕ, suc, ◌<◌, ◌==◌, List, [], ◌∷◌, ◌++◌, length, reverse, true, false, Option, Some, None, Result, Ok, Err, if◌then◌else◌, slice_get, arith}
use Rattle.std.specs.List.{cons_option, filter_map, AllByRecursion}
use Rattle.std.proofs.lemmas.List.{reverse-append, take_all}
use Rattle.std.proofs.lemmas.List.Elements.{filter_map-append}
use Rattle.agree.specs.Points.{GoesOn}
use Rattle.agree.specs.Streams.{stream}
use Rattle.cap_frame.specs.Segments.{segments_of}
use Rattle.rpc_view.specs.declared.view_error.ViewError.{ViewError}
use Rattle.rpc_view.specs.Message.{message_of_bytes}
use Rattle.rpc_view.proofs.Deeper.{is_one}
use Rattle.vat_log.specs.declared.body.Body.{Body}
use Rattle.vat_log.specs.declared.body.Body.TheVariants as body
use Rattle.link_check.specs.Prefix.{IsPrefix, frames_sent, frames_received}
use Rattle.vat_log.specs.Passages.{frame_sent, frame_received}
use Rattle.vat_rules.specs.Audit.{Found, reads_within, read_as}
use Rattle.vat_rules.specs.Events.{event_of}
use Rattle.vat_rules.specs.Types.{Later}
use Rattle.call_trace.specs.Types.{RpcMessage, DecodedRecord, Wire}
use Rattle.call_trace.specs.Named.{past_of}
use Rattle.call_trace.specs.Taking.{event_in}
use Rattle.call_trace.proofs.Reading.{AllRecordsGood, message_in, message_or_none, with_is, passed_are, message_sent, message_received}

-- ---- each frame of a good log is a message

abbrev IsRead : Found → List ℕ → Type 0
IsRead f frame = (m : RpcMessage) × (reads_within f.limits frame ≡ Ok m)

abbrev IsReadRecord : Found → Body → Type 0
IsReadRecord f b = (e : DecodedRecord) × (event_of (reads_within f.limits) b ≡ Ok e)

there_of : {A : Type 0} (P : A → Type 0) (x : A) → ((y : A) × (Some x ≡ Some y) × P y) → P x
there_of P x r = let same : r.0 ≡ x = cc in subst P same r.2

by_recursion : {A : Type 0} (P : A → Type 0) (xs : List A) → ((i : ℕ) → i < length xs → (x : A) × (slice_get xs i ≡ Some x) × P x) → AllByRecursion P xs
by_recursion P [] h = tt
by_recursion P (x ∷ xs) h = (there_of P x (h 0 (omega arith)), by_recursion P xs (λ i lt. h (suc i) (omega (arith, lt))))

records_read : (f : Found) → AllRecordsGood f → AllByRecursion (IsReadRecord f) f.log.records
records_read f all = by_recursion (IsReadRecord f) f.log.records (λ i lt. let r = all i lt in (r.body, r.there, (r.event, r.reads)))

all_kept : {A B : Type 0} (P : A → Type 0) (Q : B → Type 0) (f : A → Option B) → ((x : A) (y : B) → P x → f x ≡ Some y → Q y) → (xs : List A) → AllByRecursion P xs → AllByRecursion Q (filter_map f xs)
all_kept P Q f each [] h = tt
all_kept P Q f each (x ∷ xs) h = at (f x) refl (all_kept P Q f each xs h.1)
  where
    at : (o : Option _) → f x ≡ o → AllByRecursion Q (filter_map f xs) → AllByRecursion Q (cons_option o (filter_map f xs))
    at None e rest = rest
    at (Some y) e rest = (each x y h.0 e, rest)

frame_is : (on k : ℕ) (frame y : List ℕ) (P : List ℕ → Type 0) → P frame → (if on == k then Some frame else None) ≡ Some y → P y
frame_is on k frame y P p e = at (on == k) e
  where
    at : (b : _) → (if b then Some frame else None) ≡ Some y → P y
    at true e = let same : frame ≡ y = cc in subst P same p
    at false e = absurd (let no : ⊥ = cc in no)

sent_read : (k : ℕ) (f : Found) (b : Body) (frame : List ℕ) → IsReadRecord f b → frame_sent k b ≡ Some frame → IsRead f frame
sent_read k f (body.Send on c rs fr) frame r e = let m = with_is (Wire true on c rs) (reads_within f.limits fr) r.0 r.1 in frame_is on k fr frame (IsRead f) (m.0, m.1) e
sent_read k f b frame r e = absurd (let no : ⊥ = cc in no)

received_read : (k : ℕ) (f : Found) (b : Body) (frame : List ℕ) → IsReadRecord f b → frame_received k b ≡ Some frame → IsRead f frame
received_read k f (body.Receive on c rs fr) frame r e = let m = with_is (Wire false on c rs) (reads_within f.limits fr) r.0 r.1 in frame_is on k fr frame (IsRead f) (m.0, m.1) e
received_read k f b frame r e = absurd (let no : ⊥ = cc in no)

-- ---- a frame has one message within all limits

read_is : (r : Result RpcMessage ViewError) (m : RpcMessage) → read_as r ≡ Ok m → r ≡ Ok m
read_is (Ok n) m e = let same : n ≡ m = cc in ap (λ x. Ok x) same
read_is (Err why) m e = absurd (let no : ⊥ = cc in no)

alike : (f g : Found) (frame : List ℕ) → IsRead f frame → IsRead g frame → message_in g frame ≡ message_in f frame
alike f g frame p q =
    let same : q.0 ≡ p.0 = is_one Later (segments_of frame) g.limits f.limits q.0 p.0 (read_is (message_of_bytes Later frame g.limits) q.0 q.1) (read_is (message_of_bytes Later frame f.limits) p.0 p.1) in
    ap message_or_none q.1 ∙ ap (λ m. Some m) same ∙ sym (ap message_or_none p.1)

first_alike : (f g : Found) (frames rest : List (List ℕ)) → AllByRecursion (IsRead f) frames → AllByRecursion (IsRead g) (frames ++ rest) → filter_map (message_in g) frames ≡ filter_map (message_in f) frames
first_alike f g [] rest p q = refl
first_alike f g (fr ∷ frames) rest p q = ap₂ (λ o l. cons_option o l) (alike f g fr p.0 q.0) (first_alike f g frames rest p.1 q.1)

-- ---- the streams of two linked logs

all_of : (f : Found) → past_of f ≡ reverse (filter_map (event_in f) f.log.records)
all_of f = ap (λ l. reverse (filter_map (event_in f) l)) (take_all (length f.log.records) f.log.records (omega arith))

sent_all : (k : ℕ) (f : Found) → stream k true (past_of f) ≡ reverse (filter_map (message_in f) (frames_sent k f.log))
sent_all k f = ap (stream k true) (all_of f) ∙ passed_are k true f (frame_sent k) (message_sent k f) f.log.records

received_all : (k : ℕ) (f : Found) → stream k false (past_of f) ≡ reverse (filter_map (message_in f) (frames_received k f.log))
received_all k f = ap (stream k false) (all_of f) ∙ passed_are k false f (frame_received k) (message_received k f) f.log.records

pub received_first : (k : ℕ) (f g : Found) → AllRecordsGood f → AllRecordsGood g → IsPrefix (frames_received k f.log) (frames_sent k g.log) → GoesOn (stream k true (past_of g)) (stream k false (past_of f))
received_first k f g good_f good_g link =
    let frames = frames_received k f.log in
    let read_f = all_kept (IsReadRecord f) (IsRead f) (frame_received k) (received_read k f) f.log.records (records_read f good_f) in
    let read_g = all_kept (IsReadRecord g) (IsRead g) (frame_sent k) (sent_read k g) g.log.records (records_read g good_g) in
    let same = first_alike f g frames link.0 read_f (subst (λ l. AllByRecursion (IsRead g) l) link.1 read_g) in (
      reverse (filter_map (message_in g) link.0),
      sent_all k g ∙ ap (λ l. reverse (filter_map (message_in g) l)) link.1 ∙ ap reverse (filter_map-append (message_in g) frames link.0)
          ∙ reverse-append (filter_map (message_in g) frames) (filter_map (message_in g) link.0)
          ∙ ap (λ l. reverse (filter_map (message_in g) link.0) ++ l) (ap reverse same ∙ sym (received_all k f)),
    )
