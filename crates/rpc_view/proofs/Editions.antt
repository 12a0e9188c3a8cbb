-- The later edition reads more: where the first one gives a message, it makes the same visits to that message, behind
-- which no Finish is left out.
use Rattle.std.proofs.Common.{◌≡◌, ℕ, Bool, true, false, List, Result, Ok, Err, refl, arith}
use Rattle.std.specs.Prelude.{◌==◌, nat_lt, if◌then◌else◌}
use Rattle.cap_frame.specs.declared.frame_error.FrameError.{FrameError}
use Rattle.cap_reader.specs.declared.limits.Limits.{Limits}
use Rattle.cap_reader.specs.Tree.{Tree, root_tree}
use Rattle.cap_reader.specs.Reading.{Reading, done, fault, visit, and_then, Sections}
use Rattle.rpc_view.specs.declared.edition.Edition.TheVariants.{First, Later}
use Rattle.rpc_view.specs.declared.message.Loopback.{Loopback}
use Rattle.rpc_view.specs.declared.message.RpcMessage.{RpcMessage}
use Rattle.rpc_view.specs.declared.view_error.Outside.TheVariants.{Level, LaterField}
use Rattle.rpc_view.specs.declared.view_error.ViewError.{ViewError}
use Rattle.rpc_view.specs.declared.view_error.ViewError.TheVariants as errors
use Rattle.rpc_view.specs.Reading.{struct_in}
use Rattle.rpc_view.specs.Layouts.{message_tag, message_body, call_send_results_to, call_only_promise_pipeline, call_target, call_params, return_tag, return_no_finish_needed, resolve_cap, disembargo_target}
use Rattle.rpc_view.specs.Message.{is_light, is_beyond, message_of, message_in_frame, message_in, body_in, bootstrap_in, unless_refused, call_in, called_in, return_in, returned_in, outcome_in, finish_in, resolve_in, release_in, disembargo_in, disembargoed_in, target_in, payload_in, descriptor_in}
use Rattle.rpc_view.proofs.Keeping.{Keeps, keeps_then, Same, err_ok, raised}

-- the same message, and no light Return
abbrev Plainly : RpcMessage → RpcMessage → Type 0
Plainly message other = (message ≡ other) × (is_light message ≡ false)

abbrev ReadSo : Reading ViewError RpcMessage → Reading ViewError RpcMessage → Type 0
ReadSo reading other = Keeps Plainly reading other

itself : {A : Type 0} (reading : Reading ViewError A) → Keeps Same reading reading
unfolding Keeps
itself (done value) = refl
itself (fault e) = tt
itself (visit cost rest) = (refl, itself rest)

plain : (message : RpcMessage) → is_light message ≡ false → ReadSo (done message) (done message)
unfolding Keeps
plain message h = (refl, h)

refused : (e : ViewError) (other : Reading ViewError RpcMessage) → ReadSo (fault e) other
unfolding Keeps
refused e other = tt

choice : (b : Bool) (x y v w : Reading ViewError RpcMessage) → ReadSo x v → ReadSo y w → ReadSo (if b then x else y) (if b then v else w)
choice true x y v w p q = p
choice false x y v w p q = q

-- what both refuse
alike : (b : Bool) (e : ViewError) (x y : Reading ViewError RpcMessage) → ReadSo x y → ReadSo (if b then fault e else x) (if b then fault e else y)
alike b e x y p = choice b (fault e) x (fault e) y (refused e (fault e)) p

-- where the first edition goes on, the field isn't set
unset : (field : Bool) (e : ViewError) (x y : Reading ViewError RpcMessage) → (field ≡ false → ReadSo x y) → ReadSo (if is_beyond First field then fault e else x) (if is_beyond Later field then fault e else y)
unset true e x y p = refused e y
unset false e x y p = p refl

then_so : {A : Type 0} (reading : Reading ViewError A) (next others : A → Reading ViewError RpcMessage) → ((value : A) → ReadSo (next value) (others value)) → ReadSo (and_then reading next) (and_then reading others)
then_so reading next others p = keeps_then Same Plainly next others (λ value other e. rw (← e) (p value)) reading reading (itself reading)

-- ---- messages

called_so : (call : Sections) → ReadSo (called_in call) (called_in call)
unfolding called_in
called_so call = then_so (target_in (call_target call)) _ _ (λ target. then_so (payload_in (call_params call)) _ _ (λ params. plain _ refl))

returned_so : (answer : Sections) → return_no_finish_needed answer ≡ false → ReadSo (returned_in answer) (returned_in answer)
unfolding returned_in
returned_so answer h = then_so (outcome_in answer) _ _ (λ outcome. plain _ h)

disembargoed_so : (disembargo : Sections) (loopback : Loopback) → ReadSo (disembargoed_in disembargo loopback) (disembargoed_in disembargo loopback)
unfolding disembargoed_in
disembargoed_so disembargo loopback = then_so (target_in (disembargo_target disembargo)) _ _ (λ target. plain _ refl)

module _ (tree : Tree) where
  bootstrap_so : ReadSo (bootstrap_in tree) (bootstrap_in tree)
  unfolding bootstrap_in
  bootstrap_so = then_so (struct_in tree) _ _ (λ bootstrap. plain _ refl)

  call_so : ReadSo (call_in First tree) (call_in Later tree)
  unfolding call_in unless_refused
  call_so = then_so (struct_in tree) _ _ (λ call.
      alike (nat_lt 2 (call_send_results_to call)) errors.BadTag _ _
      (alike (call_send_results_to call == 2) (errors.Outside Level) _ _ (unset (call_only_promise_pipeline call) (errors.Outside LaterField) _ _ (λ h. called_so call))))

  return_so : ReadSo (return_in First tree) (return_in Later tree)
  unfolding return_in unless_refused
  return_so = then_so (struct_in tree) _ _ (λ answer.
      alike (nat_lt 5 (return_tag answer)) errors.BadTag _ _
      (alike (return_tag answer == 5) (errors.Outside Level) _ _ (unset (return_no_finish_needed answer) (errors.Outside LaterField) _ _ (returned_so answer))))

  finish_so : ReadSo (finish_in tree) (finish_in tree)
  unfolding finish_in
  finish_so = then_so (struct_in tree) _ _ (λ finish. plain _ refl)

  resolve_so : ReadSo (resolve_in tree) (resolve_in tree)
  unfolding resolve_in
  resolve_so = then_so (struct_in tree) _ _ (λ resolve. choice _ _ _ _ _ (then_so (descriptor_in (resolve_cap resolve)) _ _ (λ cap. plain _ refl)) (choice _ _ _ _ _ (plain _ refl) (refused _ _)))

  release_so : ReadSo (release_in tree) (release_in tree)
  unfolding release_in
  release_so = then_so (struct_in tree) _ _ (λ release. plain _ refl)

  disembargo_so : ReadSo (disembargo_in tree) (disembargo_in tree)
  unfolding disembargo_in
  disembargo_so = then_so (struct_in tree) _ _ (λ disembargo. search (choice, refused, disembargoed_so))

  body_so : (tag : ℕ) → ReadSo (body_in First tag tree) (body_in Later tag tree)
  unfolding body_in
  body_so tag = search (choice, plain, refused, call_so, return_so, finish_so, resolve_so, release_so, bootstrap_so, disembargo_so) depth 12

message_so : (tree : Tree) → ReadSo (message_in First tree) (message_in Later tree)
unfolding message_in
message_so tree = then_so (struct_in tree) _ _ (λ message. body_so (message_body message) (message_tag message))

-- ---- what is answered

pub reads_more : (segments : List (List ℕ)) (limits : Limits) (message : RpcMessage) → message_of First segments limits ≡ Ok message → (message_of Later segments limits ≡ Ok message) × (is_light message ≡ false)
unfolding message_of
reads_more segments limits message h =
    let tree = root_tree limits.depth segments in
    let p = raised Plainly (message_in First tree) (message_in Later tree) limits.words limits.words message (message_so tree) (omega arith) h in (
      rw p.2.0 p.1,
      p.2.1,
    )

pub more_in_frame : (read : Result (List (List ℕ)) FrameError) (limits : Limits) (message : RpcMessage) → message_in_frame First read limits ≡ Ok message → (message_in_frame Later read limits ≡ Ok message) × (is_light message ≡ false)
more_in_frame (Ok segments) limits message h = reads_more segments limits message h
more_in_frame (Err e) limits message h = absurd (err_ok (errors.Frame e) message h)
