-- The message of a tree, by the layouts of rpc.capnp. Each tag, and the data of a body, is judged where it is read: a
-- number that this profile doesn't list first, then what belongs to another level, then unimplemented, which only
-- Message's tag says, then, where a message is read by the first edition, a field that only the later one has. Nothing
-- else depends on the edition. The data of a body is judged whole before its pointers are followed; pointers that a
-- union doesn't select are unread.
use Rattle.std.specs.Prelude.{◌≡◌, ℕ, ◌<◌, ◌≤◌, ◌==◌, Bool, true, false, ◌||◌, List, [], ◌∷◌, Result, Ok, Err, nat_lt, if◌then◌else◌}
use Rattle.cap_frame.specs.declared.frame_error.FrameError.{FrameError}
use Rattle.cap_frame.specs.Segments.{segments_of}
use Rattle.cap_reader.specs.declared.limits.Limits.{Limits}
use Rattle.cap_reader.specs.declared.read_error.ReadError.TheVariants.{TooMuch}
use Rattle.cap_reader.specs.Tree.{Tree, root_tree}
use Rattle.cap_reader.specs.Reading.{Reading, done, fault, ◌>>=◌, Sections, Elements, each}
use Rattle.cap_reader.specs.Fields.{fields_in}
use Rattle.rpc_view.specs.declared.edition.Edition.{Edition}
use Rattle.rpc_view.specs.declared.edition.Edition.TheVariants.{First, Later}
use Rattle.rpc_view.specs.declared.message.CallHead.{CallHead}
use Rattle.rpc_view.specs.declared.message.ReturnHead.{ReturnHead}
use Rattle.rpc_view.specs.declared.message.Target.{Target}
use Rattle.rpc_view.specs.declared.message.Target.TheVariants as targets
use Rattle.rpc_view.specs.declared.message.Descriptor.{Descriptor}
use Rattle.rpc_view.specs.declared.message.Descriptor.TheVariants as descriptors
use Rattle.rpc_view.specs.declared.message.Payload.{Payload}
use Rattle.rpc_view.specs.declared.message.Outcome.{Outcome}
use Rattle.rpc_view.specs.declared.message.Outcome.TheVariants as outcomes
use Rattle.rpc_view.specs.declared.message.Resolution.TheVariants as resolutions
use Rattle.rpc_view.specs.declared.message.Loopback.{Loopback}
use Rattle.rpc_view.specs.declared.message.Loopback.TheVariants as loopbacks
use Rattle.rpc_view.specs.declared.message.RpcMessage.{RpcMessage}
use Rattle.rpc_view.specs.declared.message.RpcMessage.TheVariants as messages
use Rattle.rpc_view.specs.declared.view_error.Outside.TheVariants.{Level, Unimplemented, LaterField}
use Rattle.rpc_view.specs.declared.view_error.ViewError.{ViewError}
use Rattle.rpc_view.specs.declared.view_error.ViewError.TheVariants as errors
use Rattle.rpc_view.specs.Reading.{part, struct_in, list_in, run}
use Rattle.rpc_view.specs.Layouts.{message_tag, message_body, bootstrap_question, call_question, call_method, call_send_results_to, call_interface, call_only_promise_pipeline, call_target, call_params, return_answer, return_release_param_caps, return_no_finish_needed, return_tag, return_take_from_other_question, return_results, finish_question, finish_release_result_caps, resolve_promise, resolve_tag, resolve_cap, release_id, release_count, disembargo_number, disembargo_tag, disembargo_target, target_tag, target_imported, target_promised, promised_question, promised_transform, operation_tag, operation_field, payload_content, payload_cap_table, descriptor_tag, descriptor_number, descriptor_answer}

-- ---- results of questions

-- PromisedAnswer.Op, a union by its tag: the number of a pointer field, or nothing
unfoldable pub operation_in : Tree → Reading ViewError (List ℕ)
operation_in tree = do
  operation ← struct_in tree
  if operation_tag operation == 0 then done []
      else (if operation_tag operation == 1 then done (operation_field operation ∷ [])
      else fault errors.BadTag)

-- the operations of a transform one by one
unfoldable pub operations_in : Elements → Reading ViewError (List ℕ)
operations_in operations = each (λ i. operation_in (operations.element i)) 0 operations.count

-- PromisedAnswer: the question and the path that its transform goes
unfoldable pub promised_in : Tree → Reading ViewError (ℕ × List ℕ)
promised_in tree = do
  promised ← struct_in tree
  operations ← list_in (promised_transform promised)
  path ← operations_in operations
  done (promised_question promised, path)

-- MessageTarget, a union by its tag
unfoldable pub target_in : Tree → Reading ViewError Target
target_in tree = do
  target ← struct_in tree
  if target_tag target == 0 then done (targets.Imported (target_imported target))
      else (if target_tag target == 1 then (promised_in (target_promised target) >>= λ answer. done (targets.Promised answer.0 answer.1))
      else fault errors.BadTag)

-- ---- payloads

-- what a CapDescriptor says, a union by its tag; 5 is of a third party
unfoldable pub described_in : Sections → Reading ViewError Descriptor
described_in descriptor =
    if descriptor_tag descriptor == 0 then done descriptors.NoCap
    else (if descriptor_tag descriptor == 1 then done (descriptors.SenderHosted (descriptor_number descriptor))
    else (if descriptor_tag descriptor == 2 then done (descriptors.SenderPromise (descriptor_number descriptor))
    else (if descriptor_tag descriptor == 3 then done (descriptors.ReceiverHosted (descriptor_number descriptor))
    else (if descriptor_tag descriptor == 4 then (promised_in (descriptor_answer descriptor) >>= λ answer. done (descriptors.ReceiverAnswer answer.0 answer.1))
    else (if descriptor_tag descriptor == 5 then fault (errors.Outside Level)
    else fault errors.BadTag)))))

-- CapDescriptor
unfoldable pub descriptor_in : Tree → Reading ViewError Descriptor
descriptor_in tree = do
  descriptor ← struct_in tree
  described_in descriptor

-- the entries of a capTable one by one, each with what it holds
unfoldable pub descriptors_in : Elements → Reading ViewError (List Descriptor)
descriptors_in table = each (λ i. descriptor_in (table.element i) >>= λ descriptor. done (descriptor ∷ [])) 0 table.count

-- Payload, whose capTable is read before its content
unfoldable pub payload_in : Tree → Reading ViewError Payload
payload_in tree = do
  payload ← struct_in tree
  table ← list_in (payload_cap_table payload)
  entries ← descriptors_in table
  fields ← part (fields_in [] (payload_content payload))
  done (record { descriptors = entries; fields = fields })

-- ---- messages

-- a reading, unless something refuses it: of refusals in their order, the first that applies is the fault
unfoldable pub unless_refused : {A : Type 0} → List (Bool × ViewError) → Reading ViewError A → Reading ViewError A
unless_refused [] reading = reading
unless_refused ((applies, e) ∷ others) reading = if applies then fault e else unless_refused others reading

-- Bootstrap
unfoldable pub bootstrap_in : Tree → Reading ViewError RpcMessage
bootstrap_in tree = do
  bootstrap ← struct_in tree
  done (messages.Bootstrap (bootstrap_question bootstrap))

-- what the pointers of a Call hold; its results go to the caller or stay with their answerer, since a Call that says
-- otherwise is refused
unfoldable pub called_in : Sections → Reading ViewError RpcMessage
called_in call = do
  target ← target_in (call_target call)
  params ← payload_in (call_params call)
  done (messages.Call (record { question = call_question call; interface = call_interface call; method = call_method call; yourself = call_send_results_to call == 1 }) target params)

-- a field of the later edition is set, and the message is read by the first one
abbrev pub is_beyond : Edition → Bool → Bool
is_beyond First field = field
is_beyond Later field = false

-- why the data of a Call is refused, by whom its results are wanted: 0 the caller, 1 yourself, 2 a third party. Nothing
-- depends on onlyPromisePipeline where it is read
abbrev pub call_refusals : Edition → Sections → List (Bool × ViewError)
call_refusals edition call =
    (nat_lt 2 (call_send_results_to call), errors.BadTag)
    ∷ (call_send_results_to call == 2, errors.Outside Level)
    ∷ (is_beyond edition (call_only_promise_pipeline call), errors.Outside LaterField)
    ∷ []

-- Call
unfoldable pub call_in : Edition → Tree → Reading ViewError RpcMessage
call_in edition tree = do
  call ← struct_in tree
  unless_refused (call_refusals edition call) (called_in call)

-- what a Return says of its call: 0 results, 1 exception, 2 canceled, 3 resultsSentElsewhere, 4 takeFromOtherQuestion
unfoldable pub outcome_in : Sections → Reading ViewError Outcome
outcome_in answer =
    if return_tag answer == 0 then (payload_in (return_results answer) >>= λ results. done (outcomes.Results results))
    else (if return_tag answer == 1 then done outcomes.Exception
    else (if return_tag answer == 2 then done outcomes.Canceled
    else (if return_tag answer == 3 then done outcomes.Elsewhere
    else (if return_tag answer == 4 then done (outcomes.TakeFrom (return_take_from_other_question answer))
    else fault errors.BadTag))))

-- what the pointer of a Return holds, and whether a Finish is needed behind it
unfoldable pub returned_in : Sections → Reading ViewError RpcMessage
returned_in answer = do
  outcome ← outcome_in answer
  done (messages.Return (record { answer = return_answer answer; release_param_caps = return_release_param_caps answer; light = return_no_finish_needed answer }) outcome)

-- why the data of a Return is refused, by its tag: 5 is of a third party
abbrev pub return_refusals : Edition → Sections → List (Bool × ViewError)
return_refusals edition answer =
    (nat_lt 5 (return_tag answer), errors.BadTag)
    ∷ (return_tag answer == 5, errors.Outside Level)
    ∷ (is_beyond edition (return_no_finish_needed answer), errors.Outside LaterField)
    ∷ []

-- Return
unfoldable pub return_in : Edition → Tree → Reading ViewError RpcMessage
return_in edition tree = do
  answer ← struct_in tree
  unless_refused (return_refusals edition answer) (returned_in answer)

-- Finish
unfoldable pub finish_in : Tree → Reading ViewError RpcMessage
finish_in tree = do
  finish ← struct_in tree
  done (messages.Finish (finish_question finish) (finish_release_result_caps finish))

-- Resolve, a union by its tag
unfoldable pub resolve_in : Tree → Reading ViewError RpcMessage
resolve_in tree = do
  resolve ← struct_in tree
  if resolve_tag resolve == 0 then (descriptor_in (resolve_cap resolve) >>= λ cap. done (messages.Resolve (resolve_promise resolve) (resolutions.Cap cap)))
      else (if resolve_tag resolve == 1 then done (messages.Resolve (resolve_promise resolve) resolutions.Exception)
      else fault errors.BadTag)

-- Release
unfoldable pub release_in : Tree → Reading ViewError RpcMessage
release_in tree = do
  release ← struct_in tree
  done (messages.Release (release_id release) (release_count release))

-- what the pointer of a Disembargo holds
unfoldable pub disembargoed_in : Sections → Loopback → Reading ViewError RpcMessage
disembargoed_in disembargo loopback = do
  target ← target_in (disembargo_target disembargo)
  done (messages.Disembargo (disembargo_number disembargo) loopback target)

-- Disembargo, a union by the tag of its context: 2 accept and 3 provide are of level 3
unfoldable pub disembargo_in : Tree → Reading ViewError RpcMessage
disembargo_in tree = do
  disembargo ← struct_in tree
  if disembargo_tag disembargo == 0 then disembargoed_in disembargo loopbacks.Sender
      else (if disembargo_tag disembargo == 1 then disembargoed_in disembargo loopbacks.Receiver
      else (if nat_lt (disembargo_tag disembargo) 4 then fault (errors.Outside Level)
      else fault errors.BadTag))

-- The body behind Message's tag. An abort's isn't read. 7 obsoleteSave, 9 obsoleteDelete, 10 provide, 11 accept and 12
-- join are of other levels; by this project's choice the list of tags ends at 13.
unfoldable pub body_in : Edition → ℕ → Tree → Reading ViewError RpcMessage
body_in edition tag body =
    if tag == 0 then fault (errors.Outside Unimplemented)
    else (if tag == 1 then done messages.Abort
    else (if tag == 2 then call_in edition body
    else (if tag == 3 then return_in edition body
    else (if tag == 4 then finish_in body
    else (if tag == 5 then resolve_in body
    else (if tag == 6 then release_in body
    else (if tag == 8 then bootstrap_in body
    else (if tag == 13 then disembargo_in body
    else (if tag == 7 || tag == 9 || tag == 10 || tag == 11 || tag == 12 then fault (errors.Outside Level)
    else fault errors.BadTag)))))))))

-- Message, a union by its tag
unfoldable pub message_in : Edition → Tree → Reading ViewError RpcMessage
message_in edition tree = do
  message ← struct_in tree
  body_in edition (message_tag message) (message_body message)

-- "The first word of the first segment of the message is always a pointer pointing to the message's root struct."
unfoldable pub message_of : Edition → List (List ℕ) → Limits → Result RpcMessage ViewError
message_of edition segments limits = (run (message_in edition (root_tree limits.depth segments)) limits.words).0

-- the message of a frame, or why there is no frame
abbrev pub message_in_frame : Edition → Result (List (List ℕ)) FrameError → Limits → Result RpcMessage ViewError
message_in_frame edition (Ok segments) limits = message_of edition segments limits
message_in_frame edition (Err e) limits = Err (errors.Frame e)

-- the message of a frame's bytes
abbrev pub message_of_bytes : Edition → List ℕ → Limits → Result RpcMessage ViewError
message_of_bytes edition bytes limits = message_in_frame edition (segments_of bytes) limits

-- ---- the heads of most messages

-- of a Call whose results go to its caller
abbrev pub plain_call : ℕ → ℕ → ℕ → CallHead
plain_call question interface method = record { question = question; interface = interface; method = method; yourself = false }

-- of a Call whose results stay with their answerer
abbrev pub tail_call : ℕ → ℕ → ℕ → CallHead
tail_call question interface method = record (plain_call question interface method) { yourself = true }

-- of a Return behind which a Finish is needed
abbrev pub plain_return : ℕ → Bool → ReturnHead
plain_return answer released = record { answer = answer; release_param_caps = released; light = false }

-- ---- a law: a message has a price

-- With as many words as its price, or more, a frame reads as the message; with fewer its visits cost too much.
pub record HasPrice (edition : Edition) (segments : List (List ℕ)) (depth : ℕ) (message : RpcMessage) (cost : ℕ) : Type 0 where
  pub enough : (words : ℕ) → cost ≤ words → message_of edition segments (record { words = words; depth = depth }) ≡ Ok message
  pub too_few : (words : ℕ) → words < cost → message_of edition segments (record { words = words; depth = depth }) ≡ Err (errors.Read TooMuch)

-- ---- a law: messages don't depend on limits

-- What the bytes read as within two limits, if both are messages, is one message.
abbrev pub GiveOneMessage : Edition → List ℕ → Type 0
GiveOneMessage edition bytes =
    (limits others : Limits) (message other : RpcMessage) → message_of_bytes edition bytes limits ≡ Ok message → message_of_bytes edition bytes others ≡ Ok other → message ≡ other

-- What is a message within limits is the same one within all that are no lower.
abbrev pub KeepMessage : Edition → List ℕ → Type 0
KeepMessage edition bytes =
    (limits others : Limits) (message : RpcMessage) → limits.words ≤ others.words → limits.depth ≤ others.depth → message_of_bytes edition bytes limits ≡ Ok message → message_of_bytes edition bytes others ≡ Ok message

-- ---- a law: the later edition reads more

-- a Return that says that no Finish is needed
abbrev pub is_light : RpcMessage → Bool
is_light (messages.Return head outcome) = head.light
is_light _ = false

-- What the first edition reads the later one reads as the same message, and no Finish is left out behind it.
abbrev pub ReadsMore : List ℕ → Type 0
ReadsMore bytes =
    (limits : Limits) (message : RpcMessage) → message_of_bytes First bytes limits ≡ Ok message → (message_of_bytes Later bytes limits ≡ Ok message) × (is_light message ≡ false)
