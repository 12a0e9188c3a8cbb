-- The structs of rpc.capnp: where each field stands, one entry a field, under the names of its struct and field there,
-- with what it is by default and why. A field that a struct is too short for reads as its default; a stored field is
-- the exclusive or with its default (encoding specification, "Default Values"). Where nothing else is said, rpc.capnp
-- declares no default, so that it is 0, and a union is its first member. Fields that aren't listed are unread.
use Rattle.std.specs.Prelude.{ℕ, Bool, not}
use Rattle.cap_reader.specs.Tree.{Tree}
use Rattle.cap_reader.specs.Reading.{Sections}
use Rattle.cap_reader.specs.Places.{u16_in, u32_in, u64_in, bit_in}

-- a Bool at a bit, true by default
abbrev pub bit_or_true : ℕ → (ℕ → ℕ) → Bool
bit_or_true bit word = not (bit_in bit word)

-- ---- Message

-- "union": 0 unimplemented, 1 abort, 2 call, 3 return, 4 finish, 5 resolve, 6 release, 7 obsoleteSave, 8 bootstrap,
-- 9 obsoleteDelete, 10 provide, 11 accept, 12 join, 13 disembargo; by default unimplemented
abbrev pub message_tag : Sections → ℕ
message_tag message = u16_in 0 message.word

-- the body, behind one pointer whichever the message is; by default a struct of defaults
abbrev pub message_body : Sections → Tree
message_body message = message.child 0

-- ---- Bootstrap

-- questionId: "A new question ID identifying this request"
abbrev pub bootstrap_question : Sections → ℕ
bootstrap_question bootstrap = u32_in 0 bootstrap.word

-- ---- Call

-- questionId: "A number, chosen by the caller, that identifies this call in future messages"
abbrev pub call_question : Sections → ℕ
call_question call = u32_in 0 call.word

-- methodId: "The ordinal number of the method to call within the requested interface"
abbrev pub call_method : Sections → ℕ
call_method call = u16_in 4 call.word

-- sendResultsTo: "Where should the return message be sent?", "union": 0 caller, 1 yourself, 2 thirdParty; by default to
-- the caller, "(the usual)"
abbrev pub call_send_results_to : Sections → ℕ
call_send_results_to call = u16_in 6 call.word

-- interfaceId: "The type ID of the interface being called"
abbrev pub call_interface : Sections → ℕ
call_interface call = u64_in 8 call.word

-- onlyPromisePipeline, of the later edition: "If true, the sender only plans to use this call to make pipelined calls";
-- by default not set, as the first edition sends it
abbrev pub call_only_promise_pipeline : Sections → Bool
call_only_promise_pipeline call = bit_in 130 call.word

-- target: "The object that should receive this call"
abbrev pub call_target : Sections → Tree
call_target call = call.child 0

-- params: "The call parameters"; by default a payload without a capability
abbrev pub call_params : Sections → Tree
call_params call = call.child 1

-- ---- Return

-- answerId: "Equal to the QuestionId of the corresponding `Call` message"
abbrev pub return_answer : Sections → ℕ
return_answer answer = u32_in 0 answer.word

-- releaseParamCaps: "If true, all capabilities that were in the params should be considered released". "This defaults
-- true because if level 0 implementations forget to set it they'll never notice (just silently leak caps), but if level
-- >=1 implementations forget to set it to false they'll quickly get errors."
abbrev pub return_release_param_caps : Sections → Bool
return_release_param_caps answer = bit_or_true 32 answer.word

-- noFinishNeeded, of the later edition: "If true, the sender does not need the receiver to send a `Finish` message; its
-- answer table entry has already been cleaned up"; by default not set, as the first edition sends it
abbrev pub return_no_finish_needed : Sections → Bool
return_no_finish_needed answer = bit_in 33 answer.word

-- "union": 0 results, 1 exception, 2 canceled, 3 resultsSentElsewhere, 4 takeFromOtherQuestion, 5 of a third party; by
-- default results, so that a call that answers nothing needs no more than its number
abbrev pub return_tag : Sections → ℕ
return_tag answer = u16_in 6 answer.word

-- takeFromOtherQuestion: "The sender has also sent (before this message) a `Call` with the given question ID and with
-- `sendResultsTo.yourself` set, and the results of that other call should be used as the results here"
abbrev pub return_take_from_other_question : Sections → ℕ
return_take_from_other_question answer = u32_in 8 answer.word

-- results: "The result"; by default a payload without a capability
abbrev pub return_results : Sections → Tree
return_results answer = answer.child 0

-- ---- Finish

-- questionId: "ID of the call whose result is to be released"
abbrev pub finish_question : Sections → ℕ
finish_question finish = u32_in 0 finish.word

-- releaseResultCaps: "If true, all capabilities that were in the results should be considered released". "This defaults
-- true because if level 0 implementations forget to set it they'll never notice (just silently leak caps), but if level
-- >=1 implementations forget set it false they'll quickly get errors."
abbrev pub finish_release_result_caps : Sections → Bool
finish_release_result_caps finish = bit_or_true 32 finish.word

-- ---- Resolve

-- promiseId: "The ID of the promise to be resolved"
abbrev pub resolve_promise : Sections → ℕ
resolve_promise resolve = u32_in 0 resolve.word

-- "union": 0 cap, "The object to which the promise resolved", 1 exception, "Indicates that the promise was broken"
abbrev pub resolve_tag : Sections → ℕ
resolve_tag resolve = u16_in 4 resolve.word

-- cap; by default none
abbrev pub resolve_cap : Sections → Tree
resolve_cap resolve = resolve.child 0

-- ---- Release

-- id: "What to release"
abbrev pub release_id : Sections → ℕ
release_id release = u32_in 0 release.word

-- referenceCount: "The amount by which to decrement the reference count"; by default by nothing
abbrev pub release_count : Sections → ℕ
release_count release = u32_in 4 release.word

-- ---- Disembargo

-- context.senderLoopback and context.receiverLoopback: a number that the first sender chose, and that the echo repeats.
-- The two share a place.
abbrev pub disembargo_number : Sections → ℕ
disembargo_number disembargo = u32_in 0 disembargo.word

-- context, "union": 0 senderLoopback, 1 receiverLoopback, 2 accept, 3 provide
abbrev pub disembargo_tag : Sections → ℕ
disembargo_tag disembargo = u16_in 4 disembargo.word

-- target: "What is to be disembargoed"
abbrev pub disembargo_target : Sections → Tree
disembargo_target disembargo = disembargo.child 0

-- ---- MessageTarget: "The target of a `Call` or other messages that target a capability"

-- "union": 0 importedCap, 1 promisedAnswer
abbrev pub target_tag : Sections → ℕ
target_tag target = u16_in 4 target.word

-- importedCap: "This message is to a capability or promise previously imported by the caller"
abbrev pub target_imported : Sections → ℕ
target_imported target = u32_in 0 target.word

-- promisedAnswer: "This message is to a capability that is expected to be returned by another call"
abbrev pub target_promised : Sections → Tree
target_promised target = target.child 0

-- ---- PromisedAnswer

-- questionId: "ID of the question (in the sender's question table / receiver's answer table) whose answer is expected"
abbrev pub promised_question : Sections → ℕ
promised_question promised = u32_in 0 promised.word

-- transform: "Operations / transformations to apply to the result in order to get the capability"; by default none, and
-- the result itself is meant
abbrev pub promised_transform : Sections → Tree
promised_transform promised = promised.child 0

-- ---- PromisedAnswer.Op

-- "union": 0 noop, 1 getPointerField; by default "Does nothing"
abbrev pub operation_tag : Sections → ℕ
operation_tag operation = u16_in 0 operation.word

-- getPointerField: "Get a pointer field within a struct", by its number
abbrev pub operation_field : Sections → ℕ
operation_field operation = u16_in 2 operation.word

-- ---- Payload: "Represents some data structure that might contain capabilities"

-- content: "Some Cap'n Proto data structure"; by default null, in which there is no capability
abbrev pub payload_content : Sections → Tree
payload_content payload = payload.child 0

-- capTable: "Descriptors corresponding to the cap pointers in `content`"; by default there are none
abbrev pub payload_cap_table : Sections → Tree
payload_cap_table payload = payload.child 1

-- ---- CapDescriptor

-- "union": 0 none, 1 senderHosted, 2 senderPromise, 3 receiverHosted, 4 receiverAnswer, 5 thirdPartyHosted; by default
-- "There is no capability here"
abbrev pub descriptor_tag : Sections → ℕ
descriptor_tag descriptor = u16_in 0 descriptor.word

-- senderHosted: "The ID of a capability in the sender's export table"; senderPromise: one that the sender will resolve
-- later; receiverHosted: "A capability (or promise) previously exported by the receiver". The three share a place.
abbrev pub descriptor_number : Sections → ℕ
descriptor_number descriptor = u32_in 4 descriptor.word

-- receiverAnswer: "A capability expected to be returned in the results of a currently-outstanding call posed by the
-- sender"
abbrev pub descriptor_answer : Sections → Tree
descriptor_answer descriptor = descriptor.child 0
