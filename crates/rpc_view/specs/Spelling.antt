-- Some messages from the writer's side, of each kind one form or a few: a Bootstrap; a Call to an answer itself or to
-- an import, without parameters; such a Call to an import whose results stay with their answerer; a Return that gives
-- the capabilities of the parameters back, and whose results are one senderHosted; a Return with an exception, or
-- canceled, or whose results were sent elsewhere or are taken from another question; a Finish; a Resolve to a
-- senderHosted, or to an exception; a Release; a Disembargo to an import; an Abort. Other forms, such as a path or
-- another descriptor, aren't spelled here. The one segment of a frame holds nothing but the message, its structs one
-- behind another in the order in which the pointers to them are met.
use Rattle.std.specs.Prelude.{ℕ, ◌+◌, ◌*◌, ◌^◌, ◌<◌, Bool, true, if◌then◌else◌, List, [], ◌∷◌}
use Rattle.rpc_view.specs.Message.{plain_call, plain_return, tail_call}
use Rattle.rpc_view.specs.declared.message.Descriptor.TheVariants.{SenderHosted}
use Rattle.rpc_view.specs.declared.message.Outcome.TheVariants.{Results, Canceled, Elsewhere, TakeFrom}
use Rattle.rpc_view.specs.declared.message.Outcome.TheVariants as outcomes
use Rattle.rpc_view.specs.declared.message.RpcMessage.{RpcMessage}
use Rattle.rpc_view.specs.declared.message.RpcMessage.TheVariants.{Bootstrap, Call, Return, Finish, Resolve, Release, Disembargo, Abort}
use Rattle.rpc_view.specs.declared.message.Target.TheVariants.{Imported, Promised}
use Rattle.rpc_view.specs.declared.message.Resolution.TheVariants.{Cap, Exception}
use Rattle.rpc_view.specs.declared.message.Loopback.{Loopback}
use Rattle.rpc_view.specs.declared.message.Loopback.TheVariants.{Sender, Receiver}

-- a pointer to a struct so many words behind it, with the sizes of its two sections
abbrev pub struct_pointer : ℕ → ℕ → ℕ → ℕ
struct_pointer words_between data_words pointer_count = 4 * words_between + 2 ^ 32 * data_words + 2 ^ 48 * pointer_count

-- a Message, whose tag is 8, and a Bootstrap
abbrev pub bootstrap_segment : ℕ → List ℕ
bootstrap_segment question =
    struct_pointer 0 1 1
    ∷ 8 ∷ struct_pointer 0 1 1
    ∷ question ∷ 0
    ∷ []

-- a Message, whose tag is 2, a Call without parameters, a MessageTarget, whose tag is 1, and a PromisedAnswer
abbrev pub call_segment : ℕ → ℕ → ℕ → ℕ → List ℕ
call_segment question answer interface method =
    struct_pointer 0 1 1
    ∷ 2 ∷ struct_pointer 0 3 3
    ∷ (question + 2 ^ 32 * method) ∷ interface ∷ 0 ∷ struct_pointer 2 1 1 ∷ 0 ∷ 0
    ∷ (2 ^ 32) ∷ struct_pointer 0 1 1
    ∷ answer ∷ 0
    ∷ []

-- a Message, whose tag is 2, a Call without parameters, and a MessageTarget, whose tag is 0
abbrev pub import_call_segment : ℕ → ℕ → ℕ → ℕ → List ℕ
import_call_segment question export interface method =
    struct_pointer 0 1 1
    ∷ 2 ∷ struct_pointer 0 3 3
    ∷ (question + 2 ^ 32 * method) ∷ interface ∷ 0 ∷ struct_pointer 2 1 1 ∷ 0 ∷ 0
    ∷ export ∷ 0
    ∷ []

-- the same with sendResultsTo's tag, which is 1
abbrev pub yourself_call_segment : ℕ → ℕ → ℕ → ℕ → List ℕ
yourself_call_segment question export interface method =
    struct_pointer 0 1 1
    ∷ 2 ∷ struct_pointer 0 3 3
    ∷ (question + 2 ^ 32 * method + 2 ^ 48) ∷ interface ∷ 0 ∷ struct_pointer 2 1 1 ∷ 0 ∷ 0
    ∷ export ∷ 0
    ∷ []

-- a Message, whose tag is 3, and a Return with a tag and no pointer; releaseParamCaps is stored as the exclusive or
-- with true
abbrev pub bare_return_segment : ℕ → Bool → ℕ → List ℕ
bare_return_segment answer released tag =
    struct_pointer 0 1 1
    ∷ 3 ∷ struct_pointer 0 2 1
    ∷ (answer + 2 ^ 32 * (if released then 0 else 1) + 2 ^ 48 * tag) ∷ 0 ∷ 0
    ∷ []

-- the same with a question in its second word, whose tag is 4
abbrev pub taken_segment : ℕ → Bool → ℕ → List ℕ
taken_segment answer released question =
    struct_pointer 0 1 1
    ∷ 3 ∷ struct_pointer 0 2 1
    ∷ (answer + 2 ^ 32 * (if released then 0 else 1) + 2 ^ 48 * 4) ∷ question ∷ 0
    ∷ []

-- a Message, whose tag is 3, a Return with results, a Payload, whose content is the first entry of the table, and that
-- table, a composite list of one CapDescriptor, whose tag is 1
abbrev pub return_segment : ℕ → ℕ → List ℕ
return_segment answer export =
    struct_pointer 0 1 1
    ∷ 3 ∷ struct_pointer 0 2 1
    ∷ answer ∷ 0 ∷ struct_pointer 0 0 2
    ∷ 3 ∷ (1 + 2 ^ 32 * 7 + 2 ^ 35 * 2)
    ∷ struct_pointer 1 1 1 ∷ (1 + 2 ^ 32 * export) ∷ 0
    ∷ []

-- a Message, whose tag is 4, and a Finish; releaseResultCaps is stored as the exclusive or with true
abbrev pub finish_segment : ℕ → Bool → List ℕ
finish_segment question released =
    struct_pointer 0 1 1
    ∷ 4 ∷ struct_pointer 0 1 0
    ∷ (question + 2 ^ 32 * (if released then 0 else 1))
    ∷ []

-- a Message, whose tag is 5, a Resolve, whose tag is 0, and a CapDescriptor, whose tag is 1
abbrev pub resolve_segment : ℕ → ℕ → List ℕ
resolve_segment promise export =
    struct_pointer 0 1 1
    ∷ 5 ∷ struct_pointer 0 1 1
    ∷ promise ∷ struct_pointer 0 1 1
    ∷ (1 + 2 ^ 32 * export) ∷ 0
    ∷ []

-- a Message, whose tag is 5, and a Resolve, whose tag is 1
abbrev pub broken_segment : ℕ → List ℕ
broken_segment promise =
    struct_pointer 0 1 1
    ∷ 5 ∷ struct_pointer 0 1 1
    ∷ (promise + 2 ^ 32) ∷ 0
    ∷ []

-- a Message, whose tag is 6, and a Release
abbrev pub release_segment : ℕ → ℕ → List ℕ
release_segment id count =
    struct_pointer 0 1 1
    ∷ 6 ∷ struct_pointer 0 1 0
    ∷ (id + 2 ^ 32 * count)
    ∷ []

-- the tag of Disembargo's context
abbrev pub loopback_tag : Loopback → ℕ
loopback_tag Sender = 0
loopback_tag Receiver = 1

-- a Message, whose tag is 13, a Disembargo, whose tag is 0 or 1, and a MessageTarget, whose tag is 0
abbrev pub disembargo_segment : ℕ → Loopback → ℕ → List ℕ
disembargo_segment number loopback export =
    struct_pointer 0 1 1
    ∷ 13 ∷ struct_pointer 0 1 1
    ∷ (number + 2 ^ 32 * loopback_tag loopback) ∷ struct_pointer 0 1 1
    ∷ export ∷ 0
    ∷ []

-- a Message, whose tag is 1
abbrev pub abort_segment : List ℕ
abort_segment =
    struct_pointer 0 1 1
    ∷ 1 ∷ 0
    ∷ []

-- The words spell the message in one of these forms; reading it costs so many words, and so many structs stand within
-- one another.
pub data Spells : List ℕ → RpcMessage → ℕ → ℕ → Type 0 where
  bootstrap : {question : ℕ} → question < 2 ^ 32 → Spells (bootstrap_segment question) (Bootstrap question) 4 2
  call : {question answer interface method : ℕ} → question < 2 ^ 32 → answer < 2 ^ 32 → method < 2 ^ 16
      → Spells (call_segment question answer interface method) (Call (plain_call question interface method) (Promised answer []) (record { descriptors = []; fields = [] })) 12 4
  import_call : {question export interface method : ℕ} → question < 2 ^ 32 → export < 2 ^ 32 → method < 2 ^ 16
      → Spells (import_call_segment question export interface method) (Call (plain_call question interface method) (Imported export) (record { descriptors = []; fields = [] })) 10 3
  yourself_call : {question export interface method : ℕ} → question < 2 ^ 32 → export < 2 ^ 32 → method < 2 ^ 16
      → Spells (yourself_call_segment question export interface method) (Call (tail_call question interface method) (Imported export) (record { descriptors = []; fields = [] })) 10 3
  exception : {answer : ℕ} {released : Bool} → answer < 2 ^ 32 → Spells (bare_return_segment answer released 1) (Return (plain_return answer released) outcomes.Exception) 5 2
  canceled : {answer : ℕ} {released : Bool} → answer < 2 ^ 32 → Spells (bare_return_segment answer released 2) (Return (plain_return answer released) Canceled) 5 2
  elsewhere : {answer : ℕ} {released : Bool} → answer < 2 ^ 32 → Spells (bare_return_segment answer released 3) (Return (plain_return answer released) Elsewhere) 5 2
  taken : {answer question : ℕ} {released : Bool} → answer < 2 ^ 32 → question < 2 ^ 32 → Spells (taken_segment answer released question) (Return (plain_return answer released) (TakeFrom question)) 5 2
  results : {answer export : ℕ} → answer < 2 ^ 32 → export < 2 ^ 32
      → Spells (return_segment answer export) (Return (plain_return answer true) (Results (record { descriptors = SenderHosted export ∷ []; fields = ([], 0) ∷ [] }))) 9 4
  finish : {question : ℕ} {released : Bool} → question < 2 ^ 32 → Spells (finish_segment question released) (Finish question released) 3 2
  resolve : {promise export : ℕ} → promise < 2 ^ 32 → export < 2 ^ 32 → Spells (resolve_segment promise export) (Resolve promise (Cap (SenderHosted export))) 6 3
  broken : {promise : ℕ} → promise < 2 ^ 32 → Spells (broken_segment promise) (Resolve promise Exception) 4 2
  release : {id count : ℕ} → id < 2 ^ 32 → count < 2 ^ 32 → Spells (release_segment id count) (Release id count) 3 2
  disembargo : {number export : ℕ} {loopback : Loopback} → number < 2 ^ 32 → export < 2 ^ 32 → Spells (disembargo_segment number loopback export) (Disembargo number loopback (Imported export)) 6 3
  abort : Spells abort_segment Abort 2 1
