-- A law: only an abort, and a Return or Resolve with an exception, has a reason.
use Rattle.std.specs.Prelude.{◌≡◌, ℕ, Bool, true, false, List, Some, Ok}
use Rattle.cap_reader.specs.declared.limits.Limits.{Limits}
use Rattle.rpc_view.specs.declared.edition.Edition.{Edition}
use Rattle.rpc_view.specs.declared.message.Outcome.TheVariants as outcomes
use Rattle.rpc_view.specs.declared.message.Resolution.TheVariants as resolutions
use Rattle.rpc_view.specs.declared.message.RpcMessage.{RpcMessage}
use Rattle.rpc_view.specs.declared.message.RpcMessage.TheVariants as messages
use Rattle.rpc_view.specs.Message.{message_of_bytes}
use Rattle.exception_reasons.specs.Reasons.{reason_of_bytes}

-- an abort, or a message that says that something ended with an exception
abbrev pub has_exception : RpcMessage → Bool
has_exception messages.Abort = true
has_exception (messages.Return head outcomes.Exception) = true
has_exception (messages.Resolve promise resolutions.Exception) = true
has_exception message = false

-- where the bytes are a message and have a reason, it is such a message
abbrev pub OnlyExceptions : List ℕ → Type 0
OnlyExceptions bytes =
    (edition : Edition) (limits : Limits) (message : RpcMessage) (reason : List ℕ) → message_of_bytes edition bytes limits ≡ Ok message → reason_of_bytes bytes limits ≡ Some reason → has_exception message ≡ true
