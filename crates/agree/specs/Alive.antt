-- What introduced numbers and is alive: messages that nothing closed (rpc.capnp, the comments of
-- Return.releaseParamCaps and Finish.releaseResultCaps). A message is named by its place among those that went its way.
use Rattle.std.specs.Prelude.{ℕ, ◌+◌, ◌==◌, length, List, [], ◌∷◌, Bool, true, false, not, ◌||◌, Option, Some, None, if◌then◌else◌, count_by, option_map}
use Rattle.agree.specs.Types.{Descriptor, SenderHosted, SenderPromise, RpcMessage, Call, Return, Finish, Release, TableKey}
use Rattle.decoded_records.specs.Past.{Past}
use Rattle.decoded_records.specs.Lives.{descriptors_of}
use Rattle.agree.specs.Told.{Telling, tellings}

-- what closes a message: the Return of the Call with this number, or the Finish of the question that the message with
-- this number opened
pub data Closer : Type 0 where
  by_return : ℕ → Closer
  by_finish : ℕ → Closer

-- two are there, and are one
abbrev pub is_same_closer : Option Closer → Option Closer → Bool
is_same_closer (Some (by_return n)) (Some (by_return m)) = n == m
is_same_closer (Some (by_finish n)) (Some (by_finish m)) = n == m
is_same_closer _ _ = false

-- what a message is as a closer: a Return with releaseParamCaps true closes the Call that opened its question, a Finish
-- with releaseResultCaps true the Return of its opening
abbrev pub as_closer : Telling → Option Closer
as_closer (Return head outcome, opening) = if head.release_param_caps then option_map by_return opening else None
as_closer (Finish q true, opening) = option_map by_finish opening
as_closer _ = None

-- what closes a message of this number: a Call its Return, a Return the Finish of its opening
abbrev pub closer_of : Telling → ℕ → Option Closer
closer_of (Call head target params, opening) number = Some (by_return number)
closer_of (Return head outcome, opening) number = option_map by_finish opening
closer_of _ number = None

-- one of these messages is that closer
abbrev pub is_closed : List Telling → Option Closer → Bool
is_closed [] closer = false
is_closed (t ∷ ts) closer = is_same_closer (as_closer t) closer || is_closed ts closer

-- a descriptor introduces this number
abbrev pub is_introduced : ℕ → Descriptor → Bool
is_introduced n (SenderHosted x) = n == x
is_introduced n (SenderPromise x) = n == x
is_introduced n _ = false

-- how many descriptors of a message introduce a number
abbrev pub introductions_in : ℕ → RpcMessage → ℕ
introductions_in n m = count_by (is_introduced n) (descriptors_of m)

-- how often a number was introduced by messages that none of the others closed
abbrev pub alive_in : ℕ → List Telling → List Telling → ℕ
alive_in n closers [] = 0
alive_in n closers (t ∷ ts) = (if is_closed closers (closer_of t (length ts)) then 0 else introductions_in n t.0) + alive_in n closers ts

-- how many of a number a message releases
abbrev pub releases_in : ℕ → RpcMessage → ℕ
releases_in n (Release r count) = if n == r then count else 0
releases_in n _ = 0

-- how many messages release in all
abbrev pub releases_in_all : ℕ → List Telling → ℕ
releases_in_all n [] = 0
releases_in_all n (t ∷ ts) = releases_in n t.0 + releases_in_all n ts

-- what is alive of a number in a log: introduced the way of the one who gave it out, and not closed the other way
abbrev pub alive : TableKey → Past → ℕ
alive i past = alive_in i.number (tellings i.connection (not i.ours) past) (tellings i.connection i.ours past)

-- what was released of it
abbrev pub let_go : TableKey → Past → ℕ
let_go i past = releases_in_all i.number (tellings i.connection (not i.ours) past)
