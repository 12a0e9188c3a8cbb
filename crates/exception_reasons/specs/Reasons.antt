-- The reason that a message gives, by the layouts of rpc.capnp. An abort is an Exception; a Return and a Resolve have one
-- where their union says so. What can't be read has no reason.
use Rattle.std.specs.Prelude.{ℕ, ◌==◌, List, take, Option, None, option_and_then, Result, Ok, Err, if◌then◌else◌}
use Rattle.std.specs.Option.{option_map}
use Rattle.cap_frame.specs.declared.frame_error.FrameError.{FrameError}
use Rattle.cap_frame.specs.Segments.{segments_of}
use Rattle.cap_reader.specs.Defaults.{default_limits}
use Rattle.cap_reader.specs.declared.limits.Limits.{Limits}
use Rattle.cap_reader.specs.declared.read_error.ReadError.{ReadError}
use Rattle.cap_reader.specs.Tree.{Tree, root_tree}
use Rattle.cap_reader.specs.Reading.{Reading, done, ◌>>=◌, run, root_in, text_in, Sections}
use Rattle.rpc_view.specs.Layouts.{message_tag, message_body, return_tag, resolve_tag}
use Rattle.vat_log.specs.declared.body.Body.{Body}
use Rattle.vat_log.specs.Passages.{frame_of}

-- Exception.reason: "Human-readable failure description."
abbrev pub exception_reason : Sections → Tree
exception_reason exception = exception.child 0

-- Return.exception, and Resolve.exception: each is the pointer that its union shares
abbrev pub body_exception : Sections → Tree
body_exception body = body.child 0

-- the reason of the Exception at a pointer; by default there is none
unfoldable pub exception_in : Tree → Reading ReadError (Option (List ℕ))
exception_in tree = do
  exception ← root_in tree
  text_in (exception_reason exception)

-- that of a body whose union has the exception as its member 1
unfoldable pub told_in : (Sections → ℕ) → Tree → Reading ReadError (Option (List ℕ))
told_in tag tree = do
  body ← root_in tree
  if tag body == 1 then exception_in (body_exception body) else done None

-- the body behind Message's tag: 1 abort, 3 return, 5 resolve; no other has an Exception
unfoldable pub body_reason_in : ℕ → Tree → Reading ReadError (Option (List ℕ))
body_reason_in tag body =
    if tag == 1 then exception_in body
    else (if tag == 3 then told_in return_tag body
    else (if tag == 5 then told_in resolve_tag body
    else done None))

-- Message, a union by its tag
unfoldable pub reason_in : Tree → Reading ReadError (Option (List ℕ))
reason_in tree = do
  message ← root_in tree
  body_reason_in (message_tag message) (message_body message)

-- at most so many bytes of a reason are looked at
abbrev pub longest : ℕ
longest = 1024

-- what was read, and none where it can't be
abbrev pub if_read : Result (Option (List ℕ)) ReadError → Option (List ℕ)
if_read (Ok found) = option_map (take longest) found
if_read (Err e) = None

-- the reason of a frame's message
abbrev pub reason_within : List (List ℕ) → Limits → Option (List ℕ)
reason_within segments limits = if_read (run (reason_in (root_tree limits.depth segments)) limits.words).0

-- none where the bytes aren't a frame
abbrev pub reason_in_frame : Result (List (List ℕ)) FrameError → Limits → Option (List ℕ)
reason_in_frame (Ok segments) limits = reason_within segments limits
reason_in_frame (Err e) limits = None

-- the bytes of the reason that the message of a frame's bytes gives
abbrev pub reason_of_bytes : List ℕ → Limits → Option (List ℕ)
reason_of_bytes bytes limits = reason_in_frame (segments_of bytes) limits

-- the reason that the frame of a record gives, where it has a frame, within the default limits
abbrev pub reason_of_record : Body → Option (List ℕ)
reason_of_record event = option_and_then (λ frame. reason_of_bytes frame default_limits) (frame_of event)
