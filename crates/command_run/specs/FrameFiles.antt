-- What a file of frames falls into, and the lines and the status that answer it.
use Rattle.std.specs.Prelude.{◌≡◌, ◌≢◌, ℕ, ◌==◌, if◌then◌else◌, List, [], ◌∷◌, length, take, drop, Result, Ok, Err}
use Rattle.std.specs.List.{flat_map, list_all}
use Rattle.cap_frame.specs.declared.frame_error.FrameError.{FrameError}
use Rattle.cap_frame.specs.Segments.{first_len_of}
use Rattle.rpc_view.specs.declared.edition.Edition.TheVariants.{First}
use Rattle.rpc_view.specs.Message.{message_of_bytes}
use Rattle.command_run.specs.Answers.{view_line, view_status}
use Rattle.cap_reader.specs.Defaults.{default_limits}

-- how many bytes the first piece has: those of the frame that stands first, or all where none can be cut
abbrev pub len_or_all : List ℕ → Result ℕ FrameError → ℕ
len_or_all bytes (Ok len) = len
len_or_all bytes (Err fault) = length bytes

abbrev pub piece_len : List ℕ → ℕ
piece_len bytes = len_or_all bytes (first_len_of bytes)

-- the bytes fall into these pieces and the rest: each piece is the first of what is left
abbrev pub Falls : List ℕ → List (List ℕ) → List ℕ → Type 0
Falls bytes [] rest = bytes ≡ rest
Falls bytes (piece ∷ pieces) rest = (bytes ≢ []) × (piece ≡ take (piece_len bytes) bytes) × Falls (drop (piece_len bytes) bytes) pieces rest

-- a piece answered as a frame of its own, which is read by the first edition: its line, and its status
abbrev pub piece_line : List ℕ → List ℕ
piece_line piece = view_line (message_of_bytes First piece default_limits)

abbrev pub piece_status : List ℕ → ℕ
piece_status piece = view_status (message_of_bytes First piece default_limits)

-- the lines of pieces, in order; and the status, 0 where each piece is a message, else 2
abbrev pub lines : List (List ℕ) → List ℕ
lines pieces = flat_map piece_line pieces

abbrev pub status_of : List (List ℕ) → ℕ
status_of pieces = if list_all (λ piece. piece_status piece == 0) pieces then 0 else 2

-- a text and a status answer a file of frames: it falls into pieces, each of which has its line
abbrev pub AnswersFrames : List ℕ → List ℕ → ℕ → Type 0
AnswersFrames bytes text status = (pieces : List (List ℕ)) × Falls bytes pieces [] × (text ≡ lines pieces) × (status ≡ status_of pieces)
