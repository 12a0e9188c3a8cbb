-- Which references and calls a record binds, and which others it names (docs/FORMATS.md: how a log names things).
use Rattle.std.specs.Prelude.{◌≡◌, ℕ, ◌==◌, length, List, [], ◌∷◌, map, Bool, true, false, not, ◌&&◌, if◌then◌else◌, is_none, IsTrue}
use Rattle.std.specs.Bool.{beq}
use Rattle.std.specs.List.{list_any, list_all}
use Rattle.decoded_records.specs.Types.{Bootstrap, Call, Return, Finish, Resolve, Release, Disembargo, Abort, DecodedRecord, Host, Vow, Fulfil, Break, Make, Field, Deliver, Answer, AnswerBy, Fault, Wire}
use Rattle.decoded_records.specs.Past.{Past}
use Rattle.decoded_records.specs.Questions.{question_opened, is_late}
use Rattle.decoded_records.specs.Views.{places, references}

-- the references that a record newly binds: of HOST, VOW, FIELD and RECV
abbrev pub new_references : DecodedRecord → List ℕ
new_references (Host r object) = r ∷ []
new_references (Vow r) = r ∷ []
new_references (Field r call path) = r ∷ []
new_references (Wire false k call noted m) = noted
new_references (Fulfil r to) = []
new_references (Break r) = []
new_references (Make call r interface method) = []
new_references (Deliver call object) = []
new_references (Answer call results) = []
new_references (AnswerBy call by) = []
new_references (Fault call) = []
new_references (Wire true k call noted m) = []

-- the other references that it names
abbrev pub named_references : DecodedRecord → List ℕ
named_references (Fulfil r to) = r ∷ to ∷ []
named_references (Break r) = r ∷ []
named_references (Make call r interface method) = r ∷ []
named_references (Answer call results) = map (λ answer. answer.0) results
named_references (Wire true k call noted m) = noted
named_references (Host r object) = []
named_references (Vow r) = []
named_references (Field r call path) = []
named_references (Deliver call object) = []
named_references (AnswerBy call by) = []
named_references (Fault call) = []
named_references (Wire false k call noted m) = []

-- the call that it newly binds: of MAKE, a sent or received Bootstrap, a received Call
abbrev pub new_calls : DecodedRecord → List ℕ
new_calls (Make call r interface method) = call ∷ []
new_calls (Wire sent k call noted (Bootstrap q)) = call ∷ []
new_calls (Wire false k call noted (Call head target params)) = call ∷ []
new_calls (Wire true k call noted (Call head target params)) = []
new_calls (Wire sent k call noted (Return head outcome)) = []
new_calls (Wire sent k call noted (Finish q release)) = []
new_calls (Wire sent k call noted (Resolve promise resolution)) = []
new_calls (Wire sent k call noted (Release n count)) = []
new_calls (Wire sent k call noted (Disembargo n loopback target)) = []
new_calls (Wire sent k call noted Abort) = []
new_calls (Host r object) = []
new_calls (Vow r) = []
new_calls (Fulfil r to) = []
new_calls (Break r) = []
new_calls (Field r call path) = []
new_calls (Deliver call object) = []
new_calls (Answer call results) = []
new_calls (AnswerBy call by) = []
new_calls (Fault call) = []

-- the other calls that it names
abbrev pub named_calls : DecodedRecord → List ℕ
named_calls (Field r call path) = call ∷ []
named_calls (Deliver call object) = call ∷ []
named_calls (Answer call results) = call ∷ []
named_calls (AnswerBy call by) = call ∷ by ∷ []
named_calls (Fault call) = call ∷ []
named_calls (Wire true k call noted (Call head target params)) = call ∷ []
named_calls (Host r object) = []
named_calls (Vow r) = []
named_calls (Fulfil r to) = []
named_calls (Break r) = []
named_calls (Make call r interface method) = []
named_calls (Wire true k call noted (Bootstrap q)) = []
named_calls (Wire true k call noted (Finish q release)) = []
named_calls (Wire true k call noted (Resolve promise resolution)) = []
named_calls (Wire true k call noted (Release n count)) = []
named_calls (Wire true k call noted (Disembargo n loopback target)) = []
named_calls (Wire true k call noted Abort) = []
named_calls (Wire true k call noted (Return head outcome)) = []
named_calls (Wire false k call noted m) = []

-- a number is in a list
abbrev pub contains : ℕ → List ℕ → Bool
contains n xs = list_any (λ x. x == n) xs

-- a reference is bound
abbrev pub is_bound : Past → ℕ → Bool
is_bound past r = list_any (λ e. contains r (new_references e)) past

-- a call is bound
abbrev pub is_bound_call : Past → ℕ → Bool
is_bound_call past c = list_any (λ e. contains c (new_calls e)) past

-- no number twice
abbrev pub is_distinct : List ℕ → Bool
is_distinct [] = true
is_distinct (x ∷ xs) = not (contains x xs) && is_distinct xs

-- a record notes a call exactly where its message opens a question
abbrev pub notes_call : DecodedRecord → Bool
notes_call (Wire sent k call noted m) = beq (call == 0) (is_none (question_opened (Wire sent k call noted m)))
notes_call _ = true

-- (this project's own: how a log names things)
-- REF: newly bound numbers are unused and distinct; every other reference and call named is bound;
-- the noted call is 0 exactly in messages other than Bootstrap and Call
pub record Refers (before : Past) (e : DecodedRecord) : Type 0 where
  pub distinct : IsTrue (is_distinct (new_references e))
  pub unused : IsTrue (list_all (λ r. not (is_bound before r)) (new_references e))
  pub unused_call : IsTrue (list_all (λ c. not (is_bound_call before c)) (new_calls e))
  pub bound : IsTrue (list_all (is_bound before) (named_references e))
  pub bound_call : IsTrue (list_all (is_bound_call before) (named_calls e))
  pub noted : IsTrue (notes_call e)

-- (this project's own: what capability tables carry has references)
-- one reference is noted for each descriptor that isn't none, and none beside a late Return: of DESC where a record
-- is sent, RECVREF where it is received
abbrev pub NotesEach : Past → DecodedRecord → Type 0
NotesEach before e = length (references e) ≡ (if is_late before e then 0 else length (places e))
