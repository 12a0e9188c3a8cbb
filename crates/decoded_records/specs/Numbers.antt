-- What a vat's numbers on a connection stand for, and how often they are held.
use Rattle.std.specs.Prelude.{ℕ, List, Option, true, false}
use Rattle.decoded_records.specs.declared.number.Number.{Number}
use Rattle.decoded_records.specs.declared.number.Number.TheVariants.{Export, Import, Question, Answer}
use Rattle.decoded_records.specs.Types.{View, TableKey}
use Rattle.decoded_records.specs.Past.{Past, id}
use Rattle.decoded_records.specs.Lives.{held}
use Rattle.decoded_records.specs.Views.{view_of_number, field_view}

-- the number with its connection, and whether this vat gave it out
abbrev pub id_of : ℕ → Number → TableKey
id_of connection (Export n) = id connection true n
id_of connection (Import n) = id connection false n
id_of connection (Question n) = id connection true n
id_of connection (Answer n) = id connection false n

-- how often an export or import is held; questions and answers aren't
abbrev pub number_held : ℕ → Number → Past → ℕ
number_held connection (Export n) past = held (id connection true n) past
number_held connection (Import n) past = held (id connection false n) past
number_held connection _ past = 0

-- what a number stands for, a question or answer with a path
abbrev pub number_stands : ℕ → Number → List ℕ → Past → Option View
number_stands connection (Export n) path past = view_of_number (id connection true n) past
number_stands connection (Import n) path past = view_of_number (id connection false n) past
number_stands connection (Question n) path past = field_view (id connection true n) path past
number_stands connection (Answer n) path past = field_view (id connection false n) path past
