-- What clap is told of the command line.
use Rattle.std.specs.Prelude.{◌≡◌, ℕ, List, [], ◌∷◌, Some, codes, false, true}
use Rattle.clap.specs.Words.{App, Rule, app_of, new_app, new_rule, with_rule, with_subcommand}
use Rattle.clap.specs.Simple.{on_top}
use Rattle.clap.specs.declared.builder.command.Command.TheViews.{out-Command as fields_of}
use Rattle.clap.specs.declared.builder.command.Command.{Command}
use Rattle.clap.specs.declared.builder.action.ArgAction.TheVariants.{Append, SetTrue}
use Rattle.clap.specs.declared.builder.value_parser.ValueParser.TheVariants as parser

-- clap is told this of a command, and none of its arguments is one for its subcommands, too
abbrev pub IsTold : App → Command → Type 0
IsTold app command = (app_of command ≡ app) × ((fields_of command).has_globals ≡ false)

-- by what clap knows the one thing that a command reads
abbrev pub input : List ℕ
input = codes "input"

-- the one thing, which has to be given
abbrev pub input_rule : Rule
input_rule = record (new_rule input) { value_names = 1; required = true }

-- a command that reads one thing: `vat FILE`, `frames FILE`
abbrev pub reader : List ℕ → App
reader name = with_rule (new_app name) input_rule

-- an option whose value is a number, from the least to the most
abbrev pub number_rule : List ℕ → ℕ → ℕ → Rule
number_rule name least most = record (new_rule name) { long = Some name; value_names = 1; parser = Some (parser.Unsigned least most) }

-- by what clap knows the workers that audit a case, which are given as `--workers N`, and are 1 where they aren't given
abbrev pub workers : List ℕ
workers = codes "workers"

abbrev pub workers_rule : Rule
workers_rule = record (number_rule workers 1 64) { defaults = codes "1" ∷ [] }

-- a command that has a case audited: `check CASE`, `run CASE`, with `--workers N` if wanted
abbrev pub auditor : List ℕ → App
auditor name = with_rule (with_rule (new_app name) input_rule) workers_rule

-- by what clap knows the file that is written, which is given as `--out FILE` and has to be given
abbrev pub path : List ℕ
path = codes "out"

abbrev pub path_rule : Rule
path_rule = record (new_rule path) { long = Some (codes "out"); value_names = 1; required = true }

-- a command that reads one thing and writes a file: `order CASE --out FILE`, `salvage FILE --out FILE`
abbrev pub writer : List ℕ → App
writer name = with_rule (with_rule (new_app name) input_rule) path_rule

-- by what clap knows the options of `records` and `draw`, which are given as `--from I` and `--count N`, numbers of 64 bits
abbrev pub start : List ℕ
start = codes "from"

abbrev pub count : List ℕ
count = codes "count"

abbrev pub most : ℕ
most = 18446744073709551615

-- `records FILE`, with `--from I` and `--count N` if wanted
abbrev pub records : App
records = with_rule (with_rule (with_rule (new_app (codes "records")) input_rule) (number_rule start 0 most)) (number_rule count 0 most)

-- an option that has no value: it is given, or it isn't
abbrev pub flag_rule : List ℕ → Rule
flag_rule name = record (new_rule name) { long = Some name; action = Some SetTrue }

-- by what clap knows that a page is asked for and not a picture alone, which is said by `--html`
abbrev pub html : List ℕ
html = codes "html"

-- `draw CASE --out FILE`, with `--from I`, `--count N`, `--html` and `--workers N` if wanted
abbrev pub draw : App
draw =
    with_rule (with_rule (with_rule (with_rule (with_rule (with_rule (new_app (codes "draw")) input_rule) path_rule) (number_rule start 0 most)) (number_rule count 0 most))
    (flag_rule html)) workers_rule

-- a command that reads one thing and has one such option
abbrev pub flagged : List ℕ → List ℕ → App
flagged name flag = with_rule (with_rule (new_app name) input_rule) (flag_rule flag)

-- by what clap knows that the later edition of rpc.capnp is asked for, which is said by `--later`
abbrev pub later : List ℕ
later = codes "later"

-- `frame HEX`, with `--later` if wanted
abbrev pub frame : App
frame = flagged (codes "frame") later

-- by what clap knows that the edges are asked for in the DOT language, which is said by `--dot`
abbrev pub dot : List ℕ
dot = codes "dot"

-- `graph CASE`, with `--dot` and `--workers N` if wanted
abbrev pub graph : App
graph = with_rule (flagged (codes "graph") dot) workers_rule

-- `migrate FILE --out FILE`, with `--later` if wanted
abbrev pub migrate : App
migrate = with_rule (with_rule (with_rule (new_app (codes "migrate")) input_rule) (flag_rule later)) path_rule

-- by what clap knows the second file that `wire` reads, which has to be given
abbrev pub other : List ℕ
other = codes "other"

abbrev pub other_rule : Rule
other_rule = record (new_rule other) { value_names = 1; required = true }

-- the folder that is written, which is given as `--out FOLDER` and may be left out
abbrev pub folder_rule : Rule
folder_rule = record (new_rule path) { long = Some (codes "out"); value_names = 1 }

-- by what clap knows that all calls to a capability are taken to be made through one reference, which is said by `--one-reference`
abbrev pub one_reference : List ℕ
one_reference = codes "one-reference"

-- `wire A B`, with `--one-reference` and `--out FOLDER` if wanted
abbrev pub wire : App
wire = with_rule (with_rule (with_rule (with_rule (new_app (codes "wire")) input_rule) other_rule) (flag_rule one_reference)) folder_rule

-- the logs that `join` reads, of which one at least has to be given
abbrev pub logs_rule : Rule
logs_rule = record (new_rule input) { action = Some Append; value_names = 1; required = true }

-- `join LOG .. --out FOLDER`
abbrev pub join : App
join = with_rule (with_rule (new_app (codes "join")) logs_rule) path_rule

-- the program, of which a command has to be given
abbrev pub top : App
top = on_top (λ s. record s { subcommand_required = true; arg_required_else_help = true }) (new_app (codes "vataudit"))

-- the program with its commands that read a case
abbrev pub judging : App
judging =
    with_subcommand (with_subcommand (with_subcommand (with_subcommand (with_subcommand top (auditor (codes "check")).top) (writer (codes "order")).top) graph.top)
    (auditor (codes "run")).top) draw.top

-- and with those that read a file or a frame
abbrev pub reading : App
reading =
    with_subcommand (with_subcommand (with_subcommand (with_subcommand judging (reader (codes "vat")).top) records.top) frame.top) (reader (codes "frames")).top

-- and with the one that writes a log in another version
abbrev pub writing : App
writing = with_subcommand reading migrate.top

-- and with the one that writes what is whole of a log
abbrev pub salvaging : App
salvaging = with_subcommand writing (writer (codes "salvage")).top

-- and with the one that reads the bytes of a connection
abbrev pub wiring : App
wiring = with_subcommand salvaging wire.top

-- and with the one that joins logs
abbrev pub program : App
program = with_subcommand wiring join.top
