-- Words in which clap finds no fault, and words in which it finds one.
use Rattle.std.proofs.lemmas.Bool.{eqb-true}
use Rattle.std.proofs.Common.{◌≡◌, ◌∙◌, ◌==◌, ◌&&◌, ℕ, Bool, true, false, List, [], ◌∷◌, Some, None, if◌then◌else◌, fold, codes, refl, ap, ap₂, subst, arith, inl, inr}
use Rattle.std.specs.Prelude.{option_and_then}
use Rattle.std.specs.Str.{bytes_eq}
use Rattle.clap.specs.Lexer.{long_of, long_of_rest, short_of, short_of_rest, strip_byte}
use Rattle.clap.specs.Words.{Row, Text, Kinds, fault_of}
use Rattle.clap.specs.Walk.{Held, Step, Waiting, Walk, after_step, finished, idle, nothing_held, option, plain_word, positional, settled, value, walked, word_met}
use Rattle.clap.specs.Simple.{Shape}
use Rattle.clap.specs.Kinds.{or_else}
use Rattle.clap.specs.Values.{IsUnsignedIn}
use Rattle.clap.specs.ValueTests.{accepts}
use Rattle.clap.proofs.ValueTestLemmas.{Accepts-accepts, accepts-Accepts}
use Rattle.clap.specs.Faults.{check_fault, defaults_fault, level_fault, settle_fault, step_fault, turn_fault, walk_fault, word_fault}
use Rattle.clap.specs.declared.error.ErrorKind.{ErrorKind}
use Rattle.clap.specs.declared.error.ErrorKind.TheVariants.{ValueValidation}
use Rattle.clap.specs.declared.builder.value_parser.ValueParser.{ValueParser}
use Rattle.clap.specs.declared.builder.value_parser.ValueParser.TheVariants as parser
use Rattle.clap.proofs.OnLiterals.{clap_on_literals}
use Rattle.command_line.proofs.Named.{Reader, checking, drawing, framing, graphing, joining, listing, migrating, name_of, of_frames, of_vat, ordering, reader_of, running, salvaging, wiring, word_of}
use Rattle.command_line.proofs.One.{at, dashes, given, holding, sub}
use Rattle.command_line.proofs.Reading.{shape_by}
use Rattle.command_line.specs.Parser.{most, path, program, start, workers}
use Rattle.command_line.specs.Parser.{count as many}
use Rattle.command_line.specs.Spelled.{IsAuditor, IsReader, is_flag}
use Rattle.command_line.specs.TakenWords.{IsTaken, HasBadNumber, thing_alone, thing_behind_dashes, check_case, audited_by_workers, graph_dot, order_out, draw_out, draw_part, draw_workers, draw_page, migrate_out, migrate_later, salvage_out, frame_later, records_whole, records_part, wire_pair, wire_out, wire_one_reference, join_out, bad_workers, bad_part}

-- ---- a word that is no flag

abbrev IsPlain : Text → Type 0
IsPlain word = (bytes_eq word dashes ≡ false) × (long_of word ≡ None) × (short_of word ≡ None)

plain_word_is : (word : Text) → is_flag word ≡ false → IsPlain word
plain_word_is [] e = (refl, refl, refl)
plain_word_is (x ∷ []) e = go (x == 45)
  where
    go : (b : Bool) → ((b && false) ≡ false) × (option_and_then long_of_rest (option_and_then (strip_byte 45) (if b then Some [] else None)) ≡ None)
        × (option_and_then short_of_rest (if b then Some [] else None) ≡ None)
    go true = (refl, refl, refl)
    go false = (refl, refl, refl)
plain_word_is (x ∷ y ∷ rest) e = (rw e refl, rw e refl, rw e refl)

-- nor is a number
number_is_plain : (least last : ℕ) (word : Text) → IsUnsignedIn least last word → is_flag word ≡ false
number_is_plain least last [] h = refl
number_is_plain least last (x ∷ []) h = refl
number_is_plain least last (x ∷ y ∷ rest) h = go (x == 45) refl
  where
    no_digit : (rest : Text) → IsUnsignedIn least last (45 ∷ rest) → ⊥
    no_digit rest h = absurd (omega (arith, h.0))

    go : (b : Bool) → (x == 45) ≡ b → b ≡ false
    go false is = refl
    go true is = absurd (no_digit (y ∷ rest) (subst (λ (n : ℕ). IsUnsignedIn least last (n ∷ y ∷ rest)) (eqb-true x 45 is) h))

-- ---- commands that read one thing

file_taken : (name file : Text) → is_flag file ≡ false → level_fault (sub name) [] nothing_held (file ∷ []) false [] ≡ []
unfolding clap_on_literals
file_taken name file e =
    let is = plain_word_is file e in
    let met : word_met (sub name).rules [] false idle 1 file (holding None) ≡ (holding None, value) = rw (is.0, is.1, is.2) refl in
    let w : walked (sub name).rules [] (at None 1 false) file ≡ at (given file) 2 false = ap (λ (m : Held × Step). after_step (sub name).rules file (at None 1 false) m.0 m.1) met in
    let word : word_fault (sub name) [] false idle file (holding None) ≡ [] = rw (is.0, is.1, is.2) (refl {a = []}) in
    let turn : turn_fault (sub name) [] (at None 1 false) file ≡ [] =
    ap₂ (λ (k : Kinds) (m : Held × Step). or_else k (step_fault (sub name) 1 m.0 m.1)) word met in
    let walks : walk_fault (sub name) [] (at None 1 false) (file ∷ []) ≡ [] = ap (λ k. or_else k []) turn in
    ap₂ (λ (k : Kinds) (x : Walk). or_else k (or_else (settle_fault (sub name).rules false x.held)
    (or_else (defaults_fault (settled (sub name).rules x.held).rows (sub name).rules) (check_fault (sub name) (finished (sub name).rules x.held) false)))) walks w

taken_by : (r : Reader) (first file : Text) → is_flag file ≡ false → fault_of program (first ∷ word_of r ∷ file ∷ []) ≡ []
unfolding clap_on_literals
taken_by of_vat first file e = ap (λ (k : Kinds). or_else k []) (file_taken (word_of of_vat) file e)
taken_by of_frames first file e = ap (λ (k : Kinds). or_else k []) (file_taken (word_of of_frames) file e)

taken_after_by : (r : Reader) (first file : Text) → fault_of program (first ∷ word_of r ∷ dashes ∷ file ∷ []) ≡ []
unfolding clap_on_literals
taken_after_by of_vat first file = refl
taken_after_by of_frames first file = refl

-- ---- graph

graph_words : (case : Text) → is_flag case ≡ false → level_fault (shape_by graphing) [] nothing_held (case ∷ []) false [] ≡ []
unfolding clap_on_literals
graph_words case e =
    let is = plain_word_is case e in
    rw (is.0, is.1, is.2) (refl {a = []})

takes_graph : (first case : Text) → is_flag case ≡ false → fault_of program (first ∷ name_of graphing ∷ case ∷ []) ≡ []
unfolding clap_on_literals
takes_graph first case e = ap (λ (k : Kinds). or_else k []) (graph_words case e)

takes_graph_after : (first case : Text) → fault_of program (first ∷ name_of graphing ∷ dashes ∷ case ∷ []) ≡ []
unfolding clap_on_literals
takes_graph_after first case = refl

graph_dot_words : (case : Text) → is_flag case ≡ false → level_fault (shape_by graphing) [] nothing_held (case ∷ codes "--dot" ∷ []) false [] ≡ []
unfolding clap_on_literals
graph_dot_words case e =
    let is = plain_word_is case e in
    rw (is.0, is.1, is.2) (refl {a = []})

-- `graph CASE --dot` has no fault, where CASE is no flag
takes_graph_dot : (first case : Text) → is_flag case ≡ false → fault_of program (first ∷ name_of graphing ∷ case ∷ codes "--dot" ∷ []) ≡ []
unfolding clap_on_literals
takes_graph_dot first case e = ap (λ (k : Kinds). or_else k []) (graph_dot_words case e)

-- ---- run

run_words : (case : Text) → is_flag case ≡ false → level_fault (shape_by running) [] nothing_held (case ∷ []) false [] ≡ []
unfolding clap_on_literals
run_words case e =
    let is = plain_word_is case e in
    rw (is.0, is.1, is.2) (refl {a = []})

takes_run : (first case : Text) → is_flag case ≡ false → fault_of program (first ∷ name_of running ∷ case ∷ []) ≡ []
unfolding clap_on_literals
takes_run first case e = ap (λ (k : Kinds). or_else k []) (run_words case e)

takes_run_after : (first case : Text) → fault_of program (first ∷ name_of running ∷ dashes ∷ case ∷ []) ≡ []
unfolding clap_on_literals
takes_run_after first case = refl

-- ---- frame

frame_words : (hex : Text) → is_flag hex ≡ false → level_fault (shape_by framing) [] nothing_held (hex ∷ []) false [] ≡ []
unfolding clap_on_literals
frame_words hex e =
    let is = plain_word_is hex e in
    rw (is.0, is.1, is.2) (refl {a = []})

takes_frame : (first hex : Text) → is_flag hex ≡ false → fault_of program (first ∷ name_of framing ∷ hex ∷ []) ≡ []
unfolding clap_on_literals
takes_frame first hex e = ap (λ (k : Kinds). or_else k []) (frame_words hex e)

takes_frame_after : (first hex : Text) → fault_of program (first ∷ name_of framing ∷ dashes ∷ hex ∷ []) ≡ []
unfolding clap_on_literals
takes_frame_after first hex = refl

frame_later_words : (hex : Text) → is_flag hex ≡ false → level_fault (shape_by framing) [] nothing_held (codes "--later" ∷ hex ∷ []) false [] ≡ []
unfolding clap_on_literals
frame_later_words hex e =
    let is = plain_word_is hex e in
    rw (is.0, is.1, is.2) (refl {a = []})

-- `frame --later HEX` has no fault, where HEX is no flag
takes_frame_later : (first hex : Text) → is_flag hex ≡ false → fault_of program (first ∷ name_of framing ∷ codes "--later" ∷ hex ∷ []) ≡ []
unfolding clap_on_literals
takes_frame_later first hex e = ap (λ (k : Kinds). or_else k []) (frame_later_words hex e)

-- the name of a command and one word have no fault, where the word is no flag
takes_one : (first name file : Text) → IsReader name → is_flag file ≡ false → fault_of program (first ∷ name ∷ file ∷ []) ≡ []
takes_one first name file reads e = elim (reader_of name reads) [
  | inl r ↦ ap (λ (n : Text). fault_of program (first ∷ n ∷ file ∷ [])) r.1 ∙ taken_by r.0 first file e
  | inr (inl is) ↦ ap (λ (n : Text). fault_of program (first ∷ n ∷ file ∷ [])) is ∙ takes_graph first file e
  | inr (inr (inl is)) ↦ ap (λ (n : Text). fault_of program (first ∷ n ∷ file ∷ [])) is ∙ takes_frame first file e
  | inr (inr (inr is)) ↦ ap (λ (n : Text). fault_of program (first ∷ n ∷ file ∷ [])) is ∙ takes_run first file e
]

-- with `--` between them they have none, whatever the word is
takes_after_dashes : (first name file : Text) → IsReader name → fault_of program (first ∷ name ∷ dashes ∷ file ∷ []) ≡ []
takes_after_dashes first name file reads = elim (reader_of name reads) [
  | inl r ↦ ap (λ (n : Text). fault_of program (first ∷ n ∷ dashes ∷ file ∷ [])) r.1 ∙ taken_after_by r.0 first file
  | inr (inl is) ↦ ap (λ (n : Text). fault_of program (first ∷ n ∷ dashes ∷ file ∷ [])) is ∙ takes_graph_after first file
  | inr (inr (inl is)) ↦ ap (λ (n : Text). fault_of program (first ∷ n ∷ dashes ∷ file ∷ [])) is ∙ takes_frame_after first file
  | inr (inr (inr is)) ↦ ap (λ (n : Text). fault_of program (first ∷ n ∷ dashes ∷ file ∷ [])) is ∙ takes_run_after first file
]

-- ---- check

-- `check CASE` has no fault, where CASE is no flag
takes_check : (first case : Text) → is_flag case ≡ false → fault_of program (first ∷ name_of checking ∷ case ∷ []) ≡ []
unfolding clap_on_literals
takes_check first case e =
    let is = plain_word_is case e in
    let level : level_fault (shape_by checking) [] nothing_held (case ∷ []) false [] ≡ [] = rw (is.0, is.1, is.2) (refl {a = []}) in
    ap (λ (k : Kinds). or_else k []) level

check_level : (case number : Text) (b : Bool) → is_flag case ≡ false → is_flag number ≡ false → accepts false (parser.Unsigned 1 64) number ≡ b
    → level_fault (shape_by checking) [] nothing_held (case ∷ codes "--workers" ∷ number ∷ []) false [] ≡ (if b then [] else ValueValidation ∷ [])
unfolding clap_on_literals
check_level case number true e h accepted =
    let is = plain_word_is case e in
    let are = plain_word_is number h in
    rw (is.0, is.1, is.2, are.0, are.1, are.2, accepted) (refl {a = []})
check_level case number false e h refused =
    let is = plain_word_is case e in
    let are = plain_word_is number h in
    rw (is.0, is.1, is.2, are.0, are.1, are.2, refused) (refl {a = ValueValidation ∷ []})

check_by : (first case number : Text) (b : Bool) → is_flag case ≡ false → is_flag number ≡ false → accepts false (parser.Unsigned 1 64) number ≡ b
    → fault_of program (first ∷ name_of checking ∷ case ∷ codes "--workers" ∷ number ∷ []) ≡ (if b then [] else ValueValidation ∷ [])
unfolding clap_on_literals
check_by first case number true e h accepted = ap (λ (k : Kinds). or_else k []) (check_level case number true e h accepted)
check_by first case number false e h refused = ap (λ (k : Kinds). or_else k []) (check_level case number false e h refused)

run_level : (case number : Text) (b : Bool) → is_flag case ≡ false → is_flag number ≡ false → accepts false (parser.Unsigned 1 64) number ≡ b
    → level_fault (shape_by running) [] nothing_held (case ∷ codes "--workers" ∷ number ∷ []) false [] ≡ (if b then [] else ValueValidation ∷ [])
unfolding clap_on_literals
run_level case number true e h accepted =
    let is = plain_word_is case e in
    let are = plain_word_is number h in
    rw (is.0, is.1, is.2, are.0, are.1, are.2, accepted) (refl {a = []})
run_level case number false e h refused =
    let is = plain_word_is case e in
    let are = plain_word_is number h in
    rw (is.0, is.1, is.2, are.0, are.1, are.2, refused) (refl {a = ValueValidation ∷ []})

run_by : (first case number : Text) (b : Bool) → is_flag case ≡ false → is_flag number ≡ false → accepts false (parser.Unsigned 1 64) number ≡ b
    → fault_of program (first ∷ name_of running ∷ case ∷ codes "--workers" ∷ number ∷ []) ≡ (if b then [] else ValueValidation ∷ [])
unfolding clap_on_literals
run_by first case number true e h accepted = ap (λ (k : Kinds). or_else k []) (run_level case number true e h accepted)
run_by first case number false e h refused = ap (λ (k : Kinds). or_else k []) (run_level case number false e h refused)

-- a test that isn't passed
fails : (least last : ℕ) (word : Text) → (IsUnsignedIn least last word → ⊥) → accepts false (parser.Unsigned least last) word ≡ false
fails least last word never = go (accepts false (parser.Unsigned least last) word) refl
  where
    go : (b : Bool) → accepts false (parser.Unsigned least last) word ≡ b → b ≡ false
    go true is = absurd (never (accepts-Accepts false (parser.Unsigned least last) word is))
    go false is = refl

-- ---- order

order_words : (file out : Text) → is_flag file ≡ false → is_flag out ≡ false → level_fault (shape_by ordering) [] nothing_held (file ∷ codes "--out" ∷ out ∷ []) false [] ≡ []
unfolding clap_on_literals
order_words file out e h =
    let is = plain_word_is file e in
    let are = plain_word_is out h in
    rw (is.0, is.1, is.2, are.0, are.1, are.2) (refl {a = []})

-- has no fault, where CASE and FILE are no flags
takes_order : (first file out : Text) → is_flag file ≡ false → is_flag out ≡ false → fault_of program (first ∷ name_of ordering ∷ file ∷ codes "--out" ∷ out ∷ []) ≡ []
unfolding clap_on_literals
takes_order first file out e h = ap (λ (k : Kinds). or_else k []) (order_words file out e h)

-- ---- draw

draw_words : (file out : Text) → is_flag file ≡ false → is_flag out ≡ false → level_fault (shape_by drawing) [] nothing_held (file ∷ codes "--out" ∷ out ∷ []) false [] ≡ []
unfolding clap_on_literals
draw_words file out e h =
    let is = plain_word_is file e in
    let are = plain_word_is out h in
    rw (is.0, is.1, is.2, are.0, are.1, are.2) (refl {a = []})

-- has no fault, where CASE and FILE are no flags
takes_draw : (first file out : Text) → is_flag file ≡ false → is_flag out ≡ false → fault_of program (first ∷ name_of drawing ∷ file ∷ codes "--out" ∷ out ∷ []) ≡ []
unfolding clap_on_literals
takes_draw first file out e h = ap (λ (k : Kinds). or_else k []) (draw_words file out e h)

draw_page_words : (file out : Text) → is_flag file ≡ false → is_flag out ≡ false
    → level_fault (shape_by drawing) [] nothing_held (file ∷ codes "--html" ∷ codes "--out" ∷ out ∷ []) false [] ≡ []
unfolding clap_on_literals
draw_page_words file out e h =
    let is = plain_word_is file e in
    let are = plain_word_is out h in
    rw (is.0, is.1, is.2, are.0, are.1, are.2) (refl {a = []})

-- nor has it with `--html`
takes_draw_page : (first file out : Text) → is_flag file ≡ false → is_flag out ≡ false
    → fault_of program (first ∷ name_of drawing ∷ file ∷ codes "--html" ∷ codes "--out" ∷ out ∷ []) ≡ []
unfolding clap_on_literals
takes_draw_page first file out e h = ap (λ (k : Kinds). or_else k []) (draw_page_words file out e h)

-- ---- wire

wire_words : (one another : Text) → is_flag one ≡ false → is_flag another ≡ false → level_fault (shape_by wiring) [] nothing_held (one ∷ another ∷ []) false [] ≡ []
unfolding clap_on_literals
wire_words one another e h =
    let is = plain_word_is one e in
    let are = plain_word_is another h in
    rw (is.0, is.1, is.2, are.0, are.1, are.2) (refl {a = []})

-- `wire A B` has no fault, where neither is a flag
takes_wire : (first one another : Text) → is_flag one ≡ false → is_flag another ≡ false → fault_of program (first ∷ name_of wiring ∷ one ∷ another ∷ []) ≡ []
unfolding clap_on_literals
takes_wire first one another e h = ap (λ (k : Kinds). or_else k []) (wire_words one another e h)

wire_out_words : (one another out : Text) → is_flag one ≡ false → is_flag another ≡ false → is_flag out ≡ false
    → level_fault (shape_by wiring) [] nothing_held (one ∷ another ∷ codes "--out" ∷ out ∷ []) false [] ≡ []
unfolding clap_on_literals
wire_out_words one another out e h f =
    let is = plain_word_is one e in
    let are = plain_word_is another h in
    let too = plain_word_is out f in
    rw (is.0, is.1, is.2, are.0, are.1, are.2, too.0, too.1, too.2) (refl {a = []})

-- nor has it with `--out FOLDER`
takes_wire_out : (first one another out : Text) → is_flag one ≡ false → is_flag another ≡ false → is_flag out ≡ false
    → fault_of program (first ∷ name_of wiring ∷ one ∷ another ∷ codes "--out" ∷ out ∷ []) ≡ []
unfolding clap_on_literals
takes_wire_out first one another out e h f = ap (λ (k : Kinds). or_else k []) (wire_out_words one another out e h f)

wire_one_reference_words : (one another : Text) → is_flag one ≡ false → is_flag another ≡ false
    → level_fault (shape_by wiring) [] nothing_held (codes "--one-reference" ∷ one ∷ another ∷ []) false [] ≡ []
unfolding clap_on_literals
wire_one_reference_words one another e h =
    let is = plain_word_is one e in
    let are = plain_word_is another h in
    rw (is.0, is.1, is.2, are.0, are.1, are.2) (refl {a = []})

-- nor has it with `--one-reference`
takes_wire_one_reference : (first one another : Text) → is_flag one ≡ false → is_flag another ≡ false
    → fault_of program (first ∷ name_of wiring ∷ codes "--one-reference" ∷ one ∷ another ∷ []) ≡ []
unfolding clap_on_literals
takes_wire_one_reference first one another e h = ap (λ (k : Kinds). or_else k []) (wire_one_reference_words one another e h)

-- ---- join

join_words : (one another out : Text) → is_flag one ≡ false → is_flag another ≡ false → is_flag out ≡ false
    → level_fault (shape_by joining) [] nothing_held (one ∷ another ∷ codes "--out" ∷ out ∷ []) false [] ≡ []
unfolding clap_on_literals
join_words one another out e h f =
    let is = plain_word_is one e in
    let are = plain_word_is another h in
    let too = plain_word_is out f in
    rw (is.0, is.1, is.2, are.0, are.1, are.2, too.0, too.1, too.2) (refl {a = []})

-- `join LOG LOG --out FOLDER` has no fault, where none is a flag
takes_join : (first one another out : Text) → is_flag one ≡ false → is_flag another ≡ false → is_flag out ≡ false
    → fault_of program (first ∷ name_of joining ∷ one ∷ another ∷ codes "--out" ∷ out ∷ []) ≡ []
unfolding clap_on_literals
takes_join first one another out e h f = ap (λ (k : Kinds). or_else k []) (join_words one another out e h f)

-- ---- migrate

migrate_words : (file out : Text) → is_flag file ≡ false → is_flag out ≡ false → level_fault (shape_by migrating) [] nothing_held (file ∷ codes "--out" ∷ out ∷ []) false [] ≡ []
unfolding clap_on_literals
migrate_words file out e h =
    let is = plain_word_is file e in
    let are = plain_word_is out h in
    rw (is.0, is.1, is.2, are.0, are.1, are.2) (refl {a = []})

-- has no fault, where neither FILE is a flag
takes_migrate : (first file out : Text) → is_flag file ≡ false → is_flag out ≡ false → fault_of program (first ∷ name_of migrating ∷ file ∷ codes "--out" ∷ out ∷ []) ≡ []
unfolding clap_on_literals
takes_migrate first file out e h = ap (λ (k : Kinds). or_else k []) (migrate_words file out e h)

migrate_later_words : (file out : Text) → is_flag file ≡ false → is_flag out ≡ false
    → level_fault (shape_by migrating) [] nothing_held (file ∷ codes "--later" ∷ codes "--out" ∷ out ∷ []) false [] ≡ []
unfolding clap_on_literals
migrate_later_words file out e h =
    let is = plain_word_is file e in
    let are = plain_word_is out h in
    rw (is.0, is.1, is.2, are.0, are.1, are.2) (refl {a = []})

-- nor has it with `--later`
takes_migrate_later : (first file out : Text) → is_flag file ≡ false → is_flag out ≡ false
    → fault_of program (first ∷ name_of migrating ∷ file ∷ codes "--later" ∷ codes "--out" ∷ out ∷ []) ≡ []
unfolding clap_on_literals
takes_migrate_later first file out e h = ap (λ (k : Kinds). or_else k []) (migrate_later_words file out e h)

-- ---- salvage

salvage_words : (file out : Text) → is_flag file ≡ false → is_flag out ≡ false → level_fault (shape_by salvaging) [] nothing_held (file ∷ codes "--out" ∷ out ∷ []) false [] ≡ []
unfolding clap_on_literals
salvage_words file out e h =
    let is = plain_word_is file e in
    let are = plain_word_is out h in
    rw (is.0, is.1, is.2, are.0, are.1, are.2) (refl {a = []})

-- has no fault, where neither FILE is a flag
takes_salvage : (first file out : Text) → is_flag file ≡ false → is_flag out ≡ false → fault_of program (first ∷ name_of salvaging ∷ file ∷ codes "--out" ∷ out ∷ []) ≡ []
unfolding clap_on_literals
takes_salvage first file out e h = ap (λ (k : Kinds). or_else k []) (salvage_words file out e h)

-- ---- records

-- `records FILE` has no fault, where FILE is no flag
takes_records : (first file : Text) → is_flag file ≡ false → fault_of program (first ∷ name_of listing ∷ file ∷ []) ≡ []
unfolding clap_on_literals
takes_records first file e =
    let is = plain_word_is file e in
    let level : level_fault (shape_by listing) [] nothing_held (file ∷ []) false [] ≡ [] = rw (is.0, is.1, is.2) (refl {a = []}) in
    ap (λ (k : Kinds). or_else k []) level

abbrev value_parser : ValueParser
value_parser = parser.Unsigned 0 most

-- the walk stands between two words
abbrev state : Held → Waiting → ℕ → Walk
state h waiting n = record { held = h; waiting = waiting; position = n; is_trailing = false; stopped = None }

module _ (s : Shape) where
  -- what is left of a command's fault, from a point of its walk
  abbrev fault_from : Walk → List Text → Kinds
  fault_from w words =
      let end = (fold (walked s.rules []) w words).held in
      or_else (walk_fault s [] w words) (or_else (settle_fault s.rules s.args_override_self end)
      (or_else (defaults_fault (settled s.rules end).rows s.rules) (check_fault s (finished s.rules end) false)))

  -- a word without a fault is passed
  passed : (w next : Walk) (word : Text) (words : List Text) → turn_fault s [] w word ≡ [] → walked s.rules [] w word ≡ next → fault_from w (word ∷ words) ≡ fault_from next words
  unfolding walk_fault
  passed w next word words none is =
      let end = (fold (walked s.rules []) w (word ∷ words)).held in
      ap (λ (k : Kinds). or_else (or_else k (walk_fault s [] (walked s.rules [] w word) words)) (or_else (settle_fault s.rules s.args_override_self end)
      (or_else (defaults_fault (settled s.rules end).rows s.rules) (check_fault s (finished s.rules end) false)))) none
      ∙ ap (λ (x : Walk). fault_from x words) is

  -- and one with a fault ends it
  stopped_at : (w : Walk) (word : Text) (words : List Text) (k : ErrorKind) → turn_fault s [] w word ≡ k ∷ [] → fault_from w (word ∷ words) ≡ k ∷ []
  unfolding walk_fault
  stopped_at w word words k fault =
      let end = (fold (walked s.rules []) w (word ∷ words)).held in
      ap (λ (ks : Kinds). or_else (or_else ks (walk_fault s [] (walked s.rules [] w word) words)) (or_else (settle_fault s.rules s.args_override_self end)
      (or_else (defaults_fault (settled s.rules end).rows s.rules) (check_fault s (finished s.rules end) false)))) fault

  -- a word that is no flag, where an option waits for it or nothing does
  plain_turn : (h : Held) (waiting : Waiting) (n : ℕ) (word : Text) → IsPlain word
      → turn_fault s [] (state h waiting n) word ≡ step_fault s n (plain_word s.rules waiting word h).0 (plain_word s.rules waiting word h).1
  plain_turn h idle n word is = rw (is.0, is.1, is.2) refl
  plain_turn h (option id) n word is = rw (is.0, is.1, is.2) refl
  plain_turn h positional n word is = rw (is.0, is.1, is.2) refl

  plain_walk : (h : Held) (waiting : Waiting) (n : ℕ) (word : Text) → IsPlain word
      → walked s.rules [] (state h waiting n) word ≡ after_step s.rules word (state h waiting n) (plain_word s.rules waiting word h).0 (plain_word s.rules waiting word h).1
  unfolding walked
  plain_walk h idle n word is = rw (is.0, is.1, is.2) refl
  plain_walk h (option id) n word is = rw (is.0, is.1, is.2) refl
  plain_walk h positional n word is = rw (is.0, is.1, is.2) refl

-- what is held after FILE, after `--from`, after I, after `--count` and after N
module _ (file from count : Text) where
  abbrev rows_file : List Row
  rows_file = (settled (shape_by listing).rules (holding (given file))).rows

  abbrev at_from : Walk
  at_from = state (record { rows = rows_file; pending = Some (start, []); skip = 0 }) (option start) 2

  abbrev after_from : Held
  after_from = record { rows = rows_file; pending = Some (start, from ∷ []); skip = 0 }

  abbrev rows_from : List Row
  rows_from = (settled (shape_by listing).rules after_from).rows

  abbrev at_count : Walk
  at_count = state (record { rows = rows_from; pending = Some (many, []); skip = 0 }) (option many) 2

  abbrev after_count : Held
  after_count = record { rows = rows_from; pending = Some (many, count ∷ []); skip = 0 }

  -- up to I there is no fault
  up_to_from : is_flag file ≡ false → is_flag from ≡ false
      → fault_from (shape_by listing) (at None 1 false) (file ∷ codes "--from" ∷ from ∷ codes "--count" ∷ count ∷ [])
      ≡ fault_from (shape_by listing) (state after_from idle 2) (codes "--count" ∷ count ∷ [])
  unfolding clap_on_literals
  up_to_from e f =
      let s = shape_by listing in
      passed s (at None 1 false) (at (given file) 2 false) file (codes "--from" ∷ from ∷ codes "--count" ∷ count ∷ [])
      (plain_turn s (holding None) idle 1 file (plain_word_is file e)) (plain_walk s (holding None) idle 1 file (plain_word_is file e))
      ∙ passed s (at (given file) 2 false) at_from (codes "--from") (from ∷ codes "--count" ∷ count ∷ []) refl refl
      ∙ passed s at_from (state after_from idle 2) from (codes "--count" ∷ count ∷ [])
      (plain_turn s at_from.held (option start) 2 from (plain_word_is from f)) (plain_walk s at_from.held (option start) 2 from (plain_word_is from f))

  from_turn : (b : Bool) → accepts false value_parser from ≡ b → turn_fault (shape_by listing) [] (state after_from idle 2) (codes "--count") ≡ (if b then [] else ValueValidation ∷ [])
  unfolding clap_on_literals
  from_turn true is = rw is refl
  from_turn false is = rw is refl

  count_end : (b : Bool) → accepts false value_parser count ≡ b → fault_from (shape_by listing) (state after_count idle 2) [] ≡ (if b then [] else ValueValidation ∷ [])
  unfolding clap_on_literals
  count_end true is = rw is refl
  count_end false is = rw is refl

  part_level : (a b : Bool) → is_flag file ≡ false → is_flag from ≡ false → is_flag count ≡ false → accepts false value_parser from ≡ a → accepts false value_parser count ≡ b
      → fault_from (shape_by listing) (at None 1 false) (file ∷ codes "--from" ∷ from ∷ codes "--count" ∷ count ∷ []) ≡ (if a && b then [] else ValueValidation ∷ [])
  unfolding clap_on_literals
  part_level false b e f g first second = up_to_from e f ∙ stopped_at (shape_by listing) (state after_from idle 2) (codes "--count") (count ∷ []) ValueValidation (from_turn false first)
  part_level true b e f g first second =
      let s = shape_by listing in
      up_to_from e f
      ∙ passed s (state after_from idle 2) at_count (codes "--count") (count ∷ []) (from_turn true first) refl
      ∙ passed s at_count (state after_count idle 2) count []
      (plain_turn s at_count.held (option many) 2 count (plain_word_is count g)) (plain_walk s at_count.held (option many) 2 count (plain_word_is count g))
      ∙ count_end b second

part_by : (first file from count : Text) (a b : Bool) → is_flag file ≡ false → is_flag from ≡ false → is_flag count ≡ false
    → accepts false value_parser from ≡ a → accepts false value_parser count ≡ b
    → fault_of program (first ∷ name_of listing ∷ file ∷ codes "--from" ∷ from ∷ codes "--count" ∷ count ∷ []) ≡ (if a && b then [] else ValueValidation ∷ [])
unfolding clap_on_literals
part_by first file from count true true e f g one two = ap (λ (k : Kinds). or_else k []) (part_level file from count true true e f g one two)
part_by first file from count true false e f g one two = ap (λ (k : Kinds). or_else k []) (part_level file from count true false e f g one two)
part_by first file from count false b e f g one two = ap (λ (k : Kinds). or_else k []) (part_level file from count false b e f g one two)

-- `records FILE --from I --count N` has none, where I and N are numbers of 64 bits
takes_part : (first file from count : Text) → is_flag file ≡ false → IsUnsignedIn 0 most from → IsUnsignedIn 0 most count
    → fault_of program (first ∷ name_of listing ∷ file ∷ codes "--from" ∷ from ∷ codes "--count" ∷ count ∷ []) ≡ []
takes_part first file from count e f g =
    part_by first file from count true true e (number_is_plain 0 most from f) (number_is_plain 0 most count g)
    (Accepts-accepts false value_parser from f) (Accepts-accepts false value_parser count g)

-- and where one of them isn't, that is a fault
refuses_part : (first file from count : Text) → is_flag file ≡ false → is_flag from ≡ false → is_flag count ≡ false → (IsUnsignedIn 0 most from × IsUnsignedIn 0 most count → ⊥)
    → fault_of program (first ∷ name_of listing ∷ file ∷ codes "--from" ∷ from ∷ codes "--count" ∷ count ∷ []) ≡ ValueValidation ∷ []
refuses_part first file from count e f g never =
    go (accepts false value_parser from) (accepts false value_parser count) refl refl
  where
    go : (a b : Bool) → accepts false value_parser from ≡ a → accepts false value_parser count ≡ b
        → fault_of program (first ∷ name_of listing ∷ file ∷ codes "--from" ∷ from ∷ codes "--count" ∷ count ∷ []) ≡ ValueValidation ∷ []
    go false b one two = part_by first file from count false b e f g one two
    go true false one two = part_by first file from count true false e f g one two
    go true true one two = absurd (never (accepts-Accepts false value_parser from one, accepts-Accepts false value_parser count two))

-- ---- draw, of which a part is asked for

-- what is held after CASE, after `--out`, after FILE, after `--from`, after I, after `--count` and after N
module _ (case out from count : Text) where
  abbrev drawing_shape : Shape
  drawing_shape = shape_by drawing

  abbrev rows_case : List Row
  rows_case = (settled drawing_shape.rules (holding (given case))).rows

  abbrev at_out : Walk
  at_out = state (record { rows = rows_case; pending = Some (path, []); skip = 0 }) (option path) 2

  abbrev after_out : Held
  after_out = record { rows = rows_case; pending = Some (path, out ∷ []); skip = 0 }

  abbrev rows_out : List Row
  rows_out = (settled drawing_shape.rules after_out).rows

  abbrev at_first : Walk
  at_first = state (record { rows = rows_out; pending = Some (start, []); skip = 0 }) (option start) 2

  abbrev after_first : Held
  after_first = record { rows = rows_out; pending = Some (start, from ∷ []); skip = 0 }

  abbrev rows_first : List Row
  rows_first = (settled drawing_shape.rules after_first).rows

  abbrev at_many : Walk
  at_many = state (record { rows = rows_first; pending = Some (many, []); skip = 0 }) (option many) 2

  abbrev after_many : Held
  after_many = record { rows = rows_first; pending = Some (many, count ∷ []); skip = 0 }

  first_turn : accepts false value_parser from ≡ true → turn_fault drawing_shape [] (state after_first idle 2) (codes "--count") ≡ []
  unfolding clap_on_literals
  first_turn is = rw is refl

  many_end : accepts false value_parser count ≡ true → fault_from drawing_shape (state after_many idle 2) [] ≡ []
  unfolding clap_on_literals
  many_end is = rw is refl

  -- up to FILE there is no fault
  up_to_out : IsPlain case → IsPlain out
      → fault_from drawing_shape (at None 1 false) (case ∷ codes "--out" ∷ out ∷ codes "--from" ∷ from ∷ codes "--count" ∷ count ∷ [])
      ≡ fault_from drawing_shape (state after_out idle 2) (codes "--from" ∷ from ∷ codes "--count" ∷ count ∷ [])
  unfolding clap_on_literals
  up_to_out is are =
      let s = drawing_shape in
      passed s (at None 1 false) (at (given case) 2 false) case (codes "--out" ∷ out ∷ codes "--from" ∷ from ∷ codes "--count" ∷ count ∷ [])
      (plain_turn s (holding None) idle 1 case is) (plain_walk s (holding None) idle 1 case is)
      ∙ passed s (at (given case) 2 false) at_out (codes "--out") (out ∷ codes "--from" ∷ from ∷ codes "--count" ∷ count ∷ []) refl refl
      ∙ passed s at_out (state after_out idle 2) out (codes "--from" ∷ from ∷ codes "--count" ∷ count ∷ [])
      (plain_turn s at_out.held (option path) 2 out are) (plain_walk s at_out.held (option path) 2 out are)

  -- nor is there one behind it
  from_out : IsPlain from → IsPlain count → accepts false value_parser from ≡ true → accepts false value_parser count ≡ true
      → fault_from drawing_shape (state after_out idle 2) (codes "--from" ∷ from ∷ codes "--count" ∷ count ∷ []) ≡ []
  unfolding clap_on_literals
  from_out is are one two =
      let s = drawing_shape in
      passed s (state after_out idle 2) at_first (codes "--from") (from ∷ codes "--count" ∷ count ∷ []) refl refl
      ∙ passed s at_first (state after_first idle 2) from (codes "--count" ∷ count ∷ [])
      (plain_turn s at_first.held (option start) 2 from is) (plain_walk s at_first.held (option start) 2 from is)
      ∙ passed s (state after_first idle 2) at_many (codes "--count") (count ∷ []) (first_turn one) refl
      ∙ passed s at_many (state after_many idle 2) count []
      (plain_turn s at_many.held (option many) 2 count are) (plain_walk s at_many.held (option many) 2 count are)
      ∙ many_end two

-- `draw CASE --out FILE --from I --count N` has no fault, where CASE and FILE are no flags, and I and N are numbers of 64 bits
takes_draw_part : (first case out from count : Text) → is_flag case ≡ false → is_flag out ≡ false → IsUnsignedIn 0 most from → IsUnsignedIn 0 most count
    → fault_of program (first ∷ name_of drawing ∷ case ∷ codes "--out" ∷ out ∷ codes "--from" ∷ from ∷ codes "--count" ∷ count ∷ []) ≡ []
unfolding clap_on_literals
takes_draw_part first case out from count e h f g =
    ap (λ (k : Kinds). or_else k [])
    (up_to_out case out from count (plain_word_is case e) (plain_word_is out h)
    ∙ from_out case out from count (plain_word_is from (number_is_plain 0 most from f)) (plain_word_is count (number_is_plain 0 most count g))
    (Accepts-accepts false value_parser from f) (Accepts-accepts false value_parser count g))

-- ---- graph and draw, by workers

-- what is held after CASE, after `--workers` and after N
module _ (case number : Text) where
  abbrev graph_shape : Shape
  graph_shape = shape_by graphing

  abbrev graph_rows : List Row
  graph_rows = (settled graph_shape.rules (holding (given case))).rows

  abbrev at_workers : Walk
  at_workers = state (record { rows = graph_rows; pending = Some (workers, []); skip = 0 }) (option workers) 2

  abbrev after_workers : Held
  after_workers = record { rows = graph_rows; pending = Some (workers, number ∷ []); skip = 0 }

  up_to_workers : IsPlain case → IsPlain number
      → fault_from graph_shape (at None 1 false) (case ∷ codes "--workers" ∷ number ∷ []) ≡ fault_from graph_shape (state after_workers idle 2) []
  unfolding clap_on_literals
  up_to_workers is are =
      let s = graph_shape in
      passed s (at None 1 false) (at (given case) 2 false) case (codes "--workers" ∷ number ∷ []) (plain_turn s (holding None) idle 1 case is) (plain_walk s (holding None) idle 1 case is)
      ∙ passed s (at (given case) 2 false) at_workers (codes "--workers") (number ∷ []) refl refl
      ∙ passed s at_workers (state after_workers idle 2) number [] (plain_turn s at_workers.held (option workers) 2 number are) (plain_walk s at_workers.held (option workers) 2 number are)

  workers_end : (b : Bool) → accepts false (parser.Unsigned 1 64) number ≡ b → fault_from graph_shape (state after_workers idle 2) [] ≡ (if b then [] else ValueValidation ∷ [])
  unfolding clap_on_literals
  workers_end true is = rw is refl
  workers_end false is = rw is refl

graph_by : (first case number : Text) (b : Bool) → is_flag case ≡ false → is_flag number ≡ false → accepts false (parser.Unsigned 1 64) number ≡ b
    → fault_of program (first ∷ name_of graphing ∷ case ∷ codes "--workers" ∷ number ∷ []) ≡ (if b then [] else ValueValidation ∷ [])
unfolding clap_on_literals
graph_by first case number true e h accepted =
    ap (λ (k : Kinds). or_else k []) (up_to_workers case number (plain_word_is case e) (plain_word_is number h) ∙ workers_end case number true accepted)
graph_by first case number false e h refused =
    ap (λ (k : Kinds). or_else k []) (up_to_workers case number (plain_word_is case e) (plain_word_is number h) ∙ workers_end case number false refused)

workers_by : (first name case number : Text) (b : Bool) → IsAuditor name → is_flag case ≡ false → is_flag number ≡ false → accepts false (parser.Unsigned 1 64) number ≡ b
    → fault_of program (first ∷ name ∷ case ∷ codes "--workers" ∷ number ∷ []) ≡ (if b then [] else ValueValidation ∷ [])
workers_by first name case number b (inl is) e h accepted =
    ap (λ (n : Text). fault_of program (first ∷ n ∷ case ∷ codes "--workers" ∷ number ∷ [])) is ∙ check_by first case number b e h accepted
workers_by first name case number b (inr (inl is)) e h accepted =
    ap (λ (n : Text). fault_of program (first ∷ n ∷ case ∷ codes "--workers" ∷ number ∷ [])) is ∙ run_by first case number b e h accepted
workers_by first name case number b (inr (inr is)) e h accepted =
    ap (λ (n : Text). fault_of program (first ∷ n ∷ case ∷ codes "--workers" ∷ number ∷ [])) is ∙ graph_by first case number b e h accepted

-- `check CASE --workers N`, or `run` or `graph` so, has none, where N is a number from 1 to 64
takes_workers : (first name case number : Text) → IsAuditor name → is_flag case ≡ false → IsUnsignedIn 1 64 number
    → fault_of program (first ∷ name ∷ case ∷ codes "--workers" ∷ number ∷ []) ≡ []
takes_workers first name case number audits e h =
    workers_by first name case number true audits e (number_is_plain 1 64 number h) (Accepts-accepts false (parser.Unsigned 1 64) number h)

-- and another N is a fault
refuses_workers : (first name case number : Text) → IsAuditor name → is_flag case ≡ false → is_flag number ≡ false → (IsUnsignedIn 1 64 number → ⊥)
    → fault_of program (first ∷ name ∷ case ∷ codes "--workers" ∷ number ∷ []) ≡ ValueValidation ∷ []
refuses_workers first name case number audits e h never = workers_by first name case number false audits e h (fails 1 64 number never)

-- what is held after CASE, after `--workers`, after N, after `--out` and after FILE
module _ (case number out : Text) where
  abbrev worked_rows : List Row
  worked_rows = (settled (shape_by drawing).rules (holding (given case))).rows

  abbrev at_number : Walk
  at_number = state (record { rows = worked_rows; pending = Some (workers, []); skip = 0 }) (option workers) 2

  abbrev after_number : Held
  after_number = record { rows = worked_rows; pending = Some (workers, number ∷ []); skip = 0 }

  abbrev numbered_rows : List Row
  numbered_rows = (settled (shape_by drawing).rules after_number).rows

  abbrev at_file : Walk
  at_file = state (record { rows = numbered_rows; pending = Some (path, []); skip = 0 }) (option path) 2

  abbrev after_file : Held
  after_file = record { rows = numbered_rows; pending = Some (path, out ∷ []); skip = 0 }

  number_turn : accepts false (parser.Unsigned 1 64) number ≡ true → turn_fault (shape_by drawing) [] (state after_number idle 2) (codes "--out") ≡ []
  unfolding clap_on_literals
  number_turn is = rw is refl

  worked_draw : IsPlain case → IsPlain number → IsPlain out → accepts false (parser.Unsigned 1 64) number ≡ true
      → fault_from (shape_by drawing) (at None 1 false) (case ∷ codes "--workers" ∷ number ∷ codes "--out" ∷ out ∷ []) ≡ []
  unfolding clap_on_literals
  worked_draw is are has good =
      let s = shape_by drawing in
      passed s (at None 1 false) (at (given case) 2 false) case (codes "--workers" ∷ number ∷ codes "--out" ∷ out ∷ [])
      (plain_turn s (holding None) idle 1 case is) (plain_walk s (holding None) idle 1 case is)
      ∙ passed s (at (given case) 2 false) at_number (codes "--workers") (number ∷ codes "--out" ∷ out ∷ []) refl refl
      ∙ passed s at_number (state after_number idle 2) number (codes "--out" ∷ out ∷ [])
      (plain_turn s at_number.held (option workers) 2 number are) (plain_walk s at_number.held (option workers) 2 number are)
      ∙ passed s (state after_number idle 2) at_file (codes "--out") (out ∷ []) (number_turn good) refl
      ∙ passed s at_file (state after_file idle 2) out [] (plain_turn s at_file.held (option path) 2 out has) (plain_walk s at_file.held (option path) 2 out has)

-- `draw CASE --workers N --out FILE` has no fault, where CASE and FILE are no flags, and N is a number from 1 to 64
takes_draw_workers : (first case number out : Text) → is_flag case ≡ false → is_flag out ≡ false → IsUnsignedIn 1 64 number
    → fault_of program (first ∷ name_of drawing ∷ case ∷ codes "--workers" ∷ number ∷ codes "--out" ∷ out ∷ []) ≡ []
unfolding clap_on_literals
takes_draw_workers first case number out e h good =
    ap (λ (k : Kinds). or_else k [])
    (worked_draw case number out (plain_word_is case e) (plain_word_is number (number_is_plain 1 64 number good)) (plain_word_is out h)
    (Accepts-accepts false (parser.Unsigned 1 64) number good))

-- ---- all of these together

pub takes : (words : List Text) → IsTaken words → fault_of program words ≡ []
takes words (thing_alone first name thing reads plain) = takes_one first name thing reads plain
takes words (thing_behind_dashes first name thing reads) = takes_after_dashes first name thing reads
takes words (check_case first case plain) = takes_check first case plain
takes words (audited_by_workers first name case number audits plain good) = takes_workers first name case number audits plain good
takes words (graph_dot first case plain) = takes_graph_dot first case plain
takes words (order_out first case out plain unflagged) = takes_order first case out plain unflagged
takes words (draw_out first case out plain unflagged) = takes_draw first case out plain unflagged
takes words (draw_part first case out from count plain unflagged good well) = takes_draw_part first case out from count plain unflagged good well
takes words (draw_workers first case number out plain unflagged good) = takes_draw_workers first case number out plain unflagged good
takes words (draw_page first case out plain unflagged) = takes_draw_page first case out plain unflagged
takes words (migrate_out first file out plain unflagged) = takes_migrate first file out plain unflagged
takes words (migrate_later first file out plain unflagged) = takes_migrate_later first file out plain unflagged
takes words (salvage_out first file out plain unflagged) = takes_salvage first file out plain unflagged
takes words (frame_later first hex plain) = takes_frame_later first hex plain
takes words (records_whole first file plain) = takes_records first file plain
takes words (records_part first file from count plain good well) = takes_part first file from count plain good well
takes words (wire_pair first a b plain unflagged) = takes_wire first a b plain unflagged
takes words (wire_out first a b out plain unflagged neither) = takes_wire_out first a b out plain unflagged neither
takes words (wire_one_reference first a b plain unflagged) = takes_wire_one_reference first a b plain unflagged
takes words (join_out first a b out plain unflagged neither) = takes_join first a b out plain unflagged neither

pub refuses : (words : List Text) → HasBadNumber words → fault_of program words ≡ ValueValidation ∷ []
refuses words (bad_workers first name case number audits plain unflagged bad) = refuses_workers first name case number audits plain unflagged bad
refuses words (bad_part first file from count plain unflagged neither bad) = refuses_part first file from count plain unflagged neither bad
