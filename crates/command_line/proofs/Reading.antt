-- What clap makes of the words.
use Rattle.std.proofs.Common.{◌≡◌, ◌⊎◌, ◌∙◌, ◌==◌, ◌||◌, ◌++◌, ℕ, Bool, true, false, List, [], ◌∷◌, Option, Some, None, if◌then◌else◌, length, map, fold, option_map, refl, sym, ap, subst, inl, inr, append_assoc, append-nil, codes, arith}
use Rattle.std.specs.Prelude.{IfSome, find, not, slice_get, unwrap_or, option_map, ⊤}
use Rattle.std.specs.Str.{bytes_eq}
use Rattle.std.proofs.lemmas.Bool.{eqb-true}
use Rattle.std.proofs.lemmas.Slice.Eq.{bytes_eq-Decides}
use Rattle.clap.specs.Words.{Row, Text, Kinds, built, first_of, fault_of, subcommand_of}
use Rattle.clap.specs.Walk.{Held, Step, Waiting, answers_to, arg_by_long, arg_by_short, has_row, idle, nothing_held, rows_after, settled, subcommand_or_other, walk, walked, with_default, word_met}
use Rattle.clap.specs.Simple.{Shape, entered, filled, with_index}
use Rattle.clap.specs.Kinds.{check_kinds, or_else, range_kinds, values_kinds}
use Rattle.clap.specs.Takes.{is_given}
use Rattle.clap.specs.Values.{IsUnsignedIn}
use Rattle.clap.specs.ValueTests.{accepts}
use Rattle.clap.proofs.ValueTestLemmas.{accepts-Accepts}
use Rattle.clap.specs.Faults.{built_fault, check_fault, entered_fault, level_fault, other_fault, repeat_fault, step_fault, turn_fault, walk_fault}
use Rattle.clap.specs.declared.parser.matches.ValueSource.TheVariants.{CommandLine}
use Rattle.clap.specs.declared.error.ErrorKind.TheVariants.{DisplayHelp, WrongNumberOfValues}
use Rattle.clap.specs.declared.builder.value_parser.ValueParser.{ValueParser}
use Rattle.clap.specs.declared.builder.value_parser.ValueParser.TheVariants as parser
use Rattle.clap.proofs.OnLiterals.{clap_on_literals}
use Rattle.command_line.proofs.Faultless.{first_none, never, then_none}
use Rattle.command_line.proofs.Filled.{AllBring, AreFull, Brings, default_row, first_passes, given_value, level_full, no_default, parser_by, replaced_full, row_value, values_full, values_pass}
use Rattle.command_line.proofs.Named.{IsOneOf, Named, Reader, all_names, checking, drawing, framing, graphing, help_word, joining, listing, migrating, name_of, of_frames, of_vat, ordering, reading, running, salvaging, which, wiring, word_of}
use Rattle.command_line.proofs.One.{HasFile, at, dashes, help, holding, main, names, sub, word_plain, words_read}
use Rattle.command_line.specs.Parser.{auditor, count, dot, draw, flag_rule, folder_rule, frame, graph, html, input, input_rule, join, later, one_reference, logs_rule, migrate, most, number_rule, other, other_rule, path, path_rule, program, records, start, wire, workers, workers_rule, writer}
use Rattle.command_line.specs.Spelled.{IsChecked, SpellsOne}

-- ---- the first word

main_longs : (name : Text) → arg_by_long main.rules name ≡ (if bytes_eq help_word name || false then Some help else None)
main_longs name = refl

main_shorts : (x : ℕ) → arg_by_short main.rules x ≡ (if (104 == x) || false then Some help else None)
main_shorts x = refl

abbrev plain_name : Text → Text × List Text
plain_name n = (n, [])

-- the fault of a first word for which this subcommand is found
abbrev turn_by : Text → Option (Text × List Text) → Kinds
turn_by w found =
    let name = option_map (λ (s : Text × List Text). s.0) found in
    let met = subcommand_or_other main.rules name idle 1 w (holding None) in
    or_else (other_fault main name w (holding None)) (step_fault main 1 met.0 met.1)

-- it is one of the names, or none is found
by_names : (w : Text) (ns : List Text) → turn_by w (find (answers_to w) (map plain_name ns)) ≡ [] → IsOneOf ns w ⊎ (turn_by w None ≡ [])
by_names w [] e = inr e
by_names w (n ∷ ns) e = go (bytes_eq n w) refl e (by_names w ns)
  where
    go : (b : Bool) → bytes_eq n w ≡ b → turn_by w (if b || false then Some (plain_name n) else find (answers_to w) (map plain_name ns)) ≡ []
        → (turn_by w (find (answers_to w) (map plain_name ns)) ≡ [] → IsOneOf ns w ⊎ (turn_by w None ≡ [])) → IsOneOf (n ∷ ns) w ⊎ (turn_by w None ≡ [])
    go true is e rest = inl (inl (sym ((bytes_eq-Decides n w).0 is)))
    go false is e rest = elim (rest e) [ inl one ↦ inl (inr one) | inr none ↦ inr none ]

help_fails : turn_fault main names (at None 1 false) help_word ≡ [] → ⊥
help_fails e = never e

first_main : (w : Text) → turn_fault main names (at None 1 false) w ≡ [] → ((c : Named) × (w ≡ name_of c)) ⊎ (w ≡ dashes)
first_main w e = elim (by_names w all_names e) [
  | inl one ↦ elim (which w one) [ inl c ↦ inl c | inr is ↦ absurd (help_fails (subst (λ (x : Text). turn_fault main names (at None 1 false) x ≡ []) is e)) ]
  | inr none ↦
      let met = word_met main.rules [] false idle 1 w (holding None) in
      let stray : step_fault main 1 met.0 met.1 ≡ [] = then_none (other_fault main None w (holding None)) (step_fault main 1 met.0 met.1) none in
      elim (word_plain main.rules main_longs main_shorts None 1 w (first_none (other_fault main None w (holding None)) _ none)) [
        | inl d ↦ inr d
        | inr is ↦ absurd (never (sym (ap (λ (m : Held × Step). step_fault main 1 m.0 m.1) is) ∙ stray))
      ]
]

-- ---- the command that is entered

abbrev check_sub : Shape
check_sub = unwrap_or (slice_get (built program).subs 0) (auditor (codes "check")).top

abbrev run_sub : Shape
run_sub = unwrap_or (slice_get (built program).subs 3) (auditor (codes "run")).top

abbrev order_sub : Shape
order_sub = unwrap_or (slice_get (built program).subs 1) (writer (codes "order")).top

abbrev draw_sub : Shape
draw_sub = unwrap_or (slice_get (built program).subs 4) draw.top

abbrev records_sub : Shape
records_sub = unwrap_or (slice_get (built program).subs 6) records.top

abbrev migrate_sub : Shape
migrate_sub = unwrap_or (slice_get (built program).subs 9) migrate.top

abbrev salvage_sub : Shape
salvage_sub = unwrap_or (slice_get (built program).subs 10) (writer (codes "salvage")).top

abbrev frame_sub : Shape
frame_sub = unwrap_or (slice_get (built program).subs 7) frame.top

abbrev wire_sub : Shape
wire_sub = unwrap_or (slice_get (built program).subs 11) wire.top

abbrev join_sub : Shape
join_sub = unwrap_or (slice_get (built program).subs 12) join.top

abbrev graph_sub : Shape
graph_sub = unwrap_or (slice_get (built program).subs 2) graph.top

abbrev pub shape_by : Named → Shape
shape_by (reading r) = sub (word_of r)
shape_by checking = check_sub
shape_by running = run_sub
shape_by ordering = order_sub
shape_by drawing = draw_sub
shape_by listing = records_sub
shape_by migrating = migrate_sub
shape_by salvaging = salvage_sub
shape_by graphing = graph_sub
shape_by framing = frame_sub
shape_by wiring = wire_sub
shape_by joining = join_sub

-- past the name of a command the walk keeps the words
stops : (h : Held) (waiting : Waiting) (n : ℕ) (ended : Bool) (name : Text) (seen words : List Text)
    → (fold (walked main.rules names) (record { held = h; waiting = waiting; position = n; is_trailing = ended; stopped = Some (name, seen) }) words).stopped ≡ Some (name, seen ++ words)
unfolding walked
stops h waiting n ended name seen [] = ap (λ x. Some (name, x)) (sym (append-nil seen))
stops h waiting n ended name seen (word ∷ words) =
    stops h waiting n ended name (seen ++ word ∷ []) words ∙ ap (λ x. Some (name, x)) (append_assoc seen (word ∷ []) words)

stop_at : (c : Named) (words : List Text) → (walk main.rules names nothing_held (name_of c ∷ words)).stopped ≡ Some (name_of c, words)
unfolding walked
stop_at graphing words = stops (holding None) idle 1 false (name_of graphing) [] words
stop_at running words = stops (holding None) idle 1 false (name_of running) [] words
stop_at (reading of_vat) words = stops (holding None) idle 1 false (word_of of_vat) [] words
stop_at (reading of_frames) words = stops (holding None) idle 1 false (word_of of_frames) [] words
stop_at checking words = stops (holding None) idle 1 false (name_of checking) [] words
stop_at ordering words = stops (holding None) idle 1 false (name_of ordering) [] words
stop_at drawing words = stops (holding None) idle 1 false (name_of drawing) [] words
stop_at listing words = stops (holding None) idle 1 false (name_of listing) [] words
stop_at migrating words = stops (holding None) idle 1 false (name_of migrating) [] words
stop_at salvaging words = stops (holding None) idle 1 false (name_of salvaging) [] words
stop_at framing words = stops (holding None) idle 1 false (name_of framing) [] words
stop_at wiring words = stops (holding None) idle 1 false (name_of wiring) [] words
stop_at joining words = stops (holding None) idle 1 false (name_of joining) [] words

-- the command that is entered reads the words that are left
entered_level : (c : Named) (words : List Text) → entered_fault (built program) (Some (name_of c, words)) ≡ level_fault (shape_by c) [] nothing_held words false []
entered_level graphing words = refl
entered_level running words = refl
entered_level (reading of_vat) words = refl
entered_level (reading of_frames) words = refl
entered_level checking words = refl
entered_level ordering words = refl
entered_level drawing words = refl
entered_level listing words = refl
entered_level migrating words = refl
entered_level salvaging words = refl
entered_level framing words = refl
entered_level wiring words = refl
entered_level joining words = refl

entered_rows : (c : Named) (words : List Text) → entered (built program) (Some (name_of c, words)) ≡ Some (name_of c, rows_after (shape_by c).rules [] words)
entered_rows graphing words = refl
entered_rows running words = refl
entered_rows (reading of_vat) words = refl
entered_rows (reading of_frames) words = refl
entered_rows checking words = refl
entered_rows ordering words = refl
entered_rows drawing words = refl
entered_rows listing words = refl
entered_rows migrating words = refl
entered_rows salvaging words = refl
entered_rows framing words = refl
entered_rows wiring words = refl
entered_rows joining words = refl

no_command : (rest : List Text) → built_fault (built program) nothing_held (dashes ∷ rest) ≡ [] → ⊥
unfolding clap_on_literals
no_command [] e = never e
no_command (v ∷ vs) e = never e

-- the words begin with the name of a command, which reads the others
abbrev IsCommand : List Text → Type 0
IsCommand words = (c : Named) × ((rest : List Text) × (words ≡ name_of c ∷ rest) × (level_fault (shape_by c) [] nothing_held rest false [] ≡ []))

main_read : (words : List Text) → built_fault (built program) nothing_held words ≡ [] → IsCommand words
unfolding clap_on_literals
main_read [] e = absurd (never e)
main_read (w ∷ rest) e =
    let walks : walk_fault main names (at None 1 false) (w ∷ rest) ≡ [] = first_none _ _ e in
    elim (first_main w (first_none (turn_fault main names (at None 1 false) w) _ walks)) [
      | inl c ↦
          let name = name_of c.0 in
          let whole : built_fault (built program) nothing_held (name ∷ rest) ≡ [] = subst (λ (x : Text). built_fault (built program) nothing_held (x ∷ rest) ≡ []) c.1 e in
          let stop = (walk main.rules names nothing_held (name ∷ rest)).stopped in
          let below : entered_fault (built program) stop ≡ [] = first_none (entered_fault (built program) stop) _ (then_none (walk_fault main names (at None 1 false) (name ∷ rest)) _ whole) in (
            c.0,
            (
              rest,
              ap (λ x. x ∷ rest) c.1,
              sym (entered_level c.0 rest) ∙ subst (λ (s : Option (Text × List Text)). entered_fault (built program) s ≡ []) (stop_at c.0 rest) below,
            ),
          )
      | inr d ↦ absurd (no_command rest (subst (λ (x : Text). built_fault (built program) nothing_held (x ∷ rest) ≡ []) d e))
    ]

-- ---- what it finds in them

-- the one thing, another, --workers, --out, --later, --dot, --from, --count and --help bring values that pass
brings_case : Brings false (with_index 1 (filled input_rule))
brings_case [] rows e full = absurd (never e)
brings_case (v ∷ vs) rows e full =
    replaced_full input _ CommandLine (v ∷ vs) rows (values_pass input (v ∷ vs) (then_none (repeat_fault false input rows) _ (then_none (range_kinds 1 1 (length (v ∷ vs))) _ e))) full

brings_other : Brings false (with_index 2 (filled other_rule))
brings_other [] rows e full = absurd (never e)
brings_other (v ∷ vs) rows e full =
    replaced_full other _ CommandLine (v ∷ vs) rows (values_pass other (v ∷ vs) (then_none (repeat_fault false other rows) _ (then_none (range_kinds 1 1 (length (v ∷ vs))) _ e))) full

brings_logs : Brings false (with_index 1 (filled logs_rule))
brings_logs [] rows e full = absurd (never e)
brings_logs (v ∷ vs) rows e full = values_full input _ CommandLine (v ∷ vs) rows (values_pass input (v ∷ vs) (then_none (range_kinds 1 1 (length (v ∷ vs))) _ e)) full

brings_folder : Brings false (filled folder_rule)
brings_folder [] rows e full = absurd (never e)
brings_folder (v ∷ vs) rows e full =
    replaced_full path _ CommandLine (v ∷ vs) rows (values_pass path (v ∷ vs) (then_none (repeat_fault false path rows) _ (then_none (range_kinds 1 1 (length (v ∷ vs))) _ e))) full

brings_path : Brings false (filled path_rule)
brings_path [] rows e full = absurd (never e)
brings_path (v ∷ vs) rows e full =
    replaced_full path _ CommandLine (v ∷ vs) rows (values_pass path (v ∷ vs) (then_none (repeat_fault false path rows) _ (then_none (range_kinds 1 1 (length (v ∷ vs))) _ e))) full

brings_workers : Brings false (filled workers_rule)
brings_workers [] rows e full = absurd (never e)
brings_workers (v ∷ vs) rows e full =
    replaced_full workers _ CommandLine (v ∷ vs) rows (values_pass workers (v ∷ vs) (then_none (repeat_fault false workers rows) _ (then_none (range_kinds 1 1 (length (v ∷ vs))) _ e))) full

brings_flag : (name : Text) → parser_by name ≡ parser.Bool → Brings false (filled (flag_rule name))
brings_flag name is [] rows e full = replaced_full name _ CommandLine (codes "true" ∷ []) rows (rw is refl, tt) full
brings_flag name is (v ∷ vs) rows e full = absurd (no_value (0 == length (v ∷ vs)) refl (first_none (range_kinds 0 0 (length (v ∷ vs))) _ e))
  where
    no_value : (b : Bool) → (0 == length (v ∷ vs)) ≡ b → (if b then [] else WrongNumberOfValues ∷ []) ≡ [] → ⊥
    no_value true same e = omega (arith, eqb-true 0 (length (v ∷ vs)) same)
    no_value false differs e = never e

brings_help : Brings false help
brings_help values rows e full = absurd (never (then_none (range_kinds 0 0 (length values)) (DisplayHelp ∷ []) e))

brings_number : (name : Text) → parser_by name ≡ parser.Unsigned 0 most → Brings false (filled (number_rule name 0 most))
brings_number name is [] rows e full = absurd (never e)
brings_number name is (v ∷ vs) rows e full =
    let passes : values_kinds false (parser.Unsigned 0 most) (v ∷ vs) ≡ [] = then_none (repeat_fault false name rows) _ (then_none (range_kinds 1 1 (length (v ∷ vs))) _ e) in
    replaced_full name _ CommandLine (v ∷ vs) rows (values_pass name (v ∷ vs) (subst (λ (p : ValueParser). values_kinds false p (v ∷ vs) ≡ []) (sym is) passes)) full

brings : (c : Named) → AllBring (shape_by c).args_override_self (shape_by c).rules
brings (reading r) = (brings_case, tt, (brings_help, tt, tt))
brings checking = (brings_case, tt, (brings_workers, (refl, tt), (brings_help, tt, tt)))
brings running = (brings_case, tt, (brings_workers, (refl, tt), (brings_help, tt, tt)))
brings ordering = (brings_case, tt, (brings_path, tt, (brings_help, tt, tt)))
brings drawing =
    (brings_case, tt, (brings_path, tt, (brings_number start refl, tt, (brings_number count refl, tt, (brings_flag html refl, (refl, tt), (brings_workers, (refl, tt), (brings_help, tt, tt)))))))
brings migrating = (brings_case, tt, (brings_flag later refl, (refl, tt), (brings_path, tt, (brings_help, tt, tt))))
brings graphing = (brings_case, tt, (brings_flag dot refl, (refl, tt), (brings_workers, (refl, tt), (brings_help, tt, tt))))
brings salvaging = (brings_case, tt, (brings_path, tt, (brings_help, tt, tt)))
brings wiring = (brings_case, tt, (brings_other, tt, (brings_flag one_reference refl, (refl, tt), (brings_folder, tt, (brings_help, tt, tt)))))
brings joining = (brings_logs, tt, (brings_path, tt, (brings_help, tt, tt)))
brings framing = (brings_case, tt, (brings_flag later refl, (refl, tt), (brings_help, tt, tt)))
brings listing = (brings_case, tt, (brings_number start refl, tt, (brings_number count refl, tt, (brings_help, tt, tt))))

-- what has to be given was
both_given : (a b : Bool) → check_kinds false false (not a || (not b || false)) ≡ [] → (a ≡ true) × (b ≡ true)
both_given true true e = (refl, refl)
both_given true false e = absurd (never e)
both_given false b e = absurd (never e)

one_given : (a : Bool) → check_kinds false false (not a || false) ≡ [] → a ≡ true
one_given true e = refl
one_given false e = absurd (never e)

-- and `--workers` stands for itself, which comes last but for --help
workers_there : (before : List Row) → has_row workers (with_default (with_default before (filled workers_rule)) help) ≡ true
workers_there before =
    subst (λ (rs : List Row). has_row workers rs ≡ true) (sym (no_default help (with_default before (filled workers_rule)) refl)) (default_row (filled workers_rule) _ _ before refl)

-- what stands for the one thing and an option without a value
abbrev after_case : List Row → List Row
after_case rows = with_default rows (with_index 1 (filled input_rule))

abbrev after_dot : List Row → List Row
after_dot rows = with_default (after_case rows) (filled (flag_rule dot))

abbrev after_page : List Row → List Row
after_page rows =
    with_default (with_default (with_default (with_default (after_case rows) (filled path_rule)) (filled (number_rule start 0 most))) (filled (number_rule count 0 most)))
    (filled (flag_rule html))

-- a number that was given
checked : (least last : ℕ) (id : Text) (rows : List Row) → parser_by id ≡ parser.Unsigned least last → AreFull rows → IsChecked least last (first_of id rows)
checked least last id rows is full = go (first_of id rows) (first_passes id rows full)
  where
    go : (o : Option Text) → IfSome o (λ t. accepts false (parser_by id) t ≡ true) → IsChecked least last o
    go None passes = tt
    go (Some t) passes = accepts-Accepts false (parser.Unsigned least last) t (rw is at passes)

-- the number of workers
abbrev pub AreWorkers : List Row → Type 0
AreWorkers rows = (t : Text) × ((first_of workers rows ≡ Some t) × IsUnsignedIn 1 64 t)

workers_in : (rows : List Row) → has_row workers rows ≡ true → AreFull rows → AreWorkers rows
workers_in rows has full =
    let many = row_value workers rows has full in
    (many.0, (many.1, accepts-Accepts false (parser.Unsigned 1 64) many.0 many.2))

-- what a command finds besides the one thing
abbrev pub Besides : Named → List Text → List Row → Text → Type 0
Besides (reading r) words rows file = SpellsOne (word_of r) words file
Besides checking words rows file = AreWorkers rows
Besides running words rows file = AreWorkers rows
Besides ordering words rows file = (out : Text) × (first_of path rows ≡ Some out)
Besides drawing words rows file =
    (out : Text) × ((first_of path rows ≡ Some out) × IsChecked 0 most (first_of start rows) × IsChecked 0 most (first_of count rows) × AreWorkers rows)
Besides migrating words rows file = (out : Text) × (first_of path rows ≡ Some out)
Besides salvaging words rows file = (out : Text) × (first_of path rows ≡ Some out)
Besides wiring words rows file = (another : Text) × (first_of other rows ≡ Some another)
Besides joining words rows file = (out : Text) × (first_of path rows ≡ Some out)
Besides graphing words rows file = AreWorkers rows
Besides framing words rows file = ⊤
Besides listing words rows file = IsChecked 0 most (first_of start rows) × IsChecked 0 most (first_of count rows)

abbrev pub Finds : Named → List Text → List Row → Type 0
Finds c words rows = (file : Text) × ((first_of input rows ≡ Some file) × Besides c words rows file)

spelled : (r : Reader) (first : Text) (rest : List Text) (file : Text) → HasFile rest file → SpellsOne (word_of r) (first ∷ word_of r ∷ rest) file
spelled r first rest file (inl a) = (first, inl (ap (λ x. first ∷ word_of r ∷ x) a))
spelled r first rest file (inr (inl a)) = (first, inr (inl (ap (λ x. first ∷ word_of r ∷ x) a)))
spelled r first rest file (inr (inr a)) = (first, inr (inr (ap (λ x. first ∷ word_of r ∷ x) a)))

finds_by : (c : Named) (first : Text) (rest : List Text) → level_fault (shape_by c) [] nothing_held rest false [] ≡ []
    → AreFull (rows_after (shape_by c).rules [] rest) → check_fault (shape_by c) (rows_after (shape_by c).rules [] rest) false ≡ []
    → Finds c (first ∷ name_of c ∷ rest) (rows_after (shape_by c).rules [] rest)
finds_by (reading r) first rest e full none =
    let read = words_read (word_of r) rest e in
    (read.0, (read.1.1, spelled r first rest read.0 read.1.0))
finds_by checking first rest e full none =
    let rows = rows_after check_sub.rules [] rest in
    let file = given_value input rows (one_given (is_given input rows) none) full in
    (file.0, (file.1, workers_in rows (workers_there (after_case (settled check_sub.rules (walk check_sub.rules [] nothing_held rest).held).rows)) full))
finds_by running first rest e full none =
    let rows = rows_after run_sub.rules [] rest in
    let file = given_value input rows (one_given (is_given input rows) none) full in
    (file.0, (file.1, workers_in rows (workers_there (after_case (settled run_sub.rules (walk run_sub.rules [] nothing_held rest).held).rows)) full))
finds_by ordering first rest e full none =
    let rows = rows_after order_sub.rules [] rest in
    let given = both_given (is_given input rows) (is_given path rows) none in
    let file = given_value input rows given.0 full in
    let out = given_value path rows given.1 full in
    (file.0, (file.1, (out.0, out.1)))
finds_by drawing first rest e full none =
    let rows = rows_after draw_sub.rules [] rest in
    let given = both_given (is_given input rows) (is_given path rows) none in
    let file = given_value input rows given.0 full in
    let out = given_value path rows given.1 full in
    let many = workers_in rows (workers_there (after_page (settled draw_sub.rules (walk draw_sub.rules [] nothing_held rest).held).rows)) full in
    (file.0, (file.1, (out.0, (out.1, checked 0 most start rows refl full, checked 0 most count rows refl full, many))))
finds_by migrating first rest e full none =
    let rows = rows_after migrate_sub.rules [] rest in
    let given = both_given (is_given input rows) (is_given path rows) none in
    let file = given_value input rows given.0 full in
    let out = given_value path rows given.1 full in
    (file.0, (file.1, (out.0, out.1)))
finds_by salvaging first rest e full none =
    let rows = rows_after salvage_sub.rules [] rest in
    let given = both_given (is_given input rows) (is_given path rows) none in
    let file = given_value input rows given.0 full in
    let out = given_value path rows given.1 full in
    (file.0, (file.1, (out.0, out.1)))
finds_by wiring first rest e full none =
    let rows = rows_after wire_sub.rules [] rest in
    let given = both_given (is_given input rows) (is_given other rows) none in
    let file = given_value input rows given.0 full in
    let another = given_value other rows given.1 full in
    (file.0, (file.1, (another.0, another.1)))
finds_by joining first rest e full none =
    let rows = rows_after join_sub.rules [] rest in
    let given = both_given (is_given input rows) (is_given path rows) none in
    let file = given_value input rows given.0 full in
    let out = given_value path rows given.1 full in
    (file.0, (file.1, (out.0, out.1)))
finds_by graphing first rest e full none =
    let rows = rows_after graph_sub.rules [] rest in
    let case = given_value input rows (one_given (is_given input rows) none) full in
    (case.0, (case.1, workers_in rows (workers_there (after_dot (settled graph_sub.rules (walk graph_sub.rules [] nothing_held rest).held).rows)) full))
finds_by framing first rest e full none =
    let rows = rows_after frame_sub.rules [] rest in
    let hex = given_value input rows (one_given (is_given input rows) none) full in
    (hex.0, (hex.1, tt))
finds_by listing first rest e full none =
    let rows = rows_after records_sub.rules [] rest in
    let file = given_value input rows (one_given (is_given input rows) none) full in
    (file.0, (file.1, (checked 0 most start rows refl full, checked 0 most count rows refl full)))

abbrev pub Reads : List Text → Type 0
Reads words = (c : Named) × ((rows : List Row) × ((subcommand_of program words ≡ Some (name_of c, rows)) × Finds c words rows))

reads_command : (c : Named) (first : Text) (rest : List Text) → level_fault (shape_by c) [] nothing_held rest false [] ≡ [] → Reads (first ∷ name_of c ∷ rest)
unfolding clap_on_literals
reads_command c first rest e =
    let rows = rows_after (shape_by c).rules [] rest in
    let full = level_full (shape_by c) (brings c) [] rest e in
    (c, (rows, (ap (entered (built program)) (stop_at c rest) ∙ entered_rows c rest, finds_by c first rest e full.0 full.1)))

-- where clap finds no fault in the words, they begin with a command's name, and clap finds what it reads
pub reads : (words : List Text) → fault_of program words ≡ [] → Reads words
unfolding clap_on_literals
reads [] e = absurd (never e)
reads (first ∷ words) e =
    let m = main_read words e in
    subst (λ (ws : List Text). Reads (first ∷ ws)) (sym m.1.1) (reads_command m.0 first m.1.0 m.1.2)
