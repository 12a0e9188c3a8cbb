-- The commands and their names.
use Rattle.std.proofs.Common.{◌≡◌, ◌⊎◌, ◌∙◌, ◌∷◌, [], List, if◌then◌else◌, codes, refl, sym, ap, inl, inr}
use Rattle.std.specs.Str.{bytes_eq}
use Rattle.clap.specs.Words.{Text}
use Rattle.command_line.specs.Spelled.{IsReader}

-- the commands that read one thing
pub data Reader : Type 0 where
  of_vat : Reader
  of_frames : Reader

abbrev pub word_of : Reader → Text
word_of of_vat = codes "vat"
word_of of_frames = codes "frames"

-- all commands
pub data Named : Type 0 where
  reading : Reader → Named
  checking : Named
  running : Named
  ordering : Named
  drawing : Named
  migrating : Named
  salvaging : Named
  listing : Named
  graphing : Named
  framing : Named
  wiring : Named
  joining : Named

abbrev pub name_of : Named → Text
name_of (reading r) = word_of r
name_of checking = codes "check"
name_of running = codes "run"
name_of ordering = codes "order"
name_of drawing = codes "draw"
name_of listing = codes "records"
name_of migrating = codes "migrate"
name_of salvaging = codes "salvage"
name_of graphing = codes "graph"
name_of framing = codes "frame"
name_of wiring = codes "wire"
name_of joining = codes "join"

-- the names, as clap has them, of which the last is its own
abbrev pub help_word : Text
help_word = codes "help"

abbrev pub all_names : List Text
all_names =
    codes "check" ∷ codes "order" ∷ codes "graph" ∷ codes "run" ∷ codes "draw" ∷ codes "vat" ∷ codes "records" ∷ codes "frame" ∷ codes "frames" ∷ codes "migrate" ∷ codes "salvage" ∷ codes "wire" ∷ codes "join" ∷ help_word ∷ []

abbrev pub IsOneOf : List Text → Text → Type 0
IsOneOf [] w = ⊥
IsOneOf (n ∷ ns) w = (w ≡ n) ⊎ IsOneOf ns w

pub which : (w : Text) → IsOneOf all_names w → ((c : Named) × (w ≡ name_of c)) ⊎ (w ≡ help_word)
which w (inl is) = inl (checking, is)
which w (inr (inl is)) = inl (ordering, is)
which w (inr (inr (inl is))) = inl (graphing, is)
which w (inr (inr (inr (inl is)))) = inl (running, is)
which w (inr (inr (inr (inr (inl is))))) = inl (drawing, is)
which w (inr (inr (inr (inr (inr (inl is)))))) = inl (reading of_vat, is)
which w (inr (inr (inr (inr (inr (inr (inl is))))))) = inl (listing, is)
which w (inr (inr (inr (inr (inr (inr (inr (inl is)))))))) = inl (framing, is)
which w (inr (inr (inr (inr (inr (inr (inr (inr (inl is))))))))) = inl (reading of_frames, is)
which w (inr (inr (inr (inr (inr (inr (inr (inr (inr (inl is)))))))))) = inl (migrating, is)
which w (inr (inr (inr (inr (inr (inr (inr (inr (inr (inr (inl is))))))))))) = inl (salvaging, is)
which w (inr (inr (inr (inr (inr (inr (inr (inr (inr (inr (inr (inl is)))))))))))) = inl (wiring, is)
which w (inr (inr (inr (inr (inr (inr (inr (inr (inr (inr (inr (inr (inl is))))))))))))) = inl (joining, is)
which w (inr (inr (inr (inr (inr (inr (inr (inr (inr (inr (inr (inr (inr (inl is)))))))))))))) = inr is
which w (inr (inr (inr (inr (inr (inr (inr (inr (inr (inr (inr (inr (inr (inr none)))))))))))))) = absurd none

-- a command by its name
abbrev by_name : Text → Named
by_name w =
    if bytes_eq w (codes "check") then checking else (if bytes_eq w (codes "order") then ordering else (if bytes_eq w (codes "graph") then graphing
    else (if bytes_eq w (codes "run") then running else (if bytes_eq w (codes "draw") then drawing else (if bytes_eq w (codes "vat") then reading of_vat
    else (if bytes_eq w (codes "records") then listing else (if bytes_eq w (codes "frame") then framing
    else (if bytes_eq w (codes "migrate") then migrating else (if bytes_eq w (codes "salvage") then salvaging else (if bytes_eq w (codes "wire") then wiring
    else (if bytes_eq w (codes "join") then joining else reading of_frames)))))))))))

by_its_name : (c : Named) → by_name (name_of c) ≡ c
by_its_name running = refl
by_its_name (reading of_vat) = refl
by_its_name (reading of_frames) = refl
by_its_name checking = refl
by_its_name ordering = refl
by_its_name drawing = refl
by_its_name listing = refl
by_its_name migrating = refl
by_its_name salvaging = refl
by_its_name graphing = refl
by_its_name framing = refl
by_its_name wiring = refl
by_its_name joining = refl

-- so no two have one name
pub same_command : (a b : Named) → name_of a ≡ name_of b → a ≡ b
same_command a b same = sym (by_its_name a) ∙ ap by_name same ∙ by_its_name b

-- a command that may be given one thing alone reads nothing else, or is `graph`, `frame` or `run`
pub reader_of : (name : Text) → IsReader name → ((r : Reader) × (name ≡ word_of r)) ⊎ ((name ≡ name_of graphing) ⊎ ((name ≡ name_of framing) ⊎ (name ≡ name_of running)))
reader_of name (inl is) = inr (inl is)
reader_of name (inr (inl is)) = inr (inr (inr is))
reader_of name (inr (inr (inl is))) = inl (of_vat, is)
reader_of name (inr (inr (inr (inl is)))) = inr (inr (inl is))
reader_of name (inr (inr (inr (inr is)))) = inl (of_frames, is)

-- a command that has none of the other names is `frames`
pub last_command : (c : Named) (name : Text) → name ≡ name_of c → (name ≡ codes "check" → ⊥) → (name ≡ codes "order" → ⊥) → (name ≡ codes "graph" → ⊥) → (name ≡ codes "run" → ⊥)
    → (name ≡ codes "draw" → ⊥) → (name ≡ codes "vat" → ⊥) → (name ≡ codes "records" → ⊥) → (name ≡ codes "frame" → ⊥) → (name ≡ codes "migrate" → ⊥) → (name ≡ codes "salvage" → ⊥) → (name ≡ codes "wire" → ⊥) → (name ≡ codes "join" → ⊥) → name ≡ codes "frames"
last_command checking name is no_check no_order no_graph no_run no_draw no_vat no_records no_frame no_migrate no_salvage no_wire no_join = absurd (no_check is)
last_command ordering name is no_check no_order no_graph no_run no_draw no_vat no_records no_frame no_migrate no_salvage no_wire no_join = absurd (no_order is)
last_command drawing name is no_check no_order no_graph no_run no_draw no_vat no_records no_frame no_migrate no_salvage no_wire no_join = absurd (no_draw is)
last_command graphing name is no_check no_order no_graph no_run no_draw no_vat no_records no_frame no_migrate no_salvage no_wire no_join = absurd (no_graph is)
last_command running name is no_check no_order no_graph no_run no_draw no_vat no_records no_frame no_migrate no_salvage no_wire no_join = absurd (no_run is)
last_command (reading of_vat) name is no_check no_order no_graph no_run no_draw no_vat no_records no_frame no_migrate no_salvage no_wire no_join = absurd (no_vat is)
last_command listing name is no_check no_order no_graph no_run no_draw no_vat no_records no_frame no_migrate no_salvage no_wire no_join = absurd (no_records is)
last_command framing name is no_check no_order no_graph no_run no_draw no_vat no_records no_frame no_migrate no_salvage no_wire no_join = absurd (no_frame is)
last_command migrating name is no_check no_order no_graph no_run no_draw no_vat no_records no_frame no_migrate no_salvage no_wire no_join = absurd (no_migrate is)
last_command salvaging name is no_check no_order no_graph no_run no_draw no_vat no_records no_frame no_migrate no_salvage no_wire no_join = absurd (no_salvage is)
last_command wiring name is no_check no_order no_graph no_run no_draw no_vat no_records no_frame no_migrate no_salvage no_wire no_join = absurd (no_wire is)
last_command joining name is no_check no_order no_graph no_run no_draw no_vat no_records no_frame no_migrate no_salvage no_wire no_join = absurd (no_join is)
last_command (reading of_frames) name is no_check no_order no_graph no_run no_draw no_vat no_records no_frame no_migrate no_salvage no_wire no_join = is
