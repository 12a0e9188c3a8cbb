-- The text of an edge of a run: which vat came to have which capability of another, and by which of its records first.
use Rattle.std.specs.Prelude.{ℕ, List, ◌++◌, codes}
use Rattle.std.specs.Fmt.{decimal}
use Rattle.run_model.specs.Edges.{Edge}
use Rattle.run_model.specs.declared.name.Name.{Name}
use Rattle.run_model.specs.declared.cap.Cap.{Cap}
use Rattle.run_model.specs.declared.cap.Cap.TheVariants.{Object, Promise, Field, Nothing}
use Rattle.report_lines.specs.MessageText.{path_text}

-- a vat number and that vat's own number of something: 3.9
abbrev pub owned_text : ℕ → ℕ → List ℕ
owned_text vat number = decimal vat ++ (codes "." ++ decimal number)

-- a call, by its maker and that vat's number of it
abbrev pub name_text : Name → List ℕ
name_text call = owned_text call.maker call.number

-- a capability, as all vats name it
abbrev pub cap_text : Cap → List ℕ
cap_text (Object vat object) = codes "obj " ++ owned_text vat object
cap_text (Promise vat promise) = codes "prom " ++ owned_text vat promise
cap_text (Field call path) = codes "field " ++ (name_text call ++ (codes " " ++ path_text path))
cap_text Nothing = codes "none"

-- an edge
abbrev pub edge_text : Edge → List ℕ
edge_text edge = codes "edge vat " ++ (decimal edge.vat ++ (codes " to " ++ (cap_text edge.cap ++ (codes " record " ++ decimal edge.at_record))))
