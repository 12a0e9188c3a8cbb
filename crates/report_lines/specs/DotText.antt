-- The text of the edges of a run as a graph in the DOT language, which Graphviz draws: a node for each vat, and an edge from the
-- vat that came to have a capability to the vat whose it is.
use Rattle.std.specs.Prelude.{ℕ, List, ◌++◌, codes}
use Rattle.std.specs.Fmt.{decimal}
use Rattle.run_model.specs.Edges.{Edge}
use Rattle.run_model.specs.declared.cap.Cap.{Cap}
use Rattle.run_model.specs.declared.cap.Cap.TheVariants.{Object, Promise, Field, Nothing}
use Rattle.report_lines.specs.declared.dot_text.DotBound.{DotBound}
use Rattle.report_lines.specs.declared.dot_text.DotBound.TheVariants.{Head, End}
use Rattle.report_lines.specs.EdgeText.{cap_text}

-- the graph's first line, and its last
abbrev pub bound_text : DotBound → List ℕ
bound_text Head = codes "digraph capabilities {"
bound_text End = codes "}"

-- a vat's node
abbrev pub node_text : ℕ → List ℕ
node_text vat = codes "\"vat " ++ (decimal vat ++ codes "\"")

-- the node of the vat whose capability it is; no edge leads to nothing
abbrev pub owner_text : Cap → List ℕ
owner_text (Object vat object) = node_text vat
owner_text (Promise vat promise) = node_text vat
owner_text (Field call path) = node_text call.maker
owner_text Nothing = codes "\"none\""

-- an edge, with the capability and the record beside it, which are two lines of its label
abbrev pub dot_edge_text : Edge → List ℕ
dot_edge_text edge =
    codes "  " ++ (node_text edge.vat ++ (codes " -> " ++ (owner_text edge.cap
    ++ (codes " [label=\"" ++ (cap_text edge.cap ++ (codes "\\nrecord " ++ (decimal edge.at_record ++ codes "\"];")))))))
