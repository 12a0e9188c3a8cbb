-- Edges as a program has them, told as run_model's.
use Rattle.run_model.specs.Edges.{Edge}
use Rattle.authority.specs.declared.edge.Edge.{Edge as Shown}

-- the same vat, cap, record and index
abbrev pub edge_of : Shown → Edge
edge_of shown = record { vat = shown.vat; cap = shown.cap; at_record = shown.at_record; bound_index = shown.bound_index }
