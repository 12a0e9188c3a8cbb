-- For the code's contracts, and no part of the meaning: edges under their places: vat, record, and index among what the
-- record binds.
use Rattle.std.specs.Prelude.{◌≡◌, ◌↔◌, ℕ, List, map}
use Rattle.std.specs.declared.cmp.Ordering.{Ordering}
use Rattle.std.specs.Ordering.{nat_cmp, ordering_then}
use Rattle.std.specs.BTreeMap.{BTreeMap, IsOrdered}
use Rattle.run_model.specs.Edges.{Edge}
use Rattle.run_model.specs.Steps.{OneOf}
use Rattle.run_model.specs.declared.cap.Cap.{Cap}

-- by vat, then record, then index
abbrev pub place_cmp : ℕ × ℕ × ℕ → ℕ × ℕ × ℕ → Ordering
place_cmp x y = ordering_then (ordering_then (nat_cmp x.0 y.0) (nat_cmp x.1 y.1)) (nat_cmp x.2 y.2)

-- the edge that an entry tells
abbrev pub place_edge : (ℕ × ℕ × ℕ) × Cap → Edge
place_edge entry = record { vat = (entry.0).0; cap = entry.1; at_record = (entry.0).1; bound_index = (entry.0).2 }

-- at each place one cap is bound
abbrev pub IsSingle : List Edge → Type 0
IsSingle edges = (e f : Edge) → OneOf (λ x. x ≡ e) edges → OneOf (λ x. x ≡ f) edges →
    e.vat ≡ f.vat → e.at_record ≡ f.at_record → e.bound_index ≡ f.bound_index → e.cap ≡ f.cap

-- the table has these edges, in order
abbrev pub IsByPlace : List Edge → BTreeMap (ℕ × ℕ × ℕ) Cap → Type 0
IsByPlace edges table = IsOrdered place_cmp table × ((e : Edge) → OneOf (λ x. x ≡ e) (map place_edge table.entries) ↔ OneOf (λ x. x ≡ e) edges)
