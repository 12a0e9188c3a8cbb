use Rattle.std.proofs.Common.{◌≡◌, ◌+◌, ◌-◌, ◌<◌, List, length, map, refl, ap, ◌∙◌, subst, arith, Global}
use Rattle.std.specs.Arc.{arc_value}
use Rattle.std.specs.declared.sync.Arc.{Arc}
use Rattle.std.specs.Option.{option_map}
use Rattle.std.proofs.lemmas.List.{length-map}
use Rattle.std.proofs.lemmas.Option.{slice_get-map, slice_get_read}
use Rattle.vat_log.specs.declared.log.VatLog.{VatLog}
use Rattle.case_book.specs.Case.{Contents}
use Rattle.case_book.specs.Ties.{tie_fault_of, has_log}
use Rattle.case_book.specs.Pieces.{IsForPiece, IsComparisonOf}
use Rattle.case_book.specs.declared.piece_finding.Finding.TheVariants as finding
use Rattle.case_book.proofs.Numbered.{vat_found, link_found}
use Rattle.case_book.proofs.Tied.{has_ends}
use Rattle.case_book.proofs.case.Case.find.Goals as goal

pub returns-then-number-len : goal.returns-then-number-len
returns-then-number-len c =
    let held : Contents = record { logs = map (arc_value {X = VatLog} {Z = Global}) c.self.inside.logs.items; links = c.self.inside.links.items } in
    let within : c.args.piece.number < length c.self.inside.logs.items = omega (arith, c.if-number-len.true, c.len.ensures, c.self.inside.logs.ok.0) in
    let at = slice_get-map (arc_value {X = VatLog} {Z = Global}) c.self.inside.logs.items c.args.piece.number
    ∙ ap (option_map (arc_value {X = VatLog} {Z = Global})) (slice_get_read c.self.inside.logs.items (length c.self.inside.logs.items) c.args.piece.number c.index.result.now refl within c.index.ensures) in
    subst (λ (h : Contents). IsForPiece h (finding.Vat c.in_ok-audit_log.field-0) c.args.piece.number) c.self.view_is
    (vat_found held c.in_ok-audit_log.field-0 c.args.piece.number (arc_value {X = VatLog} {Z = Global} c.index.result.now) at c.in_ok-audit_log.ensures)

pub compare_ends-requires-clause-first : goal.compare_ends-requires-clause-first
compare_ends-requires-clause-first c =
    let held : Contents = record { logs = map (arc_value {X = VatLog} {Z = Global}) c.self.inside.logs.items; links = c.self.inside.links.items } in
    let k = c.args.piece.number - c.len-2.result in
    let within : k < length c.self.inside.links.items = omega (arith, c.if-at-len.true, c.len-3.ensures, c.self.inside.links.ok.0) in
    let at = slice_get_read c.self.inside.links.items (length c.self.inside.links.items) k c.index-then-at-len.result.now refl within c.index-then-at-len.ensures in
    let ends = has_ends held (ap tie_fault_of c.self.view_is ∙ c.requires) k c.index-then-at-len.result.now at in
    ap (λ (logs : List (Arc VatLog Global)). has_log (map arc_value logs) c.index-then-at-len.result.now.a) c.deref.ensures.value ∙ ends.first

pub compare_ends-requires-clause-second : goal.compare_ends-requires-clause-second
compare_ends-requires-clause-second c =
    let held : Contents = record { logs = map (arc_value {X = VatLog} {Z = Global}) c.self.inside.logs.items; links = c.self.inside.links.items } in
    let k = c.args.piece.number - c.len-2.result in
    let within : k < length c.self.inside.links.items = omega (arith, c.if-at-len.true, c.len-3.ensures, c.self.inside.links.ok.0) in
    let at = slice_get_read c.self.inside.links.items (length c.self.inside.links.items) k c.index-then-at-len.result.now refl within c.index-then-at-len.ensures in
    let ends = has_ends held (ap tie_fault_of c.self.view_is ∙ c.requires) k c.index-then-at-len.result.now at in
    ap (λ (logs : List (Arc VatLog Global)). has_log (map arc_value logs) c.index-then-at-len.result.now.b) c.deref.ensures.value ∙ ends.second

pub compare_ends-requires-clause-apart : goal.compare_ends-requires-clause-apart
compare_ends-requires-clause-apart c =
    let held : Contents = record { logs = map (arc_value {X = VatLog} {Z = Global}) c.self.inside.logs.items; links = c.self.inside.links.items } in
    let k = c.args.piece.number - c.len-2.result in
    let within : k < length c.self.inside.links.items = omega (arith, c.if-at-len.true, c.len-3.ensures, c.self.inside.links.ok.0) in
    let at = slice_get_read c.self.inside.links.items (length c.self.inside.links.items) k c.index-then-at-len.result.now refl within c.index-then-at-len.ensures in
    let ends = has_ends held (ap tie_fault_of c.self.view_is ∙ c.requires) k c.index-then-at-len.result.now at in
    ends.apart

pub returns-then-at-len : goal.returns-then-at-len
returns-then-at-len c =
    let held : Contents = record { logs = map (arc_value {X = VatLog} {Z = Global}) c.self.inside.logs.items; links = c.self.inside.links.items } in
    let k = c.args.piece.number - c.len-2.result in
    let within : k < length c.self.inside.links.items = omega (arith, c.if-at-len.true, c.len-3.ensures, c.self.inside.links.ok.0) in
    let at = slice_get_read c.self.inside.links.items (length c.self.inside.links.items) k c.index-then-at-len.result.now refl within c.index-then-at-len.ensures in
    let own = subst (λ (logs : List (Arc VatLog Global)). IsComparisonOf (map arc_value logs) c.index-then-at-len.result.now c.in_ok-compare_ends.field-0) c.deref.ensures.value c.in_ok-compare_ends.ensures in
    let number : c.args.piece.number ≡ length (map (arc_value {X = VatLog} {Z = Global}) c.self.inside.logs.items) + k =
    omega (arith, length-map c.self.inside.logs.items (arc_value {X = VatLog} {Z = Global}), c.if-number-len.false, c.len.ensures, c.len-2.ensures, c.self.inside.logs.ok.0) in
    subst (λ (h : Contents). IsForPiece h (finding.Link c.in_ok-compare_ends.field-0) c.args.piece.number) c.self.view_is
    (link_found held c.in_ok-compare_ends.field-0 c.args.piece.number k c.index-then-at-len.result.now number at own)
