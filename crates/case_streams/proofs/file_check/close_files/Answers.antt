use Rattle.std.proofs.Common.{inr, length, map, option_map, string_bytes, arith, subst}
use Rattle.std.proofs.lemmas.List.{length-map}
use Rattle.case_files.specs.CaseReading.{NamedOrderComes}
use Rattle.case_streams.specs.Glue.{with_value}
use Rattle.case_streams.proofs.Closed.{all_closed, all_named}
use Rattle.case_streams.proofs.Together.{files_come}
use Rattle.case_streams.proofs.file_check.close_files.Goals as goal

pub returns-clause-comes : goal.returns-clause-comes
returns-clause-comes g c = λ whole given are opened.
    let gives = g.S.Source.read_gives in
    let names = map string_bytes c.args.names.now in
    let none = c.in_ok-close_headless.ensures.ok in
    let many = all_named g.S.Reader.Pieces.so_far (length c.args.names.now) c.args.logs.now c.requires none.1 in
    let up = rw c.deref.ensures.value at (c.in_ok-close_logs.ensures whole (rw c.deref.ensures.value are)) in
    let come = all_closed gives names c.args.source.now c.close_logs.new.source (length c.args.logs.now.lanes.items) whole (let long = length-map c.args.names.now string_bytes in omega (arith, many, long)) up in
    inr (files_come gives names (option_map string_bytes c.args.order_name.now) c.args.source.now c.close_order.new.source whole given c.close_logs.new.source c.close_order.result come
    (subst (λ s. NamedOrderComes gives (option_map string_bytes c.args.order_name.now) s (with_value given c.close_order.result) c.close_order.new.source) none.0 (c.close_order.ensures.comes given opened)))
