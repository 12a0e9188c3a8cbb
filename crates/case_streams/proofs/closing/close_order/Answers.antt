use Rattle.std.proofs.Common.{Some, false, ap, ◌∙◌, string_bytes}
use Rattle.std.proofs.lemmas.Result.{err_from_is_err_and}
use Rattle.case_streams.proofs.Closed.{bad_order, fault_of_file, order_of_file, read_order, unread_order}
use Rattle.case_streams.specs.declared.opening.OrderFault.TheVariants.{Bad}
use Rattle.case_streams.proofs.closing.close_order.Goals as goal

pub returns-in_err-close-clause-comes : goal.returns-in_err-close-clause-comes
returns-in_err-close-clause-comes g c = λ given so.
    let p = err_from_is_err_and c.from_residual.result c.from_residual.ensures.1 in
    let none = rw c.as_str.ensures.value at c.in_err-close.ensures in
    rw c.in-Some-Some.is-0 (rw (p.1, p.2) (unread_order g.S.Source.read_gives c.args.source.now c.close.new.self (string_bytes c.in-Some-Some.name) (g.S.Reader.Pieces.so_far c.in-Some-Some.order.reader) c.in_err-close.field-0.0 none))

pub returns-in_default-fault-clause-comes : goal.returns-in_default-fault-clause-comes
returns-in_default-fault-clause-comes g c = λ given so.
    let so_far = g.S.Reader.Pieces.so_far in
    let file = c.in-Some-Some.order in
    let opened = rw (c.in-Some-Some.is-0, c.in-Some-Some.is-1) at so in
    let closed = rw c.as_str.ensures.value at c.in_ok-close.ensures in
    let one = order_of_file so_far (string_bytes c.in-Some-Some.name) given file opened c.in_default-fault.is in
    rw (c.in-Some-Some.is-0, one.1) (read_order g.S.Source.read_gives c.args.source.now c.close.new.self (string_bytes c.in-Some-Some.name) (so_far file.reader) one.0 false closed one.2)

pub returns-in_err-close-in-CannotRead-clause-comes : goal.returns-in_err-close-in-CannotRead-clause-comes
returns-in_err-close-in-CannotRead-clause-comes g c = λ given so.
    let p = err_from_is_err_and c.from_residual-in_err-close-in-CannotRead.result c.from_residual-in_err-close-in-CannotRead.ensures.1 in
    let none = rw c.as_str-in-CannotRead.ensures.value at c.in_err-close-in-CannotRead.ensures in
    rw c.in-Some-Some.is-0 (rw (p.1, p.2) (unread_order g.S.Source.read_gives c.args.source.now c.close-in-CannotRead.new.self (string_bytes c.in-Some-Some.name) (g.S.Reader.Pieces.so_far c.in-Some-Some.order.reader) c.in_err-close-in-CannotRead.field-0.0 none))

pub returns-in_err-close-in-Bad-clause-comes : goal.returns-in_err-close-in-Bad-clause-comes
returns-in_err-close-in-Bad-clause-comes g c = λ given so.
    let p = err_from_is_err_and c.from_residual-in_err-close-in-Bad.result c.from_residual-in_err-close-in-Bad.ensures.1 in
    let none = rw c.as_str-in-Bad.ensures.value at c.in_err-close-in-Bad.ensures in
    rw c.in-Some-Some.is-0 (rw (p.1, p.2) (unread_order g.S.Source.read_gives c.args.source.now c.close-in-Bad.new.self (string_bytes c.in-Some-Some.name) (g.S.Reader.Pieces.so_far c.in-Some-Some.order.reader) c.in_err-close-in-Bad.field-0.0 none))

pub returns-in_ok-close-in-Bad-clause-comes : goal.returns-in_ok-close-in-Bad-clause-comes
returns-in_ok-close-in-Bad-clause-comes g c = λ given so.
    let so_far = g.S.Reader.Pieces.so_far in
    let file = c.in-Some-Some.order in
    let opened = rw (c.in-Some-Some.is-0, c.in-Some-Some.is-1) at so in
    let closed = rw c.as_str-in-Bad.ensures.value at c.in_ok-close-in-Bad.ensures in
    let bad = fault_of_file so_far (string_bytes c.in-Some-Some.name) given file (Bad c.in-Bad.found) opened (c.in-Some.is ∙ ap (λ f. Some f) c.in-Bad.is) in
    rw (c.in-Some-Some.is-0, c.from.ensures) (bad_order g.S.Source.read_gives c.args.source.now c.close-in-Bad.new.self (string_bytes c.in-Some-Some.name) (so_far file.reader) c.in-Bad.found false closed bad)
