use Rattle.std.proofs.Common.{length, map, string_bytes}
use Rattle.case_streams.proofs.Closed.{headless_fails, name_at, named, none_begins}
use Rattle.case_streams.proofs.closing.close_headless.Goals as goal

pub returns-clause-err : goal.returns-clause-err
returns-clause-err g c =
    let so_far = g.S.Reader.Pieces.so_far in
    let many = named so_far (length c.args.names.now) c.args.logs.now (c.in-Some.fault, c.in-Some.reader) c.requires c.in-Some.is in
    let bad = none_begins so_far (length c.args.names.now) c.args.logs.now (c.in-Some.fault, c.in-Some.reader) c.requires c.in-Some.is in
    let comes = rw c.as_str.ensures.value at (c.close_bad.ensures bad) in
    headless_fails g.S.Source.read_gives (map string_bytes c.args.names.now) (length c.args.logs.now.lanes.items) (string_bytes c.index-names-len.result) c.args.source.now c.close_bad.new.source c.close_bad.result
    (name_at c.args.names.now (length c.args.logs.now.lanes.items) c.index-names-len.result many (rw (c.len.ensures, c.args.logs.now.lanes.ok.0) at c.index-names-len.is)) comes
