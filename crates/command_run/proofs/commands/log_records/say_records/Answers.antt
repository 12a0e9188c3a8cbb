use Rattle.std.proofs.Common.{[], Err, refl}
use Rattle.std.proofs.KnownBytes.{Appends-nil}
use Rattle.byte_pieces.proofs.Coming.{comes_then}
use Rattle.case_files.proofs.Openings.{is_of_still}
use Rattle.command_run.proofs.Listing.{header_empty, listing_ended, none_until, torn_closed}
use Rattle.command_run.proofs.commands.log_records.say_records.Goals as goal

pub list_stream-requires-clause-none : goal.list_stream-requires-clause-none
list_stream-requires-clause-none g c = header_empty c.in-Ok.stream.came.bytes c.in-Ok.stream.log c.in-Ok.ensures.header

pub returns-in-Ok-list_stream : goal.returns-in-Ok-list_stream
returns-in-Ok-list_stream g c =
    let listed = c.in-Ok-list_stream.ensures.lines in
    let ended = c.ended.ensures in
    let known = g.S.Source.holds c.args.source.now c.args.name.now in
    let opened = g.S.Reader.Pieces.so_far c.open.result in
    let came = c.list_stream.new.stream.came in
    let on = comes_then opened c.in-Ok.stream.came came c.in-Ok.ensures.on c.list_stream.ensures.on in
    let of = is_of_still known opened came on c.pieces.ensures.part c.open.ensures.of in (
      ended.0,
      rw c.open.ensures.same at ended.1,
      listing_ended g.O.Output.contents g.O.Output.is_finished c.args.out.now c.list_stream.new.out c.say_end.new.out known c.args.range.from c.args.range.count listed.0 c.in-Ok-list_stream.listed
          came _ ended.0 c.ended.result c.say_end.result listed.1 of listed.2 c.pieces.ensures.came ended.2
          c.say_end.ensures.status c.say_end.ensures.line,
    )

pub returns-in-Ok : goal.returns-in-Ok
returns-in-Ok g c =
    let listed = c.in-Err-list_stream.ensures.lines in
    let known = g.S.Source.holds c.args.source.now c.args.name.now in
    let opened = g.S.Reader.Pieces.so_far c.open.result in
    let came = c.list_stream.new.stream.came in
    let on = comes_then opened c.in-Ok.stream.came came c.in-Ok.ensures.on c.list_stream.ensures.on in
    let of = is_of_still known opened came on c.pieces-in-Err-list_stream.ensures.part c.open.ensures.of in
    torn_closed (Unit {0}) g.S.Source.read_gives c.args.source.now c.close.new.self c.args.name.now known c.args.range.from c.args.range.count listed.0 came _
    _ c.close.result of listed.1 c.pieces-in-Err-list_stream.ensures.came (rw c.open.ensures.same at c.close.ensures)

pub returns : goal.returns
returns g c =
    let ended = c.ended-in-Err.ensures in
    let known = g.S.Source.holds c.args.source.now c.args.name.now in
    let opened = g.S.Reader.Pieces.so_far c.open.result in
    let back = c.in-Err.ensures.back in
    let of = is_of_still known opened _ back.0 back.1 c.open.ensures.of in (
      ended.0,
      rw c.open.ensures.same at ended.1,
      listing_ended g.O.Output.contents g.O.Output.is_finished c.args.out.now c.args.out.now c.say_end-in-Err.new.out known c.args.range.from c.args.range.count [] (Err c.in-Err.fault) _ _
          ended.0 c.ended-in-Err.result c.say_end-in-Err.result (Appends-nil (g.O.Output.contents c.args.out.now)) of
          (none_until (Unit {0}) c.args.range.from c.args.range.count c.in-Err.fault _ c.in-Err.ensures.err) refl ended.2 c.say_end-in-Err.ensures.status c.say_end-in-Err.ensures.line,
    )
