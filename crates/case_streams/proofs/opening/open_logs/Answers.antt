use Rattle.std.proofs.Common.{◌+◌, ◌∙◌, [], None, length, refl, sym, ap, subst}
use Rattle.std.proofs.lemmas.List.{length_push}
use Rattle.stream_audit.specs.Streamed.{AreFresh}
use Rattle.case_streams.proofs.Opened.{fresh_more, no_records}
use Rattle.case_streams.proofs.opening.open_logs.Goals as goal

pub new-requires : goal.new-requires
new-requires g c = no_records c.in-Ok.stream.came.bytes c.in-Ok.stream.log c.in-Ok.ensures.begun c.in-Ok.ensures.header

pub loop-name-preserved : goal.loop-name-preserved
loop-name-preserved g c =
    let none = no_records c.in-Ok.stream.came.bytes c.in-Ok.stream.log c.in-Ok.ensures.begun c.in-Ok.ensures.header in (
      c.open.ensures.same ∙ c.loop-name.invariant.0,
      subst AreFresh (sym c.in_ok-push-in-Ok.ensures.items) (fresh_more c.loop-name.lanes.items c.new.result c.loop-name.invariant.1 (record { lane = record { read = c.in-Ok.stream; ahead = []; ending = None }; there = c.new.ensures; none = none; ahead = refl })),
      ap (λ ls. length ls) c.in_ok-push-in-Ok.ensures.items ∙ length_push c.loop-name.lanes.items c.new.result ∙ ap (λ n. n + 1) c.loop-name.invariant.2,
    )
