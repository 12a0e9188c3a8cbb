use Rattle.std.proofs.Common.{◌≡◌, ◌∙◌, length, map, string_bytes, sym, subst, arith}
use Rattle.case_files.specs.Glue.{NamesAreApartUpTo}
use Rattle.case_files.proofs.FileNaming.{all_apart, apart_more, length_map, name_there, not_apart}
use Rattle.case_files.proofs.folder_names.are_apart.Goals as goal

pub returns-then-is_taken : goal.returns-then-is_taken
returns-then-is_taken c =
    let at = name_there c.args.names.now c.loop-place.place c.index-names-place.result c.loop-place-test.true c.index-names-place.is in
    let taken = rw c.as_str.ensures.value at c.if-is_taken.ensures in
    not_apart (map string_bytes c.args.names.now) c.loop-place.place (string_bytes c.index-names-place.result) at taken

pub loop-place-preserved : goal.loop-place-preserved
loop-place-preserved c =
    let at = name_there c.args.names.now c.loop-place.place c.index-names-place.result c.loop-place-test.true c.index-names-place.is in
    let free = rw c.as_str.ensures.value at c.if-is_taken.ensures in
    apart_more (map string_bytes c.args.names.now) c.loop-place.place (string_bytes c.index-names-place.result) at c.loop-place.invariant free

pub returns : goal.returns
returns c =
    let whole : c.loop-place.place ≡ length c.args.names.now = omega (arith, c.loop-place-test.false, c.loop-place.auto) in
    all_apart (map string_bytes c.args.names.now) (subst (λ n. NamesAreApartUpTo (map string_bytes c.args.names.now) n) (whole ∙ sym (length_map c.args.names.now)) c.loop-place.invariant)
