use Rattle.std.proofs.Common.{◌≡◌, ◌+◌, ◌++◌, List, Global, String, codes, map, string_bytes, sym, subst, rules}
use Rattle.std.specs.Fmt.{decimal}
use Rattle.case_files.specs.FileNames.{IsCounted}
use Rattle.case_files.proofs.FileNaming.{name_counted}
use Rattle.case_files.proofs.folder_names.counted_names.Goals as goal

pub loop-place-preserved : goal.loop-place-preserved
loop-place-preserved c =
    let named : string_bytes c.in_ok-format.field-0 ≡ decimal (c.loop-place.place + 1) ++ codes ".log" = search rules in
    subst (λ (names : List (String Global)). IsCounted (c.loop-place.place + 1) (map string_bytes names)) (sym c.in_ok-push.ensures.items)
    (name_counted c.loop-place.place c.loop-place.names.items c.in_ok-format.field-0 c.loop-place.invariant named)
