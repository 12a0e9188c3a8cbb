-- For the code's contracts, and no part of the meaning: how what several numbers stand for is kept.
use Rattle.std.specs.Prelude.{List, [], ◌∷◌, Option}
use Rattle.vat_rules.specs.Types.{View}
use Rattle.vat_rules.specs.declared.facts.view_list.Viewed.{Viewed}
use Rattle.vat_rules.specs.declared.facts.view_list.Viewed.TheVariants as viewed

-- the views that are kept so
abbrev pub views_of : Viewed → List (Option View)
views_of (viewed.One v) = v ∷ []
views_of (viewed.Several vs) = vs.items
