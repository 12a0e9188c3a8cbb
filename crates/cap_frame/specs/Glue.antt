-- For the code's contracts, and no part of the meaning: how the numbers of a path are kept.
use Rattle.std.specs.Prelude.{ℕ, List, []}
use Rattle.std.specs.Arc.{arc_value}
use Rattle.cap_frame.specs.declared.path.Kept.{Kept}
use Rattle.cap_frame.specs.declared.path.Kept.TheVariants as kept

-- the numbers that are kept so
abbrev pub numbers_of : Kept → List ℕ
numbers_of kept.Nothing = []
numbers_of (kept.One numbers) = numbers
numbers_of (kept.Two numbers) = numbers
numbers_of (kept.Three numbers) = numbers
numbers_of (kept.Four numbers) = numbers
numbers_of (kept.Many many) = (arc_value many).items
