-- No kind of fault.
use Rattle.std.proofs.Common.{◌≡◌, [], ◌∷◌, refl}
use Rattle.clap.specs.Words.{Kinds}
use Rattle.clap.specs.Kinds.{or_else}
use Rattle.clap.specs.declared.error.ErrorKind.{ErrorKind}

pub never : {k : ErrorKind} {ks : Kinds} → k ∷ ks ≡ [] → ⊥
never e = cc

pub then_none : (a b : Kinds) → or_else a b ≡ [] → b ≡ []
then_none [] b e = e
then_none (k ∷ ks) b e = absurd (never e)

pub first_none : (a b : Kinds) → or_else a b ≡ [] → a ≡ []
first_none [] b e = refl
first_none (k ∷ ks) b e = e
