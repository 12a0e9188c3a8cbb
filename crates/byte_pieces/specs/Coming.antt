-- Bytes that come in pieces, one behind another.
use Rattle.std.specs.Prelude.{◌≡◌, ℕ, ◌<◌, Bool, true, false, List, [], ◌∷◌, ◌++◌, length, drop, Option, None, Some, IfSome, is_some}
use Rattle.std.specs.Io.KnownBytes.{Consumes}
use Rattle.byte_pieces.specs.declared.fault.PieceFault.{PieceFault}

-- all that came so far, whether no more comes, why no more can be read, once that is so, and the whole, with what is still to
-- come, where it is known
pub record CameSoFar : Type 0 where
  pub bytes : List ℕ
  pub is_over : Bool
  pub fault : Option PieceFault
  pub whole : Option (List ℕ)

-- nothing came yet
pub record IsFresh (came : CameSoFar) : Type 0 where
  pub none : came.bytes ≡ []
  pub begun : came.is_over ≡ false

-- These may be all bytes: those that came so far, with any behind them, or with none where no more comes.
pub record MayBeAll (bytes : List ℕ) (is_over : Bool) (all : List ℕ) : Type 0 where
  pub more : List ℕ
  pub parts : all ≡ bytes ++ more
  pub over : is_over ≡ true → more ≡ []

-- what came is the begin of the whole, and all of it where no more comes
abbrev pub IsPart : CameSoFar → Type 0
IsPart came = IfSome came.whole (MayBeAll came.bytes came.is_over)

-- More came, or nothing: what had come still comes first, of the same whole. Where no more came, or could be read, it stays so.
pub record ComesOn (old new : CameSoFar) : Type 0 where
  pub first : MayBeAll old.bytes old.is_over new.bytes
  pub over : old.is_over ≡ true → new.is_over ≡ true
  pub whole : new.whole ≡ old.whole
  pub fault : is_some old.fault ≡ true → new ≡ old

-- nothing came, and at most it can't be read any more
abbrev pub CameNothing : CameSoFar → CameSoFar → Type 0
CameNothing old new = new ≡ record old { fault = new.fault }

-- One more piece came, which isn't empty: behind all that came before, and in the window behind the rest that was handed in.
pub record Brings (rest before window after : List ℕ) : Type 0 where
  pub piece : List ℕ
  pub some : 0 < length piece
  pub behind_rest : window ≡ rest ++ piece
  pub behind_all : after ≡ before ++ piece

-- ---- what the code keeps

-- all that came in these windows, the newest first: of each what stands behind the rest that was handed in, whose length
-- is beside it
abbrev pub joined : List (ℕ × List ℕ) → List ℕ
joined [] = []
joined (window ∷ before) = joined before ++ drop window.0 window.1

-- all that came where it came at once
abbrev pub at_once : List (List ℕ) → List ℕ
at_once [] = []
at_once (bytes ∷ _) = bytes

-- what a reader had left when it began to be read, where that is known
abbrev pub left_at_first : {R : Type 0} → (R → Option (List ℕ)) → List R → Option (List ℕ)
left_at_first remaining [] = None
left_at_first remaining (reader ∷ _) = remaining reader

-- A reader has left what of the whole didn't come, unless no more can be read of it.
pub record ReadsOn (came : CameSoFar) (remaining : Option (List ℕ)) : Type 0 where
  pub left : came.fault ≡ None → Consumes came.whole remaining came.bytes
  pub part : IsPart came
