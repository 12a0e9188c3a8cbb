-- What came of a file of which no more is read behind as many bytes as a file may have.
use Rattle.std.proofs.Common.{◌≡◌, ℕ, Bool, true, false, ltb, List, length, Option, Some, ap, ◌∙◌, arith}
use Rattle.std.specs.Prelude.{is_some, if◌then◌else◌}
use Rattle.std.proofs.lemmas.List.{length-append}
use Rattle.byte_pieces.specs.Coming.{Brings, CameSoFar, ComesOn}
use Rattle.byte_pieces.specs.declared.fault.PieceFault.{PieceFault}
use Rattle.byte_pieces.specs.declared.fault.PieceFault.TheVariants.{CannotRead}
use Rattle.host_files.specs.Holding.{within}

own_fault : (past : Bool) (fault : Option PieceFault) → past ≡ false → is_some (if past then Some CannotRead else fault) ≡ true → is_some fault ≡ true
own_fault true fault short failed = absurd (let no : ⊥ = cc in no)
own_fault false fault short failed = failed

-- what comes on, comes on within it
pub within_on : (limit count later : ℕ) (old new : CameSoFar) → ltb limit count ≡ false → ComesOn old new → (is_some old.fault ≡ true → later ≡ count) → ComesOn (within limit count old) (within limit later new)
within_on limit count later old new few on still = record {
  first = on.first;
  over = on.over;
  whole = on.whole;
  fault = λ some. (
      let failed = own_fault (ltb limit count) old.fault few some in
      ap (λ (n : ℕ). within limit n new) (still failed) ∙ ap (within limit count) (on.fault failed)
      );
}

-- where nothing can be read no piece comes
pub no_piece : (old new : CameSoFar) (rest window : List ℕ) → Brings rest old.bytes window new.bytes → ComesOn old new → is_some old.fault ≡ true → ⊥
no_piece old new rest window b on some =
    let same = ap (λ (c : CameSoFar). length c.bytes) (on.fault some) in
    omega (arith, same, ap length b.behind_all, length-append old.bytes b.piece, b.some)
