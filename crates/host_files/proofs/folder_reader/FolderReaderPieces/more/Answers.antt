use Rattle.std.proofs.Common.{◌≡◌, false, ltb, List, ℕ, Option, refl, arith, subst}
use Rattle.std.specs.Prelude.{IfSome}
use Rattle.std.proofs.lemmas.Bool.{le-ltb}
use Rattle.byte_pieces.specs.Coming.{Brings}
use Rattle.host_files.specs.declared.folder_reader.TheConstants.{LIMIT}
use Rattle.host_files.proofs.Limited.{no_piece, within_on}
use Rattle.host_files.proofs.folder_reader.FolderReaderPieces.more.Goals.{in-Some, in_default}
use Rattle.host_files.proofs.folder_reader.FolderReaderPieces.more.Goals as goal

pub returns-clause-on : goal.returns-clause-on
returns-clause-on g c =
    let kept = c.self.inside in
    let few : ltb LIMIT kept.count ≡ false = le-ltb LIMIT kept.count (omega (arith, c.if-self-gt-LIMIT.false)) in
    let on = c.in_ok-next.ensures.on in
    elim c.match-next.branch [
      | in-Some w ↦ rw (← c.self.view_is, w.self-is) (within_on LIMIT kept.count _ kept.pieces c.more.new.self few on (λ some.
          absurd (no_piece kept.pieces c.more.new.self c.args.rest.now w.in-Some.window
          (subst (λ (o : Option (List ℕ)). IfSome o (λ window. Brings c.args.rest.now kept.pieces.bytes window c.more.new.self.bytes)) w.in-Some.is c.in_ok-next.ensures.some) on some)))
      | in_default w ↦ rw (← c.self.view_is, w.self-is) (within_on LIMIT kept.count kept.count kept.pieces c.more.new.self few on (λ some. refl))
    ]
