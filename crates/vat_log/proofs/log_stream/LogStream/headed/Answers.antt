use Rattle.std.proofs.Common.{◌≡◌, ◌<◌, ◌^◌, ℕ, List, All, Ok, Err, refl, sym, subst}
use Rattle.vat_log.specs.Reading.{header_of}
use Rattle.vat_log.proofs.Streams.{headed, holds_header, no_log_begins}
use Rattle.vat_log.proofs.Windows.{Holds, begins_with}
use Rattle.vat_log.proofs.log_stream.LogStream.headed.Goals as goal

pub invariant_of-result : goal.invariant_of-result
invariant_of-result g c =
    let window = c.args.window in
    let header = c.in-Ok.header in
    let octets = subst (All (λ octet. octet < 2 ^ 8)) c.as_slice.ensures c.are_octets.ensures in
    let read = subst (λ (bytes : List ℕ). header_of bytes ≡ Ok (headed header.version header.vat)) c.as_slice-2.ensures c.in-Ok.ensures.ok in
    let holds = holds_header window header.version header.vat octets read in
    rw c.new.ensures (c.requires.part, refl, subst (λ (came : List ℕ). Holds came window (headed header.version header.vat) 0 12) (sym c.requires.came) holds)

pub returns-in-Ok-clause-begun : goal.returns-in-Ok-clause-begun
returns-in-Ok-clause-begun g c =
    let window = c.args.window in
    let header = c.in-Ok.header in
    let octets = subst (All (λ octet. octet < 2 ^ 8)) c.as_slice.ensures c.are_octets.ensures in
    let read = subst (λ (bytes : List ℕ). header_of bytes ≡ Ok (headed header.version header.vat)) c.as_slice-2.ensures c.in-Ok.ensures.ok in
    let holds = holds_header window header.version header.vat octets read in
    rw c.new.ensures (begins_with window window (headed header.version header.vat) 0 12 holds)

pub returns-in-Err-clause-err : goal.returns-in-Err-clause-err
returns-in-Err-clause-err g c =
    let e = c.in-Err.fault in
    let read = subst (λ (bytes : List ℕ). header_of bytes ≡ Err e) c.as_slice-2.ensures c.in-Err.ensures.err in
    let came = g.P.Pieces.so_far c.args.pieces in
    rw c.requires.came (no_log_begins c.args.window came.is_over e read c.requires.long)
