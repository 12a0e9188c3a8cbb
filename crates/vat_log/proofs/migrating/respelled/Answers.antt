use Rattle.std.proofs.Common.{◌≡◌, ◌∙◌, ◌++◌, ℕ, List, refl, sym, ap}
use Rattle.std.specs.Int.{w32}
use Rattle.vat_log.specs.declared.body.Body.{Body}
use Rattle.vat_log.specs.Log.{Log, written_version}
use Rattle.vat_log.specs.Runs.{ReadSoFar, with_record}
use Rattle.vat_log.specs.Spelling.{log_magic, number_bytes, record_bytes, log_bytes}
use Rattle.vat_log.proofs.ReadOn.{at_some}
use Rattle.vat_log.proofs.Respelled.{at_none, header_spelled, in_version, one_spelled, parsed_in}
use Rattle.vat_log.proofs.migrating.respelled.Goals as goal

pub loop-out-init : goal.loop-out-init
loop-out-init c =
    let magic = log_magic c.args.version in
    let begun = c.in_ok-put_header.ensures ∙ ap (λ (o : List ℕ). o ++ (magic ++ number_bytes w32 c.vat.result)) c.new-out.ensures.items ∙ ap (λ (n : ℕ). magic ++ number_bytes w32 n) c.vat.ensures in
    record { same = refl; so_far = header_spelled c.args.reader.bytes c.put_header.new.out.items c.args.version c.args.reader.log c.requires.begun begun }

pub loop-out-preserved : goal.loop-out-preserved
loop-out-preserved c =
    let log = c.loop-out.reader.log in
    let is = at_some c.in_ok-entry.field-0 c.in-Some.entry _ (λ (entry : Body). c.next.new.self.log ≡ with_record entry log) c.in-Some.is c.in_ok-entry.ensures.given in
    let step : c.put_body.new.out.items ≡ c.loop-out.out.items ++ record_bytes written_version c.in-Some.entry = c.in_ok-put_body.ensures.ok ∙ ap (λ (said : Body). c.loop-out.out.items ++ record_bytes written_version said) c.body.ensures.value in
    record {
      same = c.in_ok-entry.ensures.bytes ∙ c.loop-out.invariant.same;
      so_far = one_spelled c.args.version c.requires.counts log c.in-Some.entry c.loop-out.out.items c.put_body.new.out.items c.loop-out.invariant.so_far step ∙ ap (λ (l : Log). log_bytes (in_version c.args.version l)) (sym is);
    }

pub spelled_in-requires : goal.spelled_in-requires
spelled_in-requires c =
    let ended = at_none c.in_ok-entry.field-0 _ (λ (entry : Body). c.next.new.self.log ≡ with_record entry c.loop-out.reader.log) c.in_default.is c.in_ok-entry.ensures.given in
    parsed_in c.args.version c.requires.counts c.next.new.self.log c.in_ok-bytes.bytes c.in_ok-entry.ensures.begun.fits
    (c.in_ok-bytes.ensures.ok ∙ c.loop-out.invariant.so_far ∙ ap (λ (r : ReadSoFar). log_bytes (in_version c.args.version r.log)) (sym ended.0))
