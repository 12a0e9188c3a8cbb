use Rattle.std.proofs.Common.{◌≡◌, ℕ, List, [], ◌∷◌, ◌++◌, length, take, arith, subst, sym, ◌∙◌, ap}
use Rattle.std.proofs.lemmas.List.{length-append, take_all}
use Rattle.std.specs.Int.{w32}
use Rattle.std.specs.List.{flat_map}
use Rattle.vat_log.specs.declared.body.Body.{Body}
use Rattle.vat_log.specs.Fits.{Fits, IsWide}
use Rattle.vat_log.specs.Log.{written_version}
use Rattle.vat_log.specs.Spelling.{number_bytes, record_bytes, log_magic}
use Rattle.vat_log.specs.Ends.{AreEnds}
use Rattle.vat_log.proofs.BodyLaws.{records_alike}
use Rattle.vat_log.proofs.Ends.{ends_more}
use Rattle.vat_log.proofs.Loop.{All-more, spelled_more}
use Rattle.vat_log.proofs.spelling.body_writing.written_log.Goals as goal

pub loop-entry-preserved : goal.loop-entry-preserved
loop-entry-preserved c =
    let same = c.body.ensures.value in
    let step : c.put_body.new.out.items ≡ c.loop-entry.out.items ++ record_bytes written_version c.entry-item.result = c.in_ok-put_body.ensures.ok ∙ ap (λ said. c.loop-entry.out.items ++ record_bytes written_version said) same in
    let more = c.put_body.new.out.items in
    let pushed : c.push.new.self.items ≡ c.loop-entry.ends.items ++ length more ∷ [] = c.in_ok-push.ensures.items ∙ ap (λ (end : ℕ). c.loop-entry.ends.items ++ end ∷ []) (c.len.ensures ∙ c.put_body.new.out.ok.0) in
    record {
      so_far = spelled_more (record_bytes written_version) c.args.records.now c.loop-entry.entry-index c.entry-item.result (log_magic c.args.version) (number_bytes w32 c.args.vat) c.loop-entry.out.items c.put_body.new.out.items c.loop-entry-test.true c.entry-item.is c.loop-entry.invariant.so_far step;
      fit = All-more Fits c.args.records.now c.loop-entry.entry-index c.entry-item.result c.loop-entry-test.true c.entry-item.is c.loop-entry.invariant.fit c.body.ensures.fits;
      wide = All-more IsWide c.args.records.now c.loop-entry.entry-index c.entry-item.result c.loop-entry-test.true c.entry-item.is c.loop-entry.invariant.wide (subst IsWide same c.in_ok-put_body.ensures.wide);
      count = omega (arith, ap length pushed, length-append c.loop-entry.ends.items (length more ∷ []), c.loop-entry.invariant.count);
      ends = subst (λ (ends : List ℕ). AreEnds more c.args.records.now ends) (sym pushed)
          (ends_more c.loop-entry.out.items more c.args.records.now c.loop-entry.ends.items c.loop-entry.entry-index c.entry-item.result step c.loop-entry-test.true c.loop-entry.invariant.count c.entry-item.is c.loop-entry.invariant.ends);
    }

pub returns-clause-ends : goal.returns-clause-ends
returns-clause-ends c = subst (λ (bytes : List ℕ). AreEnds bytes c.args.records.now c.loop-entry.ends.items) (sym c.in_ok-bytes.ensures.ok) c.loop-entry.invariant.ends

pub returns-clause-spelled : goal.returns-clause-spelled
returns-clause-spelled c =
    let version = c.args.version in
    let records = c.args.records.now in
    let all : take c.loop-entry.entry-index records ≡ records = take_all c.loop-entry.entry-index records (omega (arith, c.loop-entry-test.false)) in
    c.in_ok-bytes.ensures.ok ∙ c.loop-entry.invariant.so_far
    ∙ ap (λ (said : List Body). log_magic version ++ (number_bytes w32 c.args.vat ++ flat_map (record_bytes written_version) said)) all
    ∙ ap (λ (rest : List ℕ). log_magic version ++ (number_bytes w32 c.args.vat ++ rest)) (sym (records_alike version c.requires records))
