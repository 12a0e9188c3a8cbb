-- A failed write, over std's writers.
use Rattle.std.proofs.Common.{◌≡◌, ℕ, List, Option, Some, None, Result, Ok, Err, subst, sym, inl, inr}
use Rattle.std.specs.Result.{result_unwrap_or}
use Rattle.case_files.specs.CaseReading.{Read, Reads}
use Rattle.command_line.specs.declared.command.Command.{Command}
use Rattle.command_line.specs.declared.command.Command.TheVariants.{Check, Order, Graph, Run, Draw, Vat, Records, Frame, Frames, Migrate, Salvage, Wire, Join}
use Rattle.command_run.specs.declared.output.Failed.{Failed}
use Rattle.command_run.specs.declared.output.Failed.TheVariants.{Out, File}
use Rattle.command_run.specs.Runs.{Adds, Answering, CarriesOut, Saves, Writes, WritesOrFails, Wrote}

module _ {W F E X : Type 0} (in_out : W → Option (List ℕ)) (out_done : W → Type 0) (in_file : F → Option (List ℕ)) (file_done : F → Type 0)
    (out out_new : W) (file file_new : F) (r : Result ℕ (Failed E X)) (ended : ℕ) (is : ended ≡ result_unwrap_or r 2) where
  saved : (bytes : Option (List ℕ)) → Saves (Wrote in_file file_done) bytes file file_new → Saves (Adds in_file) bytes file file_new
  saved None same = same
  saved (Some bytes) wrote = wrote.0

  mapped : (answers : Answering) → Writes answers (Wrote in_out out_done) (Wrote in_file file_done) out out_new file file_new r
      → WritesOrFails answers (Adds in_out) (Adds in_file) out out_new file file_new ended
  mapped answers = go r is
    where
      go : (r : Result ℕ (Failed E X)) → ended ≡ result_unwrap_or r 2 → Writes answers (Wrote in_out out_done) (Wrote in_file file_done) out out_new file file_new r
          → WritesOrFails answers (Adds in_out) (Adds in_file) out out_new file file_new ended
      go (Ok s) is w = inl (w.0, (w.1.0, subst (λ n. answers w.0 n w.1.0) (sym is) w.1.1, saved w.1.0 w.1.2, w.1.3.0))
      go (Err (Out x)) is w = inr (is, inl (w.0, (w.1.0, (w.1.1.0, w.1.1.1, saved w.1.1.0 w.1.1.2))))
      go (Err (File x)) is w = inr (is, inr w)

  pub carried : {S : Type 0} (gives : Reads S) (holds : S → List ℕ → Option Read) (command : Command) (old new : S)
      → CarriesOut gives holds command old new (λ answers. Writes answers (Wrote in_out out_done) (Wrote in_file file_done) out out_new file file_new r)
      → CarriesOut gives holds command old new (λ answers. WritesOrFails answers (Adds in_out) (Adds in_file) out out_new file file_new ended)
  carried gives holds (Check name workers) old new c = mapped _ c
  carried gives holds (Graph name dot many) old new c = mapped _ c
  carried gives holds (Run name many) old new c = mapped _ c
  carried gives holds (Vat name) old new c = (c.0, c.1, mapped _ c.2)
  carried gives holds (Frame hex later) old new c = (c.0, mapped _ c.1)
  carried gives holds (Frames name) old new c = (c.0, c.1, mapped _ c.2)
  carried gives holds (Records name first many) old new c = (c.0, c.1, mapped _ c.2)
  carried gives holds (Order name path) old new c = mapped _ c
  carried gives holds (Draw name path first steps is_page many) old new c = mapped _ c
  carried gives holds (Migrate name later path) old new c = (c.0, c.1, mapped _ c.2)
  carried gives holds (Salvage name path) old new c = (c.0, c.1, mapped _ c.2)
  carried gives holds (Wire one another has_one out) old new c = mapped _ c
  carried gives holds (Join names path) old new c = mapped _ c
