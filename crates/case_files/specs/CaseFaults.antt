-- Faults of files, and of what they make, as faults of a case. Running out of memory is one fault, wherever it was met.
use Rattle.vat_log.specs.declared.error.LogError.{LogError}
use Rattle.vat_log.specs.declared.error.LogError.TheVariants as log
use Rattle.merge_order.specs.declared.error.OrderError.{OrderError}
use Rattle.merge_order.specs.declared.error.OrderError.TheVariants as order
use Rattle.case_book.specs.declared.error.CaseError.{CaseError}
use Rattle.case_book.specs.declared.error.CaseError.TheVariants as refusal
use Rattle.case_files.specs.declared.source.SourceError.{SourceError}
use Rattle.case_files.specs.declared.source.SourceError.TheVariants as source
use Rattle.case_files.specs.declared.case_fault.CaseFault.{CaseFault}
use Rattle.case_files.specs.declared.case_fault.CaseFault.TheVariants.{CannotRead, Log, Order, Refused, OutOfMemory}

abbrev pub case_fault_of_source : SourceError → CaseFault
case_fault_of_source source.CannotRead = CannotRead
case_fault_of_source source.OutOfMemory = OutOfMemory

abbrev pub case_fault_of_log : LogError → CaseFault
case_fault_of_log log.OutOfMemory = OutOfMemory
case_fault_of_log found = Log found

abbrev pub of_order : OrderError → CaseFault
of_order order.OutOfMemory = OutOfMemory
of_order found = Order found

abbrev pub of_refusal : CaseError → CaseFault
of_refusal refusal.OutOfMemory = OutOfMemory
of_refusal found = Refused found
