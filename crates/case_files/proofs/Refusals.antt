-- Logs and links are never refused because memory ran out.
use Rattle.std.proofs.Common.{◌≡◌, ℕ, Bool, true, false, cond, ltb, List, length, Option, Some, None, option_map, Err}
use Rattle.vat_log.specs.Log.{Log}
use Rattle.case_book.specs.Case.{connections_of, link_limit, or_else, case_refusal_of, vat_limit, vats_of}
use Rattle.case_book.specs.Least.{least_repeated}
use Rattle.case_book.specs.declared.error.CaseError.{CaseError}
use Rattle.case_book.specs.declared.error.CaseError.TheVariants.{TooManyVats, SameVat, TooManyLinks, SameLink, OutOfMemory}
use Rattle.case_book.specs.declared.link.Link.{Link}
use Rattle.case_files.specs.CaseFaults.{of_refusal}
use Rattle.case_files.specs.CaseReading.{IsCaseOf}

never : (many_vats many_links : Bool) (vat connection : Option ℕ)
    → or_else (cond many_vats (Some TooManyVats) (option_map SameVat vat)) (cond many_links (Some TooManyLinks) (option_map SameLink connection)) ≡ Some OutOfMemory → ⊥
never true many_links vat connection is = cc
never false many_links (Some v) connection is = cc
never false true None connection is = cc
never false false None (Some c) is = cc
never false false None None is = cc

pub refused : (logs : List Log) (links : List Link) (error : CaseError) → case_refusal_of logs links ≡ Some error → IsCaseOf logs links (Err (of_refusal error))
refused logs links TooManyVats is = is
refused logs links (SameVat vat) is = is
refused logs links TooManyLinks is = is
refused logs links (SameLink connection) is = is
refused logs links OutOfMemory is = absurd (never (ltb vat_limit (length logs)) (ltb link_limit (length links)) (least_repeated (vats_of logs)) (least_repeated (connections_of links)) is)
