use Rattle.std.proofs.Common.{map, Ok, refl}
use Rattle.std.specs.Arc.{arc_value}
use Rattle.case_files.specs.CaseReading.{listed_by}
use Rattle.case_files.proofs.case_reading.read_case.Goals as goal

pub returns : goal.returns
returns g c =
    let logs = rw c.deref.ensures.value at c.in_ok-logs.ensures in (
      Ok (listed_by c.in_ok-file.file),
      (
        c.read_case_file.new.source,
        (
          c.in_ok-file.ensures,
          (
            Ok (map arc_value c.in_ok-logs.logs.items),
            (
              c.read_logs.new.source,
              (
                logs,
                (
                  Ok c.in_ok-order.order,
                  (
                    c.read_named_order.new.source,
                    (
                      c.in_ok-order.ensures,
                      (Ok c.in_ok-case.case, (c.read_named_order.new.source, ((c.in_ok-case.ensures, refl), (refl, refl)))),
                    ),
                  ),
                ),
              ),
            ),
          ),
        ),
      ),
    )
