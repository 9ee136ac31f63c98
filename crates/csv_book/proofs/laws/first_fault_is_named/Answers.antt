use Rattle.std.proofs.Common.{ap, ◌∙◌, Ok}
use Rattle.vba_base.specs.Answer.{◌>>=◌}
use Rattle.csv.specs.Reading.{default_config, records, strip_bom}
use Rattle.csv_book.specs.Reading.{rows_from, sheet_of_rows}
use Rattle.csv_book.proofs.Faults.{rows_with_fault, rows_without_fault}
use Rattle.csv_book.proofs.laws.first_fault_is_named.Goals as goal

pub returns-clause-fault : goal.returns-clause-fault
returns-clause-fault c = λ bytes before more fields fault are none is.
    ap (λ rs. rows_from 1 rs >>= λ rows. Ok (sheet_of_rows rows)) are
    ∙ ap (λ r. r >>= λ rows. Ok (sheet_of_rows rows)) (rows_with_fault 1 before more fields fault none is)

pub returns-clause-none : goal.returns-clause-none
returns-clause-none c = λ bytes none.
    ap (λ r. r >>= λ rows. Ok (sheet_of_rows rows)) (rows_without_fault 1 (records default_config (strip_bom bytes)) none)
