-- The first row with a fault decides.
use Rattle.std.proofs.Common.{◌≡◌, ℕ, ◌+◌, [], ◌∷◌, ◌++◌, map, length, Some, Ok, Err, add-zero, refl, sym, ap, ◌∙◌, arith}
use Rattle.vba_base.specs.Answer.{◌>>=◌}
use Rattle.csv_book.specs.declared.fault.BookFault.{BookFault}
use Rattle.csv_book.specs.Faults.{AllFaultless}
use Rattle.csv_book.specs.Reading.{Fields, Rows, fault_of, rows_from, text_of_bytes, unless}

pub rows_without_fault : (number : ℕ) (records : Rows) → AllFaultless number records → rows_from number records ≡ Ok (map (map text_of_bytes) records)
unfolding rows_from
rows_without_fault number [] none = refl
rows_without_fault number (fields ∷ more) none =
    ap (λ fault. unless fault (map text_of_bytes fields) >>= λ row. rows_from (number + 1) more >>= λ rows. Ok (row ∷ rows)) none.0
    ∙ ap (λ later. later >>= λ rows. Ok (map text_of_bytes fields ∷ rows)) (rows_without_fault (number + 1) more none.1)

pub rows_with_fault : (number : ℕ) (before more : Rows) (fields : Fields) (fault : BookFault) → AllFaultless number before → fault_of (number + length before) fields ≡ Some fault
    → rows_from number (before ++ fields ∷ more) ≡ Err fault
unfolding rows_from
rows_with_fault number [] more fields fault none is =
    let here = rw add-zero at is in
    ap (λ o. unless o (map text_of_bytes fields) >>= λ row. rows_from (number + 1) more >>= λ rows. Ok (row ∷ rows)) here
rows_with_fault number (first ∷ before) more fields fault none is =
    let place : number + length (first ∷ before) ≡ number + 1 + length before = omega arith in
    let later = rows_with_fault (number + 1) before more fields fault none.1 (ap (λ n. fault_of n fields) (sym place) ∙ is) in
    ap (λ o. unless o (map text_of_bytes first) >>= λ row. rows_from (number + 1) (before ++ fields ∷ more) >>= λ rows. Ok (row ∷ rows)) none.0
    ∙ ap (λ r. r >>= λ rows. Ok (map text_of_bytes first ∷ rows)) later
