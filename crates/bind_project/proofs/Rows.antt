-- The rows of a project tell of its procedures what its modules say.
use Rattle.std.proofs.Common.{◌≡◌, ◌<◌, ℕ, zero, suc, ◌+◌, length, true, List, [], ◌∷◌, drop, refl, ◌∙◌, sym, ap, subst, add-one, arith}
use Rattle.std.specs.Prelude.{map, Some, None, slice_get, slice_index_or}
use Rattle.binder.specs.Declarations.{Written}
use Rattle.binder.specs.Scopes.{Space, Scope}
use Rattle.binder.specs.Names.{locals_of}
use Rattle.binder.specs.Storage.{first_static}
use Rattle.binder.specs.Projects.{numbered}
use Rattle.bound_names.specs.bound_members.specs.bound_calls.specs.bound_forms.specs.Bind.{is_built_part}
use Rattle.bound_project.specs.Drafts.{Drafted}
use Rattle.vba_module.specs.Parts.{Part}
use Rattle.bind_project.specs.Modules.{is_header, ProcedureAdded, PartsWalked}
use Rattle.bind_project.proofs.ByModule.{header_walked}
use Rattle.bound_names.specs.bound_members.specs.bound_calls.specs.bound_declarations.specs.constant_values.specs.Rounds.{AreNumbered, IsPlaced}
use Rattle.bound_names.specs.project_tables.specs.declared.rows.ProcedureRow.{ProcedureRow}
use Rattle.bound_names.specs.project_tables.specs.Rows.{Row, row_of, row_view, HaveValues, AreRowsOf}
use Rattle.bind_project.specs.Procedures.{numbered_view, RowFits, RowsFit, AllPlaced}

abbrev by_number : Row → ℕ × Written
by_number row = (row.number, row.written)

numbers_by_row : (rows : List ProcedureRow) → map numbered_view rows ≡ map by_number (map row_view rows)
numbers_by_row [] = refl
numbers_by_row (row ∷ rows) = ap (λ xs. numbered_view row ∷ xs) (numbers_by_row rows)

numbers_again : (s : Scope) (ps : List (ℕ × Written)) → map by_number (map (row_of s) ps) ≡ ps
numbers_again s [] = refl
numbers_again s (p ∷ ps) = ap (λ xs. p ∷ xs) (numbers_again s ps)

-- they are the procedures of the module, in order
pub rows_numbered : (s : Scope) (rows : List ProcedureRow) → AreRowsOf s rows → map numbered_view rows ≡ numbered 0 s.here.entries
rows_numbered s rows h = numbers_by_row rows ∙ (ap (map by_number) h.rows_are ∙ numbers_again s (numbered 0 s.here.entries))

rows_fit_by : (s : Scope) (rows : List ProcedureRow) (ps : List (ℕ × Written)) → map row_view rows ≡ map (row_of s) ps → HaveValues s rows → RowsFit s rows
rows_fit_by s [] ps is values = tt
rows_fit_by s (row ∷ rows) [] is values = cc
rows_fit_by s (row ∷ rows) (p ∷ ps) is values =
    let one : row_view row ≡ row_of s p = cc in
    let others : map row_view rows ≡ map (row_of s) ps = cc in
    let number : row.number ≡ p.0 = ap (λ (r : Row). r.number) one in
    let written : (row_view row).written ≡ p.1 = ap (λ (r : Row). r.written) one in
    let locals : (row_view row).locals ≡ (row_of s p).locals = ap (λ (r : Row). r.locals) one in
    let first : row.first ≡ (row_of s p).first = ap (λ (r : Row). r.first) one in (
      record { locals = locals ∙ ap (locals_of s) (sym written); first = first ∙ ap (first_static s) (sym number); values = values.0 },
      rows_fit_by s rows ps others values.1,
    )

pub rows_fit : (s : Scope) (rows : List ProcedureRow) → AreRowsOf s rows → RowsFit s rows
rows_fit s rows h = rows_fit_by s rows (numbered 0 s.here.entries) h.rows_are h.values

placed_from : (all : List Space) (k : ℕ) (rest : List Space) → AreNumbered all → ((i : ℕ) → slice_get rest i ≡ slice_get all (i + k)) → AllPlaced all rest
placed_from all k [] numbered same = tt
placed_from all k (space ∷ rest) numbered same =
    let e : 0 + k ≡ k = omega arith in
    let here : slice_get all k ≡ Some space = ap (slice_get all) (sym e) ∙ sym (same 0) in
    let number : space.number ≡ k = numbered k space here in (
      ap (slice_get all) number ∙ here,
      placed_from all (suc k) rest numbered (λ i. let f : suc i + k ≡ i + suc k = omega arith in same (suc i) ∙ ap (slice_get all) f),
    )

-- modules by their numbers stand there
pub all_placed : (all : List Space) → AreNumbered all → AllPlaced all all
all_placed all numbered = placed_from all 0 all numbered (λ i. let e : i ≡ i + 0 = omega arith in ap (slice_get all) e)

-- a procedure stands where its module does
pub placed_inside : (s t : Scope) → IsPlaced s → s.spaces ≡ t.spaces → s.here ≡ t.here → IsPlaced t
placed_inside s t placed spaces here = record {
  numbered = rw (← spaces) placed.numbered;
  here = rw (← spaces, ← here) placed.here;
}

-- ---- rows by their numbers

-- a row that stands at a number
pub row_there : (rows : List ProcedureRow) (n : ℕ) (row : ProcedureRow) → n < length rows → row ≡ slice_index_or rows n row → slice_get rows n ≡ Some row
row_there [] n row within is = absurd (omega arith)
row_there (r ∷ rows) zero row within is = ap Some (sym is)
row_there (r ∷ rows) (suc n) row within is = row_there rows n row (omega arith) is

pub rows_from : (rows : List ProcedureRow) (n : ℕ) (row : ProcedureRow) → slice_get rows n ≡ Some row
    → map numbered_view (drop n rows) ≡ numbered_view row ∷ map numbered_view (drop (n + 1) rows)
rows_from rows n row is = rw add-one (from rows n row is)
  where
    from : (rows : List ProcedureRow) (n : ℕ) (row : ProcedureRow) → slice_get rows n ≡ Some row
        → map numbered_view (drop n rows) ≡ numbered_view row ∷ map numbered_view (drop (suc n) rows)
    from [] n row is = cc
    from (r ∷ rows) zero row is = let same : r ≡ row = cc in ap (λ x. numbered_view x ∷ map numbered_view rows) same
    from (r ∷ rows) (suc n) row is = from rows n row is

pub none_from : (rows : List ProcedureRow) (n : ℕ) → slice_get rows n ≡ None → map numbered_view (drop n rows) ≡ []
none_from [] zero is = refl
none_from [] (suc n) is = refl
none_from (r ∷ rows) zero is = cc
none_from (r ∷ rows) (suc n) is = none_from rows n is

pub row_fits : (s : Scope) (rows : List ProcedureRow) (n : ℕ) (row : ProcedureRow) → RowsFit s rows → slice_get rows n ≡ Some row → RowFits s row
row_fits s [] n row fit is = cc
row_fits s (r ∷ rows) zero row fit is = let same : r ≡ row = cc in subst (RowFits s) same fit.0
row_fits s (r ∷ rows) (suc n) row fit is = row_fits s rows n row fit.1 is

-- behind the header of the procedure with a number
pub next_walked : (s : Scope) (rows : List ProcedureRow) (n : ℕ) (row : ProcedureRow) (all : List (ℕ × Written)) (every left : List Part) (base : Drafted) (part : Part) (e f : Drafted)
    → slice_get rows n ≡ Some row → is_header part ≡ true → is_built_part s part ≡ true → ProcedureAdded s (numbered_view row) e f
    → PartsWalked s all every base (map numbered_view (drop n rows)) (part ∷ left) e → PartsWalked s all every base (map numbered_view (drop (n + 1) rows)) left f
next_walked s rows n row all every left base part e f is header built added w =
    header_walked s all every base (numbered_view row) (map numbered_view (drop (n + 1) rows)) part left e f header built added
    (subst (λ (ps : List (ℕ × Written)). PartsWalked s all every base ps (part ∷ left) e) (rows_from rows n row is) w)
