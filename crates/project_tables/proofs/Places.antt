-- The modules of a project with their procedures, one after another.
use Rattle.std.proofs.Common.{◌≡◌, ℕ, zero, suc, ◌+◌, ◌<◌, List, [], ◌∷◌, ◌++◌, map, refl, sym, ap, ◌∙◌, subst, length, take, get_or, arith}
use Rattle.std.specs.Prelude.{option_map, slice_get, Option, Some, None, Vec}
use Rattle.std.specs.declared.alloc.Global.{Global}
use Rattle.std.proofs.lemmas.List.{get_or-map, length-map, map-append, take-map, take_more}
use Rattle.std.proofs.lemmas.Option.{slice_get-map, slice_get_read}
use Rattle.bound_declarations.specs.constant_values.specs.declared_names.specs.binder.specs.Names.{scope_of}
use Rattle.bound_declarations.specs.constant_values.specs.declared_names.specs.binder.specs.Scopes.{Space, Scope}
use Rattle.bound_declarations.specs.constant_values.specs.declared_names.specs.binder.specs.Storage.{shared_before, shared_from, shared_of}
use Rattle.bound_declarations.specs.constant_values.specs.declared_names.specs.Outside.{the_outside}
use Rattle.bound_declarations.specs.constant_values.specs.declared_names.specs.View.{space_view}
use Rattle.bound_declarations.specs.constant_values.specs.declared_names.specs.declared.space.Space.{Space as SpaceHere}
use Rattle.bound_declarations.specs.constant_values.specs.Rounds.{AreNumbered, IsPlaced}
use Rattle.bound_declarations.specs.constant_values.proofs.Looked.{placed_at}
use Rattle.project_tables.specs.declared.rows.ProcedureRow.{ProcedureRow}
use Rattle.project_tables.specs.declared.rows.Rows.{Rows}
use Rattle.project_tables.specs.Rows.{AreRows, AreRowsOf, AreRowsFrom}
use Rattle.project_tables.specs.Signed.{whole_scope}
use Rattle.project_tables.specs.Steps.{IsModule, module_scope, row_lists}
use Rattle.project_tables.proofs.Counts.{before_counted, before_more}

-- ---- modules with their procedures

got_here : (spaces : List SpaceHere) (i : ℕ) (space : SpaceHere) → i < length spaces → space ≡ get_or spaces i space
    → slice_get (map space_view spaces) i ≡ Some (space_view space)
got_here spaces i space within is =
    slice_get-map space_view spaces i ∙ ap (option_map space_view) (slice_get_read spaces (length spaces) i space refl within is)

-- a module stands where its number says
pub placed_here : (spaces : List SpaceHere) (i : ℕ) (space : SpaceHere) → AreNumbered (map space_view spaces) → i < length spaces → space ≡ get_or spaces i space
    → IsPlaced (module_scope spaces space)
placed_here spaces i space numbered within is =
    record { numbered = numbered; here = placed_at (map space_view spaces) i (space_view space) numbered (got_here spaces i space within is) }

-- its procedures are those with its number
rows_at : (all : List Space) (of : List (List ProcedureRow)) (spaces : List SpaceHere) (i : ℕ) (space : SpaceHere) → AreRowsFrom all of (map space_view spaces)
    → i < length spaces → space ≡ get_or spaces i space → AreRowsOf (scope_of the_outside all (space_view space)) (get_or of i [])
rows_at all of [] i space are within is = absurd (omega arith)
rows_at all [] (s ∷ spaces) i space are within is = absurd are
rows_at all (rows ∷ of) (s ∷ spaces) zero space are within is =
    subst (λ (x : SpaceHere). AreRowsOf (scope_of the_outside all (space_view x)) rows) (sym is) are.0
rows_at all (rows ∷ of) (s ∷ spaces) (suc i) space are within is = rows_at all of spaces i space are.1 (omega arith) is

rows_length : (all : List Space) (of : List (List ProcedureRow)) (spaces : List Space) → AreRowsFrom all of spaces → length of ≡ length spaces
rows_length all [] [] are = refl
rows_length all [] (space ∷ spaces) are = absurd are
rows_length all (rows ∷ of) [] are = absurd are
rows_length all (rows ∷ of) (space ∷ spaces) are = ap suc (rows_length all of spaces are.1)

-- each module has its procedures
pub rows_within : (spaces : List SpaceHere) (rows : Rows) (i : ℕ) → AreRows rows (map space_view spaces) → i < length spaces → i < length rows.of.items
rows_within spaces rows i are within =
    let e = rows_length (map space_view spaces) (row_lists rows.of.items) (map space_view spaces) are.rows_are in
    let l = length-map rows.of.items (λ (v : Vec ProcedureRow Global). v.items) in
    let m = length-map spaces space_view in
    omega arith

pub rows_here : (spaces : List SpaceHere) (rows : Rows) (i : ℕ) (space : SpaceHere) (v : Vec ProcedureRow Global) (found : List ProcedureRow) → AreRows rows (map space_view spaces)
    → i < length spaces → space ≡ get_or spaces i space → v ≡ get_or rows.of.items i v → found ≡ v.items
    → AreRowsOf (module_scope spaces space) found
rows_here spaces rows i space v found are within is is_v is_found =
    let listed : get_or (row_lists rows.of.items) i [] ≡ found =
    get_or-map (λ (v : Vec ProcedureRow Global). v.items) rows.of.items i v [] (rows_within spaces rows i are within)
    ∙ ap (λ (v : Vec ProcedureRow Global). v.items) (sym is_v) ∙ sym is_found in
    subst (λ (xs : List ProcedureRow). AreRowsOf (module_scope spaces space) xs) listed
    (rows_at (map space_view spaces) (row_lists rows.of.items) spaces i space are.rows_are within is)

pub module_here : (spaces : List SpaceHere) (rows : Rows) (i : ℕ) (space : SpaceHere) (v : Vec ProcedureRow Global) (found : List ProcedureRow) → AreNumbered (map space_view spaces)
    → AreRows rows (map space_view spaces) → i < length spaces → space ≡ get_or spaces i space → v ≡ get_or rows.of.items i v → found ≡ v.items
    → IsModule (module_scope spaces space) rows.values found
module_here spaces rows i space v found numbered are within is is_v is_found = record {
  placed = placed_here spaces i space numbered within is;
  values = are.values;
  rows_are = rows_here spaces rows i space v found are within is is_v is_found;
}

-- ---- how many are shared before a module

taken_more : (spaces : List SpaceHere) (i : ℕ) (space : SpaceHere) → i < length spaces → space ≡ get_or spaces i space
    → map space_view (take (i + 1) spaces) ≡ map space_view (take i spaces) ++ space_view space ∷ []
taken_more spaces i space within is =
    ap (map space_view) (take_more spaces i space within ∙ ap (λ (x : SpaceHere). take i spaces ++ x ∷ []) (sym is)) ∙ map-append space_view (take i spaces) (space ∷ [])

pub before_here : (spaces : List SpaceHere) (i : ℕ) (space : SpaceHere) (before : ℕ) → AreNumbered (map space_view spaces) → i < length spaces → space ≡ get_or spaces i space
    → before ≡ length (shared_from (whole_scope (map space_view spaces)) (map space_view (take i spaces)))
    → before ≡ shared_before (module_scope spaces space) (map space_view spaces) (space_view space)
before_here spaces i space before numbered within is counted =
    let number : space.number ≡ i = numbered i (space_view space) (got_here spaces i space within is) in
    counted
    ∙ ap (λ (xs : List Space). length (shared_from (whole_scope (map space_view spaces)) xs)) (sym (take-map space_view i spaces))
    ∙ ap (λ (n : ℕ). length (shared_from (whole_scope (map space_view spaces)) (take n (map space_view spaces)))) (sym number)
    ∙ sym (before_counted (module_scope spaces space) (map space_view spaces) (space_view space) numbered)

pub before_next : (spaces : List SpaceHere) (i : ℕ) (space : SpaceHere) (old new : ℕ) → i < length spaces → space ≡ get_or spaces i space
    → old ≡ length (shared_from (whole_scope (map space_view spaces)) (map space_view (take i spaces)))
    → new ≡ old + length (shared_of (module_scope spaces space))
    → new ≡ length (shared_from (whole_scope (map space_view spaces)) (map space_view (take (i + 1) spaces)))
before_next spaces i space old new within is counted more =
    more
    ∙ ap (λ (n : ℕ). n + length (shared_of (module_scope spaces space))) counted
    ∙ sym (before_more (whole_scope (map space_view spaces)) (map space_view (take i spaces)) (space_view space))
    ∙ ap (λ (xs : List Space). length (shared_from (whole_scope (map space_view spaces)) xs)) (sym (taken_more spaces i space within is))

pub rows_next : (spaces : List SpaceHere) (i : ℕ) (space : SpaceHere) (old new : List (List ProcedureRow)) → i < length spaces → space ≡ get_or spaces i space
    → AreRowsFrom (map space_view spaces) old (map space_view (take i spaces))
    → ((done : List Space) → AreRowsFrom (map space_view spaces) old done → AreRowsFrom (map space_view spaces) new (done ++ space_view space ∷ []))
    → AreRowsFrom (map space_view spaces) new (map space_view (take (i + 1) spaces))
rows_next spaces i space old new within is before more =
    subst (λ (xs : List Space). AreRowsFrom (map space_view spaces) new xs) (sym (taken_more spaces i space within is))
    (more (map space_view (take i spaces)) before)
