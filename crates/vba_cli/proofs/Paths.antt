-- Paths and names of files by their numbers.
use Rattle.std.proofs.Common.{◌≡◌, ◌∙◌, ℕ, zero, suc, ◌+◌, ◌-◌, ◌≤◌, ◌<◌, List, [], ◌∷◌, ◌++◌, length, get_or, refl, ap, sym, arith}
use Rattle.std.specs.Prelude.{Some, None, slice_get, string_bytes, unwrap_or}
use Rattle.list_file.specs.declared.list.ModulePath.{ModulePath}
use Rattle.list_file.specs.declared.list.SheetPath.{SheetPath}
use Rattle.list_file.specs.Sources.{paths_view, sheets_view}
use Rattle.book_files.specs.Book.{sheet_paths}
use Rattle.vba_cli.specs.Messages.{path_at, sheet_name}
use Rattle.vba_cli.specs.Named.{paths_named}
use Rattle.vba_cli.specs.Told.{named_of}

-- the path of a file behind the one that a command names
pub path_behind : (path : List ℕ) (others : List (List ℕ)) (number place : ℕ) → number ≡ suc place → path_at path others number ≡ unwrap_or (slice_get others place) path
path_behind path others number place is = ap (path_at path others) is

-- the path of the module at a place, whatever comes behind the modules
there : (modules : List ModulePath) (others : List (List ℕ)) (place : ℕ) (d : ModulePath) → place < length modules
    → slice_get (paths_view modules ++ others) place ≡ Some (string_bytes (get_or modules place d).path)
there [] others place d within = absurd (omega (arith, within))
there (m ∷ modules) others zero d within = refl
there (m ∷ modules) others (suc place) d within = there modules others place d (omega (arith, within))

pub module_there : (modules : List ModulePath) (sheets : List SheetPath) (place : ℕ) (m : ModulePath) (path text : List ℕ) → place < length modules → m ≡ get_or modules place m
    → text ≡ string_bytes m.path → text ≡ unwrap_or (slice_get (paths_named (named_of modules sheets)) place) path
module_there modules sheets place m path text within is same =
    same
    ∙ ap (λ (k : ModulePath). string_bytes k.path) is
    ∙ ap (λ o. unwrap_or o path) (sym (there modules (sheet_paths (sheets_view sheets)) place m within))

-- behind the modules come the sheets
past : (modules : List ModulePath) (others : List (List ℕ)) (place : ℕ) → length modules ≤ place → slice_get (paths_view modules ++ others) place ≡ slice_get others (place - length modules)
past [] others place behind = let e : place ≡ place - 0 = omega arith in ap (slice_get others) e
past (m ∷ modules) others zero behind = absurd (omega (arith, behind))
past (m ∷ modules) others (suc place) behind =
    let e : place - length modules ≡ suc place - suc (length modules) = omega arith in
    past modules others place (omega (arith, behind)) ∙ ap (slice_get others) e

pub module_past : (modules : List ModulePath) (sheets : List SheetPath) (place rest : ℕ) (path text : List ℕ) → length modules ≤ place → rest ≡ place - length modules
    → text ≡ unwrap_or (slice_get (sheet_paths (sheets_view sheets)) rest) path → text ≡ unwrap_or (slice_get (paths_named (named_of modules sheets)) place) path
module_past modules sheets place rest path text behind is same =
    same
    ∙ ap (λ k. unwrap_or (slice_get (sheet_paths (sheets_view sheets)) k) path) is
    ∙ ap (λ o. unwrap_or o path) (sym (past modules (sheet_paths (sheets_view sheets)) place behind))

-- the path and the name of the sheet at a place
sheet_at : (sheets : List SheetPath) (place : ℕ) (d : SheetPath) → place < length sheets → slice_get (sheet_paths (sheets_view sheets)) place ≡ Some (string_bytes (get_or sheets place d).path)
sheet_at [] place d within = absurd (omega (arith, within))
sheet_at (s ∷ sheets) zero d within = refl
sheet_at (s ∷ sheets) (suc place) d within = sheet_at sheets place d (omega (arith, within))

none_at : (sheets : List SheetPath) (place : ℕ) → length sheets ≤ place → slice_get (sheet_paths (sheets_view sheets)) place ≡ None
none_at [] place behind = refl
none_at (s ∷ sheets) zero behind = absurd (omega (arith, behind))
none_at (s ∷ sheets) (suc place) behind = none_at sheets place (omega (arith, behind))

pub sheet_there : (sheets : List SheetPath) (place : ℕ) (s : SheetPath) (path text : List ℕ) → place < length sheets → s ≡ get_or sheets place s → text ≡ string_bytes s.path
    → text ≡ unwrap_or (slice_get (sheet_paths (sheets_view sheets)) place) path
sheet_there sheets place s path text within is same =
    same ∙ ap (λ (k : SheetPath). string_bytes k.path) is ∙ ap (λ o. unwrap_or o path) (sym (sheet_at sheets place s within))

pub sheet_past : (sheets : List SheetPath) (place : ℕ) (path : List ℕ) → length sheets ≤ place → path ≡ unwrap_or (slice_get (sheet_paths (sheets_view sheets)) place) path
sheet_past sheets place path behind = ap (λ o. unwrap_or o path) (sym (none_at sheets place behind))

name_at : (sheets : List SheetPath) (place : ℕ) (d : SheetPath) → place < length sheets → sheet_name (sheets_view sheets) (suc place) ≡ (get_or sheets place d).name
name_at [] place d within = absurd (omega (arith, within))
name_at (s ∷ sheets) zero d within = refl
name_at (s ∷ sheets) (suc place) d within = name_at sheets place d (omega (arith, within))

pub name_there : (sheets : List SheetPath) (place : ℕ) (s : SheetPath) (text : List ℕ) → place < length sheets → s ≡ get_or sheets place s → text ≡ s.name
    → text ≡ sheet_name (sheets_view sheets) (suc place)
name_there sheets place s text within is same = same ∙ ap (λ (k : SheetPath). k.name) is ∙ sym (name_at sheets place s within)

pub name_past : (sheets : List SheetPath) (place : ℕ) → length sheets ≤ place → [] ≡ sheet_name (sheets_view sheets) (suc place)
name_past [] place behind = refl
name_past (s ∷ sheets) zero behind = absurd (omega (arith, behind))
name_past (s ∷ sheets) (suc place) behind = name_past sheets place (omega (arith, behind))
