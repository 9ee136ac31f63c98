-- Serves the code: what was read so far, with the case folds of the names of its sheets.
use Rattle.std.specs.Prelude.{◌≡◌, Bool, List, [], ℕ, ◌+◌, length, map, Option, Some, None, if◌then◌else◌}
use Rattle.vba_base.specs.Fold.{folded}
use Rattle.list_file.specs.declared.list.Partial.{Partial}
use Rattle.list_file.specs.Lists.{SheetAt, Listed, HaveNewNames}
use Rattle.list_file.specs.View.{sheet_view}

-- the case folds of the names of sheets
abbrev pub folds_of : List SheetAt → List (List ℕ)
folds_of sheets = map (λ (s : SheetAt). folded s.name) sheets

-- the folds that are kept are those of the sheets, which have different names
pub record HasFolds (p : Partial) : Type 0 where
  pub folds : p.folds.items ≡ folds_of (map sheet_view p.sheets.items)
  pub names : HaveNewNames [] (map sheet_view p.sheets.items)

-- how many modules and sheets there are
abbrev pub count_of : Partial → ℕ
count_of p = length p.modules.items + length p.sheets.items

-- what comes of an entry that was added, or was not
abbrev pub if_added : Bool → Listed → Option Listed
if_added was_added l = if was_added then Some l else None
