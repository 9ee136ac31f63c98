-- Serves the code: how deep Types are inside one another.
use Rattle.std.specs.Prelude.{ℕ, zero, suc, nat_lt, Bool, true, false, ◌&&◌, List, length}
use Rattle.std.specs.List.{list_all}
use Rattle.vba_values.specs.Types.{Declared}
use Rattle.vba_values.specs.Types as type
use Rattle.arrays_udt.specs.Fields.{Field, fields_at, is_field, stored}

-- whether a declared type is nested, by what is told of Types
abbrev pub nested_by : (ℕ → Bool) → Declared → Bool
nested_by udts (type.udt number) = udts number
nested_by udts other = true

abbrev pub field_nested : (ℕ → Bool) → Field → Bool
field_nested udts field = is_field field && nested_by udts (stored field)

-- whether the Types that a Type stores, itself among them, are inside one another at most so deep
abbrev pub udt_nested : ℕ → List (List Field) → ℕ → Bool
udt_nested zero types number = false
udt_nested (suc depth) types number =
    nat_lt number (length types) && list_all (field_nested (udt_nested depth types)) (fields_at types number)
