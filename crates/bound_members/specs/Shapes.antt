-- Serves the code: arguments that members take, by their names.
use Rattle.std.specs.Prelude.{ℕ, zero, suc, Bool, true, false, ◌&&◌, ◌||◌, not, List, [], ◌∷◌, Option, Some, None, is_some, if◌then◌else◌}
use Rattle.std.specs.List.{list_any}
use Rattle.vba_values.specs.Types.{Declared}
use Rattle.vba_values.specs.Types as type
use Rattle.vba_meaning.specs.ByName.{given_once, is_parameter, parameter_named}
use Rattle.bound_calls.specs.bound_forms.specs.Terms.{Given}
use Rattle.bound_calls.specs.bound_forms.specs.Operands.{is_item_name}
use Rattle.bound_calls.specs.bound_forms.specs.ExpressionsBound.{known_parameters}

-- whether a parameter is given one of these arguments by its name
abbrev pub by_one : List (List ℕ) → (number : ℕ) → Option (List ℕ) → Bool
by_one xs number None = false
by_one xs number (Some name) = is_parameter number (parameter_named 0 xs name)

abbrev pub any_given : List (List ℕ) → (number : ℕ) → List Given → Bool
any_given xs number [] = false
any_given xs number (g ∷ gs) = by_one xs number g.name || any_given xs number gs

-- the numbers of the parameters that arguments name, behind the first ones, where all have names and no two the same
abbrev pub one_given : List (List ℕ) → (before : ℕ) → Option (List ℕ) → Option (List ℕ) → Option (List ℕ)
one_given xs before None ps = None
one_given xs before (Some name) ps = given_once before (parameter_named 0 xs name) ps

abbrev pub all_given : List (List ℕ) → (before : ℕ) → List Given → Option (List ℕ)
all_given xs before [] = Some []
all_given xs before (g ∷ gs) = one_given xs before g.name (all_given xs before gs)

-- the same of arguments behind others without names
abbrev pub names_from : List (List ℕ) → (before : ℕ) → List Given → Bool
names_from xs before [] = true
names_from xs before (g ∷ gs) = if is_some g.name then is_some (all_given xs before (g ∷ gs)) else names_from xs (suc before) gs

-- whether what adds to a Collection is given an item: the first argument, where that has no name, or the one of that name
abbrev pub is_item_called : Option (List ℕ) → Bool
is_item_called None = false
is_item_called (Some name) = is_item_name name

abbrev pub is_item : Given → Bool
is_item g = is_item_called g.name

abbrev pub begins_plain : List Given → Bool
begins_plain [] = false
begins_plain (g ∷ gs) = not (is_some g.name)

abbrev pub item_given : (adds : Bool) → List Given → Bool
item_given adds gs = not adds || (begins_plain gs || list_any is_item gs)

abbrev pub takes_named : (name : List ℕ) → (greatest : Option ℕ) → (adds : Bool) → List Given → Bool
takes_named name None adds gs = true
takes_named name (Some zero) adds gs = true
takes_named name (Some greatest) adds gs = names_from (known_parameters name (Some greatest)) 0 gs && item_given adds gs

-- the rule that arguments break behind a member that takes none, by what it gives
abbrev pub rule_behind : Declared → Option ℕ
rule_behind type.worksheet = Some 34
rule_behind type.object = Some 34
rule_behind of = Some 25
