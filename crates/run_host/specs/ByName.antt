-- Serves the code: how arguments are named, and what parameters are given by names.
use Rattle.std.specs.Prelude.{ℕ, zero, suc, Bool, if◌then◌else◌, is_some, List, [], ◌∷◌, map, slice_index_or}
use Rattle.vba_values.specs.declared.value.Value.{Value}
use Rattle.vba_values.specs.Val.{Val, empty, missing}
use Rattle.vba_values.specs.View.{view}
use Rattle.bound_project.specs.Expressions.{ByName}
use Rattle.bound_project.specs.Pieces.{name_of}
use Rattle.vba_meaning.specs.ByName.{is_parameter, named_begun, parameter_named, parameters_given}
use Rattle.vba_meaning.specs.Collections.{collection_member, names_in_collection, takes_in_collection}
use Rattle.vba_meaning.specs.Effects.{Effect, Fine, Bad-at, on_fine}
use Rattle.vba_meaning.specs.Memory.{Memory}
use Rattle.run_host.specs.declared.by_name.NamedArguments.{NamedArguments}

-- the names that constants are, by their numbers
abbrev pub names_of : List Value → List ℕ → List (List ℕ)
names_of constants order = map (λ i. name_of (slice_index_or (map view constants) i empty)) order

abbrev pub by_name_view : NamedArguments → ByName
by_name_view n = record { before = n.before; names = names_of n.constants.now n.order.now }

-- what a parameter is given by its name: Missing where there is none
abbrev pub value_named : (parameters : List (List ℕ)) → (number : ℕ) → (names : List (List ℕ)) → List Val → Val
value_named xs number (name ∷ names) (v ∷ vs) = if is_parameter number (parameter_named 0 xs name) then v else value_named xs number names vs
value_named xs number names vs = missing

-- the same of each of the last parameters, from one with a number on
abbrev pub values_named : (parameters : List (List ℕ)) → (number : ℕ) → (left : List (List ℕ)) → (names : List (List ℕ)) → List Val → List Val
values_named xs number [] names vs = []
values_named xs number (x ∷ left) names vs = value_named xs number names vs ∷ values_named xs (suc number) left names vs

-- the first argument there must be is given by its place, or by its name: else 449 is raised
abbrev pub first_by : (before : ℕ) → (named : Bool) → Memory → Effect Val
first_by zero named m = if named then Fine empty m else Bad-at 449 m
first_by (suc before) named m = Fine empty m

-- the names by which arguments are given: none where they don't fit
abbrev pub given_names : (parameters : List (List ℕ)) → ByName → List (List ℕ)
given_names xs by = if is_some (parameters_given xs by.before by.names) then by.names else []

-- a use of a member of a counted object begins, with arguments that have names
abbrev pub named_in_collection : (number : ℕ) → (name : List ℕ) → ByName → (given : ℕ) → Memory → Effect Val
named_in_collection o name by k m = on_fine (collection_member o name m) (λ how m1. named_begun (names_in_collection how) (takes_in_collection how) by k m1)
