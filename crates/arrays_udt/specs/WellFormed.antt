-- Values that are well-formed at every depth.
use Rattle.std.specs.Prelude.{ℕ, zero, suc, nat_lt, nat_eq, Bool, true, false, ◌&&◌, List, [], ◌∷◌, Option, Some, None, length}
use Rattle.vba_values.specs.declared.value.Bound.{Bound}
use Rattle.vba_values.specs.Held.{can_hold}
use Rattle.vba_values.specs.Types.{Declared}
use Rattle.vba_values.specs.Val.{Val, Vals, array, udt, no_vals, val}
use Rattle.arrays_udt.specs.Fields.{Field, fields_at, is_known}
use Rattle.arrays_udt.specs.Resize.{count}
use Rattle.arrays_udt.specs.Shapes.{elements, is_shape}
use Rattle.arrays_udt.specs.declared.paths.PathStep.{PathStep}
use Rattle.arrays_udt.specs.declared.paths.PathStep.TheVariants as step

-- whether an array can have these bounds and elements of that type; without bounds it has none
abbrev pub can_store : List (List Field) → List Bound → Declared → Bool
can_store types [] element = true
can_store types (bound ∷ bounds) element = is_shape (bound ∷ bounds) && is_known types element

abbrev mutual
  -- whether a value is well-formed: an array has as many items as its bounds say, each of which its element type can hold; a value of a
  -- Type has a value for each field, which the field's type can hold; and so is each value inside
  pub is_well_formed : List (List Field) → Val → Bool
  is_well_formed types (array bounds element items) =
      can_store types bounds element && (nat_eq (count items) (elements bounds) && all_well_formed types element items)
  is_well_formed types (udt number fields) = nat_lt number (length types) && fields_well_formed types (fields_at types number) fields
  is_well_formed types value = true

  -- whether a declared type can hold each of these values, and each is well-formed
  pub all_well_formed : List (List Field) → Declared → Vals → Bool
  all_well_formed types element no_vals = true
  all_well_formed types element (val v vs) = can_hold element v && (is_well_formed types v && all_well_formed types element vs)

  -- the same of fields, one value for each
  pub fields_well_formed : List (List Field) → List Field → Vals → Bool
  fields_well_formed types [] no_vals = true
  fields_well_formed types (field ∷ fields) (val v vs) = can_hold field.of v && (is_well_formed types v && fields_well_formed types fields vs)
  fields_well_formed types fields vs = false

-- whether a variable of a declared type can hold a value, and it is well-formed
abbrev pub is_held : List (List Field) → Declared → Val → Bool
is_held types of value = can_hold of value && is_well_formed types value

abbrev mutual
  -- the declared type of what stands at a path inside a value of a declared type
  pub type_at : List (List Field) → Declared → Val → List PathStep → Option Declared
  type_at types of value [] = Some of
  type_at types of (array bounds element items) (step.Element offset ∷ path) = type_in types element items offset path
  type_at types of (udt number fields) (step.Field place ∷ path) = type_of_field types (fields_at types number) fields place path
  type_at types of value (other ∷ path) = None

  pub type_in : List (List Field) → Declared → Vals → ℕ → List PathStep → Option Declared
  type_in types element no_vals place path = None
  type_in types element (val v vs) zero path = type_at types element v path
  type_in types element (val v vs) (suc place) path = type_in types element vs place path

  pub type_of_field : List (List Field) → List Field → Vals → ℕ → List PathStep → Option Declared
  type_of_field types (field ∷ fields) (val v vs) zero path = type_at types field.of v path
  type_of_field types (field ∷ fields) (val v vs) (suc place) path = type_of_field types fields vs place path
  type_of_field types fields vs place path = None
