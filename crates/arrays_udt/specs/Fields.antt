-- Types and their fields, without where they lie in memory.
use Rattle.std.specs.Prelude.{◌≡◌, ℕ, zero, suc, nat_lt, nat_eq, Bool, true, false, not, ◌&&◌, ◌||◌, if◌then◌else◌, List, [], map, slice_index_or, length}
use Rattle.std.specs.List.{list_any, list_all}
use Rattle.vba_values.specs.declared.value.Bound.{Bound}
use Rattle.vba_values.specs.Types.{Declared, declared}
use Rattle.vba_values.specs.Types as type
use Rattle.arrays_udt.specs.declared.udt.UdtField.{UdtField}
use Rattle.arrays_udt.specs.declared.udt.UdtType.{UdtType}
use Rattle.arrays_udt.specs.Shapes.{is_shape}

-- a field: its declared type, and its bounds, none but for an array declared with bounds
pub record Field : Type 0 where
  pub of : Declared
  pub bounds : List Bound

abbrev pub field_of : UdtField → Field
field_of field = record { of = declared field.of; bounds = field.bounds.items }

-- the fields of each Type
abbrev pub types_of : List UdtType → List (List Field)
types_of types = map (λ udt. map field_of udt.fields.items) types

-- the fields of the Type with a number
abbrev pub fields_at : List (List Field) → ℕ → List Field
fields_at types number = slice_index_or types number []

abbrev pub has_bounds : Field → Bool
has_bounds field = nat_lt 0 (length field.bounds)

abbrev pub is_array : Declared → Bool
is_array (type.array_of element) = true
is_array other = false

-- the type of an array's elements
abbrev pub element_of : Declared → Declared
element_of (type.array_of element) = element
element_of other = other

-- the type of what a field stores from its beginning: of an array with bounds its elements
abbrev pub stored : Field → Declared
stored field = if has_bounds field then element_of field.of else field.of

-- a field with bounds is an array of a shape
abbrev pub is_field : Field → Bool
is_field field = not (has_bounds field) || is_array field.of && is_shape field.bounds

-- the number of a Type
abbrev pub is_type : ℕ → Declared → Bool
is_type number (type.udt other) = nat_eq number other
is_type number other = false

-- a Type has a field that stores another Type
abbrev pub holds : List (List Field) → ℕ → ℕ → Bool
holds types number other = list_any (λ field. is_type other (stored field)) (fields_at types number)

-- so many fields, each of the Type before it, lead from a Type to another
abbrev pub Leads : List (List Field) → ℕ → ℕ → ℕ → Type 0
Leads types zero number other = number ≡ other
Leads types (suc count) number other = (next : ℕ) × (holds types number next ≡ true) × Leads types count next other

-- the number of a Type is a place of the list of Types
abbrev pub is_known : List (List Field) → Declared → Bool
is_known types (type.udt number) = nat_lt number (length types)
is_known types other = true

-- Types that values can have: their fields are declared as arrays can be and store known Types, and none of them holds itself by fields
pub record AreTypes (types : List (List Field)) : Type 0 where
  pub fields : list_all (list_all (λ field. is_field field && is_known types (stored field))) types ≡ true
  pub none_holds_itself : (number count : ℕ) → Leads types (suc count) number number → ⊥
