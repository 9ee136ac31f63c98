-- The values with which variables, fields and elements begin.
use Rattle.std.specs.Prelude.{ℕ, zero, suc, false, pos, List, [], map, replicate, length, if◌then◌else◌}
use Rattle.vba_values.specs.declared.object.ObjRef.TheVariants.{Nothing}
use Rattle.vba_values.specs.declared.types.WholeKind.TheVariants as kind
use Rattle.vba_values.specs.declared.value.Bound.{Bound}
use Rattle.vba_values.specs.Types.{Declared}
use Rattle.vba_values.specs.Types as type
use Rattle.vba_values.specs.Val.{Val, empty, boolean, whole, currency, text, object, array, udt, no_vals, vals_of}
use Rattle.arrays_udt.specs.Fields.{Field, fields_at, has_bounds, stored}
use Rattle.arrays_udt.specs.Shapes.{elements}

-- an array with an item at each place
abbrev pub filled : List Bound → Declared → Val → Val
filled bounds element item = array bounds element (vals_of (replicate (elements bounds) item))

-- the initial value of a declared type, by those of the Types: a dynamic array has no storage
abbrev pub initial_by : (ℕ → Val) → Declared → Val
initial_by udts type.boolean = boolean false
initial_by udts type.byte = whole kind.Byte (pos 0)
initial_by udts type.integer = whole kind.Integer (pos 0)
initial_by udts type.long = whole kind.Long (pos 0)
initial_by udts type.long_long = whole kind.LongLong (pos 0)
initial_by udts type.currency = currency (pos 0)
initial_by udts type.text = text []
initial_by udts (type.fixed_text size) = text (replicate size 0)
initial_by udts type.object = object Nothing
initial_by udts (type.class number) = object Nothing
initial_by udts type.collection = object Nothing
initial_by udts type.worksheet = object Nothing
initial_by udts type.range = object Nothing
initial_by udts type.variant = empty
initial_by udts (type.udt number) = udts number
initial_by udts (type.array_of element) = array [] element no_vals

-- the initial value of a field: with bounds it is the array that is filled with the initial value of its elements
abbrev pub field_by : (ℕ → Val) → Field → Val
field_by udts field =
    if has_bounds field then filled field.bounds (stored field) (initial_by udts (stored field))
    else initial_by udts field.of

-- the initial value of a Type, with Types inside so deep
abbrev pub udt_within : ℕ → List (List Field) → ℕ → Val
udt_within zero types number = empty
udt_within (suc depth) types number = udt number (vals_of (map (field_by (udt_within depth types)) (fields_at types number)))

-- the initial value of a Type: where no Type holds itself, they are inside one another at most as deep as there are Types
abbrev pub udt_initial : List (List Field) → ℕ → Val
udt_initial types number = udt_within (length types) types number

-- the initial value of a declared type, and of a field
abbrev pub initial : List (List Field) → Declared → Val
initial types of = initial_by (udt_initial types) of

abbrev pub field_initial : List (List Field) → Field → Val
field_initial types field = field_by (udt_initial types) field
