-- Kinds of values, by name and by number.
use Rattle.std.specs.Prelude.{ℕ, ◌+◌, Bool, true, false, List, ◌++◌, codes}
use Rattle.vba_values.specs.declared.object.HostRef.{HostRef}
use Rattle.vba_values.specs.declared.object.HostRef.TheVariants.{Application, Workbook, Sheets, ErrObject, Sheet, Area, RowsOf, ColumnsOf}
use Rattle.vba_values.specs.declared.object.ObjRef.{ObjRef}
use Rattle.vba_values.specs.declared.object.ObjRef.TheVariants.{Nothing, Heap, Host}
use Rattle.vba_values.specs.declared.types.WholeKind.{WholeKind}
use Rattle.vba_values.specs.declared.types.WholeKind.TheVariants as kind
use Rattle.vba_values.specs.Types.{Declared}
use Rattle.vba_values.specs.Types as type
use Rattle.vba_values.specs.Val.{Val, empty, null, missing, boolean, whole, currency, text, object, array, udt}

-- IsObject, IsArray and IsMissing
abbrev pub is_object : Val → Bool
is_object (object reference) = true
is_object value = false

abbrev pub is_array : Val → Bool
is_array (array bounds element items) = true
is_array value = false

abbrev pub is_missing : Val → Bool
is_missing missing = true
is_missing value = false

abbrev pub kind_name : WholeKind → List ℕ
kind_name kind.Byte = codes "Byte"
kind_name kind.Integer = codes "Integer"
kind_name kind.Long = codes "Long"
kind_name kind.LongLong = codes "LongLong"

abbrev pub host_name : HostRef → List ℕ
host_name Application = codes "Application"
host_name Workbook = codes "Workbook"
host_name Sheets = codes "Sheets"
host_name ErrObject = codes "ErrObject"
host_name (Sheet sheet) = codes "Worksheet"
host_name (Area sheet top left rows columns) = codes "Range"
host_name (RowsOf count) = codes "Range"
host_name (ColumnsOf count) = codes "Range"

-- the name of a class or a Type is known to the project alone, so who knows it tells TypeName there
abbrev pub object_name : ObjRef → List ℕ
object_name Nothing = codes "Nothing"
object_name (Heap id) = codes "Object"
object_name (Host host) = host_name host

-- the name of a declared type
abbrev pub declared_name : Declared → List ℕ
declared_name type.boolean = codes "Boolean"
declared_name type.byte = codes "Byte"
declared_name type.integer = codes "Integer"
declared_name type.long = codes "Long"
declared_name type.long_long = codes "LongLong"
declared_name type.currency = codes "Currency"
declared_name type.text = codes "String"
declared_name (type.fixed_text size) = codes "String"
declared_name type.collection = codes "Collection"
declared_name type.worksheet = codes "Worksheet"
declared_name type.range = codes "Range"
declared_name type.variant = codes "Variant"
declared_name other = codes "Object"

-- TypeName: of an array it is the name of its element type with () behind it
abbrev pub type_name : Val → List ℕ
type_name empty = codes "Empty"
type_name null = codes "Null"
type_name missing = codes "Error"
type_name (boolean b) = codes "Boolean"
type_name (whole k z) = kind_name k
type_name (currency count) = codes "Currency"
type_name (text units) = codes "String"
type_name (object reference) = object_name reference
type_name (array bounds element items) = declared_name element ++ codes "()"
type_name (udt place fields) = codes "Object"

abbrev pub kind_number : WholeKind → ℕ
kind_number kind.Byte = 17
kind_number kind.Integer = 2
kind_number kind.Long = 3
kind_number kind.LongLong = 20

abbrev pub declared_number : Declared → ℕ
declared_number type.boolean = 11
declared_number type.byte = 17
declared_number type.integer = 2
declared_number type.long = 3
declared_number type.long_long = 20
declared_number type.currency = 6
declared_number type.text = 8
declared_number (type.fixed_text size) = 8
declared_number type.variant = 12
declared_number (type.udt place) = 36
declared_number other = 9

-- VarType: of an array it is that of its element type, with 8192 added
abbrev pub var_type : Val → ℕ
var_type empty = 0
var_type null = 1
var_type missing = 10
var_type (boolean b) = 11
var_type (whole k z) = kind_number k
var_type (currency count) = 6
var_type (text units) = 8
var_type (object reference) = 9
var_type (array bounds element items) = 8192 + declared_number element
var_type (udt place fields) = 36
