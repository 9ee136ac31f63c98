-- The names of the library, by their case folds and without `$`.
use Rattle.std.specs.Prelude.{ℕ, Bool, pos, negsuc, List, [], ◌∷◌, Option, Some, None, option_map, bytes_eq, codes, if◌then◌else◌}
use Rattle.std.specs.List.{list_any}
use Rattle.vba_values.specs.declared.types.WholeKind.TheVariants as kind
use Rattle.vba_values.specs.Val.{Val, whole, text}
use Rattle.vba_lib.specs.declared.constant.Constant.{Constant}
use Rattle.vba_lib.specs.declared.constant.Constant.TheVariants as constant
use Rattle.vba_lib.specs.declared.function.LibraryFunction.{LibraryFunction}
use Rattle.vba_lib.specs.declared.function.LibraryFunction.TheVariants as function

-- the functions in alphabetical order
abbrev pub functions : List (List ℕ × LibraryFunction)
functions =
    (codes "abs", function.Abs) ∷
    (codes "array", function.Array) ∷
    (codes "asc", function.Asc) ∷
    (codes "ascw", function.AscW) ∷
    (codes "cbool", function.CBool) ∷
    (codes "cbyte", function.CByte) ∷
    (codes "ccur", function.CCur) ∷
    (codes "chr", function.Chr) ∷
    (codes "chrw", function.ChrW) ∷
    (codes "cint", function.CInt) ∷
    (codes "clng", function.CLng) ∷
    (codes "clnglng", function.CLngLng) ∷
    (codes "cstr", function.CStr) ∷
    (codes "cvar", function.CVar) ∷
    (codes "fix", function.Fix) ∷
    (codes "hex", function.Hex) ∷
    (codes "iif", function.IIf) ∷
    (codes "instr", function.InStr) ∷
    (codes "int", function.Int) ∷
    (codes "isarray", function.IsArray) ∷
    (codes "isempty", function.IsEmpty) ∷
    (codes "ismissing", function.IsMissing) ∷
    (codes "isnull", function.IsNull) ∷
    (codes "isobject", function.IsObject) ∷
    (codes "join", function.Join) ∷
    (codes "lbound", function.LBound) ∷
    (codes "lcase", function.LCase) ∷
    (codes "left", function.Left) ∷
    (codes "len", function.Len) ∷
    (codes "ltrim", function.LTrim) ∷
    (codes "mid", function.Mid) ∷
    (codes "oct", function.Oct) ∷
    (codes "replace", function.Replace) ∷
    (codes "right", function.Right) ∷
    (codes "rtrim", function.RTrim) ∷
    (codes "sgn", function.Sgn) ∷
    (codes "space", function.Space) ∷
    (codes "split", function.Split) ∷
    (codes "strcomp", function.StrComp) ∷
    (codes "string", function.String) ∷
    (codes "strreverse", function.StrReverse) ∷
    (codes "trim", function.Trim) ∷
    (codes "typename", function.TypeName) ∷
    (codes "ubound", function.UBound) ∷
    (codes "ucase", function.UCase) ∷
    (codes "vartype", function.VarType) ∷
    []

-- the constants in alphabetical order
abbrev pub constants : List (List ℕ × Constant)
constants =
    (codes "vbarray", constant.Number (pos 8192)) ∷
    (codes "vbbinarycompare", constant.Number (pos 0)) ∷
    (codes "vbboolean", constant.Number (pos 11)) ∷
    (codes "vbbyte", constant.Number (pos 17)) ∷
    (codes "vbcr", constant.Return) ∷
    (codes "vbcrlf", constant.LineBreak) ∷
    (codes "vbcurrency", constant.Number (pos 6)) ∷
    (codes "vbempty", constant.Number (pos 0)) ∷
    (codes "vberror", constant.Number (pos 10)) ∷
    (codes "vbfalse", constant.Number (pos 0)) ∷
    (codes "vbinteger", constant.Number (pos 2)) ∷
    (codes "vblf", constant.LineFeed) ∷
    (codes "vblong", constant.Number (pos 3)) ∷
    (codes "vblonglong", constant.Number (pos 20)) ∷
    (codes "vbnewline", constant.LineBreak) ∷
    (codes "vbnull", constant.Number (pos 1)) ∷
    (codes "vbnullstring", constant.NoText) ∷
    (codes "vbobject", constant.Number (pos 9)) ∷
    (codes "vbobjecterror", constant.Number (negsuc 2147221503)) ∷
    (codes "vbstring", constant.Number (pos 8)) ∷
    (codes "vbtab", constant.Tab) ∷
    (codes "vbtextcompare", constant.Number (pos 1)) ∷
    (codes "vbtrue", constant.Number (negsuc 0)) ∷
    (codes "vbvariant", constant.Number (pos 12)) ∷
    []

-- functions that VBA has and this library hasn't, in alphabetical order
abbrev pub outside_functions : List (List ℕ)
outside_functions =
    codes "atn" ∷
    codes "cdate" ∷
    codes "cdbl" ∷
    codes "cdec" ∷
    codes "command" ∷
    codes "cos" ∷
    codes "createobject" ∷
    codes "csng" ∷
    codes "cverr" ∷
    codes "dateadd" ∷
    codes "datediff" ∷
    codes "datepart" ∷
    codes "dateserial" ∷
    codes "datevalue" ∷
    codes "day" ∷
    codes "dir" ∷
    codes "doevents" ∷
    codes "environ" ∷
    codes "exp" ∷
    codes "format" ∷
    codes "formatcurrency" ∷
    codes "formatnumber" ∷
    codes "getobject" ∷
    codes "hour" ∷
    codes "inputbox" ∷
    codes "isdate" ∷
    codes "iserror" ∷
    codes "isnumeric" ∷
    codes "log" ∷
    codes "minute" ∷
    codes "month" ∷
    codes "msgbox" ∷
    codes "now" ∷
    codes "randomize" ∷
    codes "rnd" ∷
    codes "round" ∷
    codes "second" ∷
    codes "shell" ∷
    codes "sin" ∷
    codes "sqr" ∷
    codes "str" ∷
    codes "tan" ∷
    codes "time" ∷
    codes "timer" ∷
    codes "timeserial" ∷
    codes "timevalue" ∷
    codes "val" ∷
    codes "weekday" ∷
    codes "year" ∷
    []

-- types that VBA has and this library hasn't; where no type is looked for they are outside too
abbrev pub outside_types : List (List ℕ)
outside_types = codes "date" ∷ codes "decimal" ∷ codes "double" ∷ codes "single" ∷ []

-- what stands beside a name in a table
abbrev pub sought : {A : Type 0} → List ℕ → List (List ℕ × A) → Option A
sought name [] = None
sought name (row ∷ rows) = if bytes_eq name row.0 then Some row.1 else sought name rows

abbrev pub function_named : List ℕ → Option LibraryFunction
function_named name = sought name functions

-- the value of a constant: a text, or a number as a Long
abbrev pub constant_value : Constant → Val
constant_value constant.LineBreak = text (13 ∷ 10 ∷ [])
constant_value constant.Return = text (13 ∷ [])
constant_value constant.LineFeed = text (10 ∷ [])
constant_value constant.Tab = text (9 ∷ [])
constant_value constant.NoText = text []
constant_value (constant.Number number) = whole kind.Long number

abbrev pub constant_named : List ℕ → Option Val
constant_named name = option_map constant_value (sought name constants)

abbrev pub is_outside : List ℕ → Bool
is_outside name = list_any (bytes_eq name) outside_functions

abbrev pub is_outside_type : List ℕ → Bool
is_outside_type name = list_any (bytes_eq name) outside_types
