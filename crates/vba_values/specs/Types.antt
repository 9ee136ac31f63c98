-- Declared types without where they lie in memory.
use Rattle.std.specs.Prelude.{ℕ}
use Rattle.vba_values.specs.declared.types.VType.{VType, fold-VType, VType-F}

-- a declared type: String * n as fixed_text n, and an array by the type of its elements
pub data Declared : Type 0 where
  boolean : Declared
  byte : Declared
  integer : Declared
  long : Declared
  long_long : Declared
  currency : Declared
  text : Declared
  fixed_text : ℕ → Declared
  object : Declared
  class : ℕ → Declared
  collection : Declared
  worksheet : Declared
  range : Declared
  variant : Declared
  udt : ℕ → Declared
  array_of : Declared → Declared

-- one level, with a type inside already seen so
abbrev pub declared_step : VType-F Declared → Declared
declared_step VType-F.Boolean = boolean
declared_step VType-F.Byte = byte
declared_step VType-F.Integer = integer
declared_step VType-F.Long = long
declared_step VType-F.LongLong = long_long
declared_step VType-F.Currency = currency
declared_step VType-F.Text = text
declared_step (VType-F.FixedText size) = fixed_text size
declared_step VType-F.Object = object
declared_step (VType-F.Class number) = class number
declared_step VType-F.Collection = collection
declared_step VType-F.Worksheet = worksheet
declared_step VType-F.Range = range
declared_step VType-F.Variant = variant
declared_step (VType-F.Udt place) = udt place
declared_step (VType-F.ArrayOf element) = array_of element.value

-- what a VType stands for
abbrev pub declared : VType → Declared
declared = fold-VType Declared declared_step
