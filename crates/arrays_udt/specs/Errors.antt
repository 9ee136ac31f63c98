-- The answers of calls on arrays, by their numbers.
use Rattle.vba_values.specs.declared.fault.Bad.{Bad}
use Rattle.vba_values.specs.declared.fault.Bad.TheVariants.{Raise, Outside}
use Rattle.vba_values.specs.declared.fault.OutKind.TheVariants.{Elements}

-- Subscript out of range
abbrev pub out_of_range : Bad
out_of_range = Raise 9

-- an array has at most 1048576 elements
abbrev pub too_many_elements : Bad
too_many_elements = Outside Elements
