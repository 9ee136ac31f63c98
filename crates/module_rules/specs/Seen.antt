-- Serves the code: what the walk over the parts of a module holds, as contracts see it.
use Rattle.std.specs.Prelude.{List, map, reverse}
use Rattle.module_parts.specs.Brackets.{kind_view}
use Rattle.vba_lexer.specs.declared.token.Token.{Token}
use Rattle.vba_tree.specs.Tree as tree
use Rattle.vba_tree.specs.View.{array_view, parameter_view, variable_view}
use Rattle.vba_tree.specs.declared.declaration.Variable.{Variable}
use Rattle.vba_tree.specs.declared.list.Next.{Next}
use Rattle.vba_tree.specs.declared.procedure.Parameter.{Parameter}
use Rattle.vba_tree.specs.declared.simple.ReDimArray.{ReDimArray}
use Rattle.vba_module.specs.Headers.{items_of}
use Rattle.vba_module.specs.Blocks as blocks
use Rattle.vba_module.specs.Misplaced as places
use Rattle.module_rules.specs.declared.before.Before.{Before}
use Rattle.module_rules.specs.declared.inside.Inside.{Inside}
use Rattle.module_rules.specs.declared.inside.Inside.TheVariants as inside
use Rattle.module_rules.specs.declared.open.Open.{Open}

abbrev pub open_view : Open → blocks.Open
open_view o = record { kind = kind_view o.kind; place = o.place; is_last = o.is_last }

-- the last one is the innermost
abbrev pub stack : List Open → List blocks.Open
stack opened = reverse (map open_view opened)

abbrev pub inside_view : Inside → places.Inside
inside_view inside.Module = places.at_module
inside_view inside.Procedure = places.in_procedure
inside_view inside.Enum = places.in_enum
inside_view inside.Type = places.in_type

abbrev pub before_view : Before → places.Before
before_view b = record {
  has_explicit = b.has_explicit;
  has_base = b.has_base;
  has_compare = b.has_compare;
  has_private_module = b.has_private_module;
  has_declaration = b.has_declaration;
  has_procedure = b.has_procedure;
}

-- items behind their commas
abbrev pub parameters_behind : List (Next Parameter) → List tree.Parameter
parameters_behind others = items_of (map (λ next. (next.mark, parameter_view next.item)) others)

abbrev pub variables_behind : List (Next Variable) → List tree.Variable
variables_behind others = items_of (map (λ next. (next.mark, variable_view next.item)) others)

abbrev pub arrays_behind : List (Next ReDimArray) → List tree.ReDimArray
arrays_behind others = items_of (map (λ next. (next.mark, array_view next.item)) others)

abbrev pub variable_with_mark : Next Variable → Token × tree.Variable
variable_with_mark next = (next.mark, variable_view next.item)
