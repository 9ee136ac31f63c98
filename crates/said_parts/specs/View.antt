-- Serves the code: what stands for what parts say. The variable of a loop is an expression there, and arguments are one
-- each.
use Rattle.std.specs.Prelude.{option_map, List, [], ◌∷◌, map, flat_map}
use Rattle.vba_expression.specs.Tree.{name}
use Rattle.vba_expression.specs.View.{view as expression_view, arguments_view}
use Rattle.vba_tree.specs.declared.list.Next.{Next}
use Rattle.vba_tree.specs.declared.line.TypeMember.{TypeMember}
use Rattle.vba_tree.specs.View.{type_clause_view, dims_view, variable_view, constant_view}
use Rattle.vba_module.specs.Headers.{items_of}
use Rattle.binder.specs.Declarations.{FieldWritten, a_local, a_local_constant}
use Rattle.binder.specs.Said as plain
use Rattle.said_parts.specs.declared.said.Said.{Said}
use Rattle.said_parts.specs.declared.said.Said.TheVariants as said

abbrev pub said_view : Said → List plain.Said
said_view (said.Declares v static) = plain.declares (record { name = v.now.name; own = a_local (variable_view v.now) static }) ∷ []
said_view (said.DeclaresConstant c) = plain.declares (record { name = c.now.name; own = a_local_constant (constant_view c.now) }) ∷ []
said_view (said.TypeNamed t) = plain.type_named t.now ∷ []
said_view (said.NewNamed t) = plain.new_named t.now ∷ []
said_view (said.ConstantExpression e) = plain.constant_expression (expression_view e.now) ∷ []
said_view (said.Expression e) = plain.expression (expression_view e.now) ∷ []
said_view (said.Counter x) = plain.expression (name x.now) ∷ []
said_view (said.Arguments a) = plain.arguments_said (arguments_view a.now)
said_view (said.Called e) = plain.called (expression_view e.now) ∷ []
said_view (said.Redimmed e clause) = plain.redimmed (expression_view e.now) (option_map type_clause_view clause.now) ∷ []
said_view (said.GoesTo l) = plain.goes_to l.now ∷ []
said_view (said.Raises x) = plain.raises x.now ∷ []

abbrev pub all_said : List Said → List plain.Said
all_said = flat_map said_view

-- items behind their marks
abbrev pub behind : {A B : Type 0} → (A → B) → List (Next A) → List B
behind item_view others = items_of (map (λ next. (next.mark, item_view next.item)) others)

-- a field of a Type, by the line of its member
abbrev pub field_view : TypeMember → FieldWritten
field_view m = record { name = m.name; dims = option_map dims_view m.dims; type_clause = type_clause_view m.type_clause }
