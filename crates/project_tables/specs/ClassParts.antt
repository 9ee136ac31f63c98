-- Serves the code: procedures of properties, which entries count for a member, and marks of members.
use Rattle.std.specs.Prelude.{Bool, true, false, Option, option_and_then}
use Rattle.vba_lexer.specs.declared.token.Token.{Token}
use Rattle.vba_expression.specs.declared.tree.LiteralValue.{LiteralValue}
use Rattle.vba_tree.specs.declared.procedure.ProcedureWords.{ProcedureWords}
use Rattle.bound_declarations.specs.constant_values.specs.declared_names.specs.binder.specs.ClassTables.{every_entry, first_marked, is_minus_four, is_public_member, is_zero, member_named}
use Rattle.bound_declarations.specs.constant_values.specs.declared_names.specs.binder.specs.Declarations.{Entry}
use Rattle.bound_declarations.specs.constant_values.specs.declared_names.specs.binder.specs.Scopes.{Scope}
use Rattle.bound_declarations.specs.constant_values.specs.declared_names.specs.binder.specs.Signatures.{is_get, is_let, is_set}
use Rattle.bound_project.specs.Project.{Member}
use Rattle.project_tables.specs.declared.class_tables.Mark.{Mark}
use Rattle.project_tables.specs.declared.class_tables.Mark.TheVariants as mark
use Rattle.project_tables.specs.declared.class_tables.PropertyPart.{PropertyPart}
use Rattle.project_tables.specs.declared.class_tables.PropertyPart.TheVariants as part

abbrev pub is_part : PropertyPart → ProcedureWords → Bool
is_part part.Get = is_get
is_part part.Let = is_let
is_part part.Set = is_set

abbrev pub counts : (all : Bool) → Entry → Bool
counts true = every_entry
counts false = is_public_member

abbrev pub marks : Mark → Option Token → LiteralValue → Bool
marks mark.Default = is_zero
marks mark.Enumerator = is_minus_four

-- the member that such an attribute marks, which may be Private
abbrev pub member_marked : Mark → Scope → Option Member
member_marked m s = option_and_then (λ x. member_named s x) (first_marked (marks m) s.here.source.parts)
