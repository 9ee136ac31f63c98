-- Serves the code: values of attributes.
use Rattle.std.specs.Prelude.{Option, Some, None, if◌then◌else◌}
use Rattle.vba_lexer.specs.declared.token.Token.{Token}
use Rattle.vba_expression.specs.declared.part.Part.{Part}
use Rattle.vba_expression.specs.declared.part.Part.TheVariants as part
use Rattle.vba_expression.specs.declared.tree.LiteralValue.{LiteralValue}
use Rattle.vba_tree.specs.Forms.{may_be_attribute}

-- the literal of a value of an attribute, behind a minus or not
abbrev pub attribute_literal_of : Option Token → Part → Option LiteralValue
attribute_literal_of minus (part.Literal value) = if may_be_attribute minus value then Some value else None
attribute_literal_of minus _ = None
