-- Plain trees of lines.
use Rattle.std.specs.Prelude.{List, Option}
use Rattle.vba_lexer.specs.declared.token.Token.{Token}
use Rattle.vba_words.specs.declared.identifier.Identifier.{Identifier}
use Rattle.vba_expression.specs.declared.operator.BinaryOperator.{BinaryOperator}
use Rattle.vba_expression.specs.declared.tree.TypeName.{TypeName}
use Rattle.vba_expression.specs.Tree.{Expr, Args}
use Rattle.vba_tree.specs.declared.declaration.AccessWord.{AccessWord}
use Rattle.vba_tree.specs.declared.declaration.Brackets.{Brackets}
use Rattle.vba_tree.specs.declared.declaration.VariableWord.{VariableWord}
use Rattle.vba_tree.specs.declared.procedure.PassingWord.{PassingWord}
use Rattle.vba_tree.specs.declared.procedure.ProcedureWords.{ProcedureWords}
use Rattle.vba_tree.specs.declared.procedure.ProcedureEnd.{ProcedureEnd}
use Rattle.vba_tree.specs.declared.block.LoopWord.{LoopWord}
use Rattle.vba_tree.specs.declared.simple.LabelName.{LabelName}
use Rattle.vba_tree.specs.declared.simple.ExitKind.{ExitKind}
use Rattle.vba_tree.specs.declared.simple.ErrorHandling.{ErrorHandling}
use Rattle.vba_tree.specs.declared.simple.ResumeTarget.{ResumeTarget}
use Rattle.vba_tree.specs.declared.simple.PrintMark.{PrintMark}
use Rattle.vba_tree.specs.declared.line.OptionLine.{OptionLine}
use Rattle.vba_tree.specs.declared.line.AttributeValue.{AttributeValue}
use Rattle.vba_tree.specs.declared.line.EnumHeader.{EnumHeader}
use Rattle.vba_tree.specs.declared.line.TypeHeader.{TypeHeader}
use Rattle.vba_tree.specs.declared.line.LineLabel.{LineLabel}

-- items with a mark between each two: the first, and each other one with the mark before it
pub record Listed (A : Type 0) : Type 0 where
  pub first : A
  pub others : List (Token × A)

-- a type behind As
pub data DeclaredType : Type 0 where
  named : TypeName → DeclaredType
  -- String, `*`, the length
  fixed_text : Token → Token → Expr → DeclaredType

-- As, the type
pub record TypeClause : Type 0 where
  pub as_word : Token
  pub declared_type : DeclaredType

-- As, New where it is written, the type
pub record NewTypeClause : Type 0 where
  pub as_word : Token
  pub new_word : Option Token
  pub declared_type : DeclaredType

-- the bounds of one dimension
pub data Dim : Type 0 where
  upper : Expr → Dim
  -- the lower bound, To, the upper bound
  range : Expr → Token → Expr → Dim

pub record Dims : Type 0 where
  pub left : Token
  pub dims : Option (Listed Dim)
  pub right : Token

pub record Variable : Type 0 where
  pub with_events_word : Option Token
  pub name : Identifier
  pub dims : Option Dims
  pub type_clause : Option NewTypeClause

pub record Constant : Type 0 where
  pub name : Identifier
  pub type_clause : Option TypeClause
  pub equal : Token
  pub value : Expr

pub record DefaultValue : Type 0 where
  pub equal : Token
  pub value : Expr

pub record Parameter : Type 0 where
  pub optional_word : Option Token
  pub passing : Option PassingWord
  pub param_array_word : Option Token
  pub name : Identifier
  pub brackets : Option Brackets
  pub type_clause : Option TypeClause
  pub default : Option DefaultValue

pub record Parameters : Type 0 where
  pub left : Token
  pub parameters : Option (Listed Parameter)
  pub right : Token

-- As, the type, and `()` behind it
pub record ResultType : Type 0 where
  pub as_word : Token
  pub declared_type : DeclaredType
  pub brackets : Option Brackets

-- a test of a Case line
pub data CaseTest : Type 0 where
  value : Expr → CaseTest
  -- the low end, To, the high end
  range : Expr → Token → Expr → CaseTest
  -- Is, the operator, its token, the value
  comparison : Token → BinaryOperator → Token → Expr → CaseTest

-- Step, the value
pub record StepClause : Type 0 where
  pub step_word : Token
  pub value : Expr

-- While or Until, its token, the condition
pub record LoopCondition : Type 0 where
  pub word : LoopWord
  pub word_token : Token
  pub condition : Expr

-- the lines of blocks
pub data BlockLine : Type 0 where
  if_line : Token → Expr → Token → BlockLine
  else_if_line : Token → Expr → Token → BlockLine
  else_line : Token → BlockLine
  end_if : Token → Token → BlockLine
  select_case : Token → Token → Expr → BlockLine
  case_line : Token → Listed CaseTest → BlockLine
  case_else : Token → Token → BlockLine
  end_select : Token → Token → BlockLine
  -- For, the counter, `=`, the start, To, the limit, Step with its value
  for_line : Token → Identifier → Token → Expr → Token → Expr → Option StepClause → BlockLine
  -- For, Each, the element, In, the group
  for_each : Token → Token → Identifier → Token → Expr → BlockLine
  next_line : Token → Option Identifier → BlockLine
  do_line : Token → Option LoopCondition → BlockLine
  loop_line : Token → Option LoopCondition → BlockLine
  while_line : Token → Expr → BlockLine
  wend : Token → BlockLine
  with_line : Token → Expr → BlockLine
  end_with : Token → Token → BlockLine

pub record ReDimArray : Type 0 where
  pub place : Expr
  pub left : Token
  pub dims : Listed Dim
  pub right : Token
  pub type_clause : Option TypeClause

pub record EventArguments : Type 0 where
  pub left : Token
  pub arguments : Args
  pub right : Token

-- what is printed next, behind its mark
pub record PrintItem : Type 0 where
  pub mark : PrintMark
  pub mark_token : Token
  pub value : Option Expr

-- statements other than single-line Ifs
pub data Simple : Type 0 where
  -- Dim or the like, its token, the variables
  variables : VariableWord → Token → Listed Variable → Simple
  constants : Option AccessWord → Token → Listed Constant → Simple
  -- Let where it is written, the place, `=`, the value
  assignment : Option Token → Expr → Token → Expr → Simple
  -- Set, the place, `=`, the value
  set_assignment : Token → Expr → Token → Expr → Simple
  call_place : Token → Expr → Simple
  -- what is called, and the arguments without brackets
  call : Expr → Args → Simple
  re_dim : Token → Option Token → Listed ReDimArray → Simple
  erase : Token → Listed Expr → Simple
  go_to : Token → LabelName → Simple
  go_sub : Token → LabelName → Simple
  return_from : Token → Simple
  exit : Token → ExitKind → Token → Simple
  end : Token → Simple
  stop : Token → Simple
  on_error : Token → Token → ErrorHandling → Simple
  resume : Token → Option ResumeTarget → Simple
  raise_event : Token → Identifier → Option EventArguments → Simple
  -- Debug, the dot, Print, what is printed
  debug_print : Token → Token → Token → Option Expr → List PrintItem → Simple
  block_line : BlockLine → Simple

mutual
  pub data Stmt : Type 0 where
    simple : Simple → Stmt
    -- If, the condition, Then, the statements
    if_then : Token → Expr → Token → Stmts → Stmt
    -- If, the condition, Then, the statements, Else, the statements
    if_else : Token → Expr → Token → Stmts → Token → Stmts → Stmt

  -- statements of a line, from the left: those before, and one more, or none, behind a colon
  pub data Stmts : Type 0 where
    nothing : Stmts
    one : Stmt → Stmts
    gap : Stmts → Token → Stmts
    more : Stmts → Token → Stmt → Stmts

-- a line of a module
pub data Line : Type 0 where
  option_line : OptionLine → Line
  -- Attribute, the names, `=`, the values
  attribute_line : Token → Listed Identifier → Token → Listed AttributeValue → Line
  enum_header : EnumHeader → Line
  end_enum : Token → Token → Line
  type_header : TypeHeader → Line
  -- a member of a Type: its name, its dims, its type
  type_member : Identifier → Option Dims → TypeClause → Line
  end_type : Token → Token → Line
  event_line : Option AccessWord → Token → Identifier → Option Parameters → Line
  -- the access word, Static, the words of the kind, the name, the parameters, the type of the result
  procedure_header : Option AccessWord → Option Token → ProcedureWords → Identifier → Option Parameters → Option ResultType → Line
  procedure_end : ProcedureEnd → Line
  statement_line : Option LineLabel → Stmts → Line
