-- The plain trees that the trees of lines stand for.
use Rattle.std.specs.Prelude.{List, [], ◌∷◌, map, Option, Some, None, option_map}
use Rattle.vba_lexer.specs.declared.token.Token.{Token}
use Rattle.vba_expression.specs.View.{view as expression_view, arguments_view}
use Rattle.vba_tree.specs.declared.list.Listed.{Listed}
use Rattle.vba_tree.specs.declared.declaration.DeclaredType.{DeclaredType}
use Rattle.vba_tree.specs.declared.declaration.DeclaredType.TheVariants as declared_type
use Rattle.vba_tree.specs.declared.declaration.TypeClause.{TypeClause}
use Rattle.vba_tree.specs.declared.declaration.NewTypeClause.{NewTypeClause}
use Rattle.vba_tree.specs.declared.declaration.Dim.{Dim}
use Rattle.vba_tree.specs.declared.declaration.Dim.TheVariants as dim
use Rattle.vba_tree.specs.declared.declaration.Dims.{Dims}
use Rattle.vba_tree.specs.declared.declaration.Variable.{Variable}
use Rattle.vba_tree.specs.declared.declaration.Constant.{Constant}
use Rattle.vba_tree.specs.declared.procedure.DefaultValue.{DefaultValue}
use Rattle.vba_tree.specs.declared.procedure.Parameter.{Parameter}
use Rattle.vba_tree.specs.declared.procedure.Parameters.{Parameters}
use Rattle.vba_tree.specs.declared.procedure.ResultType.{ResultType}
use Rattle.vba_tree.specs.declared.block.CaseTest.{CaseTest}
use Rattle.vba_tree.specs.declared.block.CaseTest.TheVariants as test
use Rattle.vba_tree.specs.declared.block.StepClause.{StepClause}
use Rattle.vba_tree.specs.declared.block.LoopCondition.{LoopCondition}
use Rattle.vba_tree.specs.declared.block.BlockLine.{BlockLine}
use Rattle.vba_tree.specs.declared.block.BlockLine.TheVariants as block
use Rattle.vba_tree.specs.declared.simple.ReDimArray.{ReDimArray}
use Rattle.vba_tree.specs.declared.simple.EventArguments.{EventArguments}
use Rattle.vba_tree.specs.declared.simple.PrintItem.{PrintItem}
use Rattle.vba_tree.specs.declared.simple.SimpleStatement.{SimpleStatement}
use Rattle.vba_tree.specs.declared.simple.SimpleStatement.TheVariants as simple
use Rattle.vba_tree.specs.declared.statement.Statement.{Statement, fold-Statement, Statement-F}
use Rattle.vba_tree.specs.declared.statement.StatementList.{StatementList, fold-StatementList, StatementList-F}
use Rattle.vba_tree.specs.declared.statement.NextStatement.{NextStatement, fold-NextStatement, NextStatement-F}
use Rattle.vba_tree.specs.declared.line.StatementLine.{StatementLine}
use Rattle.vba_tree.specs.declared.line.LineTree.{LineTree}
use Rattle.vba_tree.specs.declared.line.LineTree.TheVariants as line
use Rattle.vba_tree.specs.Tree as tree

abbrev pub listed_view : {A B : Type 0} → (A → B) → Listed A → tree.Listed B
listed_view item_view list = record {
  first = item_view list.first;
  others = map (λ next. (next.mark, item_view next.item)) list.others.items;
}

abbrev pub declared_type_view : DeclaredType → tree.DeclaredType
declared_type_view (declared_type.Named class) = tree.named class
declared_type_view (declared_type.FixedText string_word times length) = tree.fixed_text string_word times (expression_view length)

abbrev pub type_clause_view : TypeClause → tree.TypeClause
type_clause_view clause = record { as_word = clause.as_word; declared_type = declared_type_view clause.declared_type }

abbrev pub new_type_clause_view : NewTypeClause → tree.NewTypeClause
new_type_clause_view clause = record {
  as_word = clause.as_word;
  new_word = clause.new_word;
  declared_type = declared_type_view clause.declared_type;
}

abbrev pub dim_view : Dim → tree.Dim
dim_view (dim.Upper upper) = tree.upper (expression_view upper)
dim_view (dim.Range lower to_word upper) = tree.Dim.range (expression_view lower) to_word (expression_view upper)

abbrev pub dims_view : Dims → tree.Dims
dims_view d = record { left = d.left; dims = option_map (listed_view dim_view) d.dims; right = d.right }

abbrev pub variable_view : Variable → tree.Variable
variable_view variable = record {
  with_events_word = variable.with_events_word;
  name = variable.name;
  dims = option_map dims_view variable.dims;
  type_clause = option_map new_type_clause_view variable.type_clause;
}

abbrev pub constant_view : Constant → tree.Constant
constant_view constant = record {
  name = constant.name;
  type_clause = option_map type_clause_view constant.type_clause;
  equal = constant.equal;
  value = expression_view constant.value;
}

abbrev pub default_view : DefaultValue → tree.DefaultValue
default_view d = record { equal = d.equal; value = expression_view d.value }

abbrev pub parameter_view : Parameter → tree.Parameter
parameter_view parameter = record {
  optional_word = parameter.optional_word;
  passing = parameter.passing;
  param_array_word = parameter.param_array_word;
  name = parameter.name;
  brackets = parameter.brackets;
  type_clause = option_map type_clause_view parameter.type_clause;
  default = option_map default_view parameter.default;
}

abbrev pub parameters_view : Parameters → tree.Parameters
parameters_view p = record { left = p.left; parameters = option_map (listed_view parameter_view) p.parameters; right = p.right }

abbrev pub result_type_view : ResultType → tree.ResultType
result_type_view r = record { as_word = r.as_word; declared_type = declared_type_view r.declared_type; brackets = r.brackets }

abbrev pub test_view : CaseTest → tree.CaseTest
test_view (test.Value value) = tree.value (expression_view value)
test_view (test.Range low to_word high) = tree.CaseTest.range (expression_view low) to_word (expression_view high)
test_view (test.Comparison is_word operator operator_token value) =
    tree.comparison is_word operator operator_token (expression_view value)

abbrev pub step_view : StepClause → tree.StepClause
step_view step = record { step_word = step.step_word; value = expression_view step.value }

abbrev pub loop_condition_view : LoopCondition → tree.LoopCondition
loop_condition_view c = record { word = c.word; word_token = c.word_token; condition = expression_view c.condition }

abbrev pub block_line_view : BlockLine → tree.BlockLine
block_line_view (block.If if_word condition then_word) = tree.if_line if_word (expression_view condition) then_word
block_line_view (block.ElseIf else_if_word condition then_word) =
    tree.else_if_line else_if_word (expression_view condition) then_word
block_line_view (block.Else else_word) = tree.else_line else_word
block_line_view (block.EndIf end_word if_word) = tree.end_if end_word if_word
block_line_view (block.SelectCase select_word case_word value) = tree.select_case select_word case_word (expression_view value)
block_line_view (block.Case case_word tests) = tree.case_line case_word (listed_view test_view tests)
block_line_view (block.CaseElse case_word else_word) = tree.case_else case_word else_word
block_line_view (block.EndSelect end_word select_word) = tree.end_select end_word select_word
block_line_view (block.For for_word counter equal start to_word limit step) =
    tree.for_line for_word counter equal (expression_view start) to_word (expression_view limit) (option_map step_view step)
block_line_view (block.ForEach for_word each_word element in_word group) =
    tree.for_each for_word each_word element in_word (expression_view group)
block_line_view (block.Next next_word counter) = tree.next_line next_word counter
block_line_view (block.Do do_word condition) = tree.do_line do_word (option_map loop_condition_view condition)
block_line_view (block.Loop loop_word condition) = tree.loop_line loop_word (option_map loop_condition_view condition)
block_line_view (block.While while_word condition) = tree.while_line while_word (expression_view condition)
block_line_view (block.Wend wend_word) = tree.wend wend_word
block_line_view (block.With with_word object) = tree.with_line with_word (expression_view object)
block_line_view (block.EndWith end_word with_word) = tree.end_with end_word with_word

abbrev pub array_view : ReDimArray → tree.ReDimArray
array_view array = record {
  place = expression_view array.place;
  left = array.left;
  dims = listed_view dim_view array.dims;
  right = array.right;
  type_clause = option_map type_clause_view array.type_clause;
}

abbrev pub event_arguments_view : EventArguments → tree.EventArguments
event_arguments_view a = record { left = a.left; arguments = arguments_view a.arguments; right = a.right }

abbrev pub print_item_view : PrintItem → tree.PrintItem
print_item_view item = record {
  mark = item.mark;
  mark_token = item.mark_token;
  value = option_map expression_view item.value;
}

abbrev pub simple_view : SimpleStatement → tree.Simple
simple_view (simple.Variables v) = tree.variables v.word v.word_token (listed_view variable_view v.variables)
simple_view (simple.Constants c) = tree.constants c.access c.const_word (listed_view constant_view c.constants)
simple_view (simple.Assignment let_word place equal value) =
    tree.assignment let_word (expression_view place) equal (expression_view value)
simple_view (simple.SetAssignment set_word place equal value) =
    tree.set_assignment set_word (expression_view place) equal (expression_view value)
simple_view (simple.CallPlace call_word place) = tree.call_place call_word (expression_view place)
simple_view (simple.Call target arguments) = tree.call (expression_view target) (arguments_view arguments)
simple_view (simple.ReDim redim_word preserve_word arrays) = tree.re_dim redim_word preserve_word (listed_view array_view arrays)
simple_view (simple.Erase erase_word places) = tree.erase erase_word (listed_view expression_view places)
simple_view (simple.GoTo goto_word label) = tree.go_to goto_word label
simple_view (simple.GoSub gosub_word label) = tree.go_sub gosub_word label
simple_view (simple.Return return_word) = tree.return_from return_word
simple_view (simple.Exit exit_word kind kind_word) = tree.exit exit_word kind kind_word
simple_view (simple.End end_word) = tree.end end_word
simple_view (simple.Stop stop_word) = tree.stop stop_word
simple_view (simple.OnError on_word error_word handling) = tree.on_error on_word error_word handling
simple_view (simple.Resume resume_word target) = tree.resume resume_word target
simple_view (simple.RaiseEvent raise_event_word event arguments) =
    tree.raise_event raise_event_word event (option_map event_arguments_view arguments)
simple_view (simple.DebugPrint debug_word dot print_word first others) =
    tree.debug_print debug_word dot print_word (option_map expression_view first) (map print_item_view others.items)
simple_view (simple.BlockLine line) = tree.block_line (block_line_view line)

-- a statement behind a colon, by itself
pub data Next : Type 0 where
  written : Token → tree.Stmt → Next
  missing : Token → Next

-- the statement behind a colon, where one is written
abbrev pub statement_in : Next → Option tree.Stmt
statement_in (written colon statement) = Some statement
statement_in (missing colon) = None

-- statements and one more
abbrev pub put : tree.Stmts → Next → tree.Stmts
put before (written colon statement) = tree.more before colon statement
put before (missing colon) = tree.gap before colon

abbrev pub put_all : tree.Stmts → List Next → tree.Stmts
put_all before [] = before
put_all before (next ∷ others) = put_all (put before next) others

-- one level, with each tree inside already seen as its plain tree
abbrev pub statement_step : Statement-F Next tree.Stmt tree.Stmts → tree.Stmt
statement_step (Statement-F.Simple statement) = tree.simple (simple_view statement)
statement_step (Statement-F.SingleLineIf if_word condition then_word then_list) =
    tree.if_then if_word (expression_view condition) then_word then_list
statement_step (Statement-F.SingleLineIfElse if_word condition then_word then_list else_word else_list) =
    tree.if_else if_word (expression_view condition) then_word then_list else_word else_list

abbrev pub list_step : StatementList-F Next tree.Stmt tree.Stmts → tree.Stmts
list_step list = put_all (tree.one list.first.value) list.others.items

abbrev pub next_step : NextStatement-F Next tree.Stmt tree.Stmts → Next
next_step (NextStatement-F.Written colon statement) = written colon statement.value
next_step (NextStatement-F.Missing colon) = missing colon

-- the plain tree that a statement stands for
abbrev pub statement_view : Statement → tree.Stmt
statement_view = fold-Statement Next tree.Stmt tree.Stmts next_step statement_step list_step

abbrev pub list_view : StatementList → tree.Stmts
list_view = fold-StatementList Next tree.Stmt tree.Stmts next_step statement_step list_step

abbrev pub next_view : NextStatement → Next
next_view = fold-NextStatement Next tree.Stmt tree.Stmts next_step statement_step list_step

-- the statements of a line, whose first may be missing
abbrev pub front : Option Statement → tree.Stmts
front None = tree.nothing
front (Some statement) = tree.one (statement_view statement)

-- the line of statements that a line is
abbrev pub statement_line_in : LineTree → Option StatementLine
statement_line_in (line.Statements statements) = Some statements
statement_line_in other = None

-- the plain tree that the tree of a line stands for
abbrev pub view : LineTree → tree.Line
view (line.Option option) = tree.option_line option
view (line.Attribute a) = tree.attribute_line a.attribute_word (listed_view (λ name. name) a.names) a.equal (listed_view (λ value. value) a.values)
view (line.EnumHeader header) = tree.enum_header header
view (line.EnumEnd end_word enum_word) = tree.end_enum end_word enum_word
view (line.TypeHeader header) = tree.type_header header
view (line.TypeMember m) = tree.type_member m.name (option_map dims_view m.dims) (type_clause_view m.type_clause)
view (line.TypeEnd end_word type_word) = tree.end_type end_word type_word
view (line.Event e) = tree.event_line e.access e.event_word e.name (option_map parameters_view e.parameters)
view (line.ProcedureHeader h) =
    tree.procedure_header h.access h.static_word h.words h.name (option_map parameters_view h.parameters) (option_map result_type_view h.result_type)
view (line.ProcedureEnd ending) = tree.procedure_end ending
view (line.Statements s) = tree.statement_line s.label (put_all (front s.first) (map next_view s.others.items))
