-- Serves the code: what is expected somewhere in a line.
use Rattle.std.specs.Prelude.{Bool}
use Rattle.vba_words.specs.declared.reading.Reading.{Reading}
use Rattle.vba_grammar.specs.Front.{is_as, is_new, is_to, is_then, is_in, is_equal, is_times, is_left, is_right, is_comma, is_dot, is_colon, is_else}
use Rattle.vba_grammar.specs.Clauses.{is_with_events, is_optional, is_param_array}
use Rattle.vba_grammar.specs.Blocks.{is_is, is_each, is_name, is_case}
use Rattle.vba_grammar.specs.Statements.{is_minus, is_go_to, is_next, is_resume, is_const}
use Rattle.vba_grammar.specs.Lines.{is_option, is_private, is_static, is_end}
use Rattle.vba_clauses.specs.declared.expected.Expected.{Expected}
use Rattle.vba_clauses.specs.declared.expected.Expected.TheVariants as expected

-- the grammar's test for what is expected
abbrev pub meets : Expected → Reading → Bool
meets expected.As = is_as
meets expected.Case = is_case
meets expected.Const = is_const
meets expected.Each = is_each
meets expected.Else = is_else
meets expected.End = is_end
meets expected.GoTo = is_go_to
meets expected.In = is_in
meets expected.Is = is_is
meets expected.New = is_new
meets expected.Next = is_next
meets expected.Option = is_option
meets expected.Optional = is_optional
meets expected.ParamArray = is_param_array
meets expected.Private = is_private
meets expected.Resume = is_resume
meets expected.Static = is_static
meets expected.Then = is_then
meets expected.To = is_to
meets expected.WithEvents = is_with_events
meets expected.Colon = is_colon
meets expected.Comma = is_comma
meets expected.Dot = is_dot
meets expected.Equal = is_equal
meets expected.LeftParenthesis = is_left
meets expected.Minus = is_minus
meets expected.RightParenthesis = is_right
meets expected.Times = is_times
meets expected.Name = is_name
