-- Serves the code: the states of the reading of a line as contracts see them.
use Rattle.std.specs.Prelude.{List, Option, Some, None, map, option_map, reverse}
use Rattle.vba_expression.specs.View.{view as expression_view}
use Rattle.vba_tree.specs.Tree.{Stmts}
use Rattle.vba_tree.specs.View.{put_all, front, next_view, list_view}
use Rattle.vba_grammar.specs.Lists as lists
use Rattle.vba_grammar.specs.Lines as lines
use Rattle.vba_parser.specs.declared.frame.Statements.{Statements}
use Rattle.vba_parser.specs.declared.frame.Where.{Where}
use Rattle.vba_parser.specs.declared.frame.Where.TheVariants as places
use Rattle.vba_parser.specs.declared.frame.IfHead.{IfHead}
use Rattle.vba_parser.specs.declared.frame.ElseHead.{ElseHead}
use Rattle.vba_parser.specs.declared.frame.Frame.{Frame}
use Rattle.vba_parser.specs.declared.frame.Frame.TheVariants as frames
use Rattle.vba_parser.specs.declared.frame.State.{State}
use Rattle.vba_parser.specs.declared.header.Header.{Header}
use Rattle.vba_parser.specs.declared.header.Header.TheVariants as headers

-- what the statements stand for; it is opened only where statements are made or taken apart
unfoldable pub statements_view : Statements → Stmts
statements_view ss = put_all (front (option_map (λ first. first.value) ss.first)) (map next_view ss.others.items)

-- where a statement goes, behind these
abbrev pub place_view : Where → Stmts → lists.Where
place_view places.AtLine before = lists.at_line
place_view places.InList before = lists.in_list
place_view (places.Behind colon) before = lists.behind before colon

-- where an If goes
abbrev pub head_place : IfHead → lists.Where
head_place head = place_view head.place (statements_view head.before)

abbrev pub then_view : IfHead → lists.Frame
then_view head = lists.then_frame (head_place head) head.if_word (expression_view head.condition) head.then_word

abbrev pub else_view : ElseHead → lists.Frame
else_view ending =
    lists.else_frame (head_place ending.head) ending.head.if_word (expression_view ending.head.condition) ending.head.then_word
    (list_view ending.then_list) ending.else_word

abbrev pub frame_view : Frame → lists.Frame
frame_view (frames.Then head) = then_view head
frame_view (frames.Else head) = else_view head

-- the last frame is on top
unfoldable pub stack : List Frame → List lists.Frame
stack held = reverse (map frame_view held)

-- these statements, and what may follow them
abbrev pub seen : Option Where → Stmts → List lists.Frame → lists.State
seen None statements waiting = lists.got statements waiting
seen (Some place) statements waiting = lists.need (place_view place statements) waiting

abbrev pub state_view : State → lists.State
state_view state = seen state.place (statements_view state.statements) (stack state.frames.items)

abbrev pub header_view : Header → lines.Header
header_view (headers.Enum enum_word) = lines.of_enum enum_word
header_view (headers.Type type_word) = lines.of_type type_word
header_view (headers.Event event_word) = lines.of_event event_word
header_view (headers.Procedure words) = lines.of_procedure words
