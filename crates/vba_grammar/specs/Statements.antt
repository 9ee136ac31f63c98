-- Serves the code: reading a statement other than a single-line If, by its first words.
use Rattle.std.specs.Prelude.{ℕ, zero, suc, ◌+◌, ◌==◌, pos, negsuc, ℤ, Bool, true, false, ◌&&◌, List, [], ◌∷◌, ◌++◌, length, codes, Option, Some, None, if◌then◌else◌}
use Rattle.vba_lexer.specs.declared.token.Token.{Token}
use Rattle.vba_words.specs.declared.identifier.Identifier.{Identifier}
use Rattle.vba_words.specs.declared.keyword.Keyword.{Keyword}
use Rattle.vba_words.specs.declared.keyword.Keyword.TheVariants as keyword
use Rattle.vba_words.specs.declared.mark.Mark.TheVariants as mark
use Rattle.vba_words.specs.declared.reading.Reading.{Reading}
use Rattle.vba_words.specs.declared.reading.Reading.TheVariants as reading
use Rattle.vba_words.specs.declared.reading.ReadToken.{ReadToken}
use Rattle.vba_words.specs.Words.{identifier_of}
use Rattle.vba_expression.specs.Tree.{Expr}
use Rattle.vba_expression.specs.Reader.{arguments_at, unless_suffixed, with_rest}
use Rattle.vba_tree.specs.declared.declaration.AccessWord.{AccessWord}
use Rattle.vba_tree.specs.declared.declaration.VariableWord.{VariableWord}
use Rattle.vba_tree.specs.declared.declaration.VariableWord.TheVariants as variable_word
use Rattle.vba_tree.specs.declared.simple.LabelName.{LabelName}
use Rattle.vba_tree.specs.declared.simple.LabelName.TheVariants as label
use Rattle.vba_tree.specs.declared.simple.ExitKind.{ExitKind}
use Rattle.vba_tree.specs.declared.simple.ExitKind.TheVariants as exit_kind
use Rattle.vba_tree.specs.declared.simple.ErrorHandling.{ErrorHandling}
use Rattle.vba_tree.specs.declared.simple.ErrorHandling.TheVariants as handling
use Rattle.vba_tree.specs.declared.simple.ResumeTarget.{ResumeTarget}
use Rattle.vba_tree.specs.declared.simple.ResumeTarget.TheVariants as target
use Rattle.vba_tree.specs.declared.simple.PrintMark.{PrintMark}
use Rattle.vba_tree.specs.declared.simple.PrintMark.TheVariants as print_mark
use Rattle.vba_tree.specs.Forms.{begins_print}
use Rattle.vba_tree.specs.Fitting.{is_integer}
use Rattle.vba_tree.specs.Tree.{ReDimArray, EventArguments, PrintItem, BlockLine, Simple, variables, constants, set_assignment, call_place, re_dim, erase, go_to, go_sub, return_from, exit, end, stop, on_error, resume, raise_event, debug_print, block_line, else_line, select_case, next_line, do_line, loop_line, while_line, wend, with_line}
use Rattle.vba_grammar.specs.Front.{Found, ◌>>=◌, or_else, found_as, is_equal, is_left, is_right, is_as, begins, token_at, token_if, reads, name_at, whole_at, place_at, part_if, commas_at, ends, ending}
use Rattle.vba_grammar.specs.Clauses.{dim_at, type_clause_at, variable_at, constant_at, item_ends, access_of}
use Rattle.vba_grammar.specs.Blocks.{case_at, else_if_at, for_at, for_each_at, is_case, is_each, is_name, loop_condition_if, block_end}
use Rattle.vba_grammar.specs.Places.{assigned_at, assignment_or_call_at}

-- a label where it is gone to; a name has no suffix there
abbrev pub label_of : ReadToken → Option LabelName
label_of t = at t.token t.reading (identifier_of t)
  where
    at : Token → Reading → Option Identifier → Option LabelName
    at token (reading.Number number true) found = Some (label.Number token number)
    at token _ None = None
    at token _ (Some identifier) = unless_suffixed identifier.suffix (label.Name identifier)

abbrev pub label_at : List ReadToken → Found LabelName
label_at [] = None
label_at (t ∷ ts) = with_rest ts (label_of t)

-- one array of a ReDim, where its place ends before this bracket
abbrev pub array_here : List ReadToken → Token → List ReadToken → Found ReDimArray
array_here before left ts = placed (place_at before)
  where
    with_dims : Expr → Found ReDimArray
    with_dims place =
        commas_at dim_at ts >>= λ dims rest. token_at is_right rest >>= λ right rest2. part_if is_as type_clause_at rest2 >>= λ clause rest3.
        if item_ends rest3 then Some (record { place = place; left = left; dims = dims; right = right; type_clause = clause }, rest3) else None

    placed : Found Expr → Found ReDimArray
    placed None = None
    placed (Some (place, [])) = with_dims place
    placed (Some (place, t ∷ rest)) = None

-- the same, where it ends before the last bracket that allows it
abbrev pub last_array : List ReadToken → List ReadToken → Found ReDimArray
last_array before [] = None
last_array before (t ∷ ts) =
    or_else (last_array (before ++ t ∷ []) ts) (if is_left t.reading then array_here before t.token ts else None)

abbrev pub array_at : List ReadToken → Found ReDimArray
array_at ts = last_array [] ts

-- behind ReDim
abbrev pub re_dim_at : Token → List ReadToken → Found Simple
re_dim_at redim_word ts = behind (token_if (reads (codes "preserve")) ts)
  where
    arrays : Option Token → List ReadToken → Found Simple
    arrays preserve ts = found_as (re_dim redim_word preserve) (commas_at array_at ts)

    -- Preserve is the name of an array where no name stands behind it
    behind : Option Token × List ReadToken → Found Simple
    behind (None, rest) = arrays None rest
    behind (Some word, rest) = or_else (arrays (Some word) rest) (arrays None ts)

-- what is left, behind Exit
abbrev pub exit_of : Reading → Option ExitKind
exit_of (reading.Keyword keyword.Sub) = Some exit_kind.Sub
exit_of (reading.Keyword keyword.Function) = Some exit_kind.Function
exit_of (reading.Keyword keyword.For) = Some exit_kind.For
exit_of (reading.Keyword keyword.Do) = Some exit_kind.Do
exit_of meant = if reads (codes "property") meant then Some exit_kind.Property else None

abbrev pub exit_at : Token → List ReadToken → Found Simple
exit_at exit_word [] = None
exit_at exit_word (t ∷ ts) = at (exit_of t.reading)
  where
    at : Option ExitKind → Found Simple
    at None = None
    at (Some kind) = Some (exit exit_word kind t.token, ts)

-- a number of one decimal digit that is this one
abbrev pub is_whole : ℕ → ℤ → Bool
is_whole digit (pos n) = n == digit
is_whole digit (negsuc n) = false

abbrev pub is_digit : ℕ → ReadToken → Bool
is_digit digit t = at t.reading
  where
    at : Reading → Bool
    at (reading.Number number true) =
        is_integer number.kind && (is_whole digit number.value && (t.token.end == t.token.start + 1))
    at _ = false

abbrev pub is_minus : Reading → Bool
is_minus (reading.Mark mark.Minus) = true
is_minus _ = false

abbrev pub is_go_to : Reading → Bool
is_go_to (reading.Keyword keyword.GoTo) = true
is_go_to _ = false

abbrev pub is_next : Reading → Bool
is_next (reading.Keyword keyword.Next) = true
is_next _ = false

abbrev pub is_resume : Reading → Bool
is_resume (reading.Keyword keyword.Resume) = true
is_resume _ = false

-- behind On Error GoTo
abbrev pub go_to_at : Token → List ReadToken → Found ErrorHandling
go_to_at goto_word [] = None
go_to_at goto_word (t ∷ ts) =
    if is_digit 0 t then Some (handling.GoToZero goto_word t.token, ts)
    else if is_minus t.reading then minus_one ts
    else found_as (handling.GoTo goto_word) (label_at (t ∷ ts))
  where
    minus_one : List ReadToken → Found ErrorHandling
    minus_one [] = None
    minus_one (digit ∷ rest) = if is_digit 1 digit then Some (handling.GoToMinusOne goto_word t.token digit.token, rest) else None

-- behind On Error
abbrev pub handling_at : List ReadToken → Found ErrorHandling
handling_at ts =
    if begins is_resume ts then (token_at is_resume ts >>= λ resume_word rest. found_as (handling.ResumeNext resume_word) (token_at is_next rest))
    else token_at is_go_to ts >>= go_to_at

-- behind On
abbrev pub on_error_at : Token → List ReadToken → Found Simple
on_error_at on_word ts = token_at (reads (codes "error")) ts >>= λ error_word rest. found_as (on_error on_word error_word) (handling_at rest)

-- behind Resume, where it goes on elsewhere
abbrev pub target_at : List ReadToken → Found ResumeTarget
target_at [] = None
target_at (t ∷ ts) =
    if is_next t.reading then Some (target.Next t.token, ts)
    else if is_digit 0 t then Some (target.Zero t.token, ts)
    else found_as target.Label (label_at (t ∷ ts))

abbrev pub resume_at : Token → List ReadToken → Found Simple
resume_at resume_word ts = if ends ts then Some (resume resume_word None, ts) else found_as (λ t. resume resume_word (Some t)) (target_at ts)

-- the arguments of an event, in brackets
abbrev pub event_arguments_at : List ReadToken → Found EventArguments
event_arguments_at ts =
    token_at is_left ts >>= λ left rest. arguments_at rest >>= λ arguments rest2.
    found_as (λ right. record { left = left; arguments = arguments; right = right }) (token_at is_right rest2)

-- behind RaiseEvent
abbrev pub raise_event_at : Token → List ReadToken → Found Simple
raise_event_at raise_event_word ts =
    name_at ts >>= λ event rest. found_as (raise_event raise_event_word event) (part_if is_left event_arguments_at rest)

-- a mark between what is printed
abbrev pub print_mark_of : Reading → Option PrintMark
print_mark_of (reading.Mark mark.Semicolon) = Some print_mark.Semicolon
print_mark_of (reading.Mark mark.Comma) = Some print_mark.Comma
print_mark_of _ = None

-- a value, where the statement doesn't end and no mark stands there
abbrev pub printed_at : List ReadToken → Found (Option Expr)
printed_at [] = Some (None, [])
printed_at (t ∷ ts) = if ends (t ∷ ts) then Some (None, t ∷ ts) else at (print_mark_of t.reading)
  where
    at : Option PrintMark → Found (Option Expr)
    at None = found_as Some (whole_at (t ∷ ts))
    at (Some found) = Some (None, t ∷ ts)

-- a mark, a value where it is written, and what is printed behind them
abbrev pub item_by : ReadToken → List ReadToken → (List ReadToken → Found (List PrintItem)) → Option PrintMark → Found (List PrintItem)
item_by t ts more None = Some ([], t ∷ ts)
item_by t ts more (Some mark) =
    printed_at ts >>= λ printed rest. found_as (λ items. record { mark = mark; mark_token = t.token; value = printed } ∷ items) (more rest)

-- what is printed behind the first value, at most so many items
abbrev pub items_at : ℕ → List ReadToken → Found (List PrintItem)
items_at zero ts = None
items_at (suc n) [] = Some ([], [])
items_at (suc n) (t ∷ ts) = item_by t ts (items_at n) (print_mark_of t.reading)

-- Debug.Print
abbrev pub print_at : List ReadToken → Found Simple
print_at (debug ∷ dot ∷ print ∷ ts) =
    printed_at ts >>= λ first rest. ending (found_as (debug_print debug.token dot.token print.token first) (items_at (suc (length rest)) rest))
print_at _ = None

-- a statement that begins with no kept word
abbrev pub free_at : List ReadToken → Found Simple
free_at ts = if begins_print ts then or_else (print_at ts) (assignment_or_call_at ts) else assignment_or_call_at ts

-- the word that declares variables
abbrev pub variable_word_of : Keyword → Option VariableWord
variable_word_of keyword.Dim = Some variable_word.Dim
variable_word_of keyword.Public = Some variable_word.Public
variable_word_of keyword.Private = Some variable_word.Private
variable_word_of keyword.Global = Some variable_word.Global
variable_word_of keyword.Static = Some variable_word.Static
variable_word_of _ = None

abbrev pub is_const : Reading → Bool
is_const (reading.Keyword keyword.Const) = true
is_const _ = false

-- constants, behind a word of access where one is written
abbrev pub constants_at : Option AccessWord → List ReadToken → Found Simple
constants_at access ts = token_at is_const ts >>= λ const_word rest. found_as (constants access const_word) (commas_at constant_at rest)

-- behind a word that may declare variables
abbrev pub declared_at : Token → Keyword → VariableWord → List ReadToken → Found Simple
declared_at token kept word ts = at (begins is_const ts) (access_of token (reading.Keyword kept))
  where
    at : Bool → Option AccessWord → Found Simple
    at true (Some access) = constants_at (Some access) ts
    at is_constant access = found_as (variables word token) (commas_at variable_at ts)

-- a Let or Set statement behind its word
abbrev pub let_at : Token → List ReadToken → Found Simple
let_at let_word ts = place_at ts >>= assigned_at (Some let_word)

abbrev pub set_at : Token → List ReadToken → Found Simple
set_at set_word ts =
    place_at ts >>= λ place rest. token_at is_equal rest >>= λ equal rest2. found_as (set_assignment set_word place equal) (whole_at rest2)

-- behind End: a block's end, or nothing
abbrev pub end_at : Token → List ReadToken → Found Simple
end_at end_word [] = Some (end end_word, [])
end_at end_word (t ∷ ts) = at (block_end end_word t.token t.reading)
  where
    at : Option BlockLine → Found Simple
    at None = Some (end end_word, t ∷ ts)
    at (Some line) = Some (block_line line, ts)

abbrev pub as_block : Found BlockLine → Found Simple
as_block found = found_as block_line found

-- a statement that begins with a kept word; Declarations of variables and If aside
abbrev pub kept_at : Token → Keyword → List ReadToken → Found Simple
kept_at token keyword.Const ts = found_as (constants None token) (commas_at constant_at ts)
kept_at token keyword.Let ts = let_at token ts
kept_at token keyword.Set ts = set_at token ts
kept_at token keyword.Call ts = found_as (call_place token) (place_at ts)
kept_at token keyword.ReDim ts = re_dim_at token ts
kept_at token keyword.Erase ts = found_as (erase token) (commas_at place_at ts)
kept_at token keyword.GoTo ts = found_as (go_to token) (label_at ts)
kept_at token keyword.GoSub ts = found_as (go_sub token) (label_at ts)
kept_at token keyword.Return ts = Some (return_from token, ts)
kept_at token keyword.Exit ts = exit_at token ts
kept_at token keyword.End ts = end_at token ts
kept_at token keyword.Stop ts = Some (stop token, ts)
kept_at token keyword.On ts = on_error_at token ts
kept_at token keyword.Resume ts = resume_at token ts
kept_at token keyword.RaiseEvent ts = raise_event_at token ts
kept_at token keyword.ElseIf ts = as_block (else_if_at token ts)
kept_at token keyword.Else ts = Some (block_line (else_line token), ts)
kept_at token keyword.Select ts =
    token_at is_case ts >>= λ case_word rest. found_as (λ e. block_line (select_case token case_word e)) (whole_at rest)
kept_at token keyword.Case ts = as_block (case_at token ts)
kept_at token keyword.For ts = as_block (if begins is_each ts then for_each_at token ts else for_at token ts)
kept_at token keyword.Next ts = found_as (λ counter. block_line (next_line token counter)) (part_if is_name name_at ts)
kept_at token keyword.Do ts = found_as (λ condition. block_line (do_line token condition)) (loop_condition_if ts)
kept_at token keyword.Loop ts = found_as (λ condition. block_line (loop_line token condition)) (loop_condition_if ts)
kept_at token keyword.While ts = found_as (λ e. block_line (while_line token e)) (whole_at ts)
kept_at token keyword.Wend ts = Some (block_line (wend token), ts)
kept_at token keyword.With ts = found_as (λ e. block_line (with_line token e)) (whole_at ts)
kept_at token other ts = declared (variable_word_of other)
  where
    declared : Option VariableWord → Found Simple
    declared None = None
    declared (Some word) = declared_at token other word ts

-- a statement other than one that begins with If; a statement ends behind it
abbrev pub simple_at : List ReadToken → Found Simple
simple_at [] = None
simple_at (t ∷ ts) = at t.reading
  where
    at : Reading → Found Simple
    at (reading.Keyword keyword.Me) = free_at (t ∷ ts)
    at (reading.Keyword kept) = ending (kept_at t.token kept ts)
    at _ = free_at (t ∷ ts)
