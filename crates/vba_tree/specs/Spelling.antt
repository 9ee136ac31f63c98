-- The tokens of the tree of a line, in order, as the grammar reads them: the one definition that ties trees to text.
use Rattle.std.specs.Prelude.{ℕ, pos, List, [], ◌∷◌, ◌++◌, map, Option, Some, None, true, false, codes}
use Rattle.vba_lexer.specs.declared.token.Token.{Token}
use Rattle.vba_lexer.specs.declared.number.NumberKind.TheVariants.{Integer}
use Rattle.vba_words.specs.declared.keyword.Keyword.{Keyword}
use Rattle.vba_words.specs.declared.keyword.Keyword.TheVariants as keyword
use Rattle.vba_words.specs.declared.mark.Mark.{Mark}
use Rattle.vba_words.specs.declared.mark.Mark.TheVariants as mark
use Rattle.vba_words.specs.declared.reading.Reading.TheVariants as reading
use Rattle.vba_words.specs.declared.reading.ReadToken.{ReadToken}
use Rattle.vba_words.specs.Spelling.{read, word, marked, naming}
use Rattle.vba_expression.specs.Spelling.{spell as spell_expression, spell_args, literal_reading, binary_reading, type_name_tokens}
use Rattle.vba_tree.specs.declared.declaration.Access.{Access}
use Rattle.vba_tree.specs.declared.declaration.Access.TheVariants as access
use Rattle.vba_tree.specs.declared.declaration.AccessWord.{AccessWord}
use Rattle.vba_tree.specs.declared.declaration.Brackets.{Brackets}
use Rattle.vba_tree.specs.declared.declaration.VariableWord.{VariableWord}
use Rattle.vba_tree.specs.declared.declaration.VariableWord.TheVariants as variable_word
use Rattle.vba_tree.specs.declared.procedure.Passing.{Passing}
use Rattle.vba_tree.specs.declared.procedure.Passing.TheVariants as passing
use Rattle.vba_tree.specs.declared.procedure.PassingWord.{PassingWord}
use Rattle.vba_tree.specs.declared.procedure.ProcedureWords.{ProcedureWords}
use Rattle.vba_tree.specs.declared.procedure.ProcedureWords.TheVariants as words
use Rattle.vba_tree.specs.declared.procedure.ProcedureKind.{ProcedureKind}
use Rattle.vba_tree.specs.declared.procedure.ProcedureKind.TheVariants as procedure_kind
use Rattle.vba_tree.specs.declared.block.LoopWord.{LoopWord}
use Rattle.vba_tree.specs.declared.block.LoopWord.TheVariants as loop_word
use Rattle.vba_tree.specs.declared.simple.LabelName.{LabelName}
use Rattle.vba_tree.specs.declared.simple.LabelName.TheVariants as label
use Rattle.vba_tree.specs.declared.simple.ExitKind.{ExitKind}
use Rattle.vba_tree.specs.declared.simple.ExitKind.TheVariants as exit_kind
use Rattle.vba_tree.specs.declared.simple.ErrorHandling.{ErrorHandling}
use Rattle.vba_tree.specs.declared.simple.ErrorHandling.TheVariants as handling
use Rattle.vba_tree.specs.declared.simple.ResumeTarget.{ResumeTarget}
use Rattle.vba_tree.specs.declared.simple.ResumeTarget.TheVariants as target
use Rattle.vba_tree.specs.declared.simple.PrintMark.{PrintMark}
use Rattle.vba_tree.specs.declared.simple.PrintMark.TheVariants as print_mark
use Rattle.vba_tree.specs.declared.line.OptionChoice.{OptionChoice}
use Rattle.vba_tree.specs.declared.line.OptionChoice.TheVariants as choice
use Rattle.vba_tree.specs.declared.line.AttributeValue.{AttributeValue}
use Rattle.vba_tree.specs.declared.line.LineLabel.{LineLabel}
use Rattle.vba_tree.specs.declared.line.LineLabel.TheVariants as line_label
use Rattle.vba_tree.specs.Tree.{Listed, DeclaredType, named, fixed_text, TypeClause, NewTypeClause, Dim, upper, Dims, Variable, Constant, DefaultValue, Parameter, Parameters, ResultType, CaseTest, value, comparison, StepClause, LoopCondition, BlockLine, if_line, else_if_line, else_line, end_if, select_case, case_line, case_else, end_select, for_line, for_each, next_line, do_line, loop_line, while_line, wend, with_line, end_with, ReDimArray, EventArguments, PrintItem, Simple, variables, constants, assignment, set_assignment, call_place, call, re_dim, erase, go_to, go_sub, return_from, exit, end, stop, on_error, resume, raise_event, debug_print, block_line, Stmt, simple, if_then, if_else, Stmts, nothing, one, gap, more, Line, option_line, attribute_line, enum_header, end_enum, type_header, type_member, end_type, event_line, procedure_header, procedure_end, statement_line}

-- a word of the grammar that is a name elsewhere, by its case fold
abbrev pub place_word : Token → List ℕ → ReadToken
place_word token name = read token (reading.Name name None false)

-- a number of decimal digits alone
abbrev pub digits : Token → ℕ → ReadToken
digits token n = read token (reading.Number (record { kind = Integer; value = pos n }) true)

-- a part that may be missing
abbrev pub optional : {A : Type 0} → (A → List ReadToken) → Option A → List ReadToken
optional spelled None = []
optional spelled (Some part) = spelled part

abbrev pub optional_word : Keyword → Option Token → List ReadToken
optional_word kept None = []
optional_word kept (Some token) = word token kept ∷ []

-- items behind the marks before them
abbrev pub spell_others : {A : Type 0} → (A → List ReadToken) → Mark → List (Token × A) → List ReadToken
spell_others spelled between [] = []
spell_others spelled between (other ∷ others) = marked other.0 between ∷ (spelled other.1 ++ spell_others spelled between others)

-- items with a mark between each two
abbrev pub spell_listed : {A : Type 0} → (A → List ReadToken) → Mark → Listed A → List ReadToken
spell_listed spelled between list = spelled list.first ++ spell_others spelled between list.others

-- items with commas
abbrev pub with_commas : {A : Type 0} → (A → List ReadToken) → Listed A → List ReadToken
with_commas spelled list = spell_listed spelled mark.Comma list

abbrev pub access_keyword : Access → Keyword
access_keyword access.Public = keyword.Public
access_keyword access.Private = keyword.Private
access_keyword access.Friend = keyword.Friend
access_keyword access.Global = keyword.Global

abbrev pub spell_access : Option AccessWord → List ReadToken
spell_access = optional (λ a. word a.token (access_keyword a.access) ∷ [])

abbrev pub spell_brackets : Brackets → List ReadToken
spell_brackets b = marked b.left mark.LeftParenthesis ∷ marked b.right mark.RightParenthesis ∷ []

-- a type: `N`, `N.N` or `String * e`
abbrev pub spell_type : DeclaredType → List ReadToken
spell_type (named class) = type_name_tokens class
spell_type (fixed_text string_word times length) = place_word string_word (codes "string") ∷ marked times mark.Times ∷ spell_expression length

abbrev pub spell_type_clause : TypeClause → List ReadToken
spell_type_clause clause = word clause.as_word keyword.As ∷ spell_type clause.declared_type

abbrev pub spell_new_type_clause : NewTypeClause → List ReadToken
spell_new_type_clause clause = word clause.as_word keyword.As ∷ (optional_word keyword.New clause.new_word ++ spell_type clause.declared_type)

-- `e` or `e To e`
abbrev pub spell_dim : Dim → List ReadToken
spell_dim (upper high) = spell_expression high
spell_dim (Dim.range low to_word high) = spell_expression low ++ word to_word keyword.To ∷ spell_expression high

abbrev pub spell_dims : Dims → List ReadToken
spell_dims d = marked d.left mark.LeftParenthesis ∷ (optional (with_commas spell_dim) d.dims ++ marked d.right mark.RightParenthesis ∷ [])

abbrev pub spell_variable : Variable → List ReadToken
spell_variable v =
    optional_word keyword.WithEvents v.with_events_word
    ++ naming v.name ∷ (optional spell_dims v.dims ++ optional spell_new_type_clause v.type_clause)

abbrev pub spell_constant : Constant → List ReadToken
spell_constant c = naming c.name ∷ (optional spell_type_clause c.type_clause ++ marked c.equal mark.Equal ∷ spell_expression c.value)

abbrev pub passing_keyword : Passing → Keyword
passing_keyword passing.ByVal = keyword.ByVal
passing_keyword passing.ByRef = keyword.ByRef

abbrev pub spell_passing : Option PassingWord → List ReadToken
spell_passing = optional (λ p. word p.token (passing_keyword p.passing) ∷ [])

abbrev pub spell_default : DefaultValue → List ReadToken
spell_default d = marked d.equal mark.Equal ∷ spell_expression d.value

abbrev pub spell_parameter : Parameter → List ReadToken
spell_parameter p =
    optional_word keyword.Optional p.optional_word
    ++ (spell_passing p.passing
    ++ (optional_word keyword.ParamArray p.param_array_word
    ++ naming p.name ∷ (optional spell_brackets p.brackets ++ (optional spell_type_clause p.type_clause ++ optional spell_default p.default))))

abbrev pub spell_parameters : Parameters → List ReadToken
spell_parameters p = marked p.left mark.LeftParenthesis ∷ (optional (with_commas spell_parameter) p.parameters ++ marked p.right mark.RightParenthesis ∷ [])

-- a test of a Case line: `e`, `e To e` or `Is < e`
abbrev pub spell_test : CaseTest → List ReadToken
spell_test (value e) = spell_expression e
spell_test (CaseTest.range low to_word high) = spell_expression low ++ word to_word keyword.To ∷ spell_expression high
spell_test (comparison is_word operator operator_token e) =
    word is_word keyword.Is ∷ read operator_token (binary_reading operator) ∷ spell_expression e

abbrev pub spell_step : StepClause → List ReadToken
spell_step step = place_word step.step_word (codes "step") ∷ spell_expression step.value

abbrev pub loop_keyword : LoopWord → Keyword
loop_keyword loop_word.While = keyword.While
loop_keyword loop_word.Until = keyword.Until

abbrev pub spell_loop_condition : LoopCondition → List ReadToken
spell_loop_condition c = word c.word_token (loop_keyword c.word) ∷ spell_expression c.condition

-- the lines of blocks
abbrev pub spell_block_line : BlockLine → List ReadToken
spell_block_line (if_line if_word condition then_word) = word if_word keyword.If ∷ (spell_expression condition ++ word then_word keyword.Then ∷ [])
spell_block_line (else_if_line else_if_word condition then_word) = word else_if_word keyword.ElseIf ∷ (spell_expression condition ++ word then_word keyword.Then ∷ [])
spell_block_line (else_line else_word) = word else_word keyword.Else ∷ []
spell_block_line (end_if end_word if_word) = word end_word keyword.End ∷ word if_word keyword.If ∷ []
spell_block_line (select_case select_word case_word e) = word select_word keyword.Select ∷ word case_word keyword.Case ∷ spell_expression e
spell_block_line (case_line case_word tests) = word case_word keyword.Case ∷ with_commas spell_test tests
spell_block_line (case_else case_word else_word) = word case_word keyword.Case ∷ word else_word keyword.Else ∷ []
spell_block_line (end_select end_word select_word) = word end_word keyword.End ∷ word select_word keyword.Select ∷ []
spell_block_line (for_line for_word counter equal start to_word limit step) =
    word for_word keyword.For ∷ naming counter ∷ marked equal mark.Equal
    ∷ (spell_expression start ++ word to_word keyword.To ∷ (spell_expression limit ++ optional spell_step step))
spell_block_line (for_each for_word each_word element in_word group) =
    word for_word keyword.For ∷ word each_word keyword.Each ∷ naming element ∷ word in_word keyword.In ∷ spell_expression group
spell_block_line (next_line next_word counter) = word next_word keyword.Next ∷ optional (λ name. naming name ∷ []) counter
spell_block_line (do_line do_word condition) = word do_word keyword.Do ∷ optional spell_loop_condition condition
spell_block_line (loop_line loop_word condition) = word loop_word keyword.Loop ∷ optional spell_loop_condition condition
spell_block_line (while_line while_word condition) = word while_word keyword.While ∷ spell_expression condition
spell_block_line (wend wend_word) = word wend_word keyword.Wend ∷ []
spell_block_line (with_line with_word object) = word with_word keyword.With ∷ spell_expression object
spell_block_line (end_with end_word with_word) = word end_word keyword.End ∷ word with_word keyword.With ∷ []

-- a label where it is gone to
abbrev pub spell_label_name : LabelName → List ReadToken
spell_label_name (label.Name name) = naming name ∷ []
spell_label_name (label.Number token number) = read token (reading.Number number true) ∷ []

abbrev pub spell_array : ReDimArray → List ReadToken
spell_array a =
    spell_expression a.place ++ marked a.left mark.LeftParenthesis
    ∷ (with_commas spell_dim a.dims ++ marked a.right mark.RightParenthesis ∷ optional spell_type_clause a.type_clause)

abbrev pub exit_token : Token → ExitKind → ReadToken
exit_token token exit_kind.Sub = word token keyword.Sub
exit_token token exit_kind.Function = word token keyword.Function
exit_token token exit_kind.Property = place_word token (codes "property")
exit_token token exit_kind.For = word token keyword.For
exit_token token exit_kind.Do = word token keyword.Do

abbrev pub spell_handling : ErrorHandling → List ReadToken
spell_handling (handling.GoTo goto_word name) = word goto_word keyword.GoTo ∷ spell_label_name name
spell_handling (handling.GoToZero goto_word zero) = word goto_word keyword.GoTo ∷ digits zero 0 ∷ []
spell_handling (handling.GoToMinusOne goto_word minus digit) = word goto_word keyword.GoTo ∷ marked minus mark.Minus ∷ digits digit 1 ∷ []
spell_handling (handling.ResumeNext resume_word next_word) = word resume_word keyword.Resume ∷ word next_word keyword.Next ∷ []

abbrev pub spell_target : ResumeTarget → List ReadToken
spell_target (target.Next token) = word token keyword.Next ∷ []
spell_target (target.Zero token) = digits token 0 ∷ []
spell_target (target.Label name) = spell_label_name name

abbrev pub spell_event_arguments : EventArguments → List ReadToken
spell_event_arguments a = marked a.left mark.LeftParenthesis ∷ (spell_args a.arguments ++ marked a.right mark.RightParenthesis ∷ [])

abbrev pub print_mark_of : PrintMark → Mark
print_mark_of print_mark.Semicolon = mark.Semicolon
print_mark_of print_mark.Comma = mark.Comma

-- what is printed behind the first value
abbrev pub spell_print_items : List PrintItem → List ReadToken
spell_print_items [] = []
spell_print_items (item ∷ items) = marked item.mark_token (print_mark_of item.mark) ∷ (optional spell_expression item.value ++ spell_print_items items)

abbrev pub variable_keyword : VariableWord → Keyword
variable_keyword variable_word.Dim = keyword.Dim
variable_keyword variable_word.Public = keyword.Public
variable_keyword variable_word.Private = keyword.Private
variable_keyword variable_word.Global = keyword.Global
variable_keyword variable_word.Static = keyword.Static

-- the word Preserve
abbrev pub spell_preserve : Option Token → List ReadToken
spell_preserve = optional (λ token. place_word token (codes "preserve") ∷ [])

-- statements other than single-line Ifs
abbrev pub spell_simple : Simple → List ReadToken
spell_simple (variables kept token list) = word token (variable_keyword kept) ∷ with_commas spell_variable list
spell_simple (constants access const_word list) = spell_access access ++ word const_word keyword.Const ∷ with_commas spell_constant list
spell_simple (assignment let_word place equal e) =
    optional_word keyword.Let let_word ++ (spell_expression place ++ marked equal mark.Equal ∷ spell_expression e)
spell_simple (set_assignment set_word place equal e) =
    word set_word keyword.Set ∷ (spell_expression place ++ marked equal mark.Equal ∷ spell_expression e)
spell_simple (call_place call_word place) = word call_word keyword.Call ∷ spell_expression place
spell_simple (call called arguments) = spell_expression called ++ spell_args arguments
spell_simple (re_dim redim_word preserve_word arrays) =
    word redim_word keyword.ReDim ∷ (spell_preserve preserve_word ++ with_commas spell_array arrays)
spell_simple (erase erase_word places) = word erase_word keyword.Erase ∷ with_commas spell_expression places
spell_simple (go_to goto_word name) = word goto_word keyword.GoTo ∷ spell_label_name name
spell_simple (go_sub gosub_word name) = word gosub_word keyword.GoSub ∷ spell_label_name name
spell_simple (return_from token) = word token keyword.Return ∷ []
spell_simple (exit exit_word kind kind_word) = word exit_word keyword.Exit ∷ exit_token kind_word kind ∷ []
spell_simple (end token) = word token keyword.End ∷ []
spell_simple (stop token) = word token keyword.Stop ∷ []
spell_simple (on_error on_word error_word how) = word on_word keyword.On ∷ place_word error_word (codes "error") ∷ spell_handling how
spell_simple (resume resume_word to) = word resume_word keyword.Resume ∷ optional spell_target to
spell_simple (raise_event raise_event_word event arguments) =
    word raise_event_word keyword.RaiseEvent ∷ naming event ∷ optional spell_event_arguments arguments
spell_simple (debug_print debug_word dot print_word first others) =
    place_word debug_word (codes "debug") ∷ marked dot mark.Dot ∷ place_word print_word (codes "print")
    ∷ (optional spell_expression first ++ spell_print_items others)
spell_simple (block_line line) = spell_block_line line

abbrev mutual
  -- a statement
  pub spell_statement : Stmt → List ReadToken
  spell_statement (simple statement) = spell_simple statement
  spell_statement (if_then if_word condition then_word then_list) =
      word if_word keyword.If ∷ (spell_expression condition ++ word then_word keyword.Then ∷ spell_statements then_list)
  spell_statement (if_else if_word condition then_word then_list else_word else_list) =
      word if_word keyword.If
      ∷ (spell_expression condition ++ word then_word keyword.Then ∷ (spell_statements then_list ++ word else_word keyword.Else ∷ spell_statements else_list))

  -- statements with colons
  pub spell_statements : Stmts → List ReadToken
  spell_statements nothing = []
  spell_statements (one statement) = spell_statement statement
  spell_statements (gap before colon) = spell_statements before ++ marked colon mark.Colon ∷ []
  spell_statements (more before colon statement) = spell_statements before ++ marked colon mark.Colon ∷ spell_statement statement

abbrev pub spell_choice : OptionChoice → List ReadToken
spell_choice (choice.Explicit token) = place_word token (codes "explicit") ∷ []
spell_choice (choice.BaseZero base_word zero) = place_word base_word (codes "base") ∷ digits zero 0 ∷ []
spell_choice (choice.BaseOne base_word digit) = place_word base_word (codes "base") ∷ digits digit 1 ∷ []
spell_choice (choice.CompareBinary compare_word binary_word) = place_word compare_word (codes "compare") ∷ place_word binary_word (codes "binary") ∷ []
spell_choice (choice.CompareText compare_word text_word) = place_word compare_word (codes "compare") ∷ place_word text_word (codes "text") ∷ []
spell_choice (choice.PrivateModule private_word module_word) = word private_word keyword.Private ∷ place_word module_word (codes "module") ∷ []

abbrev pub spell_attribute_value : AttributeValue → List ReadToken
spell_attribute_value v =
    optional (λ token. marked token mark.Minus ∷ []) v.minus ++ read v.literal.token (literal_reading v.literal.value) ∷ []

abbrev pub spell_words : ProcedureWords → List ReadToken
spell_words (words.Sub token) = word token keyword.Sub ∷ []
spell_words (words.Function token) = word token keyword.Function ∷ []
spell_words (words.PropertyGet property_word get_word) = place_word property_word (codes "property") ∷ place_word get_word (codes "get") ∷ []
spell_words (words.PropertyLet property_word let_word) = place_word property_word (codes "property") ∷ word let_word keyword.Let ∷ []
spell_words (words.PropertySet property_word set_word) = place_word property_word (codes "property") ∷ word set_word keyword.Set ∷ []

abbrev pub kind_token : Token → ProcedureKind → ReadToken
kind_token token procedure_kind.Sub = word token keyword.Sub
kind_token token procedure_kind.Function = word token keyword.Function
kind_token token procedure_kind.Property = place_word token (codes "property")

abbrev pub spell_result_type : ResultType → List ReadToken
spell_result_type r = word r.as_word keyword.As ∷ (spell_type r.declared_type ++ optional spell_brackets r.brackets)

-- `N:`, or a line number with a colon or without
abbrev pub spell_line_label : LineLabel → List ReadToken
spell_line_label (line_label.Name name colon) = naming name ∷ marked colon mark.Colon ∷ []
spell_line_label (line_label.Number token number colon) =
    read token (reading.Number number true) ∷ optional (λ c. marked c mark.Colon ∷ []) colon

-- a line
abbrev pub spell : Line → List ReadToken
spell (option_line option) = word option.option_word keyword.Option ∷ spell_choice option.choice
spell (attribute_line attribute_word names equal values) =
    place_word attribute_word (codes "attribute")
    ∷ (spell_listed (λ name. naming name ∷ []) mark.Dot names ++ marked equal mark.Equal ∷ with_commas spell_attribute_value values)
spell (enum_header header) = spell_access header.access ++ word header.enum_word keyword.Enum ∷ naming header.name ∷ []
spell (end_enum end_word enum_word) = word end_word keyword.End ∷ word enum_word keyword.Enum ∷ []
spell (type_header header) = spell_access header.access ++ word header.type_word keyword.Type ∷ naming header.name ∷ []
spell (type_member name dims type_clause) = naming name ∷ (optional spell_dims dims ++ spell_type_clause type_clause)
spell (end_type end_word type_word) = word end_word keyword.End ∷ word type_word keyword.Type ∷ []
spell (event_line access event_word name parameters) =
    spell_access access ++ word event_word keyword.Event ∷ naming name ∷ optional spell_parameters parameters
spell (procedure_header access static_word kind name parameters result_type) =
    spell_access access
    ++ (optional_word keyword.Static static_word
    ++ (spell_words kind ++ naming name ∷ (optional spell_parameters parameters ++ optional spell_result_type result_type)))
spell (procedure_end ending) = word ending.end_word keyword.End ∷ kind_token ending.kind_word ending.kind ∷ []
spell (statement_line label statements) = optional spell_line_label label ++ spell_statements statements

-- the tokens themselves
abbrev pub tokens_of : List ReadToken → List Token
tokens_of read_tokens = map (λ token. token.token) read_tokens
