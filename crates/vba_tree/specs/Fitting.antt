-- Which tree of a line fits, where several spell it: the parts are as long as they can be, from the left.
use Rattle.std.specs.Prelude.{◌+◌, ◌≤◌, ◌≡◌, ℤ, pos, negsuc, Bool, true, false, ◌==◌, ◌&&◌, List, [], length, Option, Some, None, IfSome}
use Rattle.vba_lexer.specs.declared.number.NumberKind.{NumberKind}
use Rattle.vba_lexer.specs.declared.number.NumberKind.TheVariants.{Integer}
use Rattle.vba_lexer.specs.declared.number.TypeSuffix.{TypeSuffix}
use Rattle.vba_words.specs.declared.reading.ReadToken.{ReadToken}
use Rattle.vba_expression.specs.Tree.{name, no_args}
use Rattle.vba_expression.specs.Spelling.{spell as spell_expression}
use Rattle.vba_tree.specs.declared.simple.LabelName.{LabelName}
use Rattle.vba_tree.specs.declared.simple.LabelName.TheVariants as label
use Rattle.vba_tree.specs.declared.simple.ErrorHandling.{ErrorHandling}
use Rattle.vba_tree.specs.declared.simple.ErrorHandling.TheVariants as handling
use Rattle.vba_tree.specs.declared.simple.ResumeTarget.{ResumeTarget}
use Rattle.vba_tree.specs.declared.simple.ResumeTarget.TheVariants as target
use Rattle.vba_tree.specs.declared.line.LineLabel.{LineLabel}
use Rattle.vba_tree.specs.declared.line.LineLabel.TheVariants as line_label
use Rattle.vba_tree.specs.Tree.{DeclaredType, named, fixed_text, Constant, Parameter, Parameters, ResultType, Simple, constants, assignment, call, on_error, resume, debug_print, Stmt, simple, if_then, if_else, Stmts, nothing, one, gap, more, Line, event_line, procedure_header, statement_line}
use Rattle.vba_tree.specs.Spelling.{optional, spell_type_clause, spell_constant, spell_parameter, spell_simple, spell}
use Rattle.vba_tree.specs.Forms.{Each, FormedConstant, FormedParameter, Formed, FormedLine}

-- of all trees of the grammar's form that have these tokens too, none has a longer first part
abbrev pub IsLongest : {A : Type 0} → (A → Type 0) → (A → List ReadToken) → (A → List ReadToken) → A → Type 0
IsLongest {A} IsFormed spelled first x = (y : A) → IsFormed y → spelled y ≡ spelled x → length (first y) ≤ length (first x)

-- the first part of a statement: what is assigned to, or what is called
abbrev pub first_part : Simple → List ReadToken
first_part (assignment let_word place equal e) = spell_expression place
first_part (call called arguments) = spell_expression called
first_part _ = []

abbrev pub is_print : Simple → Bool
is_print (debug_print debug_word dot print_word first others) = true
is_print _ = false

-- no Debug.Print has the same tokens
abbrev pub IsNoPrint : Simple → Type 0
IsNoPrint statement = (print : Simple) → is_print print ≡ true → Formed print → spell_simple print ≡ spell_simple statement → ⊥

-- the type of a constant or a parameter is as long as it can be: the length behind `String *` may have a `=`
abbrev pub ConstantFits : Constant → Type 0
ConstantFits = IsLongest FormedConstant spell_constant (λ c. optional spell_type_clause c.type_clause)

abbrev pub ParameterFits : Parameter → Type 0
ParameterFits = IsLongest FormedParameter spell_parameter (λ p. optional spell_type_clause p.type_clause)

abbrev pub ParametersFit : Option Parameters → Type 0
ParametersFit parameters = IfSome parameters (λ p. IfSome p.parameters (Each ParameterFits))

-- brackets behind the length of a fixed text belong to the length
abbrev pub ResultFits : ResultType → Type 0
ResultFits r = at r.declared_type
  where
    at : DeclaredType → Type 0
    at (named class) = Unit {0}
    at (fixed_text string_word times length) = r.brackets ≡ None

-- an Integer
abbrev pub is_integer : NumberKind → Bool
is_integer Integer = true
is_integer _ = false

-- `0` alone
abbrev pub is_nought : ℤ → Bool
is_nought (pos n) = n == 0
is_nought (negsuc n) = false

abbrev pub is_zero : LabelName → Bool
is_zero (label.Name identifier) = false
is_zero (label.Number token number) = is_integer number.kind && (is_nought number.value && (token.end == token.start + 1))

-- behind On Error GoTo, `0` is no label
abbrev pub HandlingFits : ErrorHandling → Type 0
HandlingFits (handling.GoTo goto_word to) = is_zero to ≡ false
HandlingFits _ = Unit {0}

-- behind Resume, `0` is no label
abbrev pub TargetFits : ResumeTarget → Type 0
TargetFits (target.Label to) = is_zero to ≡ false
TargetFits _ = Unit {0}

-- the choices of a statement: what is assigned to or called is as long as it can be
abbrev pub Chosen : Simple → Type 0
Chosen (constants access const_word list) = Each ConstantFits list
Chosen (assignment let_word place equal e) =
    IsLongest Formed spell_simple first_part (assignment let_word place equal e) × IsNoPrint (assignment let_word place equal e)
Chosen (call called arguments) = IsLongest Formed spell_simple first_part (call called arguments)
Chosen (on_error on_word error_word how) = HandlingFits how
Chosen (resume resume_word to) = IfSome to TargetFits
Chosen _ = Unit {0}

abbrev pub is_if : Stmt → Bool
is_if (simple statement) = false
is_if _ = true

-- a single-line If is last: what follows on the line would belong to it
abbrev pub ends_in_if : Stmts → Bool
ends_in_if nothing = false
ends_in_if (one statement) = is_if statement
ends_in_if (gap before colon) = false
ends_in_if (more before colon statement) = is_if statement

abbrev mutual
  -- an Else behind it would belong to an If in it
  pub takes_else : Stmt → Bool
  takes_else (simple statement) = false
  takes_else (if_then if_word condition then_word then_list) = true
  takes_else (if_else if_word condition then_word then_list else_word else_list) = list_takes_else else_list

  pub list_takes_else : Stmts → Bool
  list_takes_else nothing = false
  list_takes_else (one statement) = takes_else statement
  list_takes_else (gap before colon) = false
  list_takes_else (more before colon statement) = takes_else statement

abbrev mutual
  -- an Else belongs to the nearest If, and what follows a single-line If on its line belongs to it
  pub ChosenStatement : Stmt → Type 0
  ChosenStatement (simple statement) = Chosen statement
  ChosenStatement (if_then if_word condition then_word then_list) = ChosenStatements then_list
  ChosenStatement (if_else if_word condition then_word then_list else_word else_list) =
      (list_takes_else then_list ≡ false) × ChosenStatements then_list × ChosenStatements else_list

  pub ChosenStatements : Stmts → Type 0
  ChosenStatements nothing = Unit {0}
  ChosenStatements (one statement) = ChosenStatement statement
  ChosenStatements (gap before colon) = (ends_in_if before ≡ false) × ChosenStatements before
  ChosenStatements (more before colon statement) = (ends_in_if before ≡ false) × ChosenStatements before × ChosenStatement statement

-- the call of a bare name, which would be a label before a colon
abbrev pub is_bare : Stmt → Bool
is_bare (simple (call (name identifier) no_args)) = is_plain identifier.suffix
  where
    is_plain : Option TypeSuffix → Bool
    is_plain None = true
    is_plain (Some suffix) = false
is_bare _ = false

-- a line whose first statement is a bare name with a colon behind it
abbrev pub begins_bare : Stmts → Bool
begins_bare nothing = false
begins_bare (one statement) = false
begins_bare (gap (one statement) colon) = is_bare statement
begins_bare (gap before colon) = begins_bare before
begins_bare (more (one statement) colon next) = is_bare statement
begins_bare (more before colon next) = begins_bare before

-- a line whose first statement is missing before a colon
abbrev pub begins_missing : Stmts → Bool
begins_missing nothing = false
begins_missing (one statement) = false
begins_missing (gap nothing colon) = true
begins_missing (gap before colon) = begins_missing before
begins_missing (more nothing colon next) = true
begins_missing (more before colon next) = begins_missing before

-- a bare name with a colon, first on its line, is a label; a colon behind a line number belongs to it
abbrev pub LabelFits : Option LineLabel → Stmts → Type 0
LabelFits None statements = begins_bare statements ≡ false
LabelFits (Some (line_label.Number token number None)) statements = begins_missing statements ≡ false
LabelFits (Some _) statements = Unit {0}

-- the choices of a line
abbrev pub ChosenLine : Line → Type 0
ChosenLine (event_line access event_word identifier parameters) = ParametersFit parameters
ChosenLine (procedure_header access static_word kind identifier parameters result_type) =
    ParametersFit parameters × IfSome result_type ResultFits
ChosenLine (statement_line label statements) = LabelFits label statements × ChosenStatements statements
ChosenLine _ = Unit {0}

-- a tree fits: it has the grammar's form, and the choices hold
pub record FitsLine (line : Line) : Type 0 where
  pub formed : FormedLine line
  pub chosen : ChosenLine line

-- a line of these tokens is read as this tree
pub record IsReadAs (tokens : List ReadToken) (line : Line) : Type 0 where
  pub same : spell line ≡ tokens
  pub fits : FitsLine line
