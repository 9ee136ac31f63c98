-- Which trees have the grammar's form: levels hold, places are places, and each word stands where it may.
use Rattle.std.specs.Prelude.{◌+◌, ◌≡◌, Bool, true, false, ◌&&◌, ◌||◌, List, [], ◌∷◌, Option, None, IfSome, codes}
use Rattle.vba_lexer.specs.declared.token.Token.{Token}
use Rattle.vba_words.specs.declared.mark.Mark.TheVariants.{Dot}
use Rattle.vba_words.specs.declared.reading.Reading.{Reading}
use Rattle.vba_words.specs.declared.reading.Reading.TheVariants as reading
use Rattle.vba_words.specs.declared.reading.ReadToken.{ReadToken}
use Rattle.vba_words.specs.Words.{reads_word}
use Rattle.vba_expression.specs.declared.operator.BinaryOperator.{BinaryOperator}
use Rattle.vba_expression.specs.declared.operator.BinaryOperator.TheVariants as op
use Rattle.vba_expression.specs.declared.tree.LiteralValue.{LiteralValue}
use Rattle.vba_expression.specs.declared.tree.LiteralValue.TheVariants as literal
use Rattle.vba_expression.specs.Tree.{Expr, Args, me, name, with_member, member}
use Rattle.vba_expression.specs.Spelling.{spell as spell_expression}
use Rattle.vba_expression.specs.Fitting.{HasPlainNames, Fits as ExpressionFits, FitsArgs, is_lone, is_place}
use Rattle.vba_tree.specs.declared.declaration.Access.{Access}
use Rattle.vba_tree.specs.declared.declaration.Access.TheVariants as access
use Rattle.vba_tree.specs.declared.declaration.AccessWord.{AccessWord}
use Rattle.vba_tree.specs.declared.simple.LabelName.{LabelName}
use Rattle.vba_tree.specs.declared.simple.LabelName.TheVariants as label
use Rattle.vba_tree.specs.declared.simple.ErrorHandling.{ErrorHandling}
use Rattle.vba_tree.specs.declared.simple.ErrorHandling.TheVariants as handling
use Rattle.vba_tree.specs.declared.simple.ResumeTarget.{ResumeTarget}
use Rattle.vba_tree.specs.declared.simple.ResumeTarget.TheVariants as target
use Rattle.vba_tree.specs.declared.line.OptionChoice.{OptionChoice}
use Rattle.vba_tree.specs.declared.line.OptionChoice.TheVariants as choice
use Rattle.vba_tree.specs.declared.line.AttributeValue.{AttributeValue}
use Rattle.vba_tree.specs.declared.line.LineLabel.{LineLabel}
use Rattle.vba_tree.specs.declared.line.LineLabel.TheVariants as line_label
use Rattle.vba_tree.specs.Tree.{Listed, DeclaredType, named, fixed_text, TypeClause, Dim, upper, Dims, Variable, Constant, Parameter, Parameters, CaseTest, value, comparison, LoopCondition, BlockLine, if_line, else_if_line, select_case, case_line, for_line, for_each, do_line, loop_line, while_line, with_line, ReDimArray, PrintItem, Simple, variables, constants, assignment, set_assignment, call_place, call, re_dim, erase, go_to, go_sub, on_error, resume, raise_event, debug_print, block_line, Stmt, simple, if_then, if_else, Stmts, nothing, one, gap, more, Line, option_line, attribute_line, enum_header, type_header, type_member, event_line, procedure_header, statement_line}

-- the items behind the first
abbrev pub EachOther : {A : Type 0} → (A → Type 0) → List (Token × A) → Type 0
EachOther Holds [] = Unit {0}
EachOther Holds (other ∷ others) = Holds other.1 × EachOther Holds others

-- each item
abbrev pub Each : {A : Type 0} → (A → Type 0) → Listed A → Type 0
Each Holds list = Holds list.first × EachOther Holds list.others

-- a token of one unit
abbrev pub IsOneUnit : Token → Type 0
IsOneUnit token = token.end ≡ token.start + 1

-- an expression that is a place
abbrev pub IsPlace : Expr → Type 0
IsPlace e = (is_place e ≡ true) × ExpressionFits e

-- a place that doesn't end in a bracket: it may be called by a statement
abbrev pub is_target : Expr → Bool
is_target (me token) = true
is_target (name identifier) = true
is_target (with_member dot identifier) = true
is_target (member base dot identifier) = is_place base
is_target _ = false

-- the access words that may stand before Const, before Enum and Type, before Event, and before a procedure
abbrev pub before_const : Access → Bool
before_const access.Friend = false
before_const _ = true

abbrev pub before_type : Access → Bool
before_type access.Public = true
before_type access.Private = true
before_type _ = false

abbrev pub before_event : Access → Bool
before_event access.Public = true
before_event _ = false

abbrev pub before_procedure : Access → Bool
before_procedure access.Global = false
before_procedure _ = true

abbrev pub AccessIs : (Access → Bool) → Option AccessWord → Type 0
AccessIs may_stand a = IfSome a (λ w. may_stand w.access ≡ true)

abbrev pub FormedType : DeclaredType → Type 0
FormedType (named class) = HasPlainNames class
FormedType (fixed_text string_word times length) = ExpressionFits length

abbrev pub FormedTypeClause : Option TypeClause → Type 0
FormedTypeClause clause = IfSome clause (λ c. FormedType c.declared_type)

abbrev pub FormedDim : Dim → Type 0
FormedDim (upper high) = ExpressionFits high
FormedDim (Dim.range low to_word high) = ExpressionFits low × ExpressionFits high

abbrev pub FormedDims : Option Dims → Type 0
FormedDims dims = IfSome dims (λ d. IfSome d.dims (Each FormedDim))

abbrev pub FormedVariable : Variable → Type 0
FormedVariable v = FormedDims v.dims × IfSome v.type_clause (λ c. FormedType c.declared_type)

abbrev pub FormedConstant : Constant → Type 0
FormedConstant c = FormedTypeClause c.type_clause × ExpressionFits c.value

abbrev pub FormedParameter : Parameter → Type 0
FormedParameter p = FormedTypeClause p.type_clause × IfSome p.default (λ d. ExpressionFits d.value)

abbrev pub FormedParameters : Option Parameters → Type 0
FormedParameters parameters = IfSome parameters (λ p. IfSome p.parameters (Each FormedParameter))

-- = <> < > <= >=
abbrev pub is_comparison : BinaryOperator → Bool
is_comparison op.Equal = true
is_comparison op.NotEqual = true
is_comparison op.Less = true
is_comparison op.Greater = true
is_comparison op.LessEqual = true
is_comparison op.GreaterEqual = true
is_comparison _ = false

abbrev pub FormedTest : CaseTest → Type 0
FormedTest (value e) = ExpressionFits e
FormedTest (CaseTest.range low to_word high) = ExpressionFits low × ExpressionFits high
FormedTest (comparison is_word operator operator_token e) = (is_comparison operator ≡ true) × ExpressionFits e

abbrev pub FormedCondition : Option LoopCondition → Type 0
FormedCondition condition = IfSome condition (λ c. ExpressionFits c.condition)

abbrev pub FormedBlockLine : BlockLine → Type 0
FormedBlockLine (if_line if_word condition then_word) = ExpressionFits condition
FormedBlockLine (else_if_line else_if_word condition then_word) = ExpressionFits condition
FormedBlockLine (select_case select_word case_word e) = ExpressionFits e
FormedBlockLine (case_line case_word tests) = Each FormedTest tests
FormedBlockLine (for_line for_word counter equal start to_word limit step) =
    ExpressionFits start × ExpressionFits limit × IfSome step (λ s. ExpressionFits s.value)
FormedBlockLine (for_each for_word each_word element in_word group) = ExpressionFits group
FormedBlockLine (do_line do_word condition) = FormedCondition condition
FormedBlockLine (loop_line loop_word condition) = FormedCondition condition
FormedBlockLine (while_line while_word condition) = ExpressionFits condition
FormedBlockLine (with_line with_word object) = ExpressionFits object
FormedBlockLine _ = Unit {0}

abbrev pub FormedArray : ReDimArray → Type 0
FormedArray a = IsPlace a.place × Each FormedDim a.dims × FormedTypeClause a.type_clause

-- arguments of a call: one that isn't written is left out
abbrev pub FormedArguments : Args → Type 0
FormedArguments arguments = FitsArgs arguments × (is_lone arguments ≡ false)

-- a label where it is gone to has no suffix
abbrev pub FormedLabelName : LabelName → Type 0
FormedLabelName (label.Name identifier) = identifier.suffix ≡ None
FormedLabelName (label.Number token number) = Unit {0}

-- the `0` and the `1` behind GoTo are those digits alone
abbrev pub FormedHandling : ErrorHandling → Type 0
FormedHandling (handling.GoTo goto_word to) = FormedLabelName to
FormedHandling (handling.GoToZero goto_word zero) = IsOneUnit zero
FormedHandling (handling.GoToMinusOne goto_word minus digit) = IsOneUnit digit
FormedHandling _ = Unit {0}

abbrev pub FormedTarget : ResumeTarget → Type 0
FormedTarget (target.Zero token) = IsOneUnit token
FormedTarget (target.Label to) = FormedLabelName to
FormedTarget _ = Unit {0}

abbrev pub FormedPrintItems : List PrintItem → Type 0
FormedPrintItems [] = Unit {0}
FormedPrintItems (item ∷ items) = IfSome item.value ExpressionFits × FormedPrintItems items

-- the dot that goes on
abbrev pub goes_on : Reading → Bool
goes_on (reading.Mark Dot) = true
goes_on _ = false

-- these tokens begin with the word Attribute, or with Debug.Print
abbrev pub begins_attribute : List ReadToken → Bool
begins_attribute [] = false
begins_attribute (first ∷ tokens) = reads_word first (codes "attribute")

abbrev pub begins_print : List ReadToken → Bool
begins_print (first ∷ dot ∷ last ∷ tokens) = reads_word first (codes "debug") && (goes_on dot.reading && reads_word last (codes "print"))
begins_print _ = false

-- statements other than single-line Ifs; what begins with Attribute or Debug.Print is no call
abbrev pub Formed : Simple → Type 0
Formed (variables kept token list) = Each FormedVariable list
Formed (constants access const_word list) = AccessIs before_const access × Each FormedConstant list
Formed (assignment let_word place equal e) = IsPlace place × ExpressionFits e
Formed (set_assignment set_word place equal e) = IsPlace place × ExpressionFits e
Formed (call_place call_word place) = IsPlace place
Formed (call called arguments) =
    (is_target called ≡ true) × ExpressionFits called × FormedArguments arguments
    × ((begins_attribute (spell_expression called) || begins_print (spell_expression called)) ≡ false)
Formed (re_dim redim_word preserve_word arrays) = Each FormedArray arrays
Formed (erase erase_word places) = Each IsPlace places
Formed (go_to goto_word to) = FormedLabelName to
Formed (go_sub gosub_word to) = FormedLabelName to
Formed (on_error on_word error_word how) = FormedHandling how
Formed (resume resume_word to) = IfSome to FormedTarget
Formed (raise_event raise_event_word event arguments) = IfSome arguments (λ a. FormedArguments a.arguments)
Formed (debug_print debug_word dot print_word first others) = IfSome first ExpressionFits × FormedPrintItems others
Formed (block_line line) = FormedBlockLine line
Formed _ = Unit {0}

-- the first statement is written
abbrev pub begins : Stmts → Bool
begins nothing = false
begins (one statement) = true
begins (gap before colon) = begins before
begins (more before colon statement) = begins before

abbrev mutual
  -- the lists of a single-line If begin with a statement
  pub FormedStatement : Stmt → Type 0
  FormedStatement (simple statement) = Formed statement
  FormedStatement (if_then if_word condition then_word then_list) =
      ExpressionFits condition × (begins then_list ≡ true) × FormedStatements then_list
  FormedStatement (if_else if_word condition then_word then_list else_word else_list) =
      ExpressionFits condition × (begins then_list ≡ true) × (begins else_list ≡ true)
      × FormedStatements then_list × FormedStatements else_list

  pub FormedStatements : Stmts → Type 0
  FormedStatements nothing = Unit {0}
  FormedStatements (one statement) = FormedStatement statement
  FormedStatements (gap before colon) = FormedStatements before
  FormedStatements (more before colon statement) = FormedStatements before × FormedStatement statement

-- the `0` and the `1` of Option Base are those digits alone
abbrev pub FormedChoice : OptionChoice → Type 0
FormedChoice (choice.BaseZero base_word zero) = IsOneUnit zero
FormedChoice (choice.BaseOne base_word digit) = IsOneUnit digit
FormedChoice _ = Unit {0}

-- a number or a text, and without a minus True and False too
abbrev pub may_be_attribute : Option Token → LiteralValue → Bool
may_be_attribute minus (literal.Number number is_plain) = true
may_be_attribute minus (literal.Text text) = true
may_be_attribute None literal.True = true
may_be_attribute None literal.False = true
may_be_attribute minus _ = false

abbrev pub FormedAttributeValue : AttributeValue → Type 0
FormedAttributeValue v = may_be_attribute v.minus v.literal.value ≡ true

-- a label that is a name has no suffix
abbrev pub FormedLabel : LineLabel → Type 0
FormedLabel (line_label.Name identifier colon) = identifier.suffix ≡ None
FormedLabel (line_label.Number token number colon) = Unit {0}

-- a line
abbrev pub FormedLine : Line → Type 0
FormedLine (option_line option) = FormedChoice option.choice
FormedLine (attribute_line attribute_word names equal values) = Each FormedAttributeValue values
FormedLine (enum_header header) = AccessIs before_type header.access
FormedLine (type_header header) = AccessIs before_type header.access
FormedLine (type_member identifier dims type_clause) = FormedDims dims × FormedType type_clause.declared_type
FormedLine (event_line access event_word identifier parameters) = AccessIs before_event access × FormedParameters parameters
FormedLine (procedure_header access static_word kind identifier parameters result_type) =
    AccessIs before_procedure access × FormedParameters parameters × IfSome result_type (λ r. FormedType r.declared_type)
FormedLine (statement_line label statements) = IfSome label FormedLabel × FormedStatements statements
FormedLine _ = Unit {0}
