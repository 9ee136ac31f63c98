-- S12: parts that stand where they may not.
use Rattle.std.specs.Prelude.{Bool, true, false, ◌&&◌, ◌||◌, not, List, [], ◌∷◌, ◌++◌, Option, Some, None, if◌then◌else◌}
use Rattle.vba_base.specs.declared.place.Place.{Place}
use Rattle.vba_lexer.specs.declared.token.Token.{Token}
use Rattle.vba_expression.specs.Fitting.{is_none}
use Rattle.vba_expression.specs.Tree.{name, no_args}
use Rattle.vba_tree.specs.declared.declaration.Access.{Access}
use Rattle.vba_tree.specs.declared.declaration.Access.TheVariants as access
use Rattle.vba_tree.specs.declared.declaration.AccessWord.{AccessWord}
use Rattle.vba_tree.specs.declared.declaration.VariableWord.{VariableWord}
use Rattle.vba_tree.specs.declared.declaration.VariableWord.TheVariants as variable_word
use Rattle.vba_tree.specs.declared.line.OptionChoice.{OptionChoice}
use Rattle.vba_tree.specs.declared.line.OptionChoice.TheVariants as choice
use Rattle.vba_tree.specs.Tree.{Listed, Variable, variables, constants, assignment, call, block_line, Stmt, simple, if_then, if_else, Stmts, nothing, one, gap, more, Line, option_line, attribute_line, enum_header, end_enum, type_header, type_member, end_type, event_line, procedure_header, procedure_end}
use Rattle.vba_module.specs.Parts.{Part, label, statement, whole_line, nowhere, first_place, place_of}
use Rattle.vba_tree.specs.Spelling.{spell_statement}
use Rattle.vba_module.specs.Blocks.{Kind, procedure, enum, type, Open, step, role_of}

-- where a part stands
pub data Inside : Type 0 where
  at_module : Inside
  in_procedure : Inside
  in_enum : Inside
  in_type : Inside

abbrev pub inside_of : List Open → Inside
inside_of [] = at_module
inside_of (opened ∷ others) = at opened.kind (inside_of others)
  where
    at : Kind → Inside → Inside
    at (procedure kind) outside = in_procedure
    at enum outside = in_enum
    at type outside = in_type
    at _ outside = outside

-- what stood before a part of the module: an option of each kind, a declaration, a procedure
pub record Before : Type 0 where
  pub has_explicit : Bool
  pub has_base : Bool
  pub has_compare : Bool
  pub has_private_module : Bool
  pub has_declaration : Bool
  pub has_procedure : Bool

-- an option of this kind
abbrev pub has_option : Before → OptionChoice → Bool
has_option before (choice.Explicit explicit_word) = before.has_explicit
has_option before (choice.BaseZero base_word zero) = before.has_base
has_option before (choice.BaseOne base_word digit) = before.has_base
has_option before (choice.CompareBinary compare_word binary_word) = before.has_compare
has_option before (choice.CompareText compare_word text_word) = before.has_compare
has_option before (choice.PrivateModule private_word module_word) = before.has_private_module

-- the place, if something is wrong
abbrev pub place_if : Bool → Place → List Place
place_if true place = place ∷ []
place_if false place = []

abbrev pub word_place : Option Token → List Place
word_place None = []
word_place (Some token) = token.place ∷ []

-- the words WithEvents of variables
abbrev pub with_events_others : List (Token × Variable) → List Place
with_events_others [] = []
with_events_others (v ∷ vs) = word_place v.1.with_events_word ++ with_events_others vs

abbrev pub with_events : Listed Variable → List Place
with_events vs = word_place vs.first.with_events_word ++ with_events_others vs.others

abbrev pub is_static : VariableWord → Bool
is_static variable_word.Static = true
is_static _ = false

abbrev pub is_local : VariableWord → Bool
is_local variable_word.Static = true
is_local variable_word.Dim = true
is_local _ = false

abbrev pub is_written : Option AccessWord → Bool
is_written None = false
is_written (Some word) = true

-- the place of a statement
abbrev pub statement_place : Stmt → Place
statement_place s = first_place nowhere (spell_statement s)

abbrev mutual
  -- a statement in a procedure: no Public variables, no WithEvents, and no line of a block in a single-line If
  pub in_body : Place → Bool → Stmt → List Place
  in_body place in_if (simple (variables word token vs)) = place_if (not (is_local word)) token.place ++ with_events vs
  in_body place in_if (simple (constants access const_word cs)) = place_if (is_written access) place
  in_body place in_if (simple (block_line line)) = place_if in_if place
  in_body place in_if (simple _) = []
  in_body place in_if (if_then if_word condition then_word then_list) = in_list then_list
  in_body place in_if (if_else if_word condition then_word then_list else_word else_list) = in_list then_list ++ in_list else_list

  pub in_list : Stmts → List Place
  in_list nothing = []
  in_list (one s) = in_body (statement_place s) true s
  in_list (gap before colon) = in_list before
  in_list (more before colon s) = in_list before ++ in_body (statement_place s) true s

-- a member of an Enum: a name without a suffix, and `=` with its value where it is written
abbrev pub is_enum_member : Stmt → Bool
is_enum_member (simple (call (name identifier) no_args)) = is_none identifier.suffix
is_enum_member (simple (assignment None (name identifier) equal e)) = is_none identifier.suffix
is_enum_member _ = false

-- a statement outside of procedures: a declaration of variables or constants, before the procedures
abbrev pub at_top : Bool → Before → Place → Stmt → List Place
at_top is_class before place (simple (variables word token vs)) =
    place_if (is_static word || before.has_procedure) place ++ (if is_class then [] else with_events vs)
at_top is_class before place (simple (constants access const_word cs)) = place_if before.has_procedure place
at_top is_class before place _ = place ∷ []

-- Public, where no word says Private
abbrev pub is_public : Option AccessWord → Bool
is_public None = true
is_public (Some word) = at word.access
  where
    at : Access → Bool
    at access.Private = false
    at _ = true

-- a line that is no statements, outside of procedures, Enums and Types
abbrev pub line_at_top : Bool → Before → Place → Line → List Place
line_at_top is_class before place (option_line option) =
    place_if (before.has_declaration || (before.has_procedure || has_option before option.choice)) place
line_at_top is_class before place (enum_header header) = place_if before.has_procedure place
line_at_top is_class before place (type_header header) = place_if (before.has_procedure || (is_class && is_public header.access)) place
line_at_top is_class before place (event_line access event_word identifier parameters) =
    place_if before.has_procedure place ++ place_if (not is_class) event_word.place
line_at_top is_class before place (type_member identifier dims type_clause) = place ∷ []
line_at_top is_class before place _ = []

-- ends are told by S11, and attributes may stand anywhere
abbrev pub may_stand : Line → Bool
may_stand (attribute_line attribute_word names equal values) = true
may_stand (end_enum end_word enum_word) = true
may_stand (end_type end_word type_word) = true
may_stand (procedure_end ending) = true
may_stand _ = false

abbrev pub is_type_member : Line → Bool
is_type_member (type_member identifier dims type_clause) = true
is_type_member _ = false

-- the places of S12 in a part
abbrev pub misplaced : Bool → Before → Inside → Place → Part → List Place
misplaced is_class before at_module place (whole_line line) = line_at_top is_class before place line
misplaced is_class before at_module place (label l) = place ∷ []
misplaced is_class before at_module place (statement s) = at_top is_class before place s
misplaced is_class before in_procedure place (whole_line line) = place_if (not (may_stand line)) place
misplaced is_class before in_procedure place (label l) = []
misplaced is_class before in_procedure place (statement s) = in_body place false s
misplaced is_class before in_enum place (whole_line line) = place_if (not (may_stand line)) place
misplaced is_class before in_enum place (label l) = place ∷ []
misplaced is_class before in_enum place (statement s) = place_if (not (is_enum_member s)) place
misplaced is_class before in_type place (whole_line line) = place_if (not (may_stand line || is_type_member line)) place
misplaced is_class before in_type place (label l) = place ∷ []
misplaced is_class before in_type place (statement s) = place ∷ []

-- behind an option
abbrev pub with_option : Before → OptionChoice → Before
with_option before (choice.Explicit explicit_word) = record before { has_explicit = true }
with_option before (choice.BaseZero base_word zero) = record before { has_base = true }
with_option before (choice.BaseOne base_word digit) = record before { has_base = true }
with_option before (choice.CompareBinary compare_word binary_word) = record before { has_compare = true }
with_option before (choice.CompareText compare_word text_word) = record before { has_compare = true }
with_option before (choice.PrivateModule private_word module_word) = record before { has_private_module = true }

-- what stood before, behind a part
abbrev pub behind : Before → Inside → Part → Before
behind before at_module (whole_line (option_line option)) = with_option before option.choice
behind before at_module (whole_line (procedure_header access static_word kind identifier parameters result_type)) =
    record before { has_procedure = true }
behind before at_module (whole_line (attribute_line attribute_word names equal values)) = before
behind before at_module part = record before { has_declaration = true }
behind before inside part = before

-- the places of S12 in parts, where these are open and this stood before them
abbrev pub all_misplaced : Bool → Before → List Open → List Part → List Place
all_misplaced is_class before opened [] = []
all_misplaced is_class before opened (part ∷ parts) =
    misplaced is_class before (inside_of opened) (place_of part) part
    ++ all_misplaced is_class (behind before (inside_of opened) part) (step (place_of part) opened (role_of part)).opened parts

-- at the front of a module
abbrev pub nothing_before : Before
nothing_before = record {
  has_explicit = false;
  has_base = false;
  has_compare = false;
  has_private_module = false;
  has_declaration = false;
  has_procedure = false;
}
