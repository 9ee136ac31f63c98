-- Modules as the binder takes them: the parts of their kept lines in text order, of which S1 to S14 hold, each part a
-- label, a statement (a line of a block too) or a line that is no statements.
--
-- How the rest follows from them:
-- 1. The entries of a module are what it declares, and the names of a procedure what that declares: two lists in text
--    order (Declarations). What a name means is the first entry found in the order procedure, module, project, host and
--    library (Scopes). Numbers of variables, procedures and Types count the entries before them (Storage).
-- 2. A part of a procedure has its standing: its number, the blocks round it, and what follows it. The numbers to which
--    a statement goes are found in what follows (Numbering).
-- 3. Each rule is a list of the places where it is broken (Violations); the verdict is the least of them.
-- 4. An expression is bound by what it is, a place or a value or a name of something else; what stands round it takes
--    what it needs (Terms, Arguments, StatementsBound). What the bound project can't say yet is bound by nothing, and
--    the first such part is where binding stops (Bind).
use Rattle.std.specs.Prelude.{ℕ, ◌-◌, Bool, true, false, List, [], ◌∷◌, ◌++◌, length, take, drop, codes, decimal, Option, Some, None, bytes_eq, if◌then◌else◌}
use Rattle.vba_base.specs.Fold.{folded}
use Rattle.vba_lexer.specs.declared.token.Token.{Token}
use Rattle.vba_lexer.specs.Numbers.{without_suffix}
use Rattle.vba_lexer.specs.Texts.{text_of}
use Rattle.vba_values.specs.declared.types.Compare.{Compare}
use Rattle.vba_values.specs.declared.types.Compare.TheVariants.{Binary, Folded}
use Rattle.vba_words.specs.declared.identifier.Identifier.{Identifier}
use Rattle.vba_expression.specs.declared.tree.LiteralValue.{LiteralValue}
use Rattle.vba_expression.specs.declared.tree.LiteralValue.TheVariants as literal
use Rattle.vba_tree.specs.declared.line.AttributeValue.{AttributeValue}
use Rattle.vba_tree.specs.declared.line.OptionChoice.{OptionChoice}
use Rattle.vba_tree.specs.declared.line.OptionChoice.TheVariants as choice
use Rattle.vba_tree.specs.Tree.{Listed, option_line, attribute_line}
use Rattle.vba_module.specs.Parts.{Part, whole_line}
use Rattle.bound_project.specs.Project.{Spelled}
use Rattle.binder.specs.Options.{or_else}

-- a module: whether it is a class, its text, and its parts
pub record Source : Type 0 where
  pub is_class : Bool
  pub text : List ℕ
  pub parts : List Part

-- ---- names as they are written

-- without the brackets or the suffix
abbrev pub written : Bool → List ℕ → List ℕ
written true units = take (length units - 2) (drop 1 units)
written false units = without_suffix units

abbrev pub spelled : List ℕ → Identifier → Spelled
spelled text name = record { spelling = written name.is_bracketed (text_of text name.token); fold = name.name }

-- ---- the name of a module ([MS-VBAL] 4.2)

-- the text of an attribute VB_Name
abbrev pub name_given : Listed Identifier → Listed AttributeValue → Option (List ℕ)
name_given names values = at names.others values.first.minus values.first.literal.value
  where
    at : List (Token × Identifier) → Option Token → LiteralValue → Option (List ℕ)
    at [] None (literal.Text units) = if bytes_eq names.first.name (codes "vb_name") then Some units else None
    at others minus value = None

-- the first that is given
abbrev pub given_name : List Part → Option (List ℕ)
given_name [] = None
given_name (whole_line (attribute_line attribute_word names equal values) ∷ parts) = or_else (name_given names values) (given_name parts)
given_name (part ∷ parts) = given_name parts

-- else Module with the number of the module, from 1
abbrev pub name_or : ℕ → Option (List ℕ) → Spelled
name_or number (Some units) = record { spelling = units; fold = folded units }
name_or number None = record { spelling = codes "Module" ++ decimal number; fold = codes "module" ++ decimal number }

-- ---- options ([MS-VBAL] 5.2.1)

abbrev pub has_choice : (OptionChoice → Bool) → List Part → Bool
has_choice is [] = false
has_choice is (whole_line (option_line option) ∷ parts) = if is option.choice then true else has_choice is parts
has_choice is (part ∷ parts) = has_choice is parts

abbrev pub is_explicit : OptionChoice → Bool
is_explicit (choice.Explicit explicit_word) = true
is_explicit other = false

abbrev pub is_base_one : OptionChoice → Bool
is_base_one (choice.BaseOne base_word one) = true
is_base_one other = false

abbrev pub is_compare_text : OptionChoice → Bool
is_compare_text (choice.CompareText compare_word text_word) = true
is_compare_text other = false

abbrev pub base_of : Source → ℕ
base_of source = if has_choice is_base_one source.parts then 1 else 0

abbrev pub compare_of : Source → Compare
compare_of source = if has_choice is_compare_text source.parts then Folded else Binary
