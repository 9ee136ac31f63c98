-- Members of Enums, by their names and what stands behind.
use Rattle.std.proofs.Common.{◌≡◌, Bool, true, false, Option, Some, None, refl, ap}
use Rattle.std.specs.Prelude.{◌&&◌}
use Rattle.vba_lexer.specs.declared.token.Token.{Token}
use Rattle.vba_words.specs.declared.identifier.Identifier.{Identifier}
use Rattle.vba_expression.specs.Fitting.{is_none, has_no_arguments}
use Rattle.vba_expression.specs.Reader.{name_in}
use Rattle.vba_expression.specs.Tree as expressions
use Rattle.vba_tree.specs.Tree.{simple, call, assignment}
use Rattle.vba_module.specs.Misplaced.{is_enum_member}
use Rattle.module_rules.specs.Statements.{is_plain_name}

and_true : (b : Bool) → (b && true) ≡ b
and_true true = refl
and_true false = refl

and_false : (b : Bool) → (b && false) ≡ false
and_false true = refl
and_false false = refl

-- a name without a suffix, by the name
pub plain_name : (e : expressions.Expr) (x : Identifier) → Some x ≡ name_in e → is_none x.suffix ≡ is_plain_name e
plain_name (expressions.name y) x h = let same : x ≡ y = cc in ap (λ z. is_none z.suffix) same
plain_name other x h = let no : Some x ≡ None = h in absurd cc

pub no_name : (e : expressions.Expr) → None ≡ name_in e → false ≡ is_plain_name e
no_name (expressions.name y) h = let no : None ≡ Some y = h in absurd cc
no_name other h = refl

-- a name alone, and a name with arguments
pub called : (e : expressions.Expr) (arguments : expressions.Args)
    → (is_plain_name e && has_no_arguments arguments) ≡ is_enum_member (simple (call e arguments))
called (expressions.name x) expressions.no_args = and_true (is_none x.suffix)
called (expressions.name x) other = and_false (is_none x.suffix)
called e expressions.no_args = refl
called e other = refl

-- a name with its value, without and with Let
pub assigned : (e : expressions.Expr) (equal : Token) (value : expressions.Expr) → is_enum_member (simple (assignment None e equal value)) ≡ is_plain_name e
assigned (expressions.name x) equal value = refl
assigned other equal value = refl

pub assigned_by_let : (let_word : Token) (e : expressions.Expr) (equal : Token) (value : expressions.Expr) → is_enum_member (simple (assignment (Some let_word) e equal value)) ≡ false
assigned_by_let let_word (expressions.name x) equal value = refl
assigned_by_let let_word other equal value = refl
