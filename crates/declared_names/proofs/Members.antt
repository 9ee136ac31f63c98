-- Members of Enums, by their names and what stands behind.
use Rattle.std.proofs.Common.{◌≡◌, true, false, Option, Some, None, refl, ap, sym, ◌∙◌}
use Rattle.vba_lexer.specs.declared.token.Token.{Token}
use Rattle.vba_words.specs.declared.identifier.Identifier.{Identifier}
use Rattle.vba_expression.specs.Fitting.{has_no_arguments}
use Rattle.vba_expression.specs.Reader.{name_in}
use Rattle.vba_expression.specs.Tree as expressions
use Rattle.vba_module.specs.Parts.{statement}
use Rattle.vba_tree.specs.Tree.{simple, call, assignment}
use Rattle.declared_names.specs.Entries.{member_in}

pub called : (e : expressions.Expr) (arguments : expressions.Args) (x : Identifier) → Some x ≡ name_in e → true ≡ has_no_arguments arguments
    → Some (x, None) ≡ member_in (statement (simple (call e arguments)))
called (expressions.name y) expressions.no_args x h alone = let same : x ≡ y = cc in ap (λ z. Some (z, None)) same
called (expressions.name y) other x h alone = let wrong : true ≡ false = alone in absurd cc
called e arguments x h alone = let wrong : Some x ≡ None = h in absurd cc

pub called_with : (e : expressions.Expr) (arguments : expressions.Args) → false ≡ has_no_arguments arguments
    → None ≡ member_in (statement (simple (call e arguments)))
called_with e expressions.no_args h = let wrong : false ≡ true = h in absurd cc
called_with (expressions.name y) other h = refl
called_with e other h = refl

pub nothing_called : (e : expressions.Expr) (arguments : expressions.Args) → None ≡ name_in e → None ≡ member_in (statement (simple (call e arguments)))
nothing_called (expressions.name y) arguments h = let wrong : None ≡ Some y = h in absurd cc
nothing_called e arguments h = refl

pub assigned : (e value : expressions.Expr) (equal : Token) (x : Identifier) → Some x ≡ name_in e
    → Some (x, Some value) ≡ member_in (statement (simple (assignment None e equal value)))
assigned (expressions.name y) value equal x h = let same : x ≡ y = cc in ap (λ z. Some (z, Some value)) same
assigned e value equal x h = let wrong : Some x ≡ None = h in absurd cc

pub nothing_assigned : (e value : expressions.Expr) (equal : Token) → None ≡ name_in e → None ≡ member_in (statement (simple (assignment None e equal value)))
nothing_assigned (expressions.name y) value equal h = let wrong : None ≡ Some y = h in absurd cc
nothing_assigned e value equal h = refl
