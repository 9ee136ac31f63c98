-- One name more, what a ReDim says, and arguments.
use Rattle.std.proofs.Common.{◌≡◌, List, [], ◌∷◌, ◌++◌, map, Option, Some, None, refl, sym, ap, ◌∙◌}
use Rattle.std.specs.Prelude.{flat_map}
use Rattle.std.proofs.lemmas.Grind.{flat_map-append}
use Rattle.std.proofs.lemmas.List.{append-nil, map-append}
use Rattle.vba_lexer.specs.declared.token.Token.{Token}
use Rattle.vba_words.specs.declared.identifier.Identifier.{Identifier}
use Rattle.vba_expression.specs.Reader.{name_in}
use Rattle.vba_expression.specs.Tree as expr
use Rattle.vba_tree.specs.Tree.{TypeClause}
use Rattle.declared_names.specs.binder.specs.Names.{by_redim, by_use, names_in_args, names_used, redim_uses, uses_of, usings}
use Rattle.declared_names.specs.binder.specs.Said.{Said, arguments_said, expression}
use Rattle.declared_names.specs.binder.specs.Scopes.{Use, plainly}
use Rattle.procedure_names.specs.declared.using.Using.{Using}
use Rattle.procedure_names.specs.Using.{using_view}

pub usings_push : (us : List Using) (u : Using) → map using_view (us ++ u ∷ []) ≡ map using_view us ++ using_view u ∷ []
usings_push us u = map-append using_view us (u ∷ [])

pub redim_of_name : (e : expr.Expr) (clause : Option TypeClause) (x : Identifier) → Some x ≡ name_in e → redim_uses e clause ≡ by_redim x clause ∷ []
redim_of_name (expr.name y) clause x h = let same : y ≡ x = cc in ap (λ z. by_redim z clause ∷ []) same
redim_of_name e clause x h = let wrong : Some x ≡ None = h in absurd cc

pub redim_of_other : (e : expr.Expr) (clause : Option TypeClause) → None ≡ name_in e → redim_uses e clause ≡ uses_of (names_used plainly e)
redim_of_other (expr.name y) clause h = let wrong : None ≡ Some y = h in absurd cc
redim_of_other e clause h = refl

pub said_append : (xs ys : List Said) → flat_map usings (xs ++ ys) ≡ flat_map usings xs ++ flat_map usings ys
said_append xs ys = flat_map-append usings xs ys

uses_append : (xs ys : List (Use × Identifier)) → uses_of (xs ++ ys) ≡ uses_of xs ++ uses_of ys
uses_append [] ys = refl
uses_append (x ∷ xs) ys = ap (λ us. by_use x.0 x.1 ∷ us) (uses_append xs ys)

-- one argument more
argument_uses : (before : expr.Args) (e : expr.Expr) → flat_map usings (arguments_said before) ≡ uses_of (names_in_args before)
    → flat_map usings (arguments_said before ++ expression e ∷ []) ≡ uses_of (names_in_args before ++ names_used plainly e)
argument_uses before e h =
    said_append (arguments_said before) (expression e ∷ [])
    ∙ ap (λ us. flat_map usings (arguments_said before) ++ us) (append-nil (uses_of (names_used plainly e)))
    ∙ ap (λ us. us ++ uses_of (names_used plainly e)) h
    ∙ sym (uses_append (names_in_args before) (names_used plainly e))

pub arguments_uses : (xs : expr.Args) → flat_map usings (arguments_said xs) ≡ uses_of (names_in_args xs)
arguments_uses expr.no_args = refl
arguments_uses (expr.missing before comma) = arguments_uses before
arguments_uses (expr.plain before comma e) = argument_uses before e (arguments_uses before)
arguments_uses (expr.named before comma x mark e) = argument_uses before e (arguments_uses before)
