-- What arguments say, each one an expression that is evaluated.
use Rattle.std.proofs.Common.{◌≡◌, List, [], ◌∷◌, ◌++◌, refl, ap, ◌∙◌}
use Rattle.std.specs.Prelude.{flat_map}
use Rattle.std.proofs.lemmas.List.{append-nil}
use Rattle.std.proofs.lemmas.List.Concat.{flat_map-append}
use Rattle.vba_base.specs.declared.place.Place.{Place}
use Rattle.vba_expression.specs.Tree.{Expr, Args, no_args, missing, plain}
use Rattle.vba_expression.specs.Tree as expr
use Rattle.vba_tree.specs.declared.line.LineLabel.{LineLabel}
use Rattle.declared_names.specs.binder.specs.Said.{Said, expression, arguments_said}
use Rattle.declared_names.specs.binder.specs.Scopes.{Scope}
use Rattle.declared_names.specs.binder.specs.Violations.{types_said, types_in, types_in_args, label_said}
use Rattle.use_rules.specs.Asked.{asked_in_args, said_asked}
use Rattle.use_rules.specs.declared.question.Question.{Question}

-- one argument more
one_more : (faults : Said → List Place) (before : List Said) (e : Expr) (places : List Place) → flat_map faults before ≡ places
    → flat_map faults (before ++ expression e ∷ []) ≡ places ++ faults (expression e)
one_more faults before e places is =
    flat_map-append faults before (expression e ∷ [])
    ∙ ap (λ more. flat_map faults before ++ more) (append-nil (faults (expression e)))
    ∙ ap (λ found. found ++ faults (expression e)) is

pub arguments_types : (s : Scope) (xs : Args) → flat_map (types_said s) (arguments_said xs) ≡ types_in_args s xs
arguments_types s no_args = refl
arguments_types s (missing before comma) = arguments_types s before
arguments_types s (plain before comma e) = one_more (types_said s) (arguments_said before) e (types_in_args s before) (arguments_types s before)
arguments_types s (expr.named before comma x mark e) = one_more (types_said s) (arguments_said before) e (types_in_args s before) (arguments_types s before)

pub arguments_asked : (s : Scope) (question : Question) (xs : Args) → flat_map (said_asked s question) (arguments_said xs) ≡ asked_in_args s question xs
arguments_asked s question no_args = refl
arguments_asked s question (missing before comma) = arguments_asked s question before
arguments_asked s question (plain before comma e) =
    one_more (said_asked s question) (arguments_said before) e (asked_in_args s question before) (arguments_asked s question before)
arguments_asked s question (expr.named before comma x mark e) =
    one_more (said_asked s question) (arguments_said before) e (asked_in_args s question before) (arguments_asked s question before)

pub arguments_labels : (labels : List LineLabel) (xs : Args) → flat_map (label_said labels) (arguments_said xs) ≡ []
arguments_labels labels no_args = refl
arguments_labels labels (missing before comma) = arguments_labels labels before
arguments_labels labels (plain before comma e) = one_more (label_said labels) (arguments_said before) e [] (arguments_labels labels before)
arguments_labels labels (expr.named before comma x mark e) = one_more (label_said labels) (arguments_said before) e [] (arguments_labels labels before)
