-- The parameters of Err.Raise, whose names are their own folds.
use Rattle.std.proofs.Common.{◌≡◌, [], ◌∷◌, Option, Some, None, map, refl, sym, ap, ◌∙◌}
use Rattle.std.specs.Prelude.{codes}
use Rattle.caseless.proofs.Computing.{caseless}
use Rattle.vba_base.specs.Fold.{folded}
use Rattle.vba_values.specs.Types as type
use Rattle.vba_values.specs.Val.{Val, missing}
use Rattle.vba_values.specs.View.{view, value_step, array_step, udt_step}
use Rattle.vba_values.specs.declared.value.Value.{Value, Value-F, fold-roll-Value}
use Rattle.vba_values.specs.declared.value.Value.TheVariants.{Missing, rolls-Missing}
use Rattle.bound_project.specs.Project as project
use Rattle.bound_project.specs.View.{parameter_view}
use Rattle.bound_project.specs.declared.declarations.Parameter.{Parameter}
use Rattle.bound_members.specs.bound_calls.specs.bound_forms.specs.StatementsBound.{raise_parameter, raise_parameters}

pub number_folded : folded (codes "number") ≡ codes "number"
unfolding folded caseless
number_folded = refl

pub source_folded : folded (codes "source") ≡ codes "source"
unfolding folded caseless
source_folded = refl

pub description_folded : folded (codes "description") ≡ codes "description"
unfolding folded caseless
description_folded = refl

missing_is : view Missing ≡ missing
missing_is = ap (λ (v : Value). view v) (sym rolls-Missing) ∙ fold-roll-Value Val Val Val value_step array_step udt_step Value-F.Missing

pub three_raised : (a b d : Parameter) → parameter_view a ≡ raise_parameter (codes "number") type.long None → parameter_view b ≡ raise_parameter (codes "source") type.text (Some (view Missing))
    → parameter_view d ≡ raise_parameter (codes "description") type.text (Some (view Missing)) → map parameter_view (a ∷ b ∷ d ∷ []) ≡ raise_parameters
three_raised a b d e f g =
    let number = raise_parameter (codes "number") type.long None in
    let source : Option Val → project.Parameter = λ (v : Option Val). raise_parameter (codes "source") type.text v in
    let description : Option Val → project.Parameter = λ (v : Option Val). raise_parameter (codes "description") type.text v in
    ap (λ (x : project.Parameter). x ∷ parameter_view b ∷ parameter_view d ∷ []) e ∙ ap (λ (x : project.Parameter). number ∷ x ∷ parameter_view d ∷ []) f
    ∙ ap (λ (x : project.Parameter). number ∷ source (Some (view Missing)) ∷ x ∷ []) g ∙ ap (λ (v : Val). number ∷ source (Some v) ∷ description (Some v) ∷ []) missing_is
