-- Serves the code: arguments that parameters take, by the pieces that are pushed for them.
use Rattle.std.specs.Prelude.{◌≡◌, false, List, [], ◌∷◌, Option, Some, None}
use Rattle.vba_base.specs.declared.place.Place.{Place}
use Rattle.vba_values.specs.Types.{Declared}
use Rattle.bound_project.specs.Expressions.{Args}
use Rattle.bound_project.specs.Expressions as bound
use Rattle.bound_project.specs.Pieces.{Argument, with_argument}
use Rattle.bound_project.specs.Project.{Parameter}
use Rattle.bound_forms.specs.Terms.{Term, Given, taken_by, not_given_to}

-- a parameter that is no ParamArray takes what is given without a name
pub record Taken (value : Declared → Term → Place → Option bound.Expr) (p : Parameter) (g : Given) (x : Argument) : Type 0 where
  pub no_name : g.name ≡ None
  pub no_list : p.many ≡ false
  pub makes : (rest : Args) → taken_by value p g rest ≡ Some (with_argument x rest)

-- the first parameters take what is given, and others are left
abbrev pub AllTaken : (Declared → Term → Place → Option bound.Expr) → List Parameter → List Given → List Argument → (left : List Parameter) → Type 0
AllTaken value ps [] [] left = ps ≡ left
AllTaken value (p ∷ ps) (g ∷ gs) (x ∷ xs) left = Taken value p g x × AllTaken value ps gs xs left
AllTaken value ps gs xs left = ⊥

-- what a parameter has to which nothing is given
abbrev pub NotGiven : Parameter → Argument → Type 0
NotGiven p x = (rest : Args) → not_given_to p rest ≡ Some (with_argument x rest)

abbrev pub AllLeft : List Parameter → List Argument → Type 0
AllLeft [] [] = Unit {0}
AllLeft (p ∷ ps) (x ∷ xs) = NotGiven p x × AllLeft ps xs
AllLeft ps xs = ⊥
