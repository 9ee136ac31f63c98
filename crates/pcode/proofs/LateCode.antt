-- The code of what is done with a late-bound member, by which of its arguments are given as nodes tell it.
use Rattle.std.proofs.Common.{◌≡◌, ℕ, Bool, true, List, [], ◌∷◌, ◌++◌, refl, sym, ap, ◌∙◌}
use Rattle.bound_project.specs.declared.node.LateUse.TheVariants.{Reading, Assigning, Setting}
use Rattle.bound_project.specs.Expressions.{Expr, expr, not_given, ByName, late_member, Given, none_given, place_given, expr_given}
use Rattle.bound_project.specs.Statements.{assign_late, set_late}
use Rattle.bound_project.specs.Pieces.{is_there, which_there}
use Rattle.vba_meaning.specs.LateBound.{reading, assigning, setting, is_given_expr, which_given}
use Rattle.pcode.specs.Instructions.{FindLate, CallLate, LetLate, SetLate, Drop, Finish}
use Rattle.pcode.specs.Code.{Entry, expr_code, node_code, given_code, action_code}
use Rattle.pcode.specs.View.{use_view}

is_same : (e : Expr) → is_given_expr e ≡ is_there e
is_same (expr not_given place of operand) = refl
is_same e = refl

pub which_same : (given : Given) → which_given given ≡ which_there given
which_same none_given = refl
which_same (place_given x given) = ap (λ r. true ∷ r) (which_same given)
which_same (expr_given e given) = ap (λ b. b ∷ which_given given) (is_same e) ∙ ap (λ r. is_there e ∷ r) (which_same given)

pub late_code : (e : Expr) (name : List ℕ) (by : ByName) (given : Given) (gs : List Bool) → gs ≡ which_there given
    → node_code (late_member e name by given) ≡ expr_code e ++ FindLate (use_view Reading) name by gs ∷ (given_code given (use_view Reading) name by gs 0 ++ CallLate name by gs ∷ [])
late_code e name by given gs same =
    ap (λ fs. expr_code e ++ FindLate reading name by fs ∷ (given_code given reading name by fs 0 ++ CallLate name by fs ∷ [])) (which_same given ∙ sym same)

pub late_let_code : (entry : Entry) (p i k : ℕ) (base e : Expr) (name : List ℕ) (by : ByName) (given : Given) (gs : List Bool) → gs ≡ which_there given
    → action_code entry p i k (assign_late base name by given e)
    ≡ expr_code e ++ (expr_code base ++ FindLate (use_view Assigning) name by gs ∷ (given_code given (use_view Assigning) name by gs 0 ++ (LetLate name by gs ∷ Drop ∷ Finish (entry k) ∷ [])))
late_let_code entry p i k base e name by given gs same =
    ap (λ fs. expr_code e ++ (expr_code base ++ FindLate assigning name by fs ∷ (given_code given assigning name by fs 0 ++ (LetLate name by fs ∷ Drop ∷ Finish (entry k) ∷ [])))) (which_same given ∙ sym same)

pub late_set_code : (entry : Entry) (p i k : ℕ) (base e : Expr) (name : List ℕ) (by : ByName) (given : Given) (gs : List Bool) → gs ≡ which_there given
    → action_code entry p i k (set_late base name by given e)
    ≡ expr_code e ++ (expr_code base ++ FindLate (use_view Setting) name by gs ∷ (given_code given (use_view Setting) name by gs 0 ++ (SetLate name by gs ∷ Drop ∷ Finish (entry k) ∷ [])))
late_set_code entry p i k base e name by given gs same =
    ap (λ fs. expr_code e ++ (expr_code base ++ FindLate setting name by fs ∷ (given_code given setting name by fs 0 ++ (SetLate name by fs ∷ Drop ∷ Finish (entry k) ∷ [])))) (which_same given ∙ sym same)
