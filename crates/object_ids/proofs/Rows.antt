-- A worked row: a block keeps a place in an object that has ended.
use Rattle.std.specs.Prelude.{◌≡◌, pos, [], ◌∷◌, false, refl, None}
use Rattle.vba_values.specs.Types as type
use Rattle.bound_project.specs.Expressions.{kept_place, object_field}
use Rattle.bound_project.specs.Statements.{with_place, end_with}
use Rattle.bound_project.specs.Project.{Project}
use Rattle.vba_meaning.specs.Effects.{Raised, Init, Term}
use Rattle.vba_meaning.proofs.Programs.{meaning, show, declare, sub, flat, program, told, fault, at_place, with_types}
use Rattle.vba_meaning.proofs.ObjectRows.{a_class, with_class, new}
use Rattle.vba_meaning.proofs.ArrayRows.{x_of}

-- Type P: X As Long; a class C with Public U As P. With New C.U ¶ Debug.Print .X ¶ End With: the header's statement alone
-- held the object, so its dot leads nowhere
abbrev gone_below : Project
gone_below = with_types ((declare type.long ∷ []) ∷ []) (with_class (a_class (declare (type.udt 0) ∷ []) None None) (program [] (
    (sub [], flat 0 (with_place (object_field new 0 (type.udt 0) false) ∷ show (at_place type.long (x_of (kept_place 0))) ∷ end_with 0 ∷ [])) ∷ [])))

pub gone_below_is : told (meaning gone_below 50) ≡ (fault 9 0 1, Init 1 1 ∷ Term 1 1 ∷ Raised (pos 9) ∷ [])
gone_below_is = refl
