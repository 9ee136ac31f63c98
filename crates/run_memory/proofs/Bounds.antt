-- Names of classes by number; UBound and LBound, as functions of the library, by the number of a Long.
use Rattle.std.proofs.Common.{◌≡◌, ℕ, zero, suc, ◌-◌, Bool, true, false, ℤ, ◌∷◌, [], ap, sym, subst, ◌∙◌, refl, arith}
use Rattle.std.specs.Prelude.{if◌then◌else◌, pos, nat_eq, FitsSigned, Result, Ok, Err, Option, Some}
use Rattle.std.specs.Int.{w32}
use Rattle.vba_base.specs.Answer.{Gives}
use Rattle.vba_base.specs.declared.fault.OrMemory.{OrMemory}
use Rattle.vba_base.specs.declared.fault.OrMemory.TheVariants.{Fault, NoMemory}
use Rattle.vba_values.specs.declared.fault.Bad.{Bad}
use Rattle.vba_values.specs.declared.types.Compare.TheVariants.{Binary}
use Rattle.vba_values.specs.declared.types.WholeKind.TheVariants as kind
use Rattle.vba_values.specs.declared.value.Value.{Value}
use Rattle.vba_values.specs.View.{view}
use Rattle.vba_values.specs.Val.{Val, whole}
use Rattle.vba_values.specs.Whole.{fits}
use Rattle.vba_values.proofs.TwoNumbers.{fits_long}
use Rattle.vba_lib.specs.declared.function.LibraryFunction.TheVariants as function
use Rattle.vba_lib.specs.Library.{library_of}
use Rattle.bound_project.specs.Project.{Declarations}
use Rattle.vba_meaning.specs.Memory.{Memory}
use Rattle.vba_meaning.specs.Effects.{answered}
use Rattle.vba_meaning.specs.Library.{bound_in, class_name}
use Rattle.run_memory.specs.Acts.{Acts}
use Rattle.run_memory.specs.Named.{a_bound, class_spelling}

-- behind Collection stand the class modules
pub class_behind : (d : Declarations) (c : ℕ) → nat_eq c 0 ≡ false → class_spelling d (c - 1) ≡ class_name d c
class_behind d zero h = absurd cc
class_behind d (suc c) h = let e : suc c - 1 ≡ c = omega arith in ap (class_spelling d) e

bound_fits : (upper : Bool) (v : Val) (z : ℤ) → fits kind.Long z ≡ true
    → library_of (if upper then function.UBound else function.LBound) false (v ∷ whole kind.Long z ∷ []) Binary (pos 0) ≡ a_bound upper v z
bound_fits true v z h = rw h refl
bound_fits false v z h = rw h refl

bound_called : (upper : Bool) (v : Val) (z : ℤ) → FitsSigned w32 z
    → library_of (if upper then function.UBound else function.LBound) false (v ∷ whole kind.Long z ∷ []) Binary (pos 0) ≡ a_bound upper v z
bound_called upper v z h = bound_fits upper v z (fits_long z h)

-- what a bound is, as an effect
bound_acted : (upper : Bool) (z : ℤ) (v : Val) (r : Result Value (OrMemory Bad)) (m : Memory) → FitsSigned w32 z → Gives view r (a_bound upper v z) → Acts view r m (bound_in upper z (Some v) m)
bound_acted upper z v (Ok w) m f h = ap (λ x. answered x m) (bound_called upper v z f ∙ h)
bound_acted upper z v (Err (Fault bad)) m f h = ap (λ x. answered x m) (bound_called upper v z f ∙ h)
bound_acted upper z v (Err NoMemory) m f h = tt

pub bound_acted_at : (upper : Bool) (z : ℤ) (o : Option Val) (v : Val) (r : Result Value (OrMemory Bad)) (m : Memory) → FitsSigned w32 z → o ≡ Some v → Gives view r (a_bound upper v z)
    → Acts view r m (bound_in upper z o m)
bound_acted_at upper z o v r m f e h = subst (λ p. Acts view r m (bound_in upper z p m)) (sym e) (bound_acted upper z v r m f h)
