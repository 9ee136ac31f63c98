-- An object is made where Nothing is, before a place is read.
use Rattle.std.proofs.Common.{◌≡◌, ℕ, refl}
use Rattle.std.specs.Prelude.{Option, Some, None}
use Rattle.vba_values.specs.declared.object.ObjRef.TheVariants.{Nothing, Heap, Host}
use Rattle.vba_values.specs.Val.{Val, empty, null, missing, boolean, whole, currency, text, object, array, udt}
use Rattle.bound_project.specs.Project.{Declarations}
use Rattle.vba_meaning.specs.Paths.{Path}
use Rattle.vba_meaning.specs.Memory.{Memory, value_at}
use Rattle.vba_meaning.specs.Effects.{Effect, Fine}
use Rattle.vba_meaning.specs.Objects.{made, made_for}
use Rattle.run_memory.specs.Looks.{object_here}
use Rattle.run_objects.specs.Made.{makes_there}

-- what a read makes first, by the class of which it makes an object
abbrev pub made_or : Declarations → Option ℕ → Memory → Effect Val
made_or d None m = Fine empty m
made_or d (Some c) m = made d c m

pub made_for_is : (d : Declarations) (q : Path) (m : Memory) → made_for d q m ≡ made_or d (makes_there q.makes (object_here (value_at m q))) m
made_for_is d q m = by_makes q.makes (value_at m q) refl refl where
  by_makes : (makes : Option ℕ) (o : Option Val) → q.makes ≡ makes → value_at m q ≡ o → made_for d q m ≡ made_or d (makes_there makes (object_here o)) m
  by_makes None o e f = rw e refl
  by_makes (Some c) None e f = rw (e, f) refl
  by_makes (Some c) (Some (object Nothing)) e f = rw (e, f) refl
  by_makes (Some c) (Some (object (Heap id))) e f = rw (e, f) refl
  by_makes (Some c) (Some (object (Host r))) e f = rw (e, f) refl
  by_makes (Some c) (Some empty) e f = rw (e, f) refl
  by_makes (Some c) (Some null) e f = rw (e, f) refl
  by_makes (Some c) (Some missing) e f = rw (e, f) refl
  by_makes (Some c) (Some (boolean b)) e f = rw (e, f) refl
  by_makes (Some c) (Some (whole k z)) e f = rw (e, f) refl
  by_makes (Some c) (Some (currency z)) e f = rw (e, f) refl
  by_makes (Some c) (Some (text t)) e f = rw (e, f) refl
  by_makes (Some c) (Some (array b t i)) e f = rw (e, f) refl
  by_makes (Some c) (Some (udt k f0)) e f = rw (e, f) refl
