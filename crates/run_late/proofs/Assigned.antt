-- Late-bound members of values that are no objects of classes, by whether they are counted, and items of Collections.
use Rattle.std.proofs.Common.{◌≡◌, List, refl, ap}
use Rattle.std.specs.Prelude.{ℕ, Some, None}
use Rattle.vba_values.specs.declared.object.ObjId.{ObjId}
use Rattle.vba_values.specs.declared.object.ObjRef.TheVariants.{Nothing, Heap, Host}
use Rattle.vba_values.specs.Val.{Val, empty, null, missing, boolean, whole, currency, text, object, array, udt}
use Rattle.bound_project.specs.Project.{Declarations}
use Rattle.vba_meaning.specs.Memory.{Memory}
use Rattle.vba_meaning.specs.Effects.{Effect, Fine, Bad-at, Out, Tell, on_fine}
use Rattle.vba_meaning.specs.Collections.{is_item, item_found}
use Rattle.vba_meaning.specs.Defaults.{Next, gives, goes_by, most_passed, over_with, write, write_along}
use Rattle.vba_meaning.specs.LateBound.{host_let, item_let}
use Rattle.run_late.specs.Parts.{collection_let, counted_in, item_written, member_let}

-- what is done with a value that a use is over with
over_then : (e : Effect Val) (g : Next → Memory → Effect Next) → on_fine (over_with e) g ≡ on_fine e (λ v m. g (gives v) m)
over_then (Fine v m) g = refl
over_then (Bad-at n m) g = refl
over_then (Out w m) g = refl
over_then (Tell es e) g = ap (λ x. Tell es x) (over_then e g)

pub item_is : (d : Declarations) (o : ℕ) (vs : List Val) (v : Val) (m : Memory) → item_let d o is_item vs v m ≡ item_written d o vs v m
item_is d o vs v m = over_then (item_found o vs m) (λ n m1. goes_by (write most_passed v) (λ w m2. write_along d most_passed v w m2) n m1)

module _ (d : Declarations) (name : List ℕ) (vs : List Val) where
  pub of_counted : (base begun v : Val) (id : ObjId) (m : Memory) → counted_in base ≡ Some id → host_let d name vs base begun v m ≡ collection_let d id.0 name vs v m
  of_counted (object (Heap i)) begun v id m h = let e : i ≡ id = cc in rw e refl
  of_counted (object Nothing) begun v id m h = cc
  of_counted (object (Host r)) begun v id m h = cc
  of_counted empty begun v id m h = cc
  of_counted null begun v id m h = cc
  of_counted missing begun v id m h = cc
  of_counted (boolean b) begun v id m h = cc
  of_counted (whole k z) begun v id m h = cc
  of_counted (currency n) begun v id m h = cc
  of_counted (text t) begun v id m h = cc
  of_counted (array b e is) begun v id m h = cc
  of_counted (udt n fs) begun v id m h = cc

  pub of_other : (base begun v : Val) (m : Memory) → counted_in base ≡ None → host_let d name vs base begun v m ≡ member_let d name vs base begun v m
  of_other (object (Heap i)) begun v m h = cc
  of_other (object Nothing) begun v m h = refl
  of_other (object (Host r)) begun v m h = refl
  of_other empty begun v m h = refl
  of_other null begun v m h = refl
  of_other missing begun v m h = refl
  of_other (boolean b) begun v m h = refl
  of_other (whole k z) begun v m h = refl
  of_other (currency n) begun v m h = refl
  of_other (text t) begun v m h = refl
  of_other (array b e is) begun v m h = refl
  of_other (udt n fs) begun v m h = refl
