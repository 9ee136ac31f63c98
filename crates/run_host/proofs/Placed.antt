-- Arguments lead to an array's element, or to the item of an object.
use Rattle.std.proofs.Common.{◌≡◌, refl, ap, ◌∙◌}
use Rattle.std.specs.Prelude.{List, Option, Some, None}
use Rattle.vba_values.specs.declared.object.ObjRef.{ObjRef}
use Rattle.vba_values.specs.declared.object.ObjRef.TheVariants.{Nothing, Heap, Host}
use Rattle.vba_values.specs.declared.object.HostRef.TheVariants.{Application, Workbook, Sheets, ErrObject, Sheet, Area, RowsOf, ColumnsOf}
use Rattle.vba_values.specs.Val.{Val, empty, null, missing, boolean, whole, currency, text, object, array, udt}
use Rattle.vba_meaning.specs.Paths.{Path}
use Rattle.vba_meaning.specs.Memory.{Memory, value_at}
use Rattle.vba_meaning.specs.Effects.{Fine, on_fine}
use Rattle.vba_meaning.specs.Arrays.{element_at, element_in, indexed_object}
use Rattle.vba_meaning.specs.Host.{item_by, path_to, place_at}
use Rattle.run_memory.specs.Looks.{object_here}

-- where no object is
pub no_object : (p : Path) (vs : List Val) (m : Memory) → None ≡ object_here (value_at m p) → place_at p vs m ≡ element_at p vs m
no_object p vs m is = by_value (value_at m p) refl is where
  same : {o : Option Val} → value_at m p ≡ o → element_at p vs m ≡ element_in p o vs m
  same has = ap (λ o. element_in p o vs m) has

  by_value : (o : Option Val) → value_at m p ≡ o → None ≡ object_here o → place_at p vs m ≡ element_at p vs m
  by_value None has none = rw has (same has)
  by_value (Some (object r)) has none = cc
  by_value (Some empty) has none = rw has (same has)
  by_value (Some null) has none = rw has (same has)
  by_value (Some missing) has none = rw has (same has)
  by_value (Some (boolean b)) has none = rw has (same has)
  by_value (Some (whole k z)) has none = rw has (same has)
  by_value (Some (currency n)) has none = rw has (same has)
  by_value (Some (text t)) has none = rw has (same has)
  by_value (Some (array b e i)) has none = rw has (same has)
  by_value (Some (udt n f)) has none = rw has (same has)

-- where one is
pub object_then : (p : Path) (vs : List Val) (m : Memory) (r : ObjRef) → Some r ≡ object_here (value_at m p)
    → place_at p vs m ≡ on_fine (item_by (object r) vs m) (λ w m1. Fine (path_to w) m1)
object_then p vs m r is = by_value (value_at m p) refl is where
  by_value : (o : Option Val) → value_at m p ≡ o → Some r ≡ object_here o → place_at p vs m ≡ on_fine (item_by (object r) vs m) (λ w m1. Fine (path_to w) m1)
  by_value None has some = cc
  by_value (Some (object s)) has some = let same : r ≡ s = cc in rw (has, same) refl
  by_value (Some empty) has some = cc
  by_value (Some null) has some = cc
  by_value (Some missing) has some = cc
  by_value (Some (boolean b)) has some = cc
  by_value (Some (whole k z)) has some = cc
  by_value (Some (currency n)) has some = cc
  by_value (Some (text t)) has some = cc
  by_value (Some (array b e i)) has some = cc
  by_value (Some (udt n f)) has some = cc

-- an object has no elements
never_indexed : (r : ObjRef) (m n : Memory) (q : Path) → indexed_object r m ≡ Fine q n → ⊥
never_indexed Nothing m n q is = cc
never_indexed (Heap id) m n q is = cc
never_indexed (Host Application) m n q is = cc
never_indexed (Host Workbook) m n q is = cc
never_indexed (Host Sheets) m n q is = cc
never_indexed (Host ErrObject) m n q is = cc
never_indexed (Host (Sheet s)) m n q is = cc
never_indexed (Host (Area s t l r c)) m n q is = cc
never_indexed (Host (RowsOf k)) m n q is = cc
never_indexed (Host (ColumnsOf k)) m n q is = cc

no_object_in : (p : Path) (o : Option Val) (vs : List Val) (m n : Memory) (q : Path) → element_in p o vs m ≡ Fine q n → None ≡ object_here o
no_object_in p None vs m n q is = refl
no_object_in p (Some (object r)) vs m n q is = absurd (never_indexed r m n q is)
no_object_in p (Some empty) vs m n q is = refl
no_object_in p (Some null) vs m n q is = refl
no_object_in p (Some missing) vs m n q is = refl
no_object_in p (Some (boolean b)) vs m n q is = refl
no_object_in p (Some (whole k z)) vs m n q is = refl
no_object_in p (Some (currency z)) vs m n q is = refl
no_object_in p (Some (text t)) vs m n q is = refl
no_object_in p (Some (array b e i)) vs m n q is = refl
no_object_in p (Some (udt k f)) vs m n q is = refl

pub element_first : (p : Path) (vs : List Val) (m n : Memory) (q : Path) → element_at p vs m ≡ Fine q n → place_at p vs m ≡ Fine q n
element_first p vs m n q is = no_object p vs m (no_object_in p (value_at m p) vs m n q is) ∙ is
