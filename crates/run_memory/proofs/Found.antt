-- An element is found, and then its path is made.
use Rattle.std.proofs.Common.{◌≡◌, refl, ap}
use Rattle.std.specs.Prelude.{List, Option, Some, None}
use Rattle.vba_values.specs.declared.object.ObjRef.{ObjRef}
use Rattle.vba_values.specs.declared.object.ObjRef.TheVariants.{Nothing, Heap, Host}
use Rattle.vba_values.specs.declared.object.HostRef.TheVariants.{Application, Workbook, Sheets, ErrObject, Sheet, Area, RowsOf, ColumnsOf}
use Rattle.vba_values.specs.Val.{Val, empty, null, missing, boolean, whole, currency, text, object, array, udt}
use Rattle.vba_meaning.specs.Paths.{Path, element_path}
use Rattle.vba_meaning.specs.Memory.{Memory}
use Rattle.vba_meaning.specs.Effects.{Effect, Fine, Bad-at, Out, Tell, on_fine}
use Rattle.vba_meaning.specs.Arrays.{element_in, indexed_object, numbers, offset_at}
use Rattle.run_memory.specs.Elements.{element_found}

then_then : {A B C : Type 0} (e : Effect A) (f : A → Memory → Effect B) (g : B → Memory → Effect C) → on_fine e (λ v m. on_fine (f v m) g) ≡ on_fine (on_fine e f) g
then_then (Fine v m) f g = refl
then_then (Bad-at n m) f g = refl
then_then (Out w m) f g = refl
then_then (Tell es e) f g = ap (Tell es) (then_then e f g)

no_index : {A B : Type 0} (o : ObjRef) (m : Memory) (f : A → Memory → Effect B) → indexed_object o m ≡ on_fine (indexed_object {A = A} o m) f
no_index Nothing m f = refl
no_index (Heap id) m f = refl
no_index (Host Application) m f = refl
no_index (Host Workbook) m f = refl
no_index (Host Sheets) m f = refl
no_index (Host ErrObject) m f = refl
no_index (Host (Sheet s)) m f = refl
no_index (Host (Area s t l r c)) m f = refl
no_index (Host (RowsOf n)) m f = refl
no_index (Host (ColumnsOf n)) m f = refl

pub element_in_found : (p : Path) (o : Option Val) (vs : List Val) (m : Memory) → element_in p o vs m ≡ on_fine (element_found o vs m) (λ k m1. Fine (element_path p k.0 k.1) m1)
element_in_found p None vs m = then_then (numbers vs m) (λ zs m1. Bad-at 9 m1) (λ k m1. Fine (element_path p k.0 k.1) m1)
element_in_found p (Some (array bounds of items)) vs m = then_then (offset_at bounds vs m) (λ k m1. Fine (k, of) m1) (λ k m1. Fine (element_path p k.0 k.1) m1)
element_in_found p (Some (object o)) vs m = no_index o m (λ k m1. Fine (element_path p k.0 k.1) m1)
element_in_found p (Some empty) vs m = refl
element_in_found p (Some null) vs m = refl
element_in_found p (Some missing) vs m = refl
element_in_found p (Some (boolean b)) vs m = refl
element_in_found p (Some (whole n z)) vs m = refl
element_in_found p (Some (currency z)) vs m = refl
element_in_found p (Some (text t)) vs m = refl
element_in_found p (Some (udt n fs)) vs m = refl
