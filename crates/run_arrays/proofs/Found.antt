-- An element is read, and then it is held.
use Rattle.std.proofs.Common.{◌≡◌, ℕ, zero, suc, ◌<◌, ◌≤◌, List, [], ◌∷◌, length, get_or, refl, ap, arith}
use Rattle.std.specs.Prelude.{Some}
use Rattle.vba_values.specs.declared.object.ObjRef.{ObjRef}
use Rattle.vba_values.specs.declared.object.ObjRef.TheVariants.{Nothing, Heap, Host}
use Rattle.vba_values.specs.declared.object.HostRef.TheVariants.{Application, Workbook, Sheets, ErrObject, Sheet, Area, RowsOf, ColumnsOf}
use Rattle.vba_values.specs.Val.{Val, empty, null, missing, boolean, whole, currency, text, object, array, udt}
use Rattle.vba_values.specs.declared.value.Value.{Value}
use Rattle.vba_values.specs.View.{view, views}
use Rattle.arrays_udt.specs.Resize.{item_at}
use Rattle.vba_meaning.specs.Memory.{Memory}
use Rattle.vba_meaning.specs.Effects.{Effect, Fine, Bad-at, Out, Tell, on_fine, read_value}
use Rattle.vba_meaning.specs.Arrays.{indexed, indexed_object, offset_at}
use Rattle.run_arrays.specs.Elements.{element_read}

then_then : {A B C : Type 0} (e : Effect A) (f : A → Memory → Effect B) (g : B → Memory → Effect C) → on_fine e (λ v m. on_fine (f v m) g) ≡ on_fine (on_fine e f) g
then_then (Fine v m) f g = refl
then_then (Bad-at n m) f g = refl
then_then (Out w m) f g = refl
then_then (Tell es e) f g = ap (Tell es) (then_then e f g)

no_index : {A B : Type 0} (o : ObjRef) (m : Memory) (f : A → Memory → Effect B) → indexed_object o m ≡ on_fine (indexed_object {A = A} o m) f
no_index Nothing m f = refl
no_index (Heap id) m f = refl
no_index (Host Application) m f = refl
no_index (Host Workbook) m f = refl
no_index (Host Sheets) m f = refl
no_index (Host ErrObject) m f = refl
no_index (Host (Sheet s)) m f = refl
no_index (Host (Area s t l r c)) m f = refl
no_index (Host (RowsOf n)) m f = refl
no_index (Host (ColumnsOf n)) m f = refl

pub indexed_read : (v : Val) (vs : List Val) (m : Memory) → indexed v vs m ≡ on_fine (element_read v vs m) (λ w m1. read_value (Some w) m1)
indexed_read (array bounds of items) vs m = then_then (offset_at bounds vs m) (λ k m1. Fine (item_at items k) m1) (λ w m1. read_value (Some w) m1)
indexed_read (object o) vs m = no_index o m (λ w m1. read_value (Some w) m1)
indexed_read empty vs m = refl
indexed_read null vs m = refl
indexed_read missing vs m = refl
indexed_read (boolean b) vs m = refl
indexed_read (whole n z) vs m = refl
indexed_read (currency z) vs m = refl
indexed_read (text t) vs m = refl
indexed_read (udt n fs) vs m = refl

pub item_there : (xs : List Value) (n : ℕ) (d : Value) → n < length xs → item_at (views xs) n ≡ view (get_or xs n d)
item_there [] n d h = absurd (omega arith)
item_there (x ∷ xs) zero d h = refl
item_there (x ∷ xs) (suc n) d h = item_there xs n d (omega arith)

pub item_past : (xs : List Value) (n : ℕ) → length xs ≤ n → item_at (views xs) n ≡ empty
item_past [] n h = refl
item_past (x ∷ xs) zero h = absurd (omega arith)
item_past (x ∷ xs) (suc n) h = item_past xs n (omega arith)
