-- Members of host objects, objects that are made and the library under other names.
use Rattle.std.proofs.Common.{◌≡◌, ℕ, zero, suc, Bool, true, false, List, [], ◌∷◌, length, Option, Some, None, Ok, ℤ, pos, refl, sym, ap, ◌∙◌, subst}
use Rattle.std.specs.Prelude.{◌==◌, nat_lt, ◌&&◌, ◌*◌, not, if◌then◌else◌, option_map}
use Rattle.std.proofs.lemmas.List.{length-map}
use Rattle.vba_values.specs.declared.fault.OutKind.TheVariants as limit
use Rattle.vba_values.specs.declared.object.HostRef.TheVariants as host
use Rattle.vba_values.specs.declared.object.ObjRef.{ObjRef}
use Rattle.vba_values.specs.declared.object.ObjRef.TheVariants.{Nothing, Heap, Host}
use Rattle.vba_values.specs.declared.types.Compare.{Compare}
use Rattle.vba_values.specs.declared.types.Compare.TheVariants.{Binary}
use Rattle.vba_values.specs.declared.types.WholeKind.TheVariants as kind
use Rattle.vba_values.specs.Types.{Declared}
use Rattle.vba_values.specs.Types as type
use Rattle.vba_values.specs.Val.{Val, whole, text, object, array, udt}
use Rattle.vba_lib.specs.declared.function.LibraryFunction.{LibraryFunction}
use Rattle.vba_lib.specs.declared.function.LibraryFunction.TheVariants as function
use Rattle.vba_lib.specs.Kinds.{type_name}
use Rattle.sheet_host.specs.declared.area.Area.{Area}
use Rattle.sheet_host.specs.declared.cell.CellValue.TheVariants as cell
use Rattle.sheet_host.specs.Books.{content_at, cell_limit}
use Rattle.sheet_host.specs.Field.{is_empty}
use Rattle.sheet_host.specs.Sheets.{Position, value_at as cell_at, nth_cell}
use Rattle.bound_project.specs.Project.{Declarations}
use Rattle.vba_meaning.specs.Paths.{Path}
use Rattle.vba_meaning.specs.Memory.{Memory, outside, value_at}
use Rattle.vba_meaning.specs.Effects.{area_in, is_collection, class_of}
use Rattle.vba_meaning.specs.Events.{is_heard, noted, sinks, sheet_of}
use Rattle.vba_meaning.specs.Library.{class_name, name_of_type, library_answer, library_called, bound_in, bound_at}
use Rattle.vba_meaning.specs.Host.{area_written, one_cleared, cleared, written_default}
use Rattle.object_names.specs.Names.{reference_named, value_named, values_named, path_named}
use Rattle.object_names.specs.Renamed.{Same}
use Rattle.object_names.proofs.NamedValues.{answer_named}
use Rattle.object_names.proofs.NamedLibrary.{library_named}
use Rattle.object_names.proofs.NamedMemory.{same_by, class_named}
use Rattle.object_names.proofs.Named.{plainly, Names, fine, bad, out, then_named, both, both_by, answered_named}
use Rattle.object_names.proofs.NamedVariables.{book_same, collection_same, plain_names, value_at_same, read_value_names}
use Rattle.object_names.proofs.NamedHosts.{cells_put_names, value_put_names}
use Rattle.object_names.proofs.NamedLinks.{sinks_same}

module _ (r : ℕ → ℕ) where
  abbrev nv : Val → Val
  nv v = value_named r v

  -- ---- cells that are written

  heard_same : {m n : Memory} (a : Area) → Same r m n → is_heard a n ≡ is_heard a m
  heard_same {m = m} {n = n} a k =
      ap (λ b. b && not (length (sinks (sheet_of a) n) == 0)) (ap (λ x. x.events_on) k.is)
      ∙ ap (λ j. m.events_on && not (j == 0)) (ap (λ ls. length ls) (sinks_same r (sheet_of a) k) ∙ length-map (sinks (sheet_of a) m) _)

  noted_by : {m n : Memory} (a : Area) (b : Bool) → Same r m n → Same r (if b then record m { changed = Some a } else m) (if b then record n { changed = Some a } else n)
  noted_by a true k = same_by r (λ x. record x { changed = Some a }) (λ x. record x { changed = Some a }) (λ cs. refl) refl refl k
  noted_by a false k = k

  pub noted_same : {m n : Memory} (a : Area) → Same r m n → Same r (noted a m) (noted a n)
  noted_same {m = m} {n = n} a k = subst (λ b. Same r (noted a m) (if b then record n { changed = Some a } else n)) (sym (heard_same a k)) (noted_by a (is_heard a m) k)

  pub area_written_names : {m n : Memory} (a : Area) (v : Val) → Same r m n → Names r plainly (area_written a v m) (area_written a (nv v) n)
  area_written_names a v k =
      both r (nat_lt cell_limit (a.rows * a.columns)) (out r (outside limit.Cells) k)
      (then_named r _ (plain_names r v k) (λ w m1 n1 k1. then_named r _ (value_put_names r a w k1) (λ u m2 n2 k2. fine r refl (noted_same a k2))))

  one_cleared_names : {m n : Memory} (a : Area) (p : Position) → Same r m n → Names r plainly (one_cleared a p m) (one_cleared a p n)
  one_cleared_names {m = m} a p k =
      both_by r (is_empty (cell_at (content_at m.book a.sheet) p)) _ (ap (λ b. is_empty (cell_at (content_at b a.sheet) p)) (book_same r k)) (fine r refl k) (cells_put_names r (area_in a.sheet.0 p.0 p.1 1 1) (cell.Empty ∷ []) k)

  pub cleared_names : {m n : Memory} (a : Area) (j : ℕ) → Same r m n → Names r plainly (cleared a j m) (cleared a j n)
  cleared_names a zero k = fine r refl k
  cleared_names a (suc j) k = then_named r _ (cleared_names a j k) (λ u m1 n1 k1. one_cleared_names a (nth_cell a j) k1)

  pub written_default_names : {m n : Memory} (target v : Val) → Same r m n → Names r plainly (written_default target v m) (written_default (nv target) (nv v) n)
  written_default_names (object Nothing) v k = bad r 91 k
  written_default_names (object (Host (host.Area s t l rows c))) v k = area_written_names (area_in s t l rows c) v k
  written_default_names (object (Host host.Sheets)) v k = bad r 449 k
  written_default_names {m = m} (object (Heap id)) v k = both_by r (is_collection (Heap id) m) _ (collection_same r (Heap id) k) (bad r 449 k) (bad r 438 k)
  written_default_names (object (Host h)) v k = bad r 438 k
  written_default_names w v k = bad r 424 k

  -- ---- the library

  class_same : {m n : Memory} (o : ObjRef) → Same r m n → class_of (reference_named r o) n ≡ class_of o m
  class_same {m = m} o k = ap (λ x. class_of (reference_named r o) x) k.is ∙ class_named r m k.objects k.fit.matches o

  kind_blind : (v : Val) → type_name (nv v) ≡ type_name v
  kind_blind (object Nothing) = refl
  kind_blind (object (Heap id)) = refl
  kind_blind (object (Host h)) = refl
  kind_blind (array bounds of items) = refl
  kind_blind (udt number fields) = refl
  kind_blind v = refl

  type_same : {m n : Memory} (d : Declarations) (v : Val) → Same r m n → name_of_type d (nv v) n ≡ name_of_type d v m
  type_same d (object (Heap id)) k = ap (λ c. class_name d c) (class_same (Heap id) k)
  type_same d (object Nothing) k = refl
  type_same d (object (Host h)) k = refl
  type_same d (array bounds (type.class c) items) k = refl
  type_same d (array bounds (type.udt t) items) k = refl
  type_same d (array bounds of items) k = refl
  type_same d (udt number fields) k = refl
  type_same d v k = refl

  answer_same : {m n : Memory} (d : Declarations) (f : LibraryFunction) (text_form : Bool) (compare : Compare) (base : ℤ) (vs : List Val) → Same r m n
      → library_answer d f text_form compare base (values_named r vs) n ≡ answer_named r (library_answer d f text_form compare base vs m)
  answer_same d function.TypeName text_form compare base (v ∷ []) k = ap (λ t. Ok (text t)) (type_same d v k)
  answer_same d function.TypeName text_form compare base [] k = library_named r function.TypeName text_form [] compare base
  answer_same d function.TypeName text_form compare base (v ∷ w ∷ vs) k = library_named r function.TypeName text_form (v ∷ w ∷ vs) compare base
  answer_same d f text_form compare base vs k = library_named r f text_form vs compare base

  pub library_names : {m n : Memory} (d : Declarations) (f : LibraryFunction) (text_form : Bool) (compare : Compare) (base : ℤ) (vs : List Val) → Same r m n
      → Names r nv (library_called d f text_form compare base vs m) (library_called d f text_form compare base (values_named r vs) n)
  library_names {m = m} {n = n} d f text_form compare base vs k =
      then_named r _ (answered_named r (library_answer d f text_form compare base vs m) (library_answer d f text_form compare base (values_named r vs) n) (answer_same d f text_form compare base vs k) k)
      (λ v m1 n1 k1. read_value_names r (Some v) (Some (nv v)) refl k1)

  bound_by : {m n : Memory} (upper : Bool) (z : ℤ) (x : Option Val) → Same r m n → Names r nv (bound_in upper z x m) (bound_in upper z (option_map (λ v. value_named r v) x) n)
  bound_by upper z None k = bad r 9 k
  bound_by upper z (Some v) k = answered_named r _ _ (library_named r (if upper then function.UBound else function.LBound) false (v ∷ whole kind.Long z ∷ []) Binary (pos 0)) k

  pub bound_at_names : {m n : Memory} (upper : Bool) (z : ℤ) (p : Path) → Same r m n → Names r nv (bound_at upper z p m) (bound_at upper z (path_named r p) n)
  bound_at_names {m = m} {n = n} upper z p k = subst (λ x. Names r nv (bound_at upper z p m) (bound_in upper z x n)) (sym (value_at_same r p k)) (bound_by upper z (value_at m p) k)
