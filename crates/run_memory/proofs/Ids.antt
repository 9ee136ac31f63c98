-- The counted objects of a value are those among its references.
use Rattle.std.proofs.Common.{◌≡◌, ◌++◌, List, [], ◌∷◌, refl, sym, ap, ◌∙◌, append_assoc}
use Rattle.std.proofs.lemmas.List.{append-nil}
use Rattle.vba_values.specs.declared.object.ObjRef.{ObjRef}
use Rattle.vba_values.specs.Objects.{references_of, references_in}
use Rattle.vba_values.specs.Val.{Val, Vals, empty, null, missing, boolean, whole, currency, text, object, array, udt, no_vals, val}
use Rattle.vba_meaning.specs.References.{objects_in, objects_in_vals, objects_of_reference}
use Rattle.run_memory.specs.Looks.{heap_ids}

pub ids_append : (rs ss : List ObjRef) → heap_ids (rs ++ ss) ≡ heap_ids rs ++ heap_ids ss
ids_append [] ss = refl
ids_append (r ∷ rs) ss = ap (λ ids. objects_of_reference r ++ ids) (ids_append rs ss) ∙ sym (append_assoc (objects_of_reference r) (heap_ids rs) (heap_ids ss))

mutual
  pub ids_of : (v : Val) → heap_ids (references_of v) ≡ objects_in v
  ids_of empty = refl
  ids_of null = refl
  ids_of missing = refl
  ids_of (boolean b) = refl
  ids_of (whole k z) = refl
  ids_of (currency z) = refl
  ids_of (text t) = refl
  ids_of (object r) = append-nil (objects_of_reference r)
  ids_of (array bounds of items) = ids_in items
  ids_of (udt n fields) = ids_in fields

  pub ids_in : (vs : Vals) → heap_ids (references_in vs) ≡ objects_in_vals vs
  ids_in no_vals = refl
  ids_in (val v vs) = ids_append (references_of v) (references_in vs) ∙ ap (λ ids. ids ++ heap_ids (references_in vs)) (ids_of v) ∙ ap (λ ids. objects_in v ++ ids) (ids_in vs)
