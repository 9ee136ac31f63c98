-- Objects that take the next numbers.
use Rattle.std.proofs.Common.{◌≡◌, ℕ, List, [], ◌∷◌, ◌++◌, length, map, refl}
use Rattle.std.specs.Prelude.{Option, Some, option_map}
use Rattle.std.proofs.lemmas.List.{map-append, length-map}
use Rattle.vba_values.specs.Val.{object}
use Rattle.vba_values.specs.declared.object.ObjRef.TheVariants.{Heap}
use Rattle.bound_project.specs.Project.{Declarations}
use Rattle.vba_meaning.specs.Memory as plain
use Rattle.vba_meaning.specs.References.{hold}
use Rattle.vba_meaning.specs.Effects.{Fine}
use Rattle.vba_meaning.specs.Objects.{made, new_instance, told_made}
use Rattle.run_memory.specs.declared.memory.Object.{Object}
use Rattle.run_memory.specs.View.{object_view}

pub object_added : (xs : List (Option Object)) (b : Object) → map (option_map object_view) (xs ++ Some b ∷ []) ≡ map (option_map object_view) xs ++ Some (object_view b) ∷ []
object_added xs b = map-append (option_map object_view) xs (Some b ∷ [])

pub as_many_objects : (xs : List (Option Object)) → length (map (option_map object_view) xs) ≡ length xs
as_many_objects xs = length-map xs (option_map object_view)

-- an object with the next number is made
pub made_is : (d : Declarations) (c n : ℕ) (b : plain.Object) (m mid new : plain.Memory)
    → b ≡ new_instance d c → n ≡ length m.objects → mid ≡ record m { objects = m.objects ++ Some b ∷ [] } → new ≡ hold (object (Heap (record { 0 = n }))) mid
    → made d c m ≡ told_made c n (Fine (object (Heap (record { 0 = n }))) new)
made_is d c n b m mid new e f g h = rw (h, g, f, e) refl
