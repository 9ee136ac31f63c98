-- One of all objects is changed.
use Rattle.std.proofs.Common.{◌≡◌, ℕ, zero, suc, ◌<◌, List, [], ◌∷◌, length, map, get_or, refl, ap, arith}
use Rattle.std.specs.Prelude.{Option, Some, option_map, slice_set}
use Rattle.vba_values.specs.Val.{empty}
use Rattle.vba_meaning.specs.Memory as plain
use Rattle.vba_meaning.specs.References.{waits}
use Rattle.vba_meaning.specs.Effects.{Fine}
use Rattle.vba_meaning.specs.Collections.{items_of, taken_out}
use Rattle.run_memory.specs.declared.memory.Object.{Object}
use Rattle.run_memory.specs.View.{object_view}
use Rattle.run_collections.specs.Parts.{object_changed, objects_at, without_item}

pub changed_at : (change : plain.Object → plain.Object) (bs : List (Option Object)) (o : ℕ) (b d : Option Object) → o < length bs
    → option_map object_view b ≡ Some (change (plain.object_or (option_map object_view (get_or bs o d))))
    → map (option_map object_view) (slice_set bs o b) ≡ object_changed change o (map (option_map object_view) bs)
changed_at change [] o b d h e = absurd (omega arith)
changed_at change (c ∷ bs) zero b d h e = ap (λ x. x ∷ map (option_map object_view) bs) e
changed_at change (c ∷ bs) (suc o) b d h e = ap (λ xs. option_map object_view c ∷ xs) (changed_at change bs o b d (omega arith) e)

-- an item is taken out, and what it refers to waits
pub taken_out_is : (o i n : ℕ) (os : List ℕ) (m mid new : plain.Memory) → n ≡ length os → os ≡ objects_at i (items_of o m) → mid ≡ waits os m
    → new ≡ record mid { objects = object_changed (without_item i) o mid.objects } → taken_out o i m ≡ Fine (empty, n) new
taken_out_is o i n os m mid new d e f g = rw (g, f, d, e) refl
