-- Late-bound members that are set, by whether the arguments index what they have.
use Rattle.std.proofs.Common.{◌≡◌, Bool, true, false, List, refl}
use Rattle.std.specs.Prelude.{◌&&◌, nat_lt, not}
use Rattle.vba_values.specs.Val.{Val}
use Rattle.bound_project.specs.Expressions.{ByName}
use Rattle.bound_project.specs.Project.{Declarations}
use Rattle.vba_meaning.specs.Memory.{Memory, Slot}
use Rattle.vba_meaning.specs.Effects.{slot_values}
use Rattle.vba_meaning.specs.LateBound.{Way, by_variable, by_call, by_setter, has_names, how_many, indexes, set_way}
use Rattle.run_late.specs.Parts.{set_indexed, set_plain}

never : (b : Bool) → (b && false) ≡ true → ⊥
never true h = let f : false ≡ true = h in cc
never false h = let f : false ≡ true = h in cc

pub by_index : (d : Declarations) (by : ByName) (gs : List Bool) (base begun : Val) (xs : List Slot) (v : Val) (w : Way) (m : Memory) → indexes d by gs w ≡ true
    → set_way d by gs base begun xs v w m ≡ set_indexed d begun (slot_values xs) v w m
by_index d by gs base begun xs v (by_variable q) m h = rw h refl
by_index d by gs base begun xs v (by_call p property) m h = rw h refl
by_index d by gs base begun xs v (by_setter p) m h = absurd (never (nat_lt 0 (how_many gs) && not (has_names by)) h)

pub by_itself : (d : Declarations) (by : ByName) (gs : List Bool) (base begun : Val) (xs : List Slot) (v : Val) (w : Way) (m : Memory) → indexes d by gs w ≡ false
    → set_way d by gs base begun xs v w m ≡ set_plain d by base xs v w m
by_itself d by gs base begun xs v (by_variable q) m h = rw h refl
by_itself d by gs base begun xs v (by_call p property) m h = rw h refl
by_itself d by gs base begun xs v (by_setter p) m h = refl
