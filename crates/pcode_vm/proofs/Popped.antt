-- What is taken off the operands, by what the slot on top contains.
use Rattle.std.proofs.Common.{◌≡◌, List, ◌∷◌, Option, Some, None, refl, ap}
use Rattle.std.specs.Prelude.{option_map}
use Rattle.vba_values.specs.declared.value.Value.{Value}
use Rattle.vba_values.specs.View.{view}
use Rattle.vba_meaning.specs.Memory.{Slot, value, path, value_in}
use Rattle.run_memory.specs.declared.path.Path.{Path}
use Rattle.run_memory.specs.Slots.{path_in}
use Rattle.run_memory.specs.View.{path_view}
use Rattle.pcode_vm.specs.Operands.{PopsValue, PopsPath}

pub value_popped : (x : Slot) (st : List Slot) (r : Option Value) → option_map view r ≡ value_in (Some x) → PopsValue (x ∷ st) r st
value_popped (value v) st None h = absurd cc
value_popped (value v) st (Some r) h = λ go. let e : v ≡ view r = cc in ap (λ w. go w st) e
value_popped (path p) st None h = λ go. refl
value_popped (path p) st (Some r) h = absurd cc

pub path_popped : (x : Slot) (st : List Slot) (r : Option Path) → option_map path_view r ≡ path_in x → PopsPath (x ∷ st) r st
path_popped (value v) st None h = λ go. refl
path_popped (value v) st (Some r) h = absurd cc
path_popped (path p) st None h = absurd cc
path_popped (path p) st (Some r) h = λ go. let e : p ≡ path_view r = cc in ap (λ w. go w st) e
