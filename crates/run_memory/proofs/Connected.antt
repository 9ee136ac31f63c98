-- A Set connects a variable by what its root is and whether it gets Nothing.
use Rattle.std.proofs.Common.{◌≡◌, ℕ, refl, ap}
use Rattle.std.specs.Prelude.{if◌then◌else◌}
use Rattle.vba_values.specs.declared.object.ObjRef.TheVariants.{Nothing, Heap, Host}
use Rattle.vba_values.specs.Val.{Val, empty, null, missing, boolean, whole, currency, text, object, array, udt}
use Rattle.vba_meaning.specs.Paths.{Path, Root, in_frame, in_project, in_fields, in_block, in_object, in_item}
use Rattle.vba_meaning.specs.Memory.{Memory, object_at}
use Rattle.vba_meaning.specs.Effects.{Effect, connected, done, is_with_events, set_number_drawn}
use Rattle.run_memory.specs.Connecting.{connects, is_nothing, number_drawn}

drawn_as : (o i : ℕ) (v : Val) (m : Memory) → set_number_drawn o i v m ≡ number_drawn o i (is_nothing v) m
drawn_as o i empty m = refl
drawn_as o i null m = refl
drawn_as o i missing m = refl
drawn_as o i (boolean b) m = refl
drawn_as o i (whole k z) m = refl
drawn_as o i (currency n) m = refl
drawn_as o i (text us) m = refl
drawn_as o i (object Nothing) m = refl
drawn_as o i (object (Heap id)) m = refl
drawn_as o i (object (Host h)) m = refl
drawn_as o i (array bs of vs) m = refl
drawn_as o i (udt n vs) m = refl

by_root : (p : Path) (r : Root) → p.root ≡ r → (v : Val) (m : Memory) → connected (record p { root = r }) v m ≡ connects r (is_nothing v) m
by_root p (in_frame k x) e v m = refl
by_root p (in_project x) e v m = refl
by_root p (in_fields o i) e v m = ap (λ (d : Effect (Unit {0})). if is_with_events i (object_at m o).set_numbers then d else done m) (drawn_as o i v m)
by_root p (in_block k i) e v m = refl
by_root p (in_object o) e v m = refl
by_root p (in_item w) e v m = refl

pub connects_as : (p : Path) (v : Val) (m : Memory) → connected p v m ≡ connects p.root (is_nothing v) m
connects_as p v m = by_root p p.root refl v m
