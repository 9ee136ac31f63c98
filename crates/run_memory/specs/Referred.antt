-- Serves the code: whether an object is referred to.
use Rattle.std.specs.Prelude.{ℕ, ◌==◌, ◌||◌, List, [], ◌∷◌, Bool, false, Option, Some, None}
use Rattle.vba_meaning.specs.Memory.{Memory, Frame, Object}
use Rattle.vba_meaning.specs.References.{objects_in, objects_in_slots, objects_in_values, objects_kept}

-- whether an object is among others
abbrev pub occurs : ℕ → List ℕ → Bool
occurs o [] = false
occurs o (p ∷ ps) = o == p || occurs o ps

-- whether a frame refers to an object: by its slots, what its blocks keep, its Me, or what it holds
abbrev pub frame_refers : ℕ → Frame → Bool
frame_refers o f = occurs o (objects_in_slots f.slots) || (occurs o (objects_kept f.keeps) || (occurs o (objects_in f.me) || occurs o f.held))

-- whether one of some frames does
abbrev pub any_frame_refers : ℕ → List Frame → Bool
any_frame_refers o [] = false
any_frame_refers o (f ∷ fs) = frame_refers o f || any_frame_refers o fs

-- whether one of some objects does, by its fields
abbrev pub any_object_refers : ℕ → List (Option Object) → Bool
any_object_refers o [] = false
any_object_refers o (None ∷ bs) = any_object_refers o bs
any_object_refers o (Some b ∷ bs) = occurs o (objects_in_values b.fields) || any_object_refers o bs

-- whether a reference to the object is left
abbrev pub is_referred : Memory → ℕ → Bool
is_referred m o = any_frame_refers o m.frames || (occurs o m.waiting || (occurs o (objects_in_values m.shared) || any_object_refers o m.objects))
