-- Paths: where values are. A path is no value; frames hold paths, and what they lead through can't be replaced.
use Rattle.std.specs.Prelude.{ℕ, ◌==◌, List, [], ◌∷◌, ◌++◌, Bool, false, not, Option, None, ◌&&◌, ◌||◌}
use Rattle.vba_values.specs.declared.object.ObjRef.{ObjRef}
use Rattle.vba_values.specs.Types.{Declared}
use Rattle.vba_values.specs.Types as type
use Rattle.vba_values.specs.Val.{Val}
use Rattle.arrays_udt.specs.declared.paths.PathStep.{PathStep}
use Rattle.arrays_udt.specs.declared.paths.PathStep.TheVariants.{Field, Element}
use Rattle.arrays_udt.specs.Paths.{same_step}

-- where a path begins: a variable of a frame, whose number is that of the frames below it, or of the project; a variable
-- of a counted object, by the object's number; the value that a With block of a frame keeps; or an object or an item of
-- a Collection that an index gave, which no variable has
pub data Root : Type 0 where
  in_frame : (frame variable : ℕ) → Root
  in_project : ℕ → Root
  in_fields : (number field : ℕ) → Root
  in_block : (frame header : ℕ) → Root
  in_object : ObjRef → Root
  in_item : Val → Root

-- a step, and whether it leads into an array that can be replaced: one that isn't declared with bounds
pub record Step : Type 0 where
  pub step : PathStep
  pub moves : Bool

-- a path leads to a value: to a variable, then to fields and elements inside it. It has the declared type of what is
-- there, whether that is an array declared with bounds, and the class of which an object is made where it, or an element
-- of it, is read while it has Nothing, if it is declared As New
pub record Path : Type 0 where
  pub root : Root
  pub steps : List Step
  pub of : Declared
  pub bounded : Bool
  pub makes : Option ℕ

abbrev pub plain_steps : List Step → List PathStep
plain_steps [] = []
plain_steps (s ∷ steps) = s.step ∷ plain_steps steps

-- the path of an element, and of a field
abbrev pub element_path : Path → (offset : ℕ) → Declared → Path
element_path p offset of = record { root = p.root; steps = p.steps ++ record { step = Element offset; moves = not p.bounded } ∷ []; of = of; bounded = false; makes = p.makes }

abbrev pub field_path : Path → (field : ℕ) → Declared → (bounded : Bool) → Path
field_path p i of bounded = record { root = p.root; steps = p.steps ++ record { step = Field i; moves = false } ∷ []; of = of; bounded = bounded; makes = None }

-- where an object is that no variable has
abbrev pub object_path : ObjRef → Path
object_path o = record { root = in_object o; steps = []; of = type.variant; bounded = false; makes = None }

-- where an item of a Collection is
abbrev pub item_path : Val → Path
item_path v = record { root = in_item v; steps = []; of = type.variant; bounded = false; makes = None }

abbrev pub same_root : Root → Root → Bool
same_root (in_frame k x) (in_frame j y) = k == j && x == y
same_root (in_project x) (in_project y) = x == y
same_root (in_fields o i) (in_fields n j) = o == n && i == j
same_root (in_block k i) (in_block j h) = k == j && i == h
same_root a b = false

abbrev pub any_moves : List Step → Bool
any_moves [] = false
any_moves (s ∷ steps) = s.moves || any_moves steps

-- steps lead to a place and from there through an array that can be replaced
abbrev pub leads_through : List Step → (place : List Step) → Bool
leads_through steps [] = any_moves steps
leads_through [] (t ∷ place) = false
leads_through (s ∷ steps) (t ∷ place) = same_step s.step t.step && leads_through steps place

-- a path would lead nowhere where what is at a place is replaced
abbrev pub is_below : Path → (place : Path) → Bool
is_below p q = same_root p.root q.root && leads_through p.steps q.steps

abbrev pub any_below : List Path → (place : Path) → Bool
any_below [] q = false
any_below (p ∷ ps) q = is_below p q || any_below ps q
