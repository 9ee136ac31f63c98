-- Serves the code: arguments by their names and by whether they are written.
use Rattle.std.specs.Prelude.{◌≡◌, ℕ, Bool, true, false, ◌&&◌, ◌||◌, not, List, [], ◌∷◌, ◌++◌, map, Option, Some, None, is_some, option_map, bytes_eq}
use Rattle.vba_words.specs.declared.identifier.Identifier.{Identifier}
use Rattle.bound_project.specs.declared.declarations.Parameter.{Parameter as ParameterHere}
use Rattle.bound_project.specs.Project.{Parameter, nowhere}
use Rattle.bound_project.specs.View.{parameter_view}
use Rattle.bound_forms.specs.Terms.{Given, Term, all_but, may_lack, no_term}
use Rattle.bound_calls.specs.declared.term.Shape.{Shape}
use Rattle.bound_calls.specs.declared.term.Item.{Item}
use Rattle.bound_calls.specs.declared.term.Item.TheVariants as item

-- an argument of a shape, which stands for all of that shape
abbrev pub some_term : Bool → Option Term
some_term true = Some no_term
some_term false = None

abbrev pub shape_given : Shape → Given
shape_given s = record { name = option_map (λ (x : Identifier). x.name) (option_map (λ name. name.now) s.name); term = some_term s.is_written; place = nowhere }

abbrev pub shapes_given : List Shape → List Given
shapes_given ss = map shape_given ss

-- whether a parameter is the one with a name
abbrev pub is_called : ParameterHere → Identifier → Bool
is_called p x = not p.is_param_array && bytes_eq p.name.fold x.name

-- whether a parameter has what it needs of an argument that has no name
abbrev pub has_enough : ParameterHere → Shape → Bool
has_enough p s = s.is_written || may_lack (parameter_view p)

-- whether arguments have these shapes
abbrev pub IsShaped : Shape → Given → Type 0
IsShaped s g = ((shape_given s).name ≡ g.name) × (s.is_written ≡ is_some g.term)

abbrev pub AreShaped : List Shape → List Given → Type 0
AreShaped [] [] = Unit {0}
AreShaped (s ∷ ss) (g ∷ gs) = IsShaped s g × AreShaped ss gs
AreShaped ss gs = ⊥

-- parameters were looked at for one with a name: the others of those, and the ones behind them, of all
abbrev pub Removes : Bool → (others behind all : List Parameter) → (fold : List ℕ) → Type 0
Removes true others behind all fold = all_but all fold ≡ Some (others ++ behind)
Removes false others behind all fold = all_but all fold ≡ option_map (λ l. others ++ l) (all_but behind fold)

-- ---- arguments on the stack that aren't taken

-- the last one first
abbrev pub with_shapes : List Shape → List Item → List Item
with_shapes [] items = items
with_shapes (s ∷ ss) items = item.Shape s ∷ with_shapes ss items

abbrev pub with_shape : Option Shape → List Item → List Item
with_shape None items = items
with_shape (Some s) items = item.Shape s ∷ items
