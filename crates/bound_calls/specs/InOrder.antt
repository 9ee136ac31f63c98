-- Serves the code: arguments with names, by the pieces that are pushed for them, and the order in which parameters take
-- all that was pushed.
use Rattle.std.specs.Prelude.{◌≡◌, ℕ, zero, suc, ◌+◌, ◌<◌, ◌==◌, length, Bool, true, false, ◌&&◌, ◌||◌, not, List, [], ◌∷◌, ◌++◌, map, Option, Some, None, if◌then◌else◌}
use Rattle.vba_base.specs.declared.place.Place.{Place}
use Rattle.bound_project.specs.declared.declarations.Parameter.{Parameter as ParameterHere}
use Rattle.bound_project.specs.declared.node.NodeKind.TheVariants as node
use Rattle.bound_project.specs.View.{parameter_view}
use Rattle.vba_values.specs.Types.{Declared}
use Rattle.bound_project.specs.Expressions as bound
use Rattle.bound_project.specs.Lists.{above}
use Rattle.bound_project.specs.Pieces.{Argument, an_argument, order_in, with_argument}
use Rattle.bound_project.specs.Project.{Parameter}
use Rattle.bound_project.specs.Drafts.{Drafted, with_order}
use Rattle.bound_forms.specs.Terms.{Term, Given, parameter_named, taken_by}
use Rattle.bound_calls.specs.declared.term.Ending.{Ending}
use Rattle.bound_calls.specs.declared.term.Routine.{Routine}
use Rattle.bound_calls.specs.declared.term.Ordered.{Ordered}
use Rattle.bound_calls.specs.declared.term.Passed.{Passed}
use Rattle.bound_calls.specs.declared.term.Item.{Item}
use Rattle.bound_calls.specs.declared.term.Item.TheVariants as item
use Rattle.bound_calls.specs.Passing.{AllLeft}
use Rattle.bound_calls.specs.Standing.{Grown}
use Rattle.bound_calls.specs.Calls.{PassesNone}
use Rattle.bound_project.specs.declared.node.NodeKind.{NodeKind}
use Rattle.bound_calls.specs.declared.term.Receiver.{Receiver}
use Rattle.bound_calls.specs.declared.term.Receiver.TheVariants as receiver

-- ---- numbers of parameters

-- is a number there?
abbrev pub is_there : ℕ → List ℕ → Bool
is_there number [] = false
is_there number (k ∷ ks) = (k == number) || is_there number ks

-- the place of a number
abbrev pub place_in : ℕ → List ℕ → ℕ
place_in number [] = 0
place_in number (k ∷ ks) = if k == number then 0 else suc (place_in number ks)

-- no two are the same
abbrev pub all_apart : List ℕ → Bool
all_apart [] = true
all_apart (k ∷ ks) = not (is_there k ks) && all_apart ks

-- so many numbers from one on, and their places
abbrev pub counted_from : ℕ → ℕ → List ℕ
counted_from number zero = []
counted_from number (suc count) = number ∷ counted_from (suc number) count

abbrev pub places_from : ℕ → ℕ → List ℕ → List ℕ
places_from number zero ks = []
places_from number (suc count) ks = place_in number ks ∷ places_from (suc number) count ks

-- those of so many numbers that aren't there
abbrev pub other_numbers : ℕ → ℕ → List ℕ → List ℕ
other_numbers number zero ks = []
other_numbers number (suc count) ks = if is_there number ks then other_numbers (suc number) count ks else number ∷ other_numbers (suc number) count ks

-- what has a number that isn't there
abbrev pub others : {A : Type 0} → ℕ → List A → List ℕ → List A
others number [] ks = []
others number (p ∷ ps) ks = if is_there number ks then others (suc number) ps ks else p ∷ others (suc number) ps ks

-- the parameters that arguments without names and with them were pushed for
abbrev pub numbers_given : ℕ → List ℕ → List ℕ
numbers_given count named = counted_from 0 count ++ named

-- those, and all other parameters
abbrev pub numbers_pushed : ℕ → List ℕ → List ℕ
numbers_pushed count ks = ks ++ other_numbers 0 count ks

-- ---- what is given by names

-- what is given for a parameter by its name, among those from a number on
pub record NamedTaken (value : Declared → Term → Place → Option bound.Expr) (number : ℕ) (ps : List Parameter) (g : Given) (k : ℕ) (x : Argument) : Type 0 where
  pub fold : List ℕ
  pub parameter : Parameter
  pub has_name : g.name ≡ Some fold
  pub found : parameter_named number ps fold ≡ Some (k, parameter)
  pub makes : (rest : bound.Args) → taken_by value parameter g rest ≡ Some (with_argument x rest)

abbrev pub AllNamedTaken : (Declared → Term → Place → Option bound.Expr) → ℕ → List Parameter → List Given → List ℕ → List Argument → Type 0
AllNamedTaken value number ps [] [] [] = Unit {0}
AllNamedTaken value number ps (g ∷ gs) (k ∷ ks) (x ∷ xs) = NamedTaken value number ps g k x × AllNamedTaken value number ps gs ks xs
AllNamedTaken value number ps gs ks xs = ⊥

-- ---- arguments with names on the stack

-- the last one first
abbrev pub with_named : List ℕ → List Item → List Item
with_named [] items = items
with_named (k ∷ ks) items = item.Named (record { number = k }) ∷ with_named ks items

abbrev pub with_number : Option ℕ → List Item → List Item
with_number None items = items
with_number (Some k) items = item.Named (record { number = k }) ∷ items

abbrev pub is_named : Item → Bool
is_named (item.Named x) = true
is_named i = false

-- a parameter is found
abbrev pub found_view : ℕ × ParameterHere → ℕ × Parameter
found_view f = (f.0, parameter_view f.1)

-- ---- the ends of calls

-- what a parameter has to which nothing is given; it has this number, and is passed only where that isn't there
abbrev pub OtherPassed : Bool → ParameterHere → ℕ → Drafted → Drafted → (before behind : List ℕ) → Type 0
OtherPassed true p k d e before behind = (e ≡ d) × (behind ≡ before)
OtherPassed false p k d e before behind = PassesNone p d e × (behind ≡ before ++ k ∷ [])

-- what the parameters have that aren't among these numbers, and their numbers
pub record PassesOthers (ps : List ParameterHere) (ks : List ℕ) (d e : Drafted) (all : List ℕ) : Type 0 where
  pub grown : Grown d e
  pub made : List Argument
  pub left : AllLeft (others 0 (map parameter_view ps) ks) made
  pub on_top : e.pieces ≡ above (map an_argument made) d.pieces
  pub all_is : all ≡ other_numbers 0 (length ps) ks

-- the same, where no two of those numbers are the same, and all numbers
pub record PassesApart (ps : List ParameterHere) (ks : List ℕ) (d e : Drafted) (all : List ℕ) : Type 0 where
  pub apart : all_apart ks ≡ true
  pub grown : Grown d e
  pub made : List Argument
  pub left : AllLeft (others 0 (map parameter_view ps) ks) made
  pub on_top : e.pieces ≡ above (map an_argument made) d.pieces
  pub all_is : all ≡ numbers_pushed (length ps) ks

-- one more order, by its number
pub record AddsOrder (order : List ℕ) (d e : Drafted) (number : ℕ) : Type 0 where
  pub number_is : number ≡ length d.tables.orders
  pub draft_is : e ≡ record d { tables = with_order d.tables order }

-- the order in which parameters take arguments that were pushed for these numbers
pub record Orders (ps : List ParameterHere) (numbers : List ℕ) (d e : Drafted) (x : Ordered) : Type 0 where
  pub adds : AddsOrder (places_from 0 (length ps) numbers) d e x.order
  pub arguments_is : x.arguments ≡ length numbers

-- what the other parameters have is pushed behind arguments that were pushed for these numbers
pub record EndsInOrder (ps : List ParameterHere) (x : Passed) (named : List ℕ) (d e : Drafted) (o : Ordered) : Type 0 where
  pub grown : Grown d e
  pub apart : all_apart (numbers_given x.count named) ≡ true
  pub made : List Argument
  pub left : AllLeft (others 0 (map parameter_view ps) (numbers_given x.count named)) made
  pub on_top : e.pieces ≡ above (map an_argument made) d.pieces
  pub order_named : o.order < length e.tables.orders
  pub order_is : order_in e.tables o.order ≡ places_from 0 (length ps) (numbers_pushed (length ps) (numbers_given x.count named))
  pub arguments_is : o.arguments ≡ x.count + length named + length made

-- the node of a call with names
abbrev pub named_kind : Receiver → (procedure arguments order : ℕ) → NodeKind
named_kind receiver.Module procedure arguments order = node.CallInOrder procedure arguments order
named_kind r procedure arguments order = node.MethodInOrder procedure arguments order

-- all but the node of a call with names is pushed
pub record EndsNamed (r : Routine) (x : Passed) (named : List ℕ) (d e : Drafted) (ending : Ending) : Type 0 where
  pub ordered : Ordered
  pub ends : EndsInOrder r.parameters.now x named d e ordered
  pub ending_is : ending ≡ record { kind = named_kind r.receiver r.procedure ordered.arguments ordered.order; of = r.of }
