-- Serves the code: uses of objects, in the parts that its functions do.
use Rattle.std.specs.Prelude.{◌≡◌, ℕ, zero, suc, Bool, List, [], ◌∷◌, Option, Some, None, if◌then◌else◌}
use Rattle.vba_values.specs.Val.{Val, empty, object}
use Rattle.bound_project.specs.Project.{Declarations, Member, class_at}
use Rattle.vba_meaning.specs.Paths.{Path}
use Rattle.vba_meaning.specs.Memory.{Memory}
use Rattle.vba_meaning.specs.Effects.{Event, Init, Effect, Fine, Bad-at, on_fine, set_object}
use Rattle.vba_meaning.specs.Objects.{made, set_at}
use Rattle.bound_project.specs.Parameters.{parameters_of, without_last, has_parameters}
use Rattle.vba_meaning.specs.Defaults.{Next, gives, element_of, then_call, index_by, write, let_item, set_item, by_let, after_use, is_instance, most_passed, read_made_by, read_variable, read_member, operand_of, slots_from, reader_of, index_along, leads_on, nothing_more, put, write_along, let_at, let_along, set_along}

-- the first of values leaves, if there is one
abbrev pub Leaves : List Val → Option Val → List Val → Type 0
Leaves old None new = old ≡ []
Leaves old (Some v) new = old ≡ v ∷ new

-- what is told of a new object of a class
abbrev pub made_events : (class number : ℕ) → List Event
made_events zero n = []
made_events (suc c) n = Init (suc c) n ∷ []

-- a new object of a class for a place
abbrev pub read_new : Declarations → Path → (class : ℕ) → Memory → Effect Next
read_new d q c m = on_fine (made d c m) (λ v m1. read_made_by q v (class_at d c).initialize m1)

-- an object of a class alone gives way
abbrev pub way_given : Declarations → Val → Memory → Effect Next
way_given d v m = if is_instance v m then operand_of d v m else Fine (gives v) m

-- ---- default members that take arguments

abbrev pub taking : (has : ℕ → Bool) → Option ℕ → Option ℕ
taking has None = None
taking has (Some p) = if has p then Some p else None

abbrev pub reader_taking : Declarations → Member → Option ℕ
reader_taking d x = taking (λ p. has_parameters (parameters_of d p)) (reader_of x)

abbrev pub setter_taking : Declarations → Option ℕ → Option ℕ
setter_taking d p = taking (λ q. has_parameters (without_last (parameters_of d q))) p

-- a procedure is called with arguments
abbrev pub called_with : Declarations → List Val → (self : Val) → (procedure : ℕ) → Memory → Effect Next
called_with d vs w p m = on_fine (slots_from (parameters_of d p) vs m) (λ xs m1. Fine (then_call p w xs []) m1)

-- a Property Let takes arguments and a value
abbrev pub let_put : Declarations → Val → List Val → (self : Val) → (procedure : ℕ) → Memory → Effect Next
let_put d v vs self p m = on_fine (slots_from (without_last (parameters_of d p)) vs m) (λ xs m1. put d (by_let p self xs) v m1)

-- the default member of the object at a place is written
abbrev pub let_through : Declarations → Path → Val → Memory → Effect Next
let_through d q v m = after_use (read_variable d q m) (write most_passed v) (λ u m1. write_along d most_passed v u m1)

-- ---- items of what is no object of a class

-- an item of an object has its default member written; an element of an array takes the value for nothing
abbrev pub item_takes : Declarations → Val → (target item : Val) → Memory → Effect Next
item_takes d v (object o) x m = write_along d most_passed v x m
item_takes d v w x m = operand_of d v m

-- no item of an object can be set; an element of an array takes an object for nothing
abbrev pub set_ends : (target : Val) → Memory → Effect Next
set_ends (object o) m = Bad-at 438 m
set_ends w m = Fine (gives empty) m

abbrev pub item_set : Val → (target : Val) → Memory → Effect Next
item_set v w m = on_fine (set_object (element_of w) v m) (λ x m1. set_ends w m1)

-- ---- default members that are passed, where so many may be

abbrev pub index_pass : Declarations → (left : ℕ) → List Val → Val → Member → Memory → Effect Next
index_pass d zero vs w x m = Bad-at 450 m
index_pass d (suc k) vs w x m = after_use (read_member d w x m) (index_by k vs) (λ u m1. index_along d k vs u m1)

abbrev pub write_pass : Declarations → (left : ℕ) → Val → (target : Val) → Member → Memory → Effect Next
write_pass d zero v w x m = Bad-at 450 m
write_pass d (suc k) v w x m = after_use (read_member d w x m) (write k v) (λ u m1. write_along d k v u m1)

abbrev pub let_pass : Declarations → (left : ℕ) → List Val → Val → (target : Val) → Member → Memory → Effect Next
let_pass d zero vs v w x m = Bad-at 450 m
let_pass d (suc k) vs v w x m = leads_on d w vs (λ p m1. let_at d p v m1) (let_item k vs v) (λ u m1. let_along d k vs v u m1) x m

abbrev pub set_pass : Declarations → (left : ℕ) → List Val → Val → (target : Val) → Member → Memory → Effect Next
set_pass d zero vs v w x m = Bad-at 450 m
set_pass d (suc k) vs v w x m = leads_on d w vs (λ p m1. nothing_more (set_at p v m1)) (set_item k vs v) (λ u m1. set_along d k vs v u m1) x m
