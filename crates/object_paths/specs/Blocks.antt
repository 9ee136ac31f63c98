-- Which places With blocks may keep.
use Rattle.std.specs.Prelude.{◌≡◌, Bool, true, false}
use Rattle.bound_project.specs.Expressions.{Lvalue, variable, item, element, field, kept_place, object_field, as_new, element_along, late_field, value_place}
use Rattle.bound_project.specs.Statements.{Action, with_place}
use Rattle.bound_project.specs.Project.{Project}
use Rattle.bound_project.specs.Whole.{All}

-- a place is a variable of an object that an expression gives, or is in one; or it is what an expression gives
abbrev pub is_of_object : Lvalue → Bool
is_of_object (variable x) = false
is_of_object (item x es) = false
is_of_object (element x es) = is_of_object x
is_of_object (element_along x es) = is_of_object x
is_of_object (field x i of bounded) = is_of_object x
is_of_object (kept_place i) = false
is_of_object (object_field e i of bounded) = true
is_of_object (as_new c x) = is_of_object x
is_of_object (late_field e name) = true
is_of_object (value_place e) = true

-- a With keeps no such place, since the object may end before the block does
abbrev pub KeepsOwn : Action → Type 0
KeepsOwn (with_place x) = is_of_object x ≡ false
KeepsOwn action = Unit {0}

-- no With of a project does
abbrev pub BlocksKeepOwn : Project → Type 0
BlocksKeepOwn pr = All (λ b. All (λ l. KeepsOwn l.action) b.statements) pr.bodies
