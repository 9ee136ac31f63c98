-- Default members of what is declared as of a class, as far as they are known before the run ([MS-VBAL] 5.6.2.3, 5.6.13.1):
-- of what type the value is to which an object gives way, what arguments in brackets behind it lead to, whether it can be
-- written, and which rule is broken so.
use Rattle.std.specs.Prelude.{ℕ, zero, suc, ◌==◌, Bool, true, false, ◌||◌, not, List, length, Option, Some, None, if◌then◌else◌, slice_index_or}
use Rattle.vba_values.specs.Types.{Declared}
use Rattle.vba_values.specs.Types as type
use Rattle.bound_project.specs.Parameters.{any_must, has_parameters, last_type, without_last}
use Rattle.bound_project.specs.Project.{Class, Declarations, Member, is_variable, is_procedure, is_property, Procedure, class_at, no_declaration, procedure_at}
use Rattle.vba_meaning.specs.Defaults.{most_passed}
use Rattle.binder.specs.Names.{scope_of}
use Rattle.binder.specs.Projects.{declarations_of, no_space}
use Rattle.binder.specs.Scopes.{Scope}
use Rattle.binder.specs.Types.{is_object}
use Rattle.binder.specs.Constants.{is_variant}
use Rattle.bound_forms.specs.Terms.{Given, has_names, takes}

-- all that the project of a scope declares
abbrev pub declared_in : Scope → Declarations
declared_in s = declarations_of s.outside (scope_of s.outside s.spaces no_space) s.spaces

-- what is known before the run: the type of what there is, or the rule that is broken; or nothing is said
pub data Known : Type 0 where
  known : (of : Declared) → Known
  breaks : (rule : ℕ) → Known
  not_said : Known

abbrev pub known_or : Bool → (rule : ℕ) → Declared → Known
known_or true rule of = known of
known_or false rule of = breaks rule

-- the variable of a class by its number
abbrev pub field_type : Class → (field : ℕ) → Declared
field_type c i = (slice_index_or c.fields i no_declaration).of

-- ---- an object as an operand gives way to the value of its default member, once

-- S25 where an argument must be given
abbrev pub procedure_read : Procedure → Known
procedure_read p = known_or (not (any_must p.parameters)) 25 p.result.of

-- S34 where a class has no default member, or one that is a property without a Get
abbrev pub member_read : Declarations → Class → Option Member → Known
member_read d c None = breaks 34
member_read d c (Some (is_variable i makes)) = known (field_type c i)
member_read d c (Some (is_procedure p)) = procedure_read (procedure_at d p)
member_read d c (Some (is_property (Some p) lets sets)) = procedure_read (procedure_at d p)
member_read d c (Some (is_property None lets sets)) = breaks 34

abbrev pub default_read : Declarations → (class : ℕ) → Known
default_read d number = member_read d (class_at d number) (class_at d number).default

-- ---- arguments in brackets behind an object

-- behind what is of no class: numbers lead to an element, one argument to an item of a Collection, two to a cell of a
-- range; a sheet has no default member; of an Object and a Variant the run says it
abbrev pub other_led : Declared → List Given → Known
other_led type.variant gs = known type.variant
other_led type.object gs = known type.variant
other_led type.collection gs = known_or (length gs == 1) 25 type.variant
other_led type.range gs = known_or (length gs == 2) 25 type.range
other_led type.worksheet gs = breaks 34
other_led (type.array_of of) gs = known of
other_led of gs = breaks 25

-- a procedure with parameters takes the arguments, or S25; one without passes them on
abbrev pub procedure_led : (pass : Declared → Known) → Procedure → List Given → Known
procedure_led pass p gs = if has_parameters p.parameters then known_or (takes p.parameters gs) 25 p.result.of else pass p.result.of

abbrev pub member_led : (pass : Declared → Known) → Declarations → Class → Option Member → List Given → Known
member_led pass d c None gs = breaks 34
member_led pass d c (Some (is_variable i makes)) gs = pass (field_type c i)
member_led pass d c (Some (is_procedure p)) gs = procedure_led pass (procedure_at d p) gs
member_led pass d c (Some (is_property (Some p) lets sets)) gs = procedure_led pass (procedure_at d p) gs
member_led pass d c (Some (is_property None lets sets)) gs = breaks 34

-- what arguments lead to behind something of a type, through so many default members that pass them on; S25 for more
abbrev pub led_by : Declarations → List Given → (left : ℕ) → Declared → Known
led_by d gs zero (type.class number) = member_led (λ of. breaks 25) d (class_at d number) (class_at d number).default gs
led_by d gs (suc left) (type.class number) = member_led (λ of. led_by d gs left of) d (class_at d number) (class_at d number).default gs
led_by d gs left of = other_led of gs

-- arguments without names behind an object of a class
abbrev pub class_led : Declarations → (class : ℕ) → List Given → Known
class_led d number gs = if has_names gs then not_said else led_by d gs most_passed (type.class number)

-- ---- a value is written to an object's default member

-- S27 where what a default member gives can't be written, of what is of no class
abbrev pub other_written : Declared → Known
other_written type.variant = known type.variant
other_written type.object = known type.variant
other_written type.range = known type.variant
other_written of = breaks 27

-- a Let takes the value where its other parameters need none, or S25; nothing is said where it takes an object itself
abbrev pub let_written : Procedure → Known
let_written p =
    if is_object (last_type p.parameters) then not_said
    else known_or (not (any_must (without_last p.parameters))) 25 type.variant

-- what only gives an object passes the value on; S27 where it needs arguments for that
abbrev pub reader_written : (pass : Declared → Known) → Procedure → Known
reader_written pass p = if any_must p.parameters then breaks 27 else pass p.result.of

abbrev pub member_written : (none : ℕ) → (pass : Declared → Known) → Declarations → Class → Option Member → Known
member_written none pass d c None = breaks none
member_written none pass d c (Some (is_variable i makes)) = if is_object (field_type c i) then pass (field_type c i) else known type.variant
member_written none pass d c (Some (is_procedure p)) = reader_written pass (procedure_at d p)
member_written none pass d c (Some (is_property reads (Some p) sets)) = let_written (procedure_at d p)
member_written none pass d c (Some (is_property (Some p) None sets)) = reader_written pass (procedure_at d p)
member_written none pass d c (Some (is_property None None sets)) = breaks 27

-- a value is written to something of a type, through so many default members that pass it on; S27 for more
abbrev pub written_by : Declarations → (left : ℕ) → Declared → Known
written_by d zero (type.class number) = member_written 27 (λ of. breaks 27) d (class_at d number) (class_at d number).default
written_by d (suc left) (type.class number) = member_written 27 (λ of. written_by d left of) d (class_at d number) (class_at d number).default
written_by d left of = other_written of

-- a value is written to an object of a class: S34 where it has no default member
abbrev pub class_written : Declarations → (class : ℕ) → Known
class_written d number = member_written 34 (λ of. written_by d 7 of) d (class_at d number) (class_at d number).default

-- ---- what arguments lead to takes a value, or an object by Set

-- behind what is of no class: an element of an array takes the value, and of objects its default member does; of an item
-- of a Collection, an Object and a Variant the run says it
abbrev pub element_written : Declarations → Declared → Known
element_written d of = if is_object of then written_by d most_passed of else known of

abbrev pub other_let : Declarations → Declared → List Given → Known
other_let d (type.array_of of) gs = element_written d of
other_let d of gs = other_led of gs

-- what a procedure with parameters gives for the arguments has its default member written; S27 where that is no object
abbrev pub result_let : Declarations → Procedure → List Given → Known
result_let d p gs = if takes p.parameters gs then written_by d most_passed p.result.of else breaks 25

abbrev pub reader_let : (pass : Declared → Known) → Declarations → Procedure → List Given → Known
reader_let pass d p gs = if has_parameters p.parameters then result_let d p gs else pass p.result.of

abbrev pub property_let : (pass : Declared → Known) → Declarations → Option ℕ → List Given → Known
property_let pass d None gs = breaks 27
property_let pass d (Some p) gs = reader_let pass d (procedure_at d p) gs

-- a Let takes the arguments and the value, or S25; one that takes no arguments isn't asked. S27: what is a Set alone
abbrev pub member_let : (pass : Declared → Known) → Declarations → Class → Option Member → List Given → Known
member_let pass d c None gs = breaks 34
member_let pass d c (Some (is_variable i makes)) gs = pass (field_type c i)
member_let pass d c (Some (is_procedure p)) gs = reader_let pass d (procedure_at d p) gs
member_let pass d c (Some (is_property reads None sets)) gs = property_let pass d reads gs
member_let pass d c (Some (is_property reads (Some p) sets)) gs =
    if has_parameters (without_last (procedure_at d p).parameters) then known_or (takes (without_last (procedure_at d p).parameters) gs) 25 type.variant
    else property_let pass d reads gs

abbrev pub let_by : Declarations → List Given → (left : ℕ) → Declared → Known
let_by d gs zero (type.class number) = member_let (λ of. breaks 25) d (class_at d number) (class_at d number).default gs
let_by d gs (suc left) (type.class number) = member_let (λ of. let_by d gs left of) d (class_at d number) (class_at d number).default gs
let_by d gs left of = other_let d of gs

abbrev pub class_let : Declarations → (class : ℕ) → List Given → Known
class_let d number gs = if has_names gs then not_said else let_by d gs most_passed (type.class number)

-- Set: an element of an array of objects takes the object, and of a Variant or an Object the run says it; of other objects
-- no item can be set, S27
abbrev pub other_set : Declared → List Given → Known
other_set type.variant gs = known type.variant
other_set type.object gs = known type.variant
other_set type.collection gs = if length gs == 1 then breaks 27 else breaks 25
other_set type.range gs = if length gs == 2 then breaks 27 else breaks 25
other_set type.worksheet gs = breaks 34
other_set (type.array_of of) gs = if is_object of || is_variant of then known of else not_said
other_set of gs = breaks 25

-- what takes the arguments and only gives something can't be set
abbrev pub reader_set : (pass : Declared → Known) → Procedure → List Given → Known
reader_set pass p gs = if has_parameters p.parameters then (if takes p.parameters gs then breaks 27 else breaks 25) else pass p.result.of

abbrev pub property_set : (pass : Declared → Known) → Declarations → Option ℕ → List Given → Known
property_set pass d None gs = breaks 27
property_set pass d (Some p) gs = reader_set pass (procedure_at d p) gs

abbrev pub member_set : (pass : Declared → Known) → Declarations → Class → Option Member → List Given → Known
member_set pass d c None gs = breaks 34
member_set pass d c (Some (is_variable i makes)) gs = pass (field_type c i)
member_set pass d c (Some (is_procedure p)) gs = reader_set pass (procedure_at d p) gs
member_set pass d c (Some (is_property reads lets None)) gs = property_set pass d reads gs
member_set pass d c (Some (is_property reads lets (Some p))) gs =
    if has_parameters (without_last (procedure_at d p).parameters) then known_or (takes (without_last (procedure_at d p).parameters) gs) 25 type.variant
    else property_set pass d reads gs

abbrev pub set_by : Declarations → List Given → (left : ℕ) → Declared → Known
set_by d gs zero (type.class number) = member_set (λ of. breaks 25) d (class_at d number) (class_at d number).default gs
set_by d gs (suc left) (type.class number) = member_set (λ of. set_by d gs left of) d (class_at d number) (class_at d number).default gs
set_by d gs left of = other_set of gs

abbrev pub class_set : Declarations → (class : ℕ) → List Given → Known
class_set d number gs = if has_names gs then not_said else set_by d gs most_passed (type.class number)
