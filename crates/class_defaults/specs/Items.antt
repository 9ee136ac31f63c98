-- Serves the code: arguments in brackets behind an object of a class, of which only their number is looked at.
use Rattle.std.specs.Prelude.{◌≡◌, ℕ, zero, suc, Bool, true, false, ◌||◌, List, [], ◌∷◌, Option, Some, None, is_some, if◌then◌else◌}
use Rattle.std.specs.List.{list_all}
use Rattle.vba_values.specs.Types.{Declared}
use Rattle.vba_values.specs.Types as type
use Rattle.bound_project.specs.Parameters.{has_parameters, without_last}
use Rattle.bound_project.specs.Project.{Class, Declarations, Member, is_variable, is_procedure, is_property, Parameter, Procedure, nowhere, procedure_at}
use Rattle.bound_declarations.specs.constant_values.specs.declared_names.specs.binder.specs.Constants.{is_variant}
use Rattle.bound_declarations.specs.constant_values.specs.declared_names.specs.binder.specs.Types.{is_object}
use Rattle.bound_forms.specs.ClassDefaults.{Known, breaks, field_type, known, known_or, led_by, let_by, not_said, result_let, set_by}
use Rattle.bound_forms.specs.Terms.{Given, may_lack, no_term, takes}
use Rattle.class_defaults.specs.Known.{Passes, ends, on}

-- arguments that are all written, without names: so many
abbrev pub IsPlain : Given → Type 0
IsPlain g = (is_some g.name ≡ false) × (is_some g.term ≡ true)

abbrev pub ArePlain : (count : ℕ) → List Given → Type 0
ArePlain zero [] = Unit {0}
ArePlain (suc n) (g ∷ gs) = IsPlain g × ArePlain n gs
ArePlain n gs = ⊥

-- such ones, which stand for all of that number
abbrev pub plainly : (count : ℕ) → List Given
plainly zero = []
plainly (suc n) = record { name = None; term = Some no_term; place = nowhere } ∷ plainly n

-- whether parameters take so many of them
abbrev pub takes_many : List Parameter → (count : ℕ) → Bool
takes_many ps zero = list_all may_lack ps
takes_many [] (suc n) = false
takes_many (p ∷ ps) (suc n) = p.many || takes_many ps n

-- ---- what a default member passes arguments on to

-- a procedure with parameters takes the arguments; one without passes them on
abbrev pub procedure_leads : Procedure → List Given → Passes
procedure_leads p gs = if has_parameters p.parameters then ends (known_or (takes p.parameters gs) 25 p.result.of) else on p.result.of

abbrev pub property_leads : Declarations → (reads : Option ℕ) → List Given → Passes
property_leads d None gs = ends (breaks 34)
property_leads d (Some p) gs = procedure_leads (procedure_at d p) gs

abbrev pub default_leads : Declarations → Class → Member → List Given → Passes
default_leads d c (is_variable i makes) gs = on (field_type c i)
default_leads d c (is_procedure p) gs = procedure_leads (procedure_at d p) gs
default_leads d c (is_property reads lets sets) gs = property_leads d reads gs

abbrev pub member_leads : Declarations → Class → Option Member → List Given → Passes
member_leads d c None gs = ends (breaks 34)
member_leads d c (Some m) gs = default_leads d c m gs

-- S25 where no more may pass them on
abbrev pub led_on : Declarations → List Given → (left : ℕ) → Declared → Known
led_on d gs zero of = breaks 25
led_on d gs (suc left) of = led_by d gs left of

-- ---- where what they lead to takes a value

abbrev pub reader_lets : Declarations → Procedure → List Given → Passes
reader_lets d p gs = if has_parameters p.parameters then ends (result_let d p gs) else on p.result.of

abbrev pub property_lets : Declarations → (reads : Option ℕ) → List Given → Passes
property_lets d None gs = ends (breaks 27)
property_lets d (Some p) gs = reader_lets d (procedure_at d p) gs

-- a Let or a Set with other parameters takes the arguments; one without isn't asked
abbrev pub setter_passes : Procedure → (others : Passes) → List Given → Passes
setter_passes p others gs =
    if has_parameters (without_last p.parameters) then ends (known_or (takes (without_last p.parameters) gs) 25 type.variant) else others

abbrev pub written_passes : Declarations → (writes : Option ℕ) → (others : Passes) → List Given → Passes
written_passes d None others gs = others
written_passes d (Some p) others gs = setter_passes (procedure_at d p) others gs

abbrev pub default_lets : Declarations → Class → Member → List Given → Passes
default_lets d c (is_variable i makes) gs = on (field_type c i)
default_lets d c (is_procedure p) gs = reader_lets d (procedure_at d p) gs
default_lets d c (is_property reads lets sets) gs = written_passes d lets (property_lets d reads gs) gs

abbrev pub member_lets : Declarations → Class → Option Member → List Given → Passes
member_lets d c None gs = ends (breaks 34)
member_lets d c (Some m) gs = default_lets d c m gs

abbrev pub let_on : Declarations → List Given → (left : ℕ) → Declared → Known
let_on d gs zero of = breaks 25
let_on d gs (suc left) of = let_by d gs left of

-- ---- where it is given an object

-- an element of an array of objects, or of Variants, is given one
abbrev pub element_set : Declared → Known
element_set of = if is_object of || is_variant of then known of else not_said

-- what takes the arguments and only gives something can't be set
abbrev pub unset_rule : (takes : Bool) → Known
unset_rule true = breaks 27
unset_rule false = breaks 25

abbrev pub reader_sets : Procedure → List Given → Passes
reader_sets p gs = if has_parameters p.parameters then ends (unset_rule (takes p.parameters gs)) else on p.result.of

abbrev pub property_sets : Declarations → (reads : Option ℕ) → List Given → Passes
property_sets d None gs = ends (breaks 27)
property_sets d (Some p) gs = reader_sets (procedure_at d p) gs

abbrev pub default_sets : Declarations → Class → Member → List Given → Passes
default_sets d c (is_variable i makes) gs = on (field_type c i)
default_sets d c (is_procedure p) gs = reader_sets (procedure_at d p) gs
default_sets d c (is_property reads lets sets) gs = written_passes d sets (property_sets d reads gs) gs

abbrev pub member_sets : Declarations → Class → Option Member → List Given → Passes
member_sets d c None gs = ends (breaks 34)
member_sets d c (Some m) gs = default_sets d c m gs

abbrev pub set_on : Declarations → List Given → (left : ℕ) → Declared → Known
set_on d gs zero of = breaks 25
set_on d gs (suc left) of = set_by d gs left of
