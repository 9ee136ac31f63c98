-- Default members of classes: how they pass on what is written to them.
use Rattle.std.proofs.Common.{◌≡◌, ℕ, zero, suc, ◌-◌, refl, ap, ◌∙◌, arith}
use Rattle.std.specs.Prelude.{Bool, true, false, Option, Some, None, if◌then◌else◌}
use Rattle.vba_values.specs.Types.{Declared}
use Rattle.vba_values.specs.Types as type
use Rattle.bound_project.specs.Parameters.{any_must}
use Rattle.bound_project.specs.Project.{Class, Declarations, Member, is_variable, is_procedure, is_property, class_at, procedure_at}
use Rattle.bound_declarations.specs.constant_values.specs.declared_names.specs.binder.specs.Classes.{class_in}
use Rattle.bound_declarations.specs.constant_values.specs.declared_names.specs.binder.specs.Types.{is_object}
use Rattle.bound_forms.specs.ClassDefaults.{class_written, field_type, known, member_written, other_written, written_by}
use Rattle.bound_forms.specs.ClassDefaults as plain
use Rattle.class_defaults.specs.Known.{Passes, on, ends, passed_by, write_passes, written_on}

read_or_ends : (b : Bool) (pass : Declared → plain.Known) (found : plain.Known) (of : Declared) → passed_by pass (if b then ends found else on of) ≡ (if b then found else pass of)
read_or_ends true pass found of = refl
read_or_ends false pass found of = refl

on_or_ends : (b : Bool) (pass : Declared → plain.Known) (found : plain.Known) (of : Declared) → passed_by pass (if b then on of else ends found) ≡ (if b then pass of else found)
on_or_ends true pass found of = refl
on_or_ends false pass found of = refl

-- what a class does with a value says what is known of it
pub passes_written : (none : ℕ) (pass : Declared → plain.Known) (d : Declarations) (c : Class) (m : Option Member) → passed_by pass (write_passes none d c m) ≡ member_written none pass d c m
passes_written none pass d c None = refl
passes_written none pass d c (Some (is_variable i makes)) = on_or_ends (is_object (field_type c i)) pass (known type.variant) (field_type c i)
passes_written none pass d c (Some (is_procedure p)) = read_or_ends (any_must (procedure_at d p).parameters) pass (plain.breaks 27) (procedure_at d p).result.of
passes_written none pass d c (Some (is_property reads (Some p) sets)) = refl
passes_written none pass d c (Some (is_property (Some p) None sets)) = read_or_ends (any_must (procedure_at d p).parameters) pass (plain.breaks 27) (procedure_at d p).result.of
passes_written none pass d c (Some (is_property None None sets)) = refl

-- a value is written to an object of a class
pub written_whole : (d : Declarations) (number : ℕ) (k : plain.Known) (w : Passes) → w ≡ write_passes 34 d (class_at d number) (class_at d number).default
    → k ≡ passed_by (λ of. written_by d 7 of) w → k ≡ class_written d number
written_whole d number k w e f =
    f ∙ ap (passed_by (λ of. written_by d 7 of)) e ∙ passes_written 34 (λ of. written_by d 7 of) d (class_at d number) (class_at d number).default

-- to one through so many more
class_by : (d : Declarations) (left number : ℕ) → member_written 27 (λ of. written_on d left of) d (class_at d number) (class_at d number).default ≡ written_by d left (type.class number)
class_by d zero number = refl
class_by d (suc left) number = refl

pub written_step : (d : Declarations) (left number : ℕ) (k : plain.Known) (w : Passes) → w ≡ write_passes 27 d (class_at d number) (class_at d number).default
    → k ≡ passed_by (λ of. written_on d left of) w → k ≡ written_by d left (type.class number)
written_step d left number k w e f =
    f ∙ ap (passed_by (λ of. written_on d left of)) e ∙ passes_written 27 (λ of. written_on d left of) d (class_at d number) (class_at d number).default
    ∙ class_by d left number

-- by what class a type is
pub class_is : (of : Declared) (n : ℕ) → class_in of ≡ Some n → of ≡ type.class n
class_is (type.class m) n h =
    let e : Some m ≡ Some n = h in
    let same : m ≡ n = cc in
    ap (λ i. type.class i) same
class_is of n h = let e : None ≡ Some n = h in absurd cc

-- to what is of no class
other_first : (d : Declarations) (of : Declared) → class_in of ≡ None → written_by d 0 of ≡ other_written of
other_first d (type.class n) h = let e : Some n ≡ None = h in absurd cc
other_first d of h = refl

other_later : (d : Declarations) (left : ℕ) (of : Declared) → class_in of ≡ None → written_by d (suc left) of ≡ other_written of
other_later d left (type.class n) h = let e : Some n ≡ None = h in absurd cc
other_later d left of h = refl

pub other_by : (d : Declarations) (left : ℕ) (of : Declared) → class_in of ≡ None → written_by d left of ≡ other_written of
other_by d zero of h = other_first d of h
other_by d (suc left) of h = other_later d left of h

-- to what is passed on to
pub on_past : (d : Declarations) (left : ℕ) (of : Declared) → left ≡ 0 → plain.breaks 27 ≡ written_on d left of
on_past d left of h = rw h refl

pub on_more : (d : Declarations) (left : ℕ) (of : Declared) → (left ≡ 0 → ⊥) → written_by d (left - 1) of ≡ written_on d left of
on_more d zero of h = absurd (h refl)
on_more d (suc left) of h = let e : suc left - 1 ≡ left = omega arith in rw e refl
