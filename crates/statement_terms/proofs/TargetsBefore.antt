-- What brackets at the end of a target stand behind, before their arguments.
use Rattle.std.proofs.Common.{◌≡◌, Bool, true, false, List, refl, ◌∙◌}
use Rattle.vba_base.specs.declared.place.Place.{Place}
use Rattle.bound_project.specs.Expressions as bound
use Rattle.bound_members.specs.bound_calls.specs.bound_forms.specs.Terms.{Env, Given, HostMember, Term, a_function, a_host_member, a_method, a_place, a_routine, a_value, err_clear, err_object, err_raise, error_word, no_term}
use Rattle.bound_members.specs.bound_calls.specs.bound_forms.specs.Members.{item_of}
use Rattle.bound_members.specs.bound_calls.specs.bound_forms.specs.Targets.{value_before}

-- a procedure or a property
abbrev pub is_procedure_term : Term → Bool
is_procedure_term (a_routine space number p) = true
is_procedure_term (a_method base space number p) = true
is_procedure_term t = false

-- arguments behind another term index no property's value
pub before_other : (env : Env) (place : Place) (gs : List Given) (z : Term) → is_procedure_term z ≡ false → value_before env place gs z ≡ item_of env place z
before_other env place gs (a_place x of bounds lends makes) h = refl
before_other env place gs (a_value node of) h = refl
before_other env place gs (a_routine space number p) h = let e : true ≡ false = h in absurd cc
before_other env place gs (a_method base space number p) h = let e : true ≡ false = h in absurd cc
before_other env place gs (a_function f text_form base) h = refl
before_other env place gs (a_host_member e m) h = refl
before_other env place gs err_object h = refl
before_other env place gs err_raise h = refl
before_other env place gs err_clear h = refl
before_other env place gs error_word h = refl
before_other env place gs no_term h = refl

-- nor behind what is a member, or has a default one
no_procedure : (env : Env) (place : Place) (z : Term) (object : bound.Expr) (m : HostMember) → item_of env place z ≡ a_host_member object m → is_procedure_term z ≡ false
no_procedure env place (a_routine space number p) object m h = let e : a_routine space number p ≡ a_host_member object m = h in absurd cc
no_procedure env place (a_method base space number p) object m h = let e : a_method base space number p ≡ a_host_member object m = h in absurd cc
no_procedure env place z object m h = refl

pub before_member : (env : Env) (place : Place) (gs : List Given) (z : Term) (object : bound.Expr) (m : HostMember) → item_of env place z ≡ a_host_member object m → value_before env place gs z ≡ a_host_member object m
before_member env place gs z object m h = before_other env place gs z (no_procedure env place z object m h) ∙ h
