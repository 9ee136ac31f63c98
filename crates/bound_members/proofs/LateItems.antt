-- Objects whose members the run finds, and what is known of that before it.
use Rattle.std.proofs.Common.{◌≡◌, Bool, true, false, not, ap}
use Rattle.std.specs.Prelude.{MatchBool}
use Rattle.std.proofs.lemmas.Bool.{and_parts, and_right}
use Rattle.vba_base.specs.declared.place.Place.{Place}
use Rattle.vba_values.specs.Types.{Declared}
use Rattle.bound_project.specs.Expressions as bound
use Rattle.bound_project.specs.Pieces.{Tables}
use Rattle.bound_calls.specs.bound_forms.specs.Terms.{Env, expression_of}
use Rattle.bound_calls.specs.bound_forms.specs.Operands.{is_found_late, is_host_type, is_of_class, may_be_instance}
use Rattle.bound_calls.specs.bound_forms.specs.Members.{has_item_member}
use Rattle.bound_calls.specs.declared.term.Ending.{Ending}
use Rattle.bound_calls.specs.References.{IsFoundLate}

-- such an object has no default member Item that is known before the run
pub no_item_late : (env : Env) (place : Place) (node : bound.Node) (of : Declared) → is_found_late env (expression_of node place of) ≡ true → has_item_member env (expression_of node place of) ≡ false
no_item_late env place node of late =
    let b = may_be_instance env (expression_of node place of) in
    and_right (is_host_type of) (not b) (ap (λ (c : Bool). not c) (and_parts (not (is_of_class of)) b late).1)

pub known_late : (has : Bool) (t : Tables) (v : Ending) (late : Bool) → IsFoundLate has t v late → MatchBool late (IsFoundLate has t v true) (Unit {0})
known_late has t v true l = l
known_late has t v false l = tt

pub known_early : (has : Bool) (t : Tables) (v : Ending) (late : Bool) → IsFoundLate has t v late → MatchBool (not late) (IsFoundLate has t v false) (Unit {0})
known_early has t v true l = tt
known_early has t v false l = l
