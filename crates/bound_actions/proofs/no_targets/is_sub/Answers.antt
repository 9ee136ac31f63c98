use Rattle.std.proofs.Common.{sym, subst}
use Rattle.bound_terms.specs.bound_accesses.specs.bound_names.specs.bound_members.specs.bound_calls.specs.declared.term.Term.{Term}
use Rattle.bound_actions.specs.NoTargets.{IsSub}
use Rattle.bound_actions.proofs.NoTargets.{other_sub, routine_sub}
use Rattle.bound_actions.proofs.no_targets.is_sub.Goals as goal

pub returns-in-Routine : goal.returns-in-Routine
returns-in-Routine c =
    let A : Term → Type 0 = λ (t : Term). IsSub t c.is_sub_kind.result in
    subst A (sym c.in-Routine.is) (routine_sub c.in-Routine.routine c.is_sub_kind.result c.is_sub_kind.ensures)

pub returns-in_default : goal.returns-in_default
returns-in_default c = other_sub c.args.term c.in_default.not-Routine
