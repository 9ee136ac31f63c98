use Rattle.std.proofs.Common.{Bool, true, refl, sym, subst}
use Rattle.bound_terms.specs.bound_accesses.specs.bound_names.specs.View.{env_view}
use Rattle.bound_actions.specs.Assigning.{IsNoTarget}
use Rattle.bound_actions.specs.NoTargets.{IsSub}
use Rattle.bound_actions.proofs.NoTargets.{no_target_is}
use Rattle.bound_actions.proofs.no_targets.is_no_target.Goals as goal

pub returns-then-is_sub : goal.returns-then-is_sub
returns-then-is_sub c =
    let x = c.args.tree in
    let env = env_view c.args.env in
    let A : Bool → Type 0 = λ (b : Bool). IsSub x.term b in
    let N : Bool → Type 0 = λ (b : Bool). IsNoTarget env x b in
    subst N (sym c.if-is_sub.true) (no_target_is env x true _ (subst A c.if-is_sub.true c.is_sub.ensures) refl)

pub returns-else-is_sub : goal.returns-else-is_sub
returns-else-is_sub c =
    let x = c.args.tree in
    let A : Bool → Type 0 = λ (b : Bool). IsSub x.term b in
    no_target_is (env_view c.args.env) x _ c.is_param_array.result (subst A c.if-is_sub.false c.is_sub.ensures) c.is_param_array.ensures
