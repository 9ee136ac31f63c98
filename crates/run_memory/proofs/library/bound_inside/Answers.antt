use Rattle.std.proofs.Common.{◌≡◌, sym, ap, ◌∙◌}
use Rattle.std.specs.Prelude.{FitsSigned, Some, option_map}
use Rattle.std.specs.Int.{w32}
use Rattle.std.proofs.lemmas.Int.{to_z-of_z}
use Rattle.arrays_udt.specs.Paths.{path_value}
use Rattle.vba_values.specs.View.{view}
use Rattle.run_memory.proofs.Bounds.{bound_acted_at}
use Rattle.run_memory.proofs.library.bound_inside.Goals as goal

pub returns-in-Some : goal.returns-in-Some
returns-in-Some c = λ m.
    let fits : FitsSigned w32 c.args.dimension = c.ranges.dimension in
    let there : path_value (view c.args.root.now) c.args.steps.now ≡ Some (view c.in-Some.value.now) =
    sym c.inner_value.ensures ∙ ap (λ o. option_map (λ v. view v.now) o) c.in-Some.is in
    bound_acted_at c.args.is_upper c.args.dimension (path_value (view c.args.root.now) c.args.steps.now) (view c.in-Some.value.now) c.a_bound.result m fits there
    (simp to_z-of_z at c.a_bound.ensures)
