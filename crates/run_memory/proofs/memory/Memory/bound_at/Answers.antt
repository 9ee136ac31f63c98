use Rattle.std.proofs.Common.{◌≡◌, sym, ap, subst, ◌∙◌}
use Rattle.std.specs.Prelude.{FitsSigned, Option, Some, ℤ}
use Rattle.std.specs.Int.{w32}
use Rattle.std.proofs.lemmas.Int.{to_z-of_z}
use Rattle.vba_values.specs.Val.{Val}
use Rattle.vba_values.specs.View.{view}
use Rattle.arrays_udt.specs.Paths.{path_value}
use Rattle.vba_meaning.specs.Paths.{plain_steps}
use Rattle.vba_meaning.specs.Memory.{inner_or_none, root_value, value_at}
use Rattle.vba_meaning.specs.Library.{bound_in}
use Rattle.run_memory.specs.Acts.{Acts}
use Rattle.run_memory.specs.View.{memory_view, path_view}
use Rattle.run_memory.proofs.memory.Memory.bound_at.Goals as goal

pub returns : goal.returns
returns c =
    let m = memory_view c.args.self.now in
    let p = path_view c.args.path.now in
    let v = view c.in-Some.root.now in
    let root : root_value m p.root ≡ Some v = sym (c.object_value-object.ensures m) ∙ sym c.in-Some.ensures in
    let steps : c.as_slice.result.now ≡ plain_steps p.steps = c.as_slice.ensures.value ∙ c.in_ok-steps.ensures in
    let there : value_at m p ≡ path_value v c.as_slice.result.now = ap (λ (o : Option Val). inner_or_none o (plain_steps p.steps)) root ∙ ap (path_value v) (sym steps) in
    let fits : FitsSigned w32 c.args.dimension = c.ranges.dimension in
    let acted = subst (λ (z : ℤ). Acts view c.bound_inside.result m (bound_in c.args.is_upper z (path_value v c.as_slice.result.now) m)) (to_z-of_z w32 c.args.dimension fits) (c.bound_inside.ensures m) in
    subst (λ (o : Option Val). Acts view c.bound_inside.result m (bound_in c.args.is_upper c.args.dimension o m)) (sym there) acted
