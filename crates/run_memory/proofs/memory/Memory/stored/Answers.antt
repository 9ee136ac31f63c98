use Rattle.std.proofs.Common.{ap, sym, subst, ◌∙◌}
use Rattle.vba_values.specs.Val.{Val}
use Rattle.vba_values.specs.View.{view}
use Rattle.vba_meaning.specs.Memory.{Memory}
use Rattle.vba_meaning.specs.References.{replaced}
use Rattle.vba_meaning.specs.Effects.{Effect, connected, on_fine}
use Rattle.run_memory.specs.Acts.{Acts}
use Rattle.run_memory.specs.Connecting.{connects}
use Rattle.run_memory.specs.View.{memory_view, path_view}
use Rattle.run_memory.proofs.Connected.{connects_as}
use Rattle.run_memory.proofs.memory.Memory.stored.Goals as goal

pub returns : goal.returns
returns c =
    let p = path_view c.args.path.now in
    let v = view c.args.value in
    let m = memory_view c.args.self.now in
    subst (λ (e : Effect (Unit {0})). Acts (λ done. done) c.connects.result (memory_view c.connects.new.self) e)
    (sym (ap (λ (e : Effect Val). on_fine e (λ old m1. connected p v (replaced p v m1))) c.in_ok-assignable.ensures.acts
    ∙ connects_as p v (replaced p v m)
    ∙ ap (λ b. connects p.root b (replaced p v m)) (sym c.is_nothing-nothing.ensures)
    ∙ ap (λ (n : Memory). connects p.root c.is_nothing-nothing.result n) (sym c.in_ok-replaced.ensures)))
    c.connects.ensures
