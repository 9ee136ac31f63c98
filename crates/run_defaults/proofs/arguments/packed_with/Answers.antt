use Rattle.std.proofs.Common.{◌≡◌, refl, subst}
use Rattle.std.specs.Prelude.{IfOk}
use Rattle.vba_values.specs.View.{view}
use Rattle.run_memory.specs.declared.frame.Slot.TheVariants as slot
use Rattle.run_defaults.proofs.Given.{packed_again}
use Rattle.run_defaults.proofs.arguments.packed_with.Goals as goal

pub returns : goal.returns
returns c =
    subst (λ p. IfOk c.packed.result (λ array. view array ≡ p))
    (packed_again (slot.Value c.args.first) (view c.args.first) c.args.behind.items c.from-all.result.items c.insert.new.self.items refl c.from-all.ensures.0 c.in_ok-insert.ensures.items)
    c.packed.ensures
