use Rattle.std.proofs.Common.{[], ◌∷◌, ◌++◌, map, take, ap, sym, ◌∙◌, arith}
use Rattle.std.proofs.lemmas.List.{map-append}
use Rattle.vba_meaning.specs.Effects.{reordered}
use Rattle.run_memory.specs.View.{slot_view}
use Rattle.pcode_vm.proofs.Given.{reordered_more}
use Rattle.pcode_vm.proofs.arguments.reordered.Goals as goal

pub loop-number-preserved : goal.loop-number-preserved
loop-number-preserved c =
    ap (map slot_view) c.in_ok-push.ensures.items ∙ map-append slot_view c.loop-number.ordered.items (c.in_ok-argument.field-0 ∷ [])
    ∙ ap (λ l. l ++ slot_view c.in_ok-argument.field-0 ∷ []) c.loop-number.invariant
    ∙ ap (λ x. reordered (take c.loop-number.number-index c.args.order.now) (map slot_view c.args.slots.now) ++ x ∷ []) c.in_ok-argument.ensures
    ∙ sym (reordered_more c.args.order.now c.loop-number.number-index (map slot_view c.args.slots.now) (omega arith))
