use Rattle.std.proofs.Common.{[], ◌∷◌, ◌++◌, map, ap, sym, ◌∙◌}
use Rattle.std.proofs.lemmas.List.{map-append}
use Rattle.vba_values.specs.View.{view}
use Rattle.vba_meaning.specs.Effects.{slot_values}
use Rattle.run_memory.specs.View.{slot_view}
use Rattle.run_defaults.proofs.Given.{values_more}
use Rattle.run_defaults.proofs.arguments.values_of.Goals as goal

pub loop-slot-preserved : goal.loop-slot-preserved
loop-slot-preserved c =
    ap (map view) c.in_ok-push.ensures.items ∙ map-append view c.loop-slot.values.items (c.value_of.result ∷ [])
    ∙ ap (λ l. l ++ view c.value_of.result ∷ []) c.loop-slot.invariant
    ∙ ap (λ x. slot_values (map slot_view c.loop-slot.yielded) ++ x ∷ []) c.value_of.ensures ∙ sym (values_more c.loop-slot.yielded c.in-Some.slot)
