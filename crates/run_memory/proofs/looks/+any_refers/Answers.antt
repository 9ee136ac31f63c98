use Rattle.std.proofs.Common.{◌-◌, take, length, map, ap, sym, ◌∙◌}
use Rattle.std.specs.Prelude.{◌||◌}
use Rattle.vba_values.specs.View.{view}
use Rattle.vba_meaning.specs.References.{objects_in_values}
use Rattle.run_memory.specs.Referred.{occurs}
use Rattle.run_memory.proofs.Referred.{values_last}
use Rattle.run_memory.proofs.looks.+any_refers.Goals as goal

pub returns-then-refers : goal.returns-then-refers
returns-then-refers t c =
    let o = c.args.object in
    let xs = c.args.values.now in
    let rest = occurs o (objects_in_values (map view (take (length xs - 1) xs))) in
    c.if-refers.true
    ∙ sym (values_last o xs c.last-item.result c.in-len1-up.len_at_least c.last-item.is ∙ ap (λ b. b || rest) (sym c.refers.ensures ∙ c.if-refers.true))

pub returns-else-refers : goal.returns-else-refers
returns-else-refers t c =
    let o = c.args.object in
    let xs = c.args.values.now in
    let rest = occurs o (objects_in_values (map view (take (length xs - 1) xs))) in
    c.any_refers.ensures
    ∙ sym (values_last o xs c.last-item.result c.in-len1-up.len_at_least c.last-item.is ∙ ap (λ b. b || rest) (sym c.refers.ensures ∙ c.if-refers.false))
