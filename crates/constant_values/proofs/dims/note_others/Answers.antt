use Rattle.std.proofs.Common.{◌≡◌, ◌-◌, List, ◌∷◌, map, length, take, drop, sym, ap, ◌∙◌}
use Rattle.std.specs.Prelude.{flat_map}
use Rattle.refusal_order.specs.Least.{least_of}
use Rattle.vba_module.specs.Headers.{items_of}
use Rattle.vba_module.specs.Verdict.{broken}
use Rattle.vba_tree.specs.View.{dim_view}
use Rattle.vba_tree.specs.declared.declaration.Dim.{Dim}
use Rattle.vba_tree.specs.declared.list.Next.{Next}
use Rattle.declared_names.specs.binder.specs.Constants.{dim_faults}
use Rattle.declared_names.specs.View.{scope_view}
use Rattle.constant_values.proofs.Noting.{first_of, noted_next}
use Rattle.constant_values.proofs.dims.note_others.Goals as goal

pub loop-left-preserved : goal.loop-left-preserved
loop-left-preserved c =
    let left = c.loop-left.left.now in
    let rest = take (length left - 1) (drop 1 left) in
    let cut : left ≡ c.next-item.result ∷ rest = first_of left c.next-item.result c.in-len1-up.len_at_least c.next-item.is in
    noted_next c.loop-left.least c.note_dim.new.least (dim_faults (scope_view c.args.constants.scope) (dim_view c.next-item.result.item))
    (flat_map (dim_faults (scope_view c.args.constants.scope)) (items_of (map (λ (next : Next Dim). (next.mark, dim_view next.item)) rest))) _
    c.in_ok-note_dim.ensures
    (ap (λ (t : List (Next Dim)). least_of c.loop-left.least (broken 20 (flat_map (dim_faults (scope_view c.args.constants.scope)) (items_of (map (λ (next : Next Dim). (next.mark, dim_view next.item)) t))))) (sym cut)
    ∙ c.loop-left.invariant)
