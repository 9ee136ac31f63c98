use Rattle.std.proofs.Common.{◌≡◌, List, map, Option, sym, ap, ◌∙◌}
use Rattle.std.specs.Prelude.{flat_map}
use Rattle.refusal_order.specs.Least.{least_of}
use Rattle.vba_base.specs.declared.place.Refusal.{Refusal}
use Rattle.vba_module.specs.Headers.{items_of}
use Rattle.vba_module.specs.Verdict.{broken}
use Rattle.vba_tree.specs.View.{dim_view}
use Rattle.vba_tree.specs.declared.declaration.Dim.{Dim}
use Rattle.vba_tree.specs.declared.list.Next.{Next}
use Rattle.declared_names.specs.binder.specs.Constants.{dim_faults}
use Rattle.declared_names.specs.View.{scope_view}
use Rattle.constant_values.proofs.Noting.{noted_append}
use Rattle.constant_values.proofs.dims.note_each.Goals as goal

pub returns : goal.returns
returns c =
    let s = scope_view c.args.constants.scope in
    let list = c.args.list.now in
    let rest = flat_map (dim_faults s) (items_of (map (λ (next : Next Dim). (next.mark, dim_view next.item)) list.others.items)) in
    c.in_ok-note_others.ensures
    ∙ (ap (λ (t : List (Next Dim)). least_of c.note_dim.new.least (broken 20 (flat_map (dim_faults s) (items_of (map (λ (next : Next Dim). (next.mark, dim_view next.item)) t)))))
    c.as_slice.ensures.value
    ∙ (ap (λ (t : Option Refusal). least_of t (broken 20 rest)) c.in_ok-note_dim.ensures
    ∙ sym (noted_append c.args.least.now (dim_faults s (dim_view list.first)) rest)))
