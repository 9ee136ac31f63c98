use Rattle.std.proofs.Common.{sym, ap, ◌∙◌}
use Rattle.vba_values.specs.declared.types.OpKind.TheVariants as op
use Rattle.bound_project.specs.declared.node.NodeKind.{NodeKind}
use Rattle.bound_project.specs.View.{declared_view}
use Rattle.static_rules.specs.Broken.{double_at, least_of}
use Rattle.static_rules.specs.Scan.{kind_places}
use Rattle.static_rules.proofs.Steps.{noted_twice}
use Rattle.static_rules.proofs.scan.note_node.Goals as goal

pub returns-in-TestRange : goal.returns-in-TestRange
returns-in-TestRange c =
    let of = declared_view c.args.selected in
    let low = double_at c.args.at op.Ge of (declared_view c.in-TestRange.low) in
    let high = double_at c.in-TestRange.high_at op.Le of (declared_view c.in-TestRange.high) in
    noted_twice c.args.least.now c.note_double-in-TestRange.new.least c.note_double-in-TestRange-2.new.least low high c.note_double-in-TestRange.ensures c.note_double-in-TestRange-2.ensures
    ∙ ap (λ (k : NodeKind). least_of c.args.least.now (kind_places c.args.selected c.args.at k)) (sym c.in-TestRange.is)
