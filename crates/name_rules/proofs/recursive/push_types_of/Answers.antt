use Rattle.std.proofs.Common.{[], ◌∷◌, map}
use Rattle.constant_values.specs.declared_names.specs.binder.specs.Declarations as plain
use Rattle.constant_values.specs.declared_names.specs.binder.specs.Violations as violations
use Rattle.constant_values.specs.declared_names.specs.View.{entry_view, scope_view}
use Rattle.name_rules.proofs.Gathered.{collected}
use Rattle.name_rules.proofs.TypesHeld.{types_split}
use Rattle.name_rules.proofs.recursive.push_types_of.Goals as goal

pub loop-entry-preserved : goal.loop-entry-preserved
loop-entry-preserved c =
    let s = scope_view c.args.scope in
    collected (violations.types_of_entries s) (λ (e : plain.Entry). violations.types_of_entries s (e ∷ []))
    (λ e es. types_split s e.name e.is_public e.what es) entry_view (map (λ v. v.items) c.loop-entry.types.items) (map (λ v. v.items) c.push_type_of.new.types.items) _
    c.args.entries.now c.loop-entry.entry-index c.entry-item.result c.loop-entry-test.true c.entry-item.is c.in_ok-push_type_of.ensures c.loop-entry.invariant
