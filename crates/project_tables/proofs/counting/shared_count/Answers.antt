use Rattle.std.proofs.Common.{◌≡◌, ℕ, ◌+◌, IfOk, length, subst}
use Rattle.bound_declarations.specs.constant_values.specs.declared_names.specs.binder.specs.Storage.{shared_of}
use Rattle.bound_declarations.specs.constant_values.specs.declared_names.specs.View.{scope_view}
use Rattle.project_tables.proofs.Counts.{shared_length}
use Rattle.project_tables.proofs.counting.shared_count.Goals as goal

pub returns : goal.returns
returns c =
    let shared : c.in_ok-variable_count.field-0 + c.in_ok-statics.statics ≡ length (shared_of (scope_view c.args.scope)) =
    shared_length (scope_view c.args.scope) c.args.rows.now c.in_ok-variable_count.field-0 c.in_ok-statics.statics c.requires
    c.in_ok-variable_count.ensures c.in_ok-statics.ensures in
    subst (λ (m : ℕ). IfOk c.sum.result (λ n. n ≡ m)) shared c.sum.ensures
