use Rattle.std.proofs.Common.{◌≡◌, drop}
use Rattle.bound_declarations.specs.constant_values.specs.declared_names.specs.module_parts.specs.View.{parts_view}
use Rattle.bound_declarations.specs.constant_values.specs.declared_names.specs.binder.specs.ClassTables.{first_marked}
use Rattle.project_tables.specs.ClassParts.{marks}
use Rattle.project_tables.proofs.class_tables.first_marked.Given as goal

abbrev pub invariant-loop-part : goal.invariant-loop-part
invariant-loop-part l = first_marked (marks l.mark) (parts_view (drop l.part-index l.parts)) ≡ first_marked (marks l.mark) (parts_view l.parts)
