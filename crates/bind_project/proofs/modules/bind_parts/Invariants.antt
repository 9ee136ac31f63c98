use Rattle.std.proofs.Common.{length, drop, map}
use Rattle.bound_project.specs.DraftView.{draft_view}
use Rattle.bound_names.specs.bound_members.specs.bound_calls.specs.bound_declarations.specs.constant_values.specs.declared_names.specs.View.{scope_view}
use Rattle.module_parts.specs.View.{parts_view}
use Rattle.bind_project.specs.Modules.{PartsWalked}
use Rattle.bind_project.specs.Procedures.{numbered_view}
use Rattle.bind_project.proofs.modules.bind_parts.Given as goal

abbrev pub invariant-parts : goal.invariant-parts
invariant-parts l =
    PartsWalked (scope_view l.home.scope) (map numbered_view l.rows) (parts_view l.parts) (draft_view l.fn.draft)
    (map numbered_view (drop l.next l.rows)) (parts_view l.left) (draft_view l.draft)

abbrev pub decreases-parts : goal.decreases-parts
decreases-parts l = length l.left
