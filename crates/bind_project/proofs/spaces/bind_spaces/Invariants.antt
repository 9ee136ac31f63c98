use Rattle.std.proofs.Common.{length, map}
use Rattle.binder.specs.Projects.{no_space}
use Rattle.binder.specs.Names.{scope_of}
use Rattle.bound_project.specs.DraftView.{draft_view}
use Rattle.bound_names.specs.bound_members.specs.bound_calls.specs.bound_declarations.specs.constant_values.specs.declared_names.specs.Outside.{the_outside}
use Rattle.bound_names.specs.bound_members.specs.bound_calls.specs.bound_declarations.specs.constant_values.specs.declared_names.specs.View.{space_view}
use Rattle.bound_names.specs.project_tables.specs.Rows.{AreRowsFrom}
use Rattle.bind_project.specs.Modules.{SpacesWalked}
use Rattle.bind_project.specs.Procedures.{AllPlaced}
use Rattle.bind_project.proofs.spaces.bind_spaces.Given as goal

abbrev pub invariant-spaces : goal.invariant-spaces
invariant-spaces l = record {
  placed : AllPlaced (map space_view l.spaces) (map space_view l.left);
  rows : AreRowsFrom (map space_view l.spaces) (map (λ row. row.items) l.waiting) (map space_view l.left);
  walked :
      SpacesWalked the_outside (scope_of the_outside (map space_view l.spaces) no_space) (map space_view l.spaces) (draft_view l.fn.draft)
      (map space_view l.left) (draft_view l.draft);
}

abbrev pub decreases-spaces : goal.decreases-spaces
decreases-spaces l = length l.left
