-- Serves the code: what a draft stands for.
use Rattle.bound_project.specs.declared.draft.Draft.{Draft}
use Rattle.bound_project.specs.Drafts.{Drafted, drafted, tables_in}

abbrev pub draft_view : Draft → Drafted
draft_view d = drafted (tables_in d.constants.items d.orders.items) d.scratch.items d.nodes.items d.statements.items d.bodies.items
