use Rattle.std.proofs.Common.{sym, ap, ◌∙◌}
use Rattle.std.proofs.lemmas.Option.{slice_get-map}
use Rattle.bound_project.specs.View.{declaration_view, storage_view}
use Rattle.bound_names.proofs.names.shared_shape.Goals as goal

pub returns : goal.returns
returns c = record {
  number = c.in-Shared.number;
  kept_is = ap storage_view c.in-Shared.is;
  declaration = declaration_view c.in-Some.declaration.now;
  at = slice_get-map declaration_view c.args.declared.now.shared.items c.in-Shared.number ∙ sym c.in-Some.ensures;
  shape = c.in_ok-shape.ensures;
}
