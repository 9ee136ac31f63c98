use Rattle.std.proofs.Common.{refl}
use Rattle.bound_members.specs.bound_calls.specs.bound_declarations.specs.constant_values.specs.declared_names.specs.View.{written_view}
use Rattle.bound_names.proofs.routines.routine_at.Goals as goal

pub returns : goal.returns
returns c =
    let i = c.requires.entry in
    record {
      receiver_is = refl;
      procedure_is = c.in_ok-procedure.ensures;
      parameters_are = c.in_ok-parameters.ensures i.entry (written_view c.args.read) c.requires.placed i.at i.what;
      of_is = c.in_ok-of.ensures;
      space_is = refl;
      written_is = refl;
      placed = c.requires.placed;
    }
