use Rattle.std.proofs.Common.{List, map, refl, sym, ap, ◌∙◌}
use Rattle.bound_project.specs.declared.declarations.Parameter.{Parameter}
use Rattle.bound_project.specs.View.{parameter_view}
use Rattle.declared_names.specs.View.{written_view}
use Rattle.bound_actions.proofs.assigning.property_given.Goals as goal

pub returns : goal.returns
returns c =
    let i = c.requires.writer.entry in
    record {
      last = c.in-Some.last.now;
      receiver_is = refl;
      number_is = c.in_ok-procedure.ensures;
      of_is = refl;
      itself_is = c.is_itself.ensures;
      parameters_are = λ placed.
          ap (λ (l : List Parameter). map parameter_view l) (sym c.in-Some.ensures.cases.0)
          ∙ c.in_ok-parameters.ensures i.entry (written_view c.args.writer.written) placed i.at i.what;
    }
