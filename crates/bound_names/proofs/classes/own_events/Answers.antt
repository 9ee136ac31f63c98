use Rattle.std.proofs.Common.{List, map, ap, ◌∙◌}
use Rattle.bound_project.specs.View.{class_view, event_view}
use Rattle.bound_project.specs.declared.declarations.DeclaredEvent.{DeclaredEvent}
use Rattle.bound_names.proofs.Objects.{events_found}
use Rattle.bound_names.proofs.classes.own_events.Goals as goal

pub returns : goal.returns
returns c =
    ap (λ (l : List DeclaredEvent). map event_view l) c.as_slice.ensures.value
    ∙ events_found c.args.env.constants.scope c.args.env.declared.now c.in_ok-class_number.class_number (class_view c.in-Some.class.now) c.requires.placed.numbered c.requires.declared c.requires.placed.here
    c.if-not-scope.false c.in_ok-class_number.ensures c.in-Some.ensures.found
