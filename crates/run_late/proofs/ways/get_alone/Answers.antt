use Rattle.std.proofs.Common.{sym, ap, ◌∙◌}
use Rattle.bound_project.specs.View.{declarations_view}
use Rattle.vba_meaning.specs.LateBound.{get_alone}
use Rattle.run_late.proofs.Uses.{alone_for_object, taken_none}
use Rattle.run_late.proofs.ways.get_alone.Goals as goal

pub returns : goal.returns
returns c = λ v m.
    let d = declarations_view c.args.declared.now in
    c.get_for_object.ensures v m ∙ sym (ap (get_alone d c.args.given) c.in_ok-procedure.was
    ∙ alone_for_object d c.args.given c.in_ok-procedure.procedure (taken_none _ _ c.args.given _ _ c.takes_none.ensures c.parameters_of.ensures c.if-not-takes_none.false))
