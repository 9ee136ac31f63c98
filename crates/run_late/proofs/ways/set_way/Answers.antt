use Rattle.std.proofs.Common.{sym, ap, ◌∙◌}
use Rattle.bound_project.specs.View.{declarations_view}
use Rattle.bound_project.specs.Parameters.{without_last}
use Rattle.vba_meaning.specs.LateBound.{set_by}
use Rattle.run_late.proofs.Uses.{set_lacks, set_left, taken_none}
use Rattle.run_late.proofs.ways.set_way.Goals as goal

pub returns-in_default : goal.returns-in_default
returns-in_default c = λ v m.
    c.get_alone.ensures v m ∙ sym (set_lacks (declarations_view c.args.declared.now) c.args.given c.args.reads c.args.sets c.in_default.not-Some)

pub returns-then-takes_none : goal.returns-then-takes_none
returns-then-takes_none c = λ v m.
    let d = declarations_view c.args.declared.now in
    c.get_alone-then-takes_none.ensures v m ∙ sym (ap (set_by d c.args.given c.args.reads) c.in-Some.is
    ∙ set_left d c.args.given c.args.reads c.in-Some.procedure (taken_none _ _ c.args.given _ _ c.takes_none.ensures (c.without_last.ensures ∙ ap without_last c.parameters_of.ensures) c.if-takes_none.true))
