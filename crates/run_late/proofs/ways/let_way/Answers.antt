use Rattle.std.proofs.Common.{sym, ap, ◌∙◌}
use Rattle.std.specs.Prelude.{ℕ, Option}
use Rattle.bound_project.specs.Project.{is_property}
use Rattle.bound_project.specs.View.{declarations_view}
use Rattle.bound_project.specs.Parameters.{without_last}
use Rattle.vba_meaning.specs.LateBound.{assigned_way}
use Rattle.run_late.proofs.Uses.{let_lacks, let_left, taken_none}
use Rattle.run_late.proofs.ways.let_way.Goals as goal

pub returns-in_default : goal.returns-in_default
returns-in_default c = λ v m sets.
    c.get_for_object.ensures v m ∙ sym (let_lacks (declarations_view c.args.declared.now) c.args.given v c.args.reads c.args.lets sets m c.in_default.not-Some)

pub returns-then-takes_none : goal.returns-then-takes_none
returns-then-takes_none c = λ v m sets.
    let d = declarations_view c.args.declared.now in
    c.get_for_object-then-takes_none.ensures v m ∙ sym (ap (λ (o : Option ℕ). assigned_way d c.args.given v (is_property c.args.reads o sets) m) c.in-Some.is
    ∙ let_left d c.args.given v c.args.reads sets c.in-Some.procedure m (taken_none _ _ c.args.given _ _ c.takes_none.ensures (c.without_last.ensures ∙ ap without_last c.parameters_of.ensures) c.if-takes_none.true))
