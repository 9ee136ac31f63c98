use Rattle.std.proofs.lemmas.Result.{IfOk-weaker}
use Rattle.bound_project.specs.View.{declarations_view}
use Rattle.statement_terms.proofs.targets.assign_value.Goals as goal

pub assign_known-requires-clause-gives : goal.assign_known-requires-clause-gives
assign_known-requires-clause-gives c = c.if-not-gives_object.ensures

pub returns-then-not-gives_object : goal.returns-then-not-gives_object
returns-then-not-gives_object c = IfOk-weaker c.assign_constant.result _ _ (λ k h may. h (declarations_view c.args.declared.now) c.args.has_class may) c.assign_constant.ensures

pub returns : goal.returns
returns c = IfOk-weaker c.assign_known.result _ _ (λ k h may. h (declarations_view c.args.declared.now) may c.in-Some.ensures) c.assign_known.ensures
