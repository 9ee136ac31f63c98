use Rattle.std.proofs.Common.{◌≡◌, List, map, ap, subst, ◌∙◌}
use Rattle.std.specs.Prelude.{IfOk}
use Rattle.bound_project.specs.DraftView.{draft_view}
use Rattle.bound_project.specs.View.{parameter_view}
use Rattle.bound_project.specs.Project.{Parameter}
use Rattle.bound_terms.specs.bound_accesses.specs.bound_names.specs.bound_members.specs.bound_calls.specs.bound_forms.specs.StatementsBound.{raise_parameters}
use Rattle.bound_project.specs.declared.declarations.Parameter.{Parameter as Held}
use Rattle.statement_terms.specs.Called.{PassesAll}
use Rattle.bound_terms.specs.bound_accesses.specs.bound_names.specs.View.{env_view}
use Rattle.bound_actions.proofs.raising.push_raised.Goals as goal

pub returns : goal.returns
returns c =
    let A : List Parameter → Type 0 = λ ps. IfOk c.push_arguments.result (λ n. PassesAll (env_view c.args.env) ps c.args.nodes.now (draft_view c.args.draft.now) (draft_view c.push_arguments.new.draft) n.0 n.1) in
    let all : map parameter_view c.as_slice.result.now ≡ raise_parameters = ap (λ (l : List Held). map parameter_view l) c.as_slice.ensures.value ∙ c.in_ok-parameters.ensures in
    subst A all c.push_arguments.ensures
