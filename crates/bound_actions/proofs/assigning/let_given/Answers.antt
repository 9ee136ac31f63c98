use Rattle.std.proofs.lemmas.Result.{IfOk-weaker}
use Rattle.std.specs.Prelude.{map}
use Rattle.bound_project.specs.DraftView.{draft_view}
use Rattle.bound_project.specs.View.{parameter_view}
use Rattle.bound_terms.specs.bound_accesses.specs.bound_names.specs.View.{env_view}
use Rattle.statement_terms.specs.Called.{LetsOn, LetsWith}
use Rattle.bound_actions.proofs.Assigned.{lets_given}
use Rattle.bound_actions.proofs.assigning.let_given.Goals as goal

pub returns : goal.returns
returns c =
    let env = env_view c.args.env in
    let w = c.args.writer in
    let g = c.in_ok-property in
    let ns = c.args.nodes.now in
    let d = draft_view c.args.draft.now in
    let e = draft_view c.let_passed.new.draft in
    IfOk-weaker c.let_passed.result (λ k. LetsWith env c.args.place (map parameter_view g.front.now) g.property ns d e k) (λ k. LetsOn c.args.sets env w.property c.args.place ns d e k)
    (λ k h. lets_given c.args.sets env w g.property g.front.now c.args.place ns d e k c.requires.writer g.ensures h) c.let_passed.ensures
