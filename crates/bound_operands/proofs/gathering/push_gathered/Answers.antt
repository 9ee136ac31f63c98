use Rattle.std.proofs.Common.{◌+◌, refl, ap, ◌∙◌}
use Rattle.bound_project.specs.DraftView.{draft_view}
use Rattle.bound_project.specs.declared.node.NodeKind.TheVariants as kind
use Rattle.bound_members.specs.bound_calls.specs.Calls.{node_of}
use Rattle.bound_operands.proofs.ParamArrays.{passes_gathered}
use Rattle.bound_operands.proofs.gathering.push_gathered.Goals as goal

pub returns : goal.returns
returns c =
    let x = c.in-Some.parameter.now in
    let others = c.in-Some.left.now in
    passes_gathered c.args.passed c.args.values x others (draft_view c.args.draft.now) (draft_view c.push_node.new.draft) (draft_view c.pass_rest.new.draft) c.in_ok-others.others c.in_ok-arguments.arguments
    (node_of (kind.ByList c.args.values) c.nowhere.result x.of) refl c.in-Some.ensures.cases.0 c.in_ok-others.ensures (c.in_ok-arguments.ensures ∙ ap (λ n. n + c.in_ok-others.others) c.in_ok-given.ensures) c.in_ok-push_node.ensures c.in_ok-pass_rest.ensures
