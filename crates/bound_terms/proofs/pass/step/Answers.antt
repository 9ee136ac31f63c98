use Rattle.std.proofs.Common.{sym, subst}
use Rattle.std.specs.Prelude.{reverse}
use Rattle.std.proofs.lemmas.Result.{on_ok_weaker}
use Rattle.vba_expression.specs.declared.node.ExpressionNode.{ExpressionNode}
use Rattle.vba_expression.specs.Nodes.{behind_node}
use Rattle.bound_project.specs.DraftView.{draft_view}
use Rattle.bound_accesses.specs.bound_names.specs.bound_members.specs.bound_calls.specs.Steps.{Goes}
use Rattle.bound_accesses.specs.bound_names.specs.View.{env_view}
use Rattle.bound_accesses.specs.bound_names.proofs.Declaring.{env_declares}
use Rattle.bound_terms.proofs.pass.step.Goals as goal

pub returns-in-Literal : goal.returns-in-Literal
returns-in-Literal c =
    let env = env_view c.args.env in
    let d = draft_view c.args.draft.now in
    let xs = reverse c.args.stack.now.items in
    let A : ExpressionNode → Type 0 = λ k. Goes env d xs (draft_view c.step_literal.new.draft) (reverse c.step_literal.new.stack.items) (behind_node k) in
    on_ok_weaker c.step_literal.result (λ g. subst A (sym c.in-Literal.is) (g env (env_declares c.args.env c.requires.env))) c.step_literal.ensures

pub returns-in-Name : goal.returns-in-Name
returns-in-Name c =
    let env = env_view c.args.env in
    let d = draft_view c.args.draft.now in
    let xs = reverse c.args.stack.now.items in
    let A : ExpressionNode → Type 0 = λ k. Goes env d xs (draft_view c.step_name.new.draft) (reverse c.step_name.new.stack.items) (behind_node k) in
    on_ok_weaker c.step_name.result (λ g. subst A (sym c.in-Name.is) (g)) c.step_name.ensures

pub returns-in-Member : goal.returns-in-Member
returns-in-Member c =
    let env = env_view c.args.env in
    let d = draft_view c.args.draft.now in
    let xs = reverse c.args.stack.now.items in
    let A : ExpressionNode → Type 0 = λ k. Goes env d xs (draft_view c.step_member.new.draft) (reverse c.step_member.new.stack.items) (behind_node k) in
    on_ok_weaker c.step_member.result (λ g. subst A (sym c.in-Member.is) g) c.step_member.ensures

pub returns-in-WithMember : goal.returns-in-WithMember
returns-in-WithMember c =
    let env = env_view c.args.env in
    let d = draft_view c.args.draft.now in
    let xs = reverse c.args.stack.now.items in
    let A : ExpressionNode → Type 0 = λ k. Goes env d xs (draft_view c.step_with_member.new.draft) (reverse c.step_with_member.new.stack.items) (behind_node k) in
    on_ok_weaker c.step_with_member.result (λ g. subst A (sym c.in-WithMember.is) g) c.step_with_member.ensures

pub returns-in-Parenthesised : goal.returns-in-Parenthesised
returns-in-Parenthesised c =
    let env = env_view c.args.env in
    let d = draft_view c.args.draft.now in
    let xs = reverse c.args.stack.now.items in
    let A : ExpressionNode → Type 0 = λ k. Goes env d xs (draft_view c.step_parenthesised.new.draft) (reverse c.step_parenthesised.new.stack.items) (behind_node k) in
    on_ok_weaker c.step_parenthesised.result (λ g. subst A (sym c.in-Parenthesised.is) (g env c.in-Parenthesised.left c.in-Parenthesised.right)) c.step_parenthesised.ensures

pub returns-in-Unary : goal.returns-in-Unary
returns-in-Unary c =
    let env = env_view c.args.env in
    let d = draft_view c.args.draft.now in
    let xs = reverse c.args.stack.now.items in
    let A : ExpressionNode → Type 0 = λ k. Goes env d xs (draft_view c.step_unary.new.draft) (reverse c.step_unary.new.stack.items) (behind_node k) in
    on_ok_weaker c.step_unary.result (λ g. subst A (sym c.in-Unary.is) (g env)) c.step_unary.ensures

pub returns-in-Binary : goal.returns-in-Binary
returns-in-Binary c =
    let env = env_view c.args.env in
    let d = draft_view c.args.draft.now in
    let xs = reverse c.args.stack.now.items in
    let A : ExpressionNode → Type 0 = λ k. Goes env d xs (draft_view c.step_binary.new.draft) (reverse c.step_binary.new.stack.items) (behind_node k) in
    on_ok_weaker c.step_binary.result (λ g. subst A (sym c.in-Binary.is) (g env c.args.env.compare_is)) c.step_binary.ensures

pub returns-in-NoArguments : goal.returns-in-NoArguments
returns-in-NoArguments c =
    let env = env_view c.args.env in
    let d = draft_view c.args.draft.now in
    let xs = reverse c.args.stack.now.items in
    let A : ExpressionNode → Type 0 = λ k. Goes env d xs (draft_view c.step_no_arguments.new.draft) (reverse c.step_no_arguments.new.stack.items) (behind_node k) in
    on_ok_weaker c.step_no_arguments.result (λ g. subst A (sym c.in-NoArguments.is) g) c.step_no_arguments.ensures

pub returns-in-MissingArgument : goal.returns-in-MissingArgument
returns-in-MissingArgument c =
    let env = env_view c.args.env in
    let d = draft_view c.args.draft.now in
    let xs = reverse c.args.stack.now.items in
    let A : ExpressionNode → Type 0 = λ k. Goes env d xs (draft_view c.step_missing_argument.new.draft) (reverse c.step_missing_argument.new.stack.items) (behind_node k) in
    on_ok_weaker c.step_missing_argument.result (λ g. subst A (sym c.in-MissingArgument.is) (g env c.in-MissingArgument.comma)) c.step_missing_argument.ensures

pub returns-in-PlainArgument : goal.returns-in-PlainArgument
returns-in-PlainArgument c =
    let env = env_view c.args.env in
    let d = draft_view c.args.draft.now in
    let xs = reverse c.args.stack.now.items in
    let A : ExpressionNode → Type 0 = λ k. Goes env d xs (draft_view c.step_plain_argument.new.draft) (reverse c.step_plain_argument.new.stack.items) (behind_node k) in
    on_ok_weaker c.step_plain_argument.result (λ g. subst A (sym c.in-PlainArgument.is) (g env c.in-PlainArgument.comma)) c.step_plain_argument.ensures

pub returns-in-NamedArgument : goal.returns-in-NamedArgument
returns-in-NamedArgument c =
    let env = env_view c.args.env in
    let d = draft_view c.args.draft.now in
    let xs = reverse c.args.stack.now.items in
    let A : ExpressionNode → Type 0 = λ k. Goes env d xs (draft_view c.step_named_argument.new.draft) (reverse c.step_named_argument.new.stack.items) (behind_node k) in
    on_ok_weaker c.step_named_argument.result (λ g. subst A (sym c.in-NamedArgument.is) (g env c.in-NamedArgument.comma c.in-NamedArgument.colon_equal)) c.step_named_argument.ensures

pub returns-in-Index : goal.returns-in-Index
returns-in-Index c =
    let env = env_view c.args.env in
    let d = draft_view c.args.draft.now in
    let xs = reverse c.args.stack.now.items in
    let A : ExpressionNode → Type 0 = λ k. Goes env d xs (draft_view c.step_index.new.draft) (reverse c.step_index.new.stack.items) (behind_node k) in
    on_ok_weaker c.step_index.result (λ g. subst A (sym c.in-Index.is) (g env (env_declares c.args.env c.requires.env) c.in-Index.left c.in-Index.right)) c.step_index.ensures

pub returns-in-TypeOf : goal.returns-in-TypeOf
returns-in-TypeOf c =
    let env = env_view c.args.env in
    let d = draft_view c.args.draft.now in
    let xs = reverse c.args.stack.now.items in
    let A : ExpressionNode → Type 0 = λ k. Goes env d xs (draft_view c.step_type_of.new.draft) (reverse c.step_type_of.new.stack.items) (behind_node k) in
    on_ok_weaker c.step_type_of.result (λ g. subst A (sym c.in-TypeOf.is) (g c.in-TypeOf.is_word)) c.step_type_of.ensures

pub returns-in-Me : goal.returns-in-Me
returns-in-Me c =
    let env = env_view c.args.env in
    let d = draft_view c.args.draft.now in
    let xs = reverse c.args.stack.now.items in
    let A : ExpressionNode → Type 0 = λ k. Goes env d xs (draft_view c.step_me.new.draft) (reverse c.step_me.new.stack.items) (behind_node k) in
    on_ok_weaker c.step_me.result (λ g. subst A (sym c.in-Me.is) g) c.step_me.ensures

pub returns-in-New : goal.returns-in-New
returns-in-New c =
    let env = env_view c.args.env in
    let d = draft_view c.args.draft.now in
    let xs = reverse c.args.stack.now.items in
    let A : ExpressionNode → Type 0 = λ k. Goes env d xs (draft_view c.step_new.new.draft) (reverse c.step_new.new.stack.items) (behind_node k) in
    on_ok_weaker c.step_new.result (λ g. subst A (sym c.in-New.is) g) c.step_new.ensures
