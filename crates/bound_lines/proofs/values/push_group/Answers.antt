use Rattle.std.proofs.Common.{Bool, refl, subst}
use Rattle.std.specs.Prelude.{IfSome}
use Rattle.vba_expression.specs.View.{view}
use Rattle.bound_project.specs.DraftView.{draft_view}
use Rattle.bound_terms.specs.bound_accesses.specs.bound_names.specs.View.{env_view}
use Rattle.bound_terms.specs.bound_accesses.specs.bound_names.specs.bound_members.specs.bound_calls.specs.References.{IsInstance}
use Rattle.statement_nodes.proofs.Walking.{group_pushed}
use Rattle.bound_lines.proofs.values.push_group.Goals as goal

pub push_node-requires : goal.push_node-requires
push_node-requires c = c.in_ok-ending.ensures.named

pub returns : goal.returns
returns c =
    let tree = c.in_ok-tree.tree in
    let ending = c.in_ok-ending.ending in
    let m = draft_view c.given_ending.new.draft in
    let A : Bool → Type 0 = λ (has : Bool). IfSome c.instance_of-may_be.result (λ (may : Bool). IsInstance has m.tables ending may) in
    group_pushed (env_view c.args.env) (view c.args.expression.now) tree ending c.instance_of-may_be.result tree.place (draft_view c.args.draft.now) (draft_view c.tree_of.new.draft) m (draft_view c.push_node.new.draft) c.in_ok-tree.ensures
    c.in_ok-ending.ensures (subst A c.args.env.has_class_is c.instance_of-may_be.ensures) c.in_ok-push_node.ensures refl
