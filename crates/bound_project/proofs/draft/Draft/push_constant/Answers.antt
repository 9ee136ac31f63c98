use Rattle.std.proofs.Common.{◌<◌, ◌++◌, ◌∷◌, [], length, ap, ◌∙◌, subst, sym, arith, length-append}
use Rattle.vba_values.specs.Val.{Val}
use Rattle.vba_values.specs.View.{view as value_view}
use Rattle.bound_project.specs.declared.node.Node.{Node}
use Rattle.bound_project.specs.declared.node.NodeKind.TheVariants.{Constant}
use Rattle.bound_project.specs.Expressions.{constant}
use Rattle.bound_project.specs.Pieces.{expr_of, put}
use Rattle.bound_project.specs.Drafts.{Drafted, with_constant}
use Rattle.bound_project.specs.DraftView.{draft_view}
use Rattle.bound_project.proofs.Drafts.{constant_last}
use Rattle.bound_project.proofs.draft.Draft.push_constant.Goals as goal

pub push-requires : goal.push-requires
push-requires c =
    let d = draft_view c.args.self.now in
    let v = value_view c.args.value in
    let lt : c.in_ok-constant.constant < length (d.tables.constants ++ v ∷ []) = omega (arith, c.in_ok-constant.ensures.number, length-append d.tables.constants (v ∷ [])) in
    subst (λ (x : Drafted). c.in_ok-constant.constant < length x.tables.constants) (sym c.in_ok-constant.ensures.draft) lt

pub returns : goal.returns
returns c =
    let d = draft_view c.args.self.now in
    let v = value_view c.args.value in
    let n : Node = record { kind = Constant c.in_ok-constant.constant; place = c.args.place; of = c.args.of; operand = c.args.operand } in
    c.in_ok-push.ensures ∙ ap (λ (x : Drafted). record x { pieces = put x.tables n x.pieces }) c.in_ok-constant.ensures.draft
    ∙ ap (λ (w : Val). record d { tables = with_constant d.tables v; pieces = expr_of n (constant w) ∷ d.pieces }) (constant_last d.tables v c.in_ok-constant.constant c.in_ok-constant.ensures.number)
