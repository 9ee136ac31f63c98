use Rattle.std.proofs.Common.{◌≡◌, List, [], ◌∷◌, sym, ap, subst, ◌∙◌}
use Rattle.std.specs.Prelude.{reverse}
use Rattle.std.proofs.lemmas.Bool.{eqb-true}
use Rattle.std.proofs.lemmas.List.{nil_from_length}
use Rattle.vba_expression.specs.Nodes.{behind_nodes}
use Rattle.bound_project.specs.DraftView.{draft_view}
use Rattle.bound_terms.specs.bound_accesses.specs.bound_names.specs.bound_members.specs.bound_calls.specs.declared.term.Item.{Item}
use Rattle.bound_terms.specs.bound_accesses.specs.bound_names.specs.bound_members.specs.bound_calls.specs.Steps.{Goes}
use Rattle.bound_terms.specs.bound_accesses.specs.bound_names.specs.View.{env_view}
use Rattle.statement_terms.proofs.NodeTrees.{leaves_alone}
use Rattle.bound_actions.proofs.trees.nodes_tree.Goals as goal

pub returns-then-is_empty : goal.returns-then-is_empty
returns-then-is_empty c =
    let env = env_view c.args.env in
    let d = draft_view c.args.draft.now in
    let e = draft_view c.run.new.draft in
    let ns = c.args.nodes.now in
    let x = c.in-Some-Tree.tree in
    let v = c.take_item.new.stack in
    let ys = reverse c.run.new.stack.items in
    let empty : v.items ≡ [] = nil_from_length v.items (sym v.ok.0 ∙ eqb-true v.len 0 (sym c.if-is_empty.ensures)) in
    let none : reverse v.items ≡ [] = ap (λ (l : List Item). reverse l) empty in
    let G : List Item → Type 0 = λ l. Goes env d (reverse l) e ys (λ is. behind_nodes is ns) in
    leaves_alone env ns x ys (reverse v.items) d e (c.in-Some-Tree.ensures ∙ ap (λ i. i ∷ reverse v.items) c.in-Some-Tree.field-0-is) none (subst G c.new-stack.ensures.items c.in_ok-run.ensures)
