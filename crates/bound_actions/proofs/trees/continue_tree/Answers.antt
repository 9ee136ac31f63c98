use Rattle.std.proofs.Common.{◌≡◌, List, [], ◌∷◌, sym, ap, ◌∙◌}
use Rattle.std.specs.Prelude.{reverse}
use Rattle.std.proofs.lemmas.Bool.{eqb-true}
use Rattle.std.proofs.lemmas.List.{nil_from_length}
use Rattle.bound_project.specs.DraftView.{draft_view}
use Rattle.bound_terms.specs.bound_accesses.specs.bound_names.specs.bound_members.specs.bound_calls.specs.declared.term.Item.{Item}
use Rattle.bound_terms.specs.bound_accesses.specs.bound_names.specs.bound_members.specs.bound_calls.specs.declared.term.Item.TheVariants as item
use Rattle.bound_terms.specs.bound_accesses.specs.bound_names.specs.View.{env_view}
use Rattle.statement_terms.proofs.NodeTrees.{continues}
use Rattle.bound_actions.proofs.trees.continue_tree.Goals as goal

pub returns-then-is_empty : goal.returns-then-is_empty
returns-then-is_empty c =
    let v = c.take_item.new.stack in
    let empty : v.items ≡ [] = nil_from_length v.items (sym v.ok.0 ∙ eqb-true v.len 0 (sym c.if-is_empty.ensures)) in
    let none : reverse v.items ≡ [] = ap (λ (l : List Item). reverse l) empty in
    let start : reverse c.put_item.new.stack.items ≡ item.Tree c.args.tree ∷ [] = c.in_ok-put_item.ensures ∙ ap (λ l. item.Tree c.args.tree ∷ reverse l) c.new-stack.ensures.items in
    continues (env_view c.args.env) c.args.nodes.now c.args.tree c.in-Some-Tree.more (reverse c.run.new.stack.items) (reverse v.items) (reverse c.put_item.new.stack.items) (draft_view c.args.draft.now) (draft_view c.run.new.draft) start
    (c.in-Some-Tree.ensures ∙ ap (λ i. i ∷ reverse v.items) c.in-Some-Tree.field-0-is) none c.in_ok-run.ensures
