use Rattle.std.proofs.Common.{◌∷◌, ap, ◌∙◌}
use Rattle.std.specs.Prelude.{reverse}
use Rattle.bound_project.specs.DraftView.{draft_view}
use Rattle.bound_accesses.specs.bound_names.specs.View.{env_view}
use Rattle.bound_terms.proofs.Beginnings.{goes_begin}
use Rattle.bound_terms.proofs.call_steps.step_no_arguments.Goals as goal

pub returns : goal.returns
returns c =
    let x = c.in-Some-Tree.tree in
    let xs = reverse c.take_item.new.stack.items in
    goes_begin (env_view c.args.env) x c.in_ok-item.item xs (reverse c.args.stack.now.items) (reverse c.put_item.new.stack.items) (draft_view c.args.draft.now) (draft_view c.begin_arguments.new.draft)
    (c.in-Some-Tree.ensures ∙ ap (λ i. i ∷ xs) c.in-Some-Tree.field-0-is) c.in_ok-put_item.ensures c.requires.named c.in_ok-item.ensures
