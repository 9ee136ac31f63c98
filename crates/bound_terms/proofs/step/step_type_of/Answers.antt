use Rattle.std.proofs.Common.{Option, ◌∷◌, ap, ◌∙◌}
use Rattle.std.specs.Prelude.{reverse}
use Rattle.bound_project.specs.DraftView.{draft_view}
use Rattle.declared_names.specs.binder.specs.Types.{TypeMeant, meant_type}
use Rattle.bound_accesses.specs.bound_names.specs.View.{env_view}
use Rattle.bound_terms.proofs.TypesAsked.{goes_type_of}
use Rattle.bound_terms.proofs.step.step_type_of.Goals as goal

pub returns : goal.returns
returns c =
    let x = c.in-Some-Tree.tree in
    let xs = reverse c.take_item.new.stack.items in
    let d = draft_view c.args.draft.now in
    let e = draft_view c.push_given.new.draft in
    λ is_word. goes_type_of (env_view c.args.env) x c.args.type_of_word is_word c.args.class.now c.meant_type.result c.in_ok-push_given.field-0 xs (reverse c.args.stack.now.items) (reverse c.put_item.new.stack.items) d e
    (c.in-Some-Tree.ensures ∙ ap (λ i. i ∷ xs) c.in-Some-Tree.field-0-is) c.in_ok-put_item.ensures c.requires (c.meant_type.ensures ∙ ap (λ (o : Option TypeMeant). meant_type o) c.in_ok-meant.ensures) c.in_ok-push_given.ensures
