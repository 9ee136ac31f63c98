use Rattle.std.proofs.Common.{Option, sym, ap, ◌∙◌}
use Rattle.std.specs.Prelude.{reverse}
use Rattle.bound_project.specs.DraftView.{draft_view}
use Rattle.declared_names.specs.binder.specs.Types.{TypeMeant, meant_type}
use Rattle.bound_accesses.specs.bound_names.specs.View.{env_view}
use Rattle.bound_accesses.specs.bound_names.proofs.Declaring.{env_declares}
use Rattle.bound_terms.proofs.TypesAsked.{goes_new}
use Rattle.bound_terms.proofs.step.step_new.Goals as goal

pub returns : goal.returns
returns c =
    let env = env_view c.args.env in
    goes_new env c.args.env.declared (env_declares c.args.env c.requires.env) c.args.new_word c.args.class.now c.in-Some.number c.meant_type-of.result (reverse c.args.stack.now.items) (reverse c.settle.new.stack.items) (reverse c.put_item.new.stack.items) (draft_view c.args.draft.now)
    (draft_view c.settle.new.draft) (c.in_ok-settle.ensures env) (c.meant_type-of.ensures ∙ ap (λ (o : Option TypeMeant). meant_type o) c.in_ok-meant.ensures) (sym c.in-Some.ensures) c.in_ok-put_item.ensures
