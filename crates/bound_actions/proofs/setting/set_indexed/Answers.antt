use Rattle.std.proofs.Common.{Option, sym, subst}
use Rattle.std.proofs.lemmas.Result.{IfOk-weaker}
use Rattle.bound_project.specs.DraftView.{draft_view}
use Rattle.bound_project.specs.declared.declared_type.DeclaredType.{DeclaredType}
use Rattle.bound_terms.specs.bound_accesses.specs.bound_names.specs.bound_members.specs.bound_calls.specs.declared.term.Receiver.{Receiver}
use Rattle.bound_terms.specs.bound_accesses.specs.bound_names.specs.View.{env_view}
use Rattle.bound_actions.specs.NoTargets.{TypesProperty}
use Rattle.bound_actions.proofs.SetTargets.{indexed_other, indexed_property}
use Rattle.bound_actions.proofs.setting.set_indexed.Goals as goal

pub set_term-requires : goal.set_term-requires
set_term-requires c = c.in_ok-more.ensures.goes.named.0

pub returns-in-Some : goal.returns-in-Some
returns-in-Some c =
    let d = draft_view c.args.draft.now in
    let e = draft_view c.set_property.new.draft in
    let T : Option (Receiver × DeclaredType) → Type 0 = λ (o : Option (Receiver × DeclaredType)). TypesProperty (env_view c.args.env) c.args.before.term o in
    IfOk-weaker c.set_property.result _ _
    (λ k s. indexed_property c.args.set_word (env_view c.args.env) c.args.before c.args.split c.in-Some.receiver c.in-Some.of d e k c.requires.one (subst T c.in-Some.is c.in_ok-receiver.ensures) s) c.set_property.ensures

pub returns : goal.returns
returns c =
    let d = draft_view c.args.draft.now in
    let h = draft_view c.continue_tree.new.draft in
    let e = draft_view c.set_term.new.draft in
    let T : Option (Receiver × DeclaredType) → Type 0 = λ (o : Option (Receiver × DeclaredType)). TypesProperty (env_view c.args.env) c.args.before.term o in
    IfOk-weaker c.set_term.result _ _
    (λ k s. indexed_other c.args.set_word c.args.env.has_class (env_view c.args.env) (sym c.args.env.has_class_is) c.args.before c.args.split c.in_ok-more.more d h e k c.requires.one (subst T c.in_default.is c.in_ok-receiver.ensures) c.requires.keeps c.in_ok-more.ensures s)
    c.set_term.ensures
