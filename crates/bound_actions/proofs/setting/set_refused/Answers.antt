use Rattle.std.proofs.Common.{List, length, sym, ap, subst, ◌∙◌}
use Rattle.std.proofs.lemmas.Result.{IfOk-weaker}
use Rattle.bound_project.specs.DraftView.{draft_view}
use Rattle.bound_project.specs.Drafts.{NodeNamed}
use Rattle.bound_terms.specs.bound_accesses.specs.bound_names.specs.View.{env_view}
use Rattle.bound_terms.specs.bound_accesses.specs.bound_names.specs.bound_members.specs.bound_calls.specs.declared.term.Ending.{Ending}
use Rattle.bound_terms.specs.bound_accesses.specs.bound_names.specs.bound_members.specs.bound_calls.specs.declared.term.Refuser.TheVariants as refuser
use Rattle.bound_terms.specs.bound_accesses.specs.bound_names.specs.bound_members.specs.bound_calls.specs.declared.term.Shape.{Shape}
use Rattle.bound_terms.specs.bound_accesses.specs.bound_names.specs.bound_members.specs.bound_calls.specs.declared.term.Term.TheVariants as term
use Rattle.bound_terms.specs.bound_accesses.specs.bound_names.specs.bound_members.specs.bound_calls.specs.Shapes.{shapes_given}
use Rattle.bound_terms.specs.bound_accesses.specs.bound_names.specs.bound_members.specs.bound_calls.specs.Standing.{refused_rule}
use Rattle.statement_terms.specs.Setting.{SetsTerm}
use Rattle.bound_actions.proofs.RefusedMembers.{set_refused}
use Rattle.bound_actions.proofs.setting.set_refused.Goals as goal

pub set_value-requires : goal.set_value-requires
set_value-requires c = (let N : Ending → Type 0 = λ (x : Ending). NodeNamed (draft_view c.read_untaken.new.draft).tables x.kind in subst N (sym c.broken_ending-ending.ensures) tt)

pub returns : goal.returns
returns c =
    let d = draft_view c.args.draft.now in
    let f = draft_view c.read_untaken.new.draft in
    let e = draft_view c.set_value.new.draft in
    IfOk-weaker c.set_value.result _ _
    (λ k s.
    let P : Ending → Type 0 = λ (x : Ending). SetsTerm c.args.set_word c.args.place (term.Value x) f e k in
    set_refused (env_view c.args.env) c.args.set_word c.args.place c.args.member c.in-Some.rule c.in_ok-count.count c.in_ok-values.values c.args.nodes.now c.in_ok-shapes.shapes.items d f e k c.requires.named c.in_ok-shapes.ensures
    (sym c.in-Some.is ∙ c.in_ok-rule.ensures ∙ ap (λ (l : List Shape). refused_rule f.tables (refuser.Member c.args.member) (shapes_given l)) c.deref.ensures.value)
    (c.in_ok-count.ensures ∙ ap (λ (l : List Shape). length l) c.deref-2.ensures.value) c.in_ok-values.ensures (subst P c.broken_ending-ending.ensures s)) c.set_value.ensures
