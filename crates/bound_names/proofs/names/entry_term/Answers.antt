use Rattle.std.proofs.Common.{◌≡◌, Some, sym, subst}
use Rattle.std.proofs.lemmas.Result.{IfOk-weaker}
use Rattle.bound_project.specs.DraftView.{draft_view}
use Rattle.vba_expression.specs.View.{view as expression_view}
use Rattle.vba_tree.specs.View.{constant_view}
use Rattle.std.specs.Prelude.{option_map}
use Rattle.bound_members.specs.bound_calls.specs.bound_declarations.specs.constant_values.specs.declared_names.specs.binder.specs.Scopes.{of_module}
use Rattle.bound_members.specs.bound_calls.specs.bound_forms.specs.ExpressionsBound.{entry_term, constant_term}
use Rattle.bound_members.specs.bound_calls.specs.bound_declarations.specs.constant_values.specs.declared_names.specs.declared.entry.What.{What}
use Rattle.bound_members.specs.bound_calls.specs.bound_declarations.specs.constant_values.specs.declared_names.specs.View.{entry_view, space_view, what_view}
use Rattle.bound_names.specs.View.{env_view}
use Rattle.bound_names.proofs.NamedTerms.{leaf_as, entry_constant, entry_member}
use Rattle.bound_names.proofs.names.entry_term.Goals as goal

pub returns-in-Constant : goal.returns-in-Constant
returns-in-Constant c =
    let env = env_view c.args.env in
    let x = c.args.name.now in
    let space = space_view c.args.space.now in
    let n = c.args.number in
    let e = c.args.entry in
    let P : What → Type 0 = λ (w : What). entry_term env x space n (record { name = e.name.now; is_public = e.is_public; what = what_view w })
    ≡ constant_term env x (Some (of_module space n (record { name = e.name.now; is_public = e.is_public; what = what_view w }))) in
    let is : entry_term env x space n (entry_view e) ≡ constant_term env x (Some (of_module space n (entry_view e))) =
    subst P (sym c.in-Constant.is) (entry_constant env x space n e.name.now e.is_public (constant_view c.in-Constant.field-0.now)) in
    IfOk-weaker c.constant_term.result _ _ (λ t m. leaf_as env (draft_view c.args.draft.now) (draft_view c.constant_term.new.draft) t _ _ (sym is) m) c.constant_term.ensures

pub returns-in-Member : goal.returns-in-Member
returns-in-Member c =
    let env = env_view c.args.env in
    let x = c.args.name.now in
    let space = space_view c.args.space.now in
    let n = c.args.number in
    let e = c.args.entry in
    let P : What → Type 0 = λ (w : What). entry_term env x space n (record { name = e.name.now; is_public = e.is_public; what = what_view w })
    ≡ constant_term env x (Some (of_module space n (record { name = e.name.now; is_public = e.is_public; what = what_view w }))) in
    let is : entry_term env x space n (entry_view e) ≡ constant_term env x (Some (of_module space n (entry_view e))) =
    subst P (sym c.in-Member.is) (entry_member env x space n e.name.now e.is_public (option_map (λ i. expression_view i.now) c.in-Member.value) c.in-Member.steps) in
    IfOk-weaker c.constant_term-in-Member.result _ _ (λ t m. leaf_as env (draft_view c.args.draft.now) (draft_view c.constant_term-in-Member.new.draft) t _ _ (sym is) m) c.constant_term-in-Member.ensures

pub returns-in_default : goal.returns-in_default
returns-in_default c = IfOk-weaker c.standard_term.result _ _ (λ t m. m (draft_view c.args.draft.now) c.args.name.now) c.standard_term.ensures
