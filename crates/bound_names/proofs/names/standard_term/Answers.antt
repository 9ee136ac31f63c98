use Rattle.std.proofs.Common.{◌≡◌, false, ap, sym, subst, ◌∙◌}
use Rattle.std.specs.Prelude.{IfOk}
use Rattle.std.proofs.lemmas.Result.{IfOk-weaker}
use Rattle.vba_words.specs.declared.identifier.Identifier.{Identifier}
use Rattle.vba_tree.specs.View.{variable_view}
use Rattle.bound_project.specs.Drafts.{Drafted}
use Rattle.bound_members.specs.bound_calls.specs.bound_forms.specs.Terms.{a_routine}
use Rattle.bound_members.specs.bound_calls.specs.bound_forms.specs.ExpressionsBound.{entry_term}
use Rattle.bound_members.specs.bound_calls.specs.bound_declarations.specs.constant_values.specs.declared_names.specs.declared.entry.What.{What}
use Rattle.bound_members.specs.bound_calls.specs.bound_declarations.specs.constant_values.specs.declared_names.specs.View.{space_view, what_view, written_view}
use Rattle.bound_members.specs.bound_calls.specs.Steps.{MakesLeaf}
use Rattle.bound_names.specs.View.{env_view}
use Rattle.bound_names.proofs.NamedTerms.{leaf_as, entry_variable, entry_procedure}
use Rattle.bound_names.proofs.names.standard_term.Goals as goal
use Rattle.bound_names.proofs.RoutineTerms.{module_leaf}

pub module_variable-requires-clause-standard : goal.module_variable-requires-clause-standard
module_variable-requires-clause-standard c = sym c.is_class.ensures ∙ c.if-is_class.false

pub module_variable-requires-clause-what : goal.module_variable-requires-clause-what
module_variable-requires-clause-what c = ap what_view c.in-Variable.is

pub returns-in-Variable : goal.returns-in-Variable
returns-in-Variable c =
    let env = env_view c.args.env in
    let space = space_view c.args.space.now in
    let n = c.args.number in
    let e = c.args.entry in
    let class : space.source.is_class ≡ false = sym c.is_class.ensures ∙ c.if-is_class.false in
    let P : What → Type 0 = λ (w : What). IfOk c.module_variable.result
    (λ t. (d : Drafted) (x : Identifier) → MakesLeaf env d d t (entry_term env x space n (record { name = e.name.now; is_public = e.is_public; what = what_view w }))) in
    subst P (sym c.in-Variable.is)
    (IfOk-weaker c.module_variable.result _ _ (λ t m d x. leaf_as env d d t _ _ (sym (entry_variable env x space n e.name.now e.is_public (variable_view c.in-Variable.variable.now) class)) (m d)) c.module_variable.ensures)

pub procedure_term-requires-clause-what : goal.procedure_term-requires-clause-what
procedure_term-requires-clause-what c = ap what_view c.in-Procedure.is

pub returns-in-Procedure : goal.returns-in-Procedure
returns-in-Procedure c =
    let env = env_view c.args.env in
    let space = space_view c.args.space.now in
    let n = c.args.number in
    let e = c.args.entry in
    let w = written_view c.in-Procedure.written in
    let class : space.source.is_class ≡ false = sym c.is_class.ensures ∙ c.if-is_class.false in
    let P : What → Type 0 = λ (k : What). IfOk c.procedure_term.result
    (λ t. (d : Drafted) (x : Identifier) → MakesLeaf env d d t (entry_term env x space n (record { name = e.name.now; is_public = e.is_public; what = what_view k }))) in
    subst P (sym c.in-Procedure.is)
    (IfOk-weaker c.procedure_term.result _ _ (λ t m d x. leaf_as env d d t (a_routine space n w) _ (sym (entry_procedure env x space n e.name.now e.is_public w class)) (module_leaf env space n w t d m)) c.procedure_term.ensures)

pub own_member-requires-clause-class : goal.own_member-requires-clause-class
own_member-requires-clause-class c = sym c.is_class.ensures ∙ c.if-is_class.true
