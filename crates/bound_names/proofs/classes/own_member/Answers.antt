use Rattle.std.proofs.Common.{ap, sym, subst}
use Rattle.std.specs.Prelude.{IfOk}
use Rattle.std.proofs.lemmas.Result.{IfOk-weaker}
use Rattle.vba_words.specs.declared.identifier.Identifier.{Identifier}
use Rattle.vba_tree.specs.View.{variable_view}
use Rattle.bound_project.specs.Drafts.{Drafted}
use Rattle.bound_members.specs.bound_calls.specs.bound_forms.specs.Terms.{a_method}
use Rattle.bound_members.specs.bound_calls.specs.bound_forms.specs.ExpressionsBound.{entry_term, own_object}
use Rattle.bound_members.specs.bound_calls.specs.bound_declarations.specs.constant_values.specs.declared_names.specs.declared.entry.What.{What}
use Rattle.bound_members.specs.bound_calls.specs.bound_declarations.specs.constant_values.specs.declared_names.specs.View.{space_view, what_view, written_view}
use Rattle.bound_members.specs.bound_calls.specs.Steps.{MakesLeaf}
use Rattle.bound_names.specs.View.{env_view}
use Rattle.bound_names.proofs.NamedTerms.{leaf_as, own_entry_variable, own_entry_procedure}
use Rattle.bound_names.proofs.RoutineTerms.{own_leaf}
use Rattle.bound_names.proofs.classes.own_member.Goals as goal

pub own_field-requires-clause-what : goal.own_field-requires-clause-what
own_field-requires-clause-what c = ap what_view c.in-Variable.is

pub returns-in-Variable : goal.returns-in-Variable
returns-in-Variable c =
    let env = env_view c.args.env in
    let space = space_view c.args.space.now in
    let n = c.args.number in
    let e = c.args.entry in
    let P : What → Type 0 = λ (w : What). IfOk c.own_field.result
    (λ t. (d : Drafted) (x : Identifier) → MakesLeaf env d d t (entry_term env x space n (record { name = e.name.now; is_public = e.is_public; what = what_view w }))) in
    subst P (sym c.in-Variable.is)
    (IfOk-weaker c.own_field.result _ _ (λ t m d x. leaf_as env d d t _ _ (sym (own_entry_variable env x space n e.name.now e.is_public (variable_view c.in-Variable.variable.now) c.requires.class)) (m d)) c.own_field.ensures)

pub procedure_term-requires-clause-what : goal.procedure_term-requires-clause-what
procedure_term-requires-clause-what c = ap what_view c.in-Procedure.is

pub returns-in_ok-of-in-Procedure : goal.returns-in_ok-of-in-Procedure
returns-in_ok-of-in-Procedure c =
    let env = env_view c.args.env in
    let space = space_view c.args.space.now in
    let n = c.args.number in
    let e = c.args.entry in
    let w = written_view c.in-Procedure.written in
    let P : What → Type 0 = λ (k : What). IfOk c.procedure_term.result
    (λ t. (d : Drafted) (x : Identifier) → MakesLeaf env d d t (entry_term env x space n (record { name = e.name.now; is_public = e.is_public; what = what_view k }))) in
    subst P (sym c.in-Procedure.is)
    (IfOk-weaker c.procedure_term.result _ _ (λ t m d x. leaf_as env d d t (a_method (own_object env) space n w) _ (sym (own_entry_procedure env x space n e.name.now e.is_public w c.requires.class))
    (own_leaf env c.in_ok-of-in-Procedure.of space n w t d c.in_ok-of-in-Procedure.ensures m)) c.procedure_term.ensures)
