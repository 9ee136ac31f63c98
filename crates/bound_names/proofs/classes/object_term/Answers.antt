use Rattle.std.proofs.Common.{ap, sym, subst}
use Rattle.std.specs.Prelude.{IfOk}
use Rattle.std.proofs.lemmas.Result.{IfOk-weaker}
use Rattle.bound_project.specs.DraftView.{draft_view}
use Rattle.bound_project.specs.declared.declared_type.DeclaredType.TheVariants.{Plain}
use Rattle.bound_project.specs.declared.declared_type.ElementType.TheVariants as element
use Rattle.bound_members.specs.bound_calls.specs.bound_declarations.specs.constant_values.specs.declared_names.specs.declared.entry.What.{What}
use Rattle.bound_members.specs.bound_calls.specs.bound_declarations.specs.constant_values.specs.declared_names.specs.View.{space_view, what_view, written_view}
use Rattle.bound_names.specs.ClassMembers.{MakesEntryOf}
use Rattle.bound_names.specs.View.{env_view}
use Rattle.bound_names.proofs.Objects.{procedure_there}
use Rattle.bound_names.proofs.classes.object_term.Goals as goal

pub object_variable-requires-clause-what : goal.object_variable-requires-clause-what
object_variable-requires-clause-what c = ap what_view c.in-Variable.is

pub procedure_term-requires-clause-what : goal.procedure_term-requires-clause-what
procedure_term-requires-clause-what c = ap what_view c.in-Procedure.is

pub returns-in-Procedure : goal.returns-in-Procedure
returns-in-Procedure c =
    let env = env_view c.args.env in
    let space = space_view c.args.space.now in
    let n = c.args.number in
    let e = c.args.entry in
    let d = draft_view c.args.draft.now in
    let P : What → Type 0 = λ (k : What). IfOk c.procedure_term.result (λ t. MakesEntryOf env space n (record { name = e.name.now; is_public = e.is_public; what = what_view k }) d d t) in
    subst P (sym c.in-Procedure.is)
    (IfOk-weaker c.procedure_term.result _ _ (λ t m. procedure_there env (Plain (element.Class c.args.class)) space n e.name.now e.is_public (written_view c.in-Procedure.written) t d m) c.procedure_term.ensures)
