use Rattle.std.proofs.Common.{◌==◌, true, false, not, sym, subst}
use Rattle.vba_tree.specs.View.{variable_view}
use Rattle.bound_project.specs.DraftView.{draft_view}
use Rattle.bound_project.specs.declared.node.NodeKind.TheVariants as kinds
use Rattle.bound_members.specs.bound_calls.specs.bound_declarations.specs.constant_values.specs.declared_names.specs.binder.specs.Declarations.{What}
use Rattle.bound_members.specs.bound_calls.specs.bound_declarations.specs.constant_values.specs.declared_names.specs.View.{space_view}
use Rattle.bound_members.specs.bound_calls.specs.declared.term.Term.TheVariants as term
use Rattle.bound_names.specs.ClassMembers.{MakesEntryOf}
use Rattle.bound_names.specs.View.{env_view}
use Rattle.bound_names.proofs.Objects.{variable_there, variable_made}
use Rattle.bound_names.proofs.classes.object_variable.Goals as goal

pub returns-in-None : goal.returns-in-None
returns-in-None c =
    let env = env_view c.args.env in
    let space = space_view c.args.space.now in
    let e = c.args.entry in
    let d = draft_view c.args.draft.now in
    let x = c.in_ok-field.shape in
    let i = c.in_ok-field.field in
    let P : What → Type 0 = λ (w : What). MakesEntryOf env space c.args.number (record { name = e.name.now; is_public = e.is_public; what = w }) d d (term.Place (kinds.ObjectField i x.of (not (x.bounds == 0))) x.of x.bounds false false) in
    subst P (sym c.requires.what)
    (variable_there env space c.args.number e.name.now e.is_public (variable_view c.args.variable.now) i x d c.in_ok-field.ensures.shape c.in_ok-field.ensures.number c.in-None.ensures)

pub returns-in_ok-push_node-in-Some : goal.returns-in_ok-push_node-in-Some
returns-in_ok-push_node-in-Some c =
    let env = env_view c.args.env in
    let space = space_view c.args.space.now in
    let e = c.args.entry in
    let d = draft_view c.args.draft.now in
    let g = draft_view c.push_node.new.draft in
    let x = c.in_ok-field.shape in
    let i = c.in_ok-field.field in
    let P : What → Type 0 = λ (w : What). MakesEntryOf env space c.args.number (record { name = e.name.now; is_public = e.is_public; what = w }) d g (term.Place (kinds.AsNew c.in-Some.class) x.of x.bounds false true) in
    subst P (sym c.requires.what)
    (variable_made env space c.args.number e.name.now e.is_public (variable_view c.args.variable.now) i c.in-Some.class x c.args.place d g c.in_ok-field.ensures.shape c.in_ok-field.ensures.number c.in-Some.ensures
    c.in_ok-push_node-in-Some.ensures)
