use Rattle.std.proofs.Common.{sym, subst}
use Rattle.std.proofs.lemmas.Result.{IfOk-weaker}
use Rattle.bound_project.specs.DraftView.{draft_view}
use Rattle.bound_members.specs.bound_calls.specs.bound_declarations.specs.constant_values.specs.declared_names.specs.View.{entry_view, scope_view, space_view}
use Rattle.bound_members.specs.bound_calls.specs.declared.term.Term.{Term}
use Rattle.bound_names.specs.ClassMembers.{MakesMemberOf}
use Rattle.bound_names.specs.View.{env_view}
use Rattle.bound_names.proofs.Objects.{class_found, entry_found, member_of_entry, no_member}
use Rattle.bound_names.proofs.classes.member_in.Goals as goal

pub object_term-requires-clause-there : goal.object_term-requires-clause-there
object_term-requires-clause-there c =
    let s = scope_view c.args.env.constants.scope in
    let space = space_view c.args.space.now in
    let found = class_found s.spaces c.args.class space c.requires.env.placed.numbered c.requires.found in
    (found.0, entry_found s space c.args.name.now c.in-Some.number (entry_view c.in-Some.entry) (sym c.in-Some.ensures))

pub object_term-requires-clause-class : goal.object_term-requires-clause-class
object_term-requires-clause-class c =
    let found = class_found (scope_view c.args.env.constants.scope).spaces c.args.class (space_view c.args.space.now) c.requires.env.placed.numbered c.requires.found in found.1

pub returns-in-None : goal.returns-in-None
returns-in-None c =
    let env = env_view c.args.env in
    let d = draft_view c.args.draft.now in
    let P : Term → Type 0 = λ (t : Term). MakesMemberOf env c.args.dot c.args.class c.args.name.now d d t in
    subst P (sym c.unknown_term.ensures) (no_member env c.args.dot c.args.class c.args.name.now (space_view c.args.space.now) d c.requires.found (sym c.in-None.ensures))

pub returns-in-Some : goal.returns-in-Some
returns-in-Some c =
    let env = env_view c.args.env in
    let space = space_view c.args.space.now in
    IfOk-weaker c.object_term.result _ _
    (λ t m. member_of_entry env c.args.dot c.args.class c.args.name.now space c.in-Some.number (entry_view c.in-Some.entry) (draft_view c.args.draft.now) (draft_view c.object_term.new.draft) t c.requires.found (sym c.in-Some.ensures) m) c.object_term.ensures
