use Rattle.std.proofs.Common.{Option, subst}
use Rattle.bound_project.specs.DraftView.{draft_view}
use Rattle.bound_project.specs.declared.declared_type.DeclaredType.{DeclaredType}
use Rattle.bound_terms.specs.bound_accesses.specs.bound_names.specs.bound_members.specs.bound_calls.specs.Steps.{PushesValue}
use Rattle.statement_terms.proofs.GivenValues.{plain_pushed}
use Rattle.bound_actions.proofs.assigned_values.push_plain.Goals as goal

pub returns : goal.returns
returns c =
    let d = draft_view c.args.draft.now in
    let e = draft_view c.push_value.new.draft in
    let A : Option DeclaredType → Type 0 = λ o. PushesValue c.args.tree d e o in
    λ has given. plain_pushed has given c.args.tree c.in-Some.of d e c.requires.plain (subst A c.in-Some.is c.in_ok-of.ensures)
