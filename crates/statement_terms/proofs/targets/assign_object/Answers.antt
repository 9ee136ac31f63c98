use Rattle.std.proofs.Common.{ℕ, Bool, Option, false, ap, sym, subst, ◌∙◌}
use Rattle.bound_project.specs.DraftView.{draft_view}
use Rattle.bound_project.specs.Drafts.{NodeNamed}
use Rattle.bound_project.specs.Pieces.{put}
use Rattle.bound_project.specs.declared.node.NodeKind.{NodeKind}
use Rattle.bound_project.specs.declared.statement.ActionKind.{ActionKind}
use Rattle.bound_members.specs.bound_calls.specs.Calls.{node_of}
use Rattle.bound_members.specs.bound_calls.specs.References.{IsInstance}
use Rattle.bound_members.specs.bound_calls.specs.class_defaults.specs.declared.known.Known.TheVariants as known_of
use Rattle.bound_project.specs.Project as project
use Rattle.bound_project.specs.declared.declared_type.DeclaredType.{DeclaredType}
use Rattle.bound_members.specs.bound_calls.specs.Taking.{read_kind}
use Rattle.bound_members.specs.bound_calls.specs.declared.term.Term.TheVariants as term
use Rattle.bound_members.specs.bound_calls.proofs.Taking.{read_named}
use Rattle.statement_terms.specs.Members.{AssignsIn}
use Rattle.statement_terms.specs.Targets.{WrittenIs}
use Rattle.statement_terms.proofs.WrittenTargets.{object_assigned}
use Rattle.statement_terms.proofs.targets.assign_object.Goals as goal

pub push_node-requires-2 : goal.push_node-requires-2
push_node-requires-2 c =
    let t = (draft_view c.push_node.new.draft).tables in
    let A : NodeKind → Type 0 = λ (k : NodeKind). NodeNamed t k in
    subst A (sym c.read_kind.ensures) (read_named t c.args.makes)

pub returns : goal.returns
returns c =
    let d = draft_view c.args.draft.now in
    let f = draft_view c.push_node.new.draft in
    let e = draft_view c.push_node-2.new.draft in
    let at = c.args.at in
    let makes = c.args.makes in
    let P : ActionKind → Type 0 = λ (k : ActionKind). (all : project.Declarations) (u : DeclaredType) (has : Bool) (bounds : ℕ) (lends : Bool) (may : Option Bool) → WrittenIs all (record { kind = read_kind makes; of = at.of }) (known_of.Type u)
    → IsInstance has d.tables (record { kind = read_kind makes; of = at.of }) c.args.through → AssignsIn all has may c.args.place (term.Place at.kind at.of bounds lends makes) d e k false in
    subst P (sym c.default_kind.ensures)
    (object_assigned c.args.place at makes c.args.through d f e c.requires.object c.in_ok-push_node.ensures
    (c.in_ok-push_node-2.ensures ∙ ap (λ k. record f { pieces = put f.tables (node_of k c.args.place at.of) f.pieces }) c.read_kind.ensures))
