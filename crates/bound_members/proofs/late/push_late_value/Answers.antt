use Rattle.bound_project.specs.DraftView.{draft_view}
use Rattle.bound_project.specs.declared.declared_type.DeclaredType.TheVariants.{Plain}
use Rattle.bound_project.specs.declared.declared_type.ElementType.TheVariants as element
use Rattle.bound_project.proofs.Drafts.{late_named}
use Rattle.bound_members.proofs.LateSteps.{pushes_late_value}
use Rattle.bound_members.proofs.late.push_late_value.Goals as goal

pub push_node-requires : goal.push_node-requires
push_node-requires c = late_named (draft_view c.args.draft.now).tables (draft_view c.push_written.new.draft).tables c.in_ok-push_written.ensures.grown.tables c.args.member c.requires.member

pub returns : goal.returns
returns c =
    pushes_late_value c.args.aim c.args.member c.args.argument c.args.tree c.args.tree.place (Plain element.Variant) (draft_view c.args.draft.now) (draft_view c.push_written.new.draft) (draft_view c.push_node.new.draft) c.in_ok-push_written.ensures c.in_ok-push_node.ensures
