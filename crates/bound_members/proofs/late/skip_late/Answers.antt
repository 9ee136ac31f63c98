use Rattle.std.proofs.Common.{sym, ◌∙◌}
use Rattle.bound_project.specs.DraftView.{draft_view}
use Rattle.bound_project.specs.declared.declared_type.DeclaredType.TheVariants.{Plain}
use Rattle.bound_project.specs.declared.declared_type.ElementType.TheVariants as element
use Rattle.bound_members.proofs.LateSteps.{found_named, skips_late, missing_named}
use Rattle.bound_members.proofs.late.skip_late.Goals as goal

pub push_node-requires : goal.push_node-requires
push_node-requires c =
    let d = draft_view c.args.draft.now in
    missing_named d (draft_view c.push_missing.new.draft) c.args.found c.in_ok-push_missing.ensures (found_named d.tables c.args.call c.args.aim c.args.found c.requires.late c.requires.member)

pub returns : goal.returns
returns c =
    skips_late c.args.call c.args.aim c.args.found c.in_ok-count.count c.nowhere.result (Plain element.Variant) (draft_view c.args.draft.now) (draft_view c.push_missing.new.draft) (draft_view c.push_node.new.draft) c.in_ok-count.ensures c.requires.late
    c.requires.member c.requires.unnamed (sym c.is_told.ensures ∙ c.if-is_told.false) c.in_ok-push_missing.ensures c.in_ok-push_node.ensures
