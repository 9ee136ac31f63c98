use Rattle.std.proofs.Common.{sym}
use Rattle.bound_project.specs.DraftView.{draft_view}
use Rattle.bound_terms.specs.bound_accesses.specs.bound_names.specs.View.{env_view}
use Rattle.bound_actions.proofs.LateItems.{leads_from}
use Rattle.bound_actions.proofs.late_items.lead_from.Goals as goal

pub returns : goal.returns
returns c =
    leads_from c.args.env.has_class (env_view c.args.env) (sym c.args.env.has_class_is) c.args.ending c.args.place c.args.nodes.now c.in_ok-indexed.indexed c.in_ok-more.more (draft_view c.args.draft.now)
    (draft_view c.push_as_place.new.draft) (draft_view c.read_indexed.new.draft) c.requires.late c.requires.one c.in_ok-indexed.ensures c.in_ok-more.ensures c.if-not-is_as_place.ensures c.if-more-eq0.false
