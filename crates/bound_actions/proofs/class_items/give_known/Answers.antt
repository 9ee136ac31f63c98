use Rattle.bound_project.specs.DraftView.{draft_view}
use Rattle.bound_terms.specs.bound_accesses.specs.bound_names.specs.View.{env_view}
use Rattle.bound_actions.proofs.ClassItems.{gives_known}
use Rattle.bound_actions.proofs.class_items.give_known.Goals as goal

pub returns : goal.returns
returns c =
    gives_known c.args.sets (env_view c.args.env) c.args.tree.place c.args.term c.args.nodes.now (draft_view c.args.draft.now) (draft_view c.lead_on.new.draft) c.in_ok-numbers.numbers c.args.count c.element_kind.result c.in_ok-numbers.ensures
    c.if-numbers-count.false c.element_kind.ensures
