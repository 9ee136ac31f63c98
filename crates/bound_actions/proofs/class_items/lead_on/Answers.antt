use Rattle.std.proofs.Common.{sym}
use Rattle.bound_project.specs.DraftView.{draft_view}
use Rattle.bound_terms.specs.bound_accesses.specs.bound_names.specs.View.{env_view}
use Rattle.bound_actions.proofs.ClassItems.{leads_on}
use Rattle.bound_actions.proofs.class_items.lead_on.Goals as goal

pub returns : goal.returns
returns c =
    leads_on (env_view c.args.env) c.args.tree.place c.args.term c.args.nodes.now c.in_ok-indexed.indexed c.in_ok-more.more (draft_view c.args.draft.now) (draft_view c.begin_led.new.draft) (draft_view c.read_indexed.new.draft) c.in-Some.known
    c.in_ok-indexed.ensures c.requires.one c.in_ok-more.ensures (sym c.in-Some.ensures) c.if-numbers-eq0.false c.if-numbers-known.false
