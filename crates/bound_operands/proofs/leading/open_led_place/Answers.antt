use Rattle.bound_project.specs.DraftView.{draft_view}
use Rattle.bound_project.specs.View.{declarations_view}
use Rattle.bound_operands.proofs.LedItems.{opens_broken_place, opens_led_place}
use Rattle.bound_operands.proofs.leading.open_led_place.Goals as goal

pub returns-in_ok-indexed-in-Type : goal.returns-in_ok-indexed-in-Type
returns-in_ok-indexed-in-Type c = λ env alike bounds.
    opens_led_place env (declarations_view c.args.declared.now) alike c.args.tree c.args.at bounds c.args.lends c.args.makes c.args.class c.args.count c.in-Type.of (draft_view c.args.draft.now) (draft_view c.begin_led.new.draft) c.requires.class
    c.in_ok-indexed-in-Type.indexed c.in_ok-indexed-in-Type.ensures c.in-Type.ensures

pub returns-in_ok-untaken-in-Breaks : goal.returns-in_ok-untaken-in-Breaks
returns-in_ok-untaken-in-Breaks c = λ env alike bounds.
    opens_broken_place env (declarations_view c.args.declared.now) alike c.args.tree c.args.at bounds c.args.lends c.args.makes c.args.class c.args.count c.in-Breaks.rule (draft_view c.args.draft.now) (draft_view c.refuse_led.new.draft) c.requires.class
    c.in_ok-untaken-in-Breaks.untaken c.in_ok-untaken-in-Breaks.ensures c.in-Breaks.ensures
