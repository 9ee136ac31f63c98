use Rattle.std.proofs.lemmas.Result.{IfOk-weaker}
use Rattle.bound_project.specs.DraftView.{draft_view}
use Rattle.bound_project.specs.View.{declarations_view}
use Rattle.bound_operands.proofs.LedItems.{opens_led_value}
use Rattle.bound_operands.proofs.leading.open_led_value.Goals as goal

pub returns : goal.returns
returns c =
    IfOk-weaker c.push_led.result _ _
    (λ i p b env alike. opens_led_value b env (declarations_view c.args.declared.now) alike c.args.tree c.args.ending c.args.class c.args.count (draft_view c.args.draft.now) (draft_view c.push_led.new.draft) i p) c.push_led.ensures
