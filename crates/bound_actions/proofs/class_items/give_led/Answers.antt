use Rattle.std.proofs.lemmas.Result.{IfOk-weaker}
use Rattle.bound_project.specs.DraftView.{draft_view}
use Rattle.bound_project.specs.View.{declarations_view, declared_view}
use Rattle.bound_terms.specs.bound_accesses.specs.bound_names.specs.View.{env_view}
use Rattle.bound_terms.specs.bound_accesses.specs.bound_names.proofs.Declaring.{env_declares}
use Rattle.bound_actions.proofs.ClassItems.{led_given, led_refused}
use Rattle.bound_actions.proofs.class_items.give_led.Goals as goal

pub returns-in-Type : goal.returns-in-Type
returns-in-Type c =
    IfOk-weaker c.give_known.result _ _
    (λ k g. led_given c.args.sets (env_view c.args.env) (declarations_view c.args.env.declared.now) (env_declares c.args.env c.requires.env) c.args.tree.place c.args.term c.args.class c.in_ok-count.count (declared_view c.in-Type._of) c.args.nodes.now
    (draft_view c.args.draft.now) (draft_view c.give_known.new.draft) k c.in-Type.ensures g) c.give_known.ensures

pub returns-in-Breaks : goal.returns-in-Breaks
returns-in-Breaks c =
    IfOk-weaker c.refuse_led.result _ _
    (λ k r. led_refused c.args.sets (env_view c.args.env) (declarations_view c.args.env.declared.now) (env_declares c.args.env c.requires.env) c.args.tree.place c.args.term c.args.class c.in_ok-count.count c.in-Breaks.rule c.args.nodes.now
    (draft_view c.args.draft.now) (draft_view c.refuse_led.new.draft) k c.requires.class c.in-Breaks.ensures r) c.refuse_led.ensures
