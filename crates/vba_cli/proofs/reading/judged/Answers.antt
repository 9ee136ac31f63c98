use Rattle.std.proofs.Common.{map, sym, ◌∙◌}
use Rattle.std.specs.Prelude.{option_map}
use Rattle.constant_values.specs.declared_names.specs.View.{space_view}
use Rattle.list_file.specs.View.{start_view}
use Rattle.vba_cli.proofs.Bound.{modules_broken, modules_faulty, modules_named}
use Rattle.vba_cli.proofs.reading.judged.Goals as goal

pub returns-in-Some : goal.returns-in-Some
returns-in-Some c = λ ms e.
    modules_broken (option_map (λ s. start_view s.now) c.args.modules.start) ms (map space_view c.args.modules.spaces.now) c.in-Some.refusal e
    (sym c.in_ok-refusal.ensures ∙ c.in-Some.is)

pub returns-in-Some-2 : goal.returns-in-Some-2
returns-in-Some-2 c = λ ms e.
    modules_faulty (option_map (λ s. start_view s.now) c.args.modules.start) ms (map space_view c.args.modules.spaces.now) c.in-Some-2.refusal e
    (sym c.in_ok-refusal.ensures ∙ c.in_default.is) (sym (c.in_ok-refusal-2.ensures ms e) ∙ c.in-Some-2.is)

pub returns-in-None : goal.returns-in-None
returns-in-None c = λ ms e.
    modules_named (option_map (λ s. start_view s.now) c.args.modules.start) ms (map space_view c.args.modules.spaces.now) c.asked.result e
    (sym c.in_ok-refusal.ensures ∙ c.in_default.is) (sym (c.in_ok-refusal-2.ensures ms e) ∙ c.in-None.is) (c.asked.ensures ms e)
