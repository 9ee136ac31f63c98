use Rattle.std.proofs.Common.{ap, map, ◌∙◌}
use Rattle.constant_values.specs.declared_names.specs.View.{source_view, space_view}
use Rattle.vba_cli.proofs.reading.bound_sources.Goals as goal

pub returns : goal.returns
returns c =
    c.judge.ensures (map source_view c.args.sources.now)
    (ap (map space_view) c.deref.ensures.value ∙ c.in_ok-spaces.ensures)
