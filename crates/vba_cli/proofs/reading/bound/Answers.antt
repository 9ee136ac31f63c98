use Rattle.std.proofs.Common.{ap, map, subst, ◌∙◌}
use Rattle.std.specs.Prelude.{option_map}
use Rattle.constant_values.specs.declared_names.specs.View.{source_view}
use Rattle.list_file.specs.View.{start_view}
use Rattle.vba_cli.specs.Program.{bound_modules}
use Rattle.vba_cli.specs.Programs.{IsProgram}
use Rattle.vba_cli.proofs.reading.bound.Goals as goal

pub returns : goal.returns
returns c =
    subst (λ ms. IsProgram (bound_modules (option_map (λ s. start_view s.now) c.args.start) ms) c.bound_sources.result)
    (ap (map source_view) c.as_slice.ensures.value ∙ c.in_ok-sources.ensures) c.bound_sources.ensures
