use Rattle.std.proofs.Common.{◌+◌, ◌-◌, map, sym, ap, ◌∙◌}
use Rattle.std.specs.Prelude.{Bool, ◌&&◌}
use Rattle.bound_project.specs.View.{parameter_view}
use Rattle.vba_meaning.specs.LateBound.{all_taken}
use Rattle.run_host.specs.ByName.{by_name_view}
use Rattle.bound_project.specs.Pieces.{flags}
use Rattle.run_late.proofs.Taken.{one_taken}
use Rattle.run_late.proofs.arguments.+all_taken.Goals as goal

pub returns-then-not-is_taken : goal.returns-then-not-is_taken
returns-then-not-is_taken t c =
    let ps = map parameter_view c.args.parameters.now in
    let by = by_name_view c.args.names in
    let rest : Bool = all_taken ps by (c.args.argument + 1) (flags (c.args.left - 1) c.first_given-is_given.result.1.now) in
    sym (one_taken ps by c.args.argument c.args.left c.args.given.now c.first_given-is_given.result.1.now c.first_given-is_given.result.0 c.if-left-eq0.false c.first_given-is_given.ensures
    ∙ ap (λ (b : Bool). b && rest) (sym c.is_taken.ensures ∙ c.if-not-is_taken.true))

pub returns : goal.returns
returns t c =
    let ps = map parameter_view c.args.parameters.now in
    let by = by_name_view c.args.names in
    let rest : Bool = all_taken ps by (c.args.argument + 1) (flags (c.args.left - 1) c.first_given-is_given.result.1.now) in
    c.all_taken.ensures ∙ sym (one_taken ps by c.args.argument c.args.left c.args.given.now c.first_given-is_given.result.1.now c.first_given-is_given.result.0 c.if-left-eq0.false c.first_given-is_given.ensures
    ∙ ap (λ (b : Bool). b && rest) (sym c.is_taken.ensures ∙ c.if-not-is_taken.false))
