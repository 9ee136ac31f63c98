use Rattle.std.proofs.Common.{ap, ◌∙◌}
use Rattle.std.specs.Prelude.{ℕ}
use Rattle.bound_calls.specs.Taking.{broken_ending}
use Rattle.bound_calls.proofs.bare.lacking_ending.Goals as goal

pub returns : goal.returns
returns c = record {
  pushed = c.in_ok-push_object.ensures;
  is = c.broken_ending.ensures ∙ ap (λ (n : ℕ). broken_ending 25 c.args.place c.args.routine.of n) c.values_of-values.ensures;
}
