use Rattle.std.proofs.Common.{sym, ap, ◌∙◌}
use Rattle.std.specs.Prelude.{ℕ, ◌+◌, if◌then◌else◌}
use Rattle.vba_meaning.specs.LateBound.{how_many}
use Rattle.run_late.proofs.Flags.{flags_first}
use Rattle.run_late.proofs.sought.+how_many.Goals as goal

pub returns-clause-many : goal.returns-clause-many
returns-clause-many t c =
    c.one_more.ensures ∙ ap (λ (k : ℕ). (if c.first_given-is_given.result.0 then 1 else 0) + k) c.how_many.ensures.many
    ∙ sym (ap how_many (flags_first c.args.arguments c.args.given.now c.first_given-is_given.result.1.now c.first_given-is_given.result.0 c.if-arguments-eq0.false c.first_given-is_given.ensures))
