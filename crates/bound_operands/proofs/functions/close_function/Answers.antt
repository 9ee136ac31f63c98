use Rattle.std.proofs.Common.{sym, subst, ◌∙◌}
use Rattle.bound_members.specs.bound_calls.specs.declared.term.Ending.{Ending}
use Rattle.bound_members.specs.bound_calls.specs.declared.term.Term.TheVariants as term
use Rattle.bound_operands.specs.Functions.{EndsFunction}
use Rattle.bound_operands.proofs.Library.{ends_function, ends_untaken}
use Rattle.bound_operands.proofs.functions.close_function.Goals as goal

pub returns-then-not-takes : goal.returns-then-not-takes
returns-then-not-takes c =
    let B : Ending → Type 0 = λ (v : Ending). EndsFunction c.args.call (term.Value v) in
    subst B (sym c.broken_ending.ensures) (ends_untaken c.args.call c.in_ok-of.of (sym c.takes.ensures ∙ c.if-not-takes.true) c.in_ok-of.ensures)

pub returns : goal.returns
returns c = ends_function c.args.call c.in_ok-of.of (sym c.takes.ensures ∙ c.if-not-takes.false) c.in_ok-of.ensures
