use Rattle.std.proofs.Common.{sym, subst, ◌∙◌}
use Rattle.bound_calls.specs.declared.term.Ending.{Ending}
use Rattle.bound_calls.specs.Taking.{FunctionAlone}
use Rattle.bound_calls.proofs.Lacking.{function_lacks, function_taken}
use Rattle.bound_calls.proofs.bare.function_alone.Goals as goal

pub returns-then-not-takes_no_arguments : goal.returns-then-not-takes_no_arguments
returns-then-not-takes_no_arguments c =
    let f = c.args.function in
    subst (λ (e : Ending). FunctionAlone f c.args.place e) (sym c.broken_ending.ensures)
    (function_lacks f c.in_ok-of.of c.args.place (sym c.takes_no_arguments.ensures ∙ c.if-not-takes_no_arguments.true) c.in_ok-of.ensures)

pub returns : goal.returns
returns c = function_taken c.args.function c.in_ok-of.of c.args.place (sym c.takes_no_arguments.ensures ∙ c.if-not-takes_no_arguments.false) c.in_ok-of.ensures
