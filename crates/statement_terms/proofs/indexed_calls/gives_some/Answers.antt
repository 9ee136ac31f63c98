use Rattle.std.proofs.Common.{sym, ◌∙◌}
use Rattle.statement_terms.proofs.IndexedCalls.{some_if}
use Rattle.statement_terms.proofs.indexed_calls.gives_some.Goals as goal

pub returns : goal.returns
returns c =
    some_if c.args.nodes.now c.in-Some._front.now c.in-Some.last.now c.adds_one.result c.in-Some.ensures.cases.0 (sym c.is_argument.ensures ∙ c.if-not-is_argument.false) c.adds_one.ensures
