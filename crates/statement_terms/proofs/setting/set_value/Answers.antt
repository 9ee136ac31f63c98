use Rattle.std.proofs.Common.{sym, ◌∙◌}
use Rattle.statement_terms.proofs.setting.set_value.Goals as goal

pub set_no_object-requires-clause-plain : goal.set_no_object-requires-clause-plain
set_no_object-requires-clause-plain c = sym c.may_be_object.ensures ∙ c.if-not-may_be_object.true

pub set_marked-requires-clause-object : goal.set_marked-requires-clause-object
set_marked-requires-clause-object c = sym c.may_be_object.ensures ∙ c.if-not-may_be_object.false

pub set_marked-requires-clause-marked : goal.set_marked-requires-clause-marked
set_marked-requires-clause-marked c = sym c.is_marked.ensures ∙ c.if-is_marked.true

pub set_unset-requires-clause-object : goal.set_unset-requires-clause-object
set_unset-requires-clause-object c = sym c.may_be_object.ensures ∙ c.if-not-may_be_object.false

pub set_unset-requires-clause-other : goal.set_unset-requires-clause-other
set_unset-requires-clause-other c = sym c.is_marked.ensures ∙ c.if-is_marked.false

pub set_unset-requires-clause-unset : goal.set_unset-requires-clause-unset
set_unset-requires-clause-unset c = sym c.is_unset.ensures ∙ c.if-is_unset.true

pub returns-then-is_marked : goal.returns-then-is_marked
returns-then-is_marked c = c.in_ok-set_marked.ensures c.args.place
