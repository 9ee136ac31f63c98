use Rattle.std.proofs.Common.{sym, ◌∙◌}
use Rattle.bound_members.proofs.Parameters.{named_behind}
use Rattle.bound_members.proofs.names.+parameter_named.Goals as goal

pub returns-else-is_word : goal.returns-else-is_word
returns-else-is_word t c =
    named_behind c.args.first c.args.parameters.now _ c.args.name.now c.parameter_named.result c.in-len1-up.len_at_least (sym c.is_word.ensures ∙ c.if-is_word.false) c.parameter_named.ensures
