use Rattle.std.specs.Prelude.{option_map}
use Rattle.bound_terms.specs.bound_accesses.specs.bound_names.specs.bound_members.specs.bound_calls.specs.bound_forms.specs.StatementsBound.{value_shown}
use Rattle.bound_terms.specs.bound_accesses.specs.bound_names.specs.View.{env_view}
use Rattle.vba_expression.specs.View.{view as expression_view}
use Rattle.bound_lines.proofs.prints.push_item.Goals as goal

pub returns : goal.returns
returns c =
    λ all rest base read. c.in_ok-pushed.ensures all rest base
    (c.in_ok-marked.ensures all (value_shown (env_view c.args.env) (option_map expression_view c.args.item.now.value) rest) base read)
