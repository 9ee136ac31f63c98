use Rattle.std.specs.Prelude.{option_map}
use Rattle.bound_terms.specs.bound_accesses.specs.bound_names.specs.bound_members.specs.bound_calls.specs.bound_forms.specs.StatementsBound.{with_object}
use Rattle.bound_terms.specs.bound_accesses.specs.bound_names.specs.View.{env_view, within_view}
use Rattle.statement_nodes.specs.statement_numbers.specs.View.{part_at}
use Rattle.vba_expression.specs.View.{view as expression_view}
use Rattle.bound_lines.proofs.Rounds.{no_with, with_kept}
use Rattle.bound_lines.proofs.with_blocks.enter.Goals as goal

pub returns-in-None : goal.returns-in-None
returns-in-None c = record {
  stands = c.requires;
  view = no_with (with_object (part_at c.args.body.now c.args.opened.line)) (env_view c.args.env) c.args.opened.header c.in-None.ensures;
}

pub returns-in_ok-within-in-Some : goal.returns-in_ok-within-in-Some
returns-in_ok-within-in-Some c = record {
  stands = c.env_with.ensures.stands;
  view =
      with_kept (with_object (part_at c.args.body.now c.args.opened.line)) (env_view c.args.env) (env_view c.env_with.result) c.args.opened.header
      (expression_view c.in-Some.object.now) (option_map within_view c.in_ok-within-in-Some.within)
      c.in-Some.ensures c.in_ok-within-in-Some.ensures c.env_with.ensures.view;
}
