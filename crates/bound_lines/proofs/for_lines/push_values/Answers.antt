use Rattle.bound_lines.proofs.for_lines.push_values.Goals as goal

pub returns : goal.returns
returns c = record {
  of = c.in_ok-push_operand.field-0;
  behind_start = _;
  behind_last = _;
  start_pushed = c.in_ok-push_operand.ensures;
  last_pushed = c.in_ok-last.ensures;
  step_pushed = c.in_ok-step.ensures;
}
