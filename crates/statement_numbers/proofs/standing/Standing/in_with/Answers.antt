use Rattle.std.proofs.Common.{sym, ◌∙◌}
use Rattle.vba_module.specs.Blocks.{same_kind, with_block}
use Rattle.statement_numbers.proofs.Stacks.{any-stack_view}
use Rattle.statement_numbers.proofs.standing.Standing.in_with.Goals as goal

pub returns : goal.returns
returns c = c.has_kind.ensures ∙ sym (any-stack_view c.args.self.now.body.now (same_kind with_block) c.args.self.now.around.now)
