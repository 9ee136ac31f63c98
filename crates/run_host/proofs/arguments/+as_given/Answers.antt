use Rattle.std.proofs.Common.{sym, ◌∙◌}
use Rattle.run_host.proofs.Parts.{given_with, given_without}
use Rattle.run_host.proofs.arguments.+as_given.Goals as goal

pub returns-then-is_missing : goal.returns-then-is_missing
returns-then-is_missing t c =
    c.as_given.ensures ∙ given_without c.args.slots.now c.last-item.result c.in-len1-up.len_at_least c.last-item.is (sym c.is_missing.ensures
    ∙ c.if-is_missing.true)

pub returns-else-is_missing : goal.returns-else-is_missing
returns-else-is_missing t c = given_with c.args.slots.now c.last-item.result c.in-len1-up.len_at_least c.last-item.is (sym c.is_missing.ensures
    ∙ c.if-is_missing.false)
