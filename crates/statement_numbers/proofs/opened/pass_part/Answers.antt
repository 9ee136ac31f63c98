use Rattle.std.proofs.Common.{◌+◌, drop}
use Rattle.module_parts.specs.View.{parts_view}
use Rattle.statement_numbers.proofs.Stacks.{block_opened}
use Rattle.statement_numbers.proofs.opened.pass_part.Goals as goal

pub returns-in_ok-push-in-Opens : goal.returns-in_ok-push-in-Opens
returns-in_ok-push-in-Opens c =
    let begins = rw (c.as_slice.ensures.value, c.parts_behind.ensures) at c.in_ok-first-in-Opens.ensures in
    rw (c.in-Opens.is)
    (block_opened c.args.body.now c.args.at c.args.number c.in_ok-first-in-Opens.first c.in-Opens.kind _ (parts_view (drop (c.args.at + 1) c.args.body.now)) c.args.opened.now.items c.push.new.self.items
    c.in_ok-push-in-Opens.ensures.items c.is_select.ensures begins)
