use Rattle.said_parts.proofs.Pushed.{list_pushed}
use Rattle.said_parts.specs.View.{all_said}
use Rattle.said_parts.proofs.statements.+statements.Goals as goal

pub push_list-returns : goal.push_list-returns
push_list-returns t c =
    list_pushed c.push_others.result c.args.is_static (all_said c.args.said.now.items) (all_said c.push_statement.new.said.items) (all_said c.push_others.new.said.items)
    _ c.args.list.now c.deref.ensures c.in_ok-push_statement.ensures c.push_others.ensures
