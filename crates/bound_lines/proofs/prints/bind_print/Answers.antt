use Rattle.std.proofs.Common.{map}
use Rattle.std.specs.Prelude.{option_map}
use Rattle.bound_terms.specs.bound_accesses.specs.bound_names.specs.bound_members.specs.bound_calls.specs.bound_forms.specs.StatementsBound.{ends_line, items_shown, value_shown}
use Rattle.bound_project.specs.DraftView.{draft_view}
use Rattle.bound_terms.specs.bound_accesses.specs.bound_names.specs.View.{env_view}
use Rattle.vba_expression.specs.View.{view as expression_view}
use Rattle.vba_tree.specs.View.{print_item_view}
use Rattle.statement_nodes.proofs.Ended.{print_pushed}
use Rattle.statement_nodes.proofs.Items.{prints_begin}
use Rattle.bound_lines.proofs.prints.bind_print.Goals as goal

pub returns : goal.returns
returns c =
    let items = map print_item_view c.args.others.now in
    let rest = items_shown (env_view c.args.env) items in
    let all = value_shown (env_view c.args.env) (option_map expression_view c.args.first.now) rest in
    let before = draft_view c.args.draft.now in
    rw (c.ends_line.ensures)
    (print_pushed (ends_line items) all c.in_ok-items.items before (draft_view c.push_items.new.draft) c.requires.empty
    (c.in_ok-items.ensures all before (c.in_ok-pushed.ensures all rest before (prints_begin all before))))
