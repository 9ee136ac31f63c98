use Rattle.std.proofs.Common.{◌≡◌, ◌++◌, map, subst}
use Rattle.std.specs.Prelude.{OnOk}
use Rattle.module_parts.proofs.Splits.{line_pushed}
use Rattle.module_parts.specs.View.{parts_view}
use Rattle.vba_module.specs.Parts.{label_part, statements_in, as_parts}
use Rattle.vba_tree.specs.View.{front, next_view, put_all}
use Rattle.module_parts.proofs.splitting.push_statements.Goals as goal

pub returns : goal.returns
returns c =
    let taken = c.into_parts-label.result in
    let pushed =
    line_pushed c.push_others.result (parts_view c.args.parts.now.items) (parts_view c.push_label.new.parts.items) (parts_view c.push_first.new.parts.items)
    (parts_view c.push_others.new.parts.items) taken.0 (front taken.1) (map next_view taken.2.items)
    c.in_ok-push_label.ensures c.in_ok-push_first.ensures c.push_others.ensures in
    subst
    (λ line. OnOk c.push_others.result (parts_view c.push_others.new.parts.items
    ≡ parts_view c.args.parts.now.items ++ (label_part line.0 ++ as_parts (statements_in (put_all (front line.1) (map next_view line.2.items))))))
    c.into_parts-label.ensures pushed
