use Rattle.std.proofs.Common.{◌≡◌, ℕ, ◌+◌, refl, sym, ap, subst, ◌∙◌}
use Rattle.bound_project.specs.DraftView.{draft_view}
use Rattle.bound_names.specs.bound_members.specs.bound_calls.specs.bound_forms.specs.StatementsBound.{bound_statement}
use Rattle.statement_nodes.specs.statement_numbers.specs.View.{standing_view}
use Rattle.vba_expression.specs.View.{view as expression_view}
use Rattle.vba_tree.specs.View.{list_view, statement_view}
use Rattle.vba_tree.specs.Tree.{Stmt}
use Rattle.bound_names.specs.View.{env_view}
use Rattle.bound_lines.specs.Round.{around_view}
use Rattle.statement_nodes.specs.Walks.{Added}
use Rattle.vba_tree.specs.declared.statement.Statement as line
use Rattle.binder.specs.Numbering.{count}
use Rattle.statement_nodes.proofs.Lists.{list_added, others_counted}
use Rattle.statement_nodes.proofs.Ifs.{view-SingleLineIf, view-SingleLineIfElse, if_then_added, if_else_added}
use Rattle.bind_project.proofs.single_line_ifs.+bound_statements.Goals as goal

pub bind_statement-returns-in_ok-bind_list-in-SingleLineIf : goal.bind_statement-returns-in_ok-bind_list-in-SingleLineIf
bind_statement-returns-in_ok-bind_list-in-SingleLineIf t c =
    let inside = c.in_ok-inside-in-SingleLineIf.inside in
    subst
    (λ (x : Stmt). Added (bound_statement (around_view c.args.around) (standing_view c.args.standing) x c.args.number c.args.behind)
    (draft_view c.args.draft.now) (draft_view c.bind_list.new.draft))
    (sym (ap statement_view c.in-SingleLineIf.is ∙ view-SingleLineIf _ _ _ _))
    (if_then_added (env_view c.args.around.env) (around_view c.args.around) (standing_view c.args.standing) c.in-SingleLineIf.if_word c.in-SingleLineIf.then_word (expression_view c.in-SingleLineIf.condition)
    (list_view c.in-SingleLineIf.then_list) c.args.number inside c.in_ok-end-in-SingleLineIf.end c.args.behind c.first_of-first.result _ _ _ c.requires.placed
    c.in_ok-inside-in-SingleLineIf.ensures
    (c.in_ok-end-in-SingleLineIf.ensures ∙ ap (λ (n : ℕ). inside + n) c.in_ok-count_list-in-SingleLineIf.ensures)
    c.first_of-first.ensures c.in_ok-bind_if-in-SingleLineIf.ensures c.in_ok-bind_list-in-SingleLineIf.ensures)

pub bind_statement-returns-in_ok-bind_list-in-SingleLineIfElse-2 : goal.bind_statement-returns-in_ok-bind_list-in-SingleLineIfElse-2
bind_statement-returns-in_ok-bind_list-in-SingleLineIfElse-2 t c =
    let inside = c.in_ok-inside-in-SingleLineIfElse.inside in
    let other = c.in_ok-other-in-SingleLineIfElse.other in
    subst
    (λ (x : Stmt). Added (bound_statement (around_view c.args.around) (standing_view c.args.standing) x c.args.number c.args.behind)
    (draft_view c.args.draft.now) (draft_view c.bind_list-in-SingleLineIfElse-2.new.draft))
    (sym (ap statement_view c.in-SingleLineIfElse.is ∙ view-SingleLineIfElse _ _ _ _ _ _))
    (if_else_added (env_view c.args.around.env) (around_view c.args.around) (standing_view c.args.standing) c.in-SingleLineIfElse.if_word c.in-SingleLineIfElse.then_word c.in-SingleLineIfElse.else_word
    (expression_view c.in-SingleLineIfElse.condition) (list_view c.in-SingleLineIfElse.then_list) (list_view c.in-SingleLineIfElse.else_list)
    c.args.number inside other c.in_ok-end-in-SingleLineIfElse.end c.args.behind c.first_of-first-in-SingleLineIfElse.result c.first_of-otherwise.result _ _ _ _ c.requires.placed
    c.in_ok-inside-in-SingleLineIfElse.ensures
    (c.in_ok-other-in-SingleLineIfElse.ensures ∙ ap (λ (n : ℕ). inside + n) c.in_ok-count_list-in-SingleLineIfElse.ensures)
    (c.in_ok-end-in-SingleLineIfElse.ensures ∙ ap (λ (n : ℕ). other + n) c.in_ok-count_list-in-SingleLineIfElse-2.ensures)
    c.first_of-first-in-SingleLineIfElse.ensures c.first_of-otherwise.ensures
    c.in_ok-bind_if-in-SingleLineIfElse.ensures c.in_ok-bind_list-in-SingleLineIfElse.ensures c.in_ok-bind_list-in-SingleLineIfElse-2.ensures)

pub bind_list-returns : goal.bind_list-returns
bind_list-returns t c =
    let list = c.args.list.now in
    let one : count (statement_view c.deref.result.now) ≡ count (statement_view c.deref-2.result.now) =
    ap (λ (x : line.Statement). count (statement_view x)) (c.deref.ensures ∙ sym c.deref-2.ensures) in
    let middle_is = c.in_ok-plus.ensures ∙ ap (λ (n : ℕ). c.args.number + n) (c.in_ok-count.ensures ∙ one) in
    let end_is = c.in_ok-plus-2.ensures ∙ ap (λ (n : ℕ). c.args.number + n) c.in_ok-count_list.ensures in
    list_added (around_view c.args.around) (standing_view c.args.standing) list c.deref-2.result.now c.args.number c.in_ok-plus.field-0 c.in_ok-plus-2.field-0 c.args.behind c.first_of.result
    (draft_view c.args.draft.now) (draft_view c.bind_statement.new.draft) (draft_view c.bind_others.new.draft)
    c.deref-2.ensures middle_is
    (others_counted list c.deref-2.result.now c.args.number _ c.in_ok-plus.field-0 c.in_ok-plus-2.field-0 c.deref-2.ensures refl middle_is end_is)
    c.first_of.ensures c.in_ok-bind_statement.ensures c.in_ok-bind_others.ensures
