use Rattle.std.proofs.Common.{◌≡◌, List, Option, Some, sym, subst}
use Rattle.std.specs.Prelude.{map, option_and_then, option_map}
use Rattle.vba_tree.specs.declared.simple.SimpleStatement.{SimpleStatement}
use Rattle.vba_tree.specs.declared.simple.PrintItem.{PrintItem}
use Rattle.vba_tree.specs.View.{event_arguments_view, print_item_view, simple_view}
use Rattle.vba_expression.specs.View.{view as expression_view}
use Rattle.bound_project.specs.declared.statement.ActionKind.{ActionKind}
use Rattle.bound_project.specs.Statements as to
use Rattle.bound_project.specs.DraftView.{draft_view}
use Rattle.bound_names.specs.bound_members.specs.bound_calls.specs.bound_forms.specs.ExpressionsBound.{bound_as_given}
use Rattle.bound_names.specs.bound_members.specs.bound_calls.specs.bound_forms.specs.Targets.{assigned_to, set_given, value_given}
use Rattle.bound_names.specs.bound_members.specs.bound_calls.specs.bound_forms.specs.StatementsBound.{ends_line, event_arguments, event_raised, items_shown, value_shown}
use Rattle.bound_names.specs.View.{env_view}
use Rattle.statement_nodes.specs.Pushed.{ActionPushed, ActionStands}
use Rattle.statement_nodes.specs.statement_numbers.specs.View.{standing_view}
use Rattle.statement_nodes.specs.Actions.{simple_in}
use Rattle.bound_lines.specs.Round.{around_view}
use Rattle.std.specs.Result.{IfOk}
use Rattle.std.proofs.lemmas.Result.{IfOk-weaker}
use Rattle.bind_project.proofs.statements.kind_in_scope.Goals as goal

pub returns-in_ok-bind_assignment-in-Assignment : goal.returns-in_ok-bind_assignment-in-Assignment
returns-in_ok-bind_assignment-in-Assignment c =
    let env = env_view c.args.around.env in
    let d = draft_view c.args.draft.now in
    let e = draft_view c.bind_assignment.new.draft in
    let x = expression_view c.in-Assignment.place in
    let found = option_and_then (assigned_to env x) (value_given env x (expression_view c.in-Assignment.value)) in
    let P : SimpleStatement → Type 0 = λ (s : SimpleStatement). IfOk c.there.result (λ kind. ActionPushed kind (simple_in env (around_view c.args.around) (standing_view c.args.standing) (simple_view s)) d e) in
    let A : Option ActionKind → Type 0 = λ (o : Option ActionKind). ActionStands o found d e in
    subst P (sym c.in-Assignment.is)
    (IfOk-weaker c.there.result (λ k. c.in_ok-bind_assignment-in-Assignment.field-0 ≡ Some k) (λ k. ActionPushed k found d e) (λ k h. subst A h c.in_ok-bind_assignment-in-Assignment.ensures) c.there.ensures)

pub returns-in_ok-bind_set-in-SetAssignment : goal.returns-in_ok-bind_set-in-SetAssignment
returns-in_ok-bind_set-in-SetAssignment c =
    let env = env_view c.args.around.env in
    let d = draft_view c.args.draft.now in
    let e = draft_view c.bind_set.new.draft in
    let x = expression_view c.in-SetAssignment.place in
    let found = option_and_then (set_given env c.in-SetAssignment.set_word.place x) (bound_as_given env (expression_view c.in-SetAssignment.value)) in
    let P : SimpleStatement → Type 0 = λ (s : SimpleStatement). IfOk c.there-in-SetAssignment.result (λ kind. ActionPushed kind (simple_in env (around_view c.args.around) (standing_view c.args.standing) (simple_view s)) d e) in
    let A : Option ActionKind → Type 0 = λ (o : Option ActionKind). ActionStands o found d e in
    subst P (sym c.in-SetAssignment.is)
    (IfOk-weaker c.there-in-SetAssignment.result (λ k. c.in_ok-bind_set-in-SetAssignment.field-0 ≡ Some k) (λ k. ActionPushed k found d e) (λ k h. subst A h c.in_ok-bind_set-in-SetAssignment.ensures) c.there-in-SetAssignment.ensures)

pub returns-in-DebugPrint : goal.returns-in-DebugPrint
returns-in-DebugPrint c =
    let env = env_view c.args.around.env in
    let d = draft_view c.args.draft.now in
    let e = draft_view c.bind_print.new.draft in
    let P : SimpleStatement → Type 0 = λ (s : SimpleStatement). IfOk c.bind_print.result (λ kind. ActionPushed kind (simple_in env (around_view c.args.around) (standing_view c.args.standing) (simple_view s)) d e) in
    let Q : List PrintItem → Type 0 = λ (items : List PrintItem). IfOk c.bind_print.result (λ kind. ActionPushed kind (option_map (λ ps. to.print ps (ends_line (map print_item_view items)))
    (value_shown env (option_map expression_view c.in-DebugPrint.first) (items_shown env (map print_item_view items)))) d e) in
    subst P (sym c.in-DebugPrint.is) (subst Q c.as_slice.ensures.value c.bind_print.ensures)

pub returns-in_ok-bind_raise_event-in-RaiseEvent : goal.returns-in_ok-bind_raise_event-in-RaiseEvent
returns-in_ok-bind_raise_event-in-RaiseEvent c =
    let env = env_view c.args.around.env in
    let d = draft_view c.args.draft.now in
    let e = draft_view c.bind_raise_event.new.draft in
    let found = event_raised env c.in-RaiseEvent.event (event_arguments env (option_map event_arguments_view c.in-RaiseEvent.arguments)) in
    let P : SimpleStatement → Type 0 = λ (s : SimpleStatement). IfOk c.there-in-RaiseEvent.result (λ kind. ActionPushed kind (simple_in env (around_view c.args.around) (standing_view c.args.standing) (simple_view s)) d e) in
    let A : Option ActionKind → Type 0 = λ (o : Option ActionKind). ActionStands o found d e in
    subst P (sym c.in-RaiseEvent.is)
    (IfOk-weaker c.there-in-RaiseEvent.result (λ k. c.in_ok-bind_raise_event-in-RaiseEvent.field-0 ≡ Some k) (λ k. ActionPushed k found d e) (λ k h. subst A h c.in_ok-bind_raise_event-in-RaiseEvent.ensures) c.there-in-RaiseEvent.ensures)
