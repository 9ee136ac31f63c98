use Rattle.std.proofs.Common.{sym, subst}
use Rattle.std.specs.Result.{IfOk}
use Rattle.vba_tree.specs.declared.block.BlockLine.{BlockLine}
use Rattle.vba_tree.specs.View.{block_line_view}
use Rattle.bound_project.specs.DraftView.{draft_view}
use Rattle.bound_terms.specs.bound_accesses.specs.bound_names.specs.View.{env_view}
use Rattle.statement_nodes.specs.Pushed.{ActionPushed}
use Rattle.statement_nodes.specs.statement_numbers.specs.View.{standing_view}
use Rattle.statement_nodes.specs.Actions.{block_in}
use Rattle.bound_lines.specs.Round.{around_view}
use Rattle.bound_lines.proofs.lines.bind_line.Goals as goal

pub returns-in-SelectCase : goal.returns-in-SelectCase
returns-in-SelectCase c =
    let P : BlockLine → Type 0 =
    λ (line : BlockLine). IfOk c.bind_select.result (λ kind. ActionPushed kind (block_in (env_view c.args.around.env) (around_view c.args.around) (standing_view c.args.standing) (block_line_view line)) (draft_view c.args.draft.now) (draft_view c.bind_select.new.draft)) in
    subst P (sym c.in-SelectCase.is) c.bind_select.ensures

pub returns-in-For : goal.returns-in-For
returns-in-For c =
    let P : BlockLine → Type 0 =
    λ (line : BlockLine). IfOk c.bind_for.result (λ kind. ActionPushed kind (block_in (env_view c.args.around.env) (around_view c.args.around) (standing_view c.args.standing) (block_line_view line)) (draft_view c.args.draft.now) (draft_view c.bind_for.new.draft)) in
    subst P (sym c.in-For.is) c.bind_for.ensures

pub returns-in-ForEach : goal.returns-in-ForEach
returns-in-ForEach c =
    let P : BlockLine → Type 0 =
    λ (line : BlockLine). IfOk c.bind_for_each.result (λ kind. ActionPushed kind (block_in (env_view c.args.around.env) (around_view c.args.around) (standing_view c.args.standing) (block_line_view line)) (draft_view c.args.draft.now) (draft_view c.bind_for_each.new.draft)) in
    subst P (sym c.in-ForEach.is) c.bind_for_each.ensures

pub returns-in-Next : goal.returns-in-Next
returns-in-Next c =
    let P : BlockLine → Type 0 =
    λ (line : BlockLine). IfOk c.bind_next.result (λ kind. ActionPushed kind (block_in (env_view c.args.around.env) (around_view c.args.around) (standing_view c.args.standing) (block_line_view line)) (draft_view c.args.draft.now) (draft_view c.bind_next.new.draft)) in
    subst P (sym c.in-Next.is) c.bind_next.ensures
