use Rattle.std.proofs.Common.{Bool, sym, subst}
use Rattle.std.specs.Prelude.{option_map}
use Rattle.std.specs.Result.{IfOk}
use Rattle.vba_tree.specs.declared.simple.SimpleStatement.{SimpleStatement}
use Rattle.vba_tree.specs.View.{array_view, listed_view, simple_view}
use Rattle.vba_module.specs.Headers.{all_of}
use Rattle.bound_project.specs.DraftView.{draft_view}
use Rattle.bound_project.specs.Statements as to
use Rattle.bound_terms.specs.bound_accesses.specs.bound_names.specs.bound_members.specs.bound_calls.specs.bound_forms.specs.StatementsBound.{redim_arrays}
use Rattle.bound_terms.specs.bound_accesses.specs.bound_names.specs.View.{env_view}
use Rattle.statement_nodes.specs.Pushed.{ActionPushed}
use Rattle.statement_nodes.specs.statement_numbers.specs.View.{standing_view}
use Rattle.statement_nodes.specs.Actions.{simple_in}
use Rattle.bound_lines.specs.Round.{around_view}
use Rattle.bound_lines.proofs.statements.array_kind.Goals as goal

pub returns-in-ReDim : goal.returns-in-ReDim
returns-in-ReDim c =
    let env = env_view c.args.around.env in
    let d = draft_view c.args.draft.now in
    let e = draft_view c.bind_redim.new.draft in
    let P : SimpleStatement → Type 0 =
    λ (s : SimpleStatement). IfOk c.bind_redim.result (λ kind. ActionPushed kind (simple_in env (around_view c.args.around) (standing_view c.args.standing) (simple_view s)) d e) in
    let Q : Bool → Type 0 =
    λ (b : Bool). IfOk c.bind_redim.result (λ kind. ActionPushed kind (option_map (to.redim b) (redim_arrays env (all_of (listed_view array_view c.in-ReDim.arrays)))) d e) in
    subst P (sym c.in-ReDim.is) (subst Q c.is_some.ensures c.bind_redim.ensures)
