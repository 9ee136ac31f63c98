-- Single-line Ifs with the statements in them, and statements that are parts.
use Rattle.std.proofs.Common.{◌≡◌, ℕ, suc, ◌+◌, true, List, arith, refl, ◌∙◌, sym, ap, subst}
use Rattle.std.specs.Prelude.{Option, option_map}
use Rattle.vba_base.specs.declared.place.Place.{Place}
use Rattle.vba_lexer.specs.declared.token.Token.{Token}
use Rattle.vba_expression.specs.Tree.{Expr}
use Rattle.vba_expression.specs.View.{view as expression_view}
use Rattle.vba_expression.specs.declared.expression.Expression.{Expression}
use Rattle.vba_tree.specs.declared.statement.Statement.{Statement-F, fold-roll-Statement}
use Rattle.vba_tree.specs.declared.statement.Statement.TheVariants.{SingleLineIf, SingleLineIfElse, rolls-SingleLineIf, rolls-SingleLineIfElse}
use Rattle.vba_tree.specs.declared.statement.StatementList.{StatementList}
use Rattle.vba_tree.specs.View.{Next, next_step, statement_step, list_step, statement_view, list_view}
use Rattle.vba_tree.specs.Tree.{Simple, simple, if_then, if_else, Stmt, Stmts}
use Rattle.vba_module.specs.Parts.{Part, statement, place_of}
use Rattle.bound_project.specs.declared.statement.ActionKind.{ActionKind}
use Rattle.bound_project.specs.Drafts.{Drafted}
use Rattle.bound_project.specs.Statements as to
use Rattle.bound_project.specs.Statements.{Action, Statement}
use Rattle.bound_calls.specs.bound_declarations.specs.constant_values.specs.declared_names.specs.binder.specs.Numbering.{Standing, simple_count, count_list}
use Rattle.bound_calls.specs.bound_forms.specs.Terms.{Env}
use Rattle.bound_calls.specs.bound_forms.specs.ExpressionsBound.{bound_operand}
use Rattle.bound_calls.specs.bound_forms.specs.StatementsBound.{Around, both, unless_none, one_statement, first_or, simple_action, env_at, bound_statement, bound_list}
use Rattle.bound_calls.specs.bound_declarations.specs.constant_values.specs.declared_names.specs.binder.specs.Blocks.{next_number}
use Rattle.bound_calls.specs.bound_forms.specs.Bind.{is_built_part}
use Rattle.statement_nodes.specs.Pushed.{ActionPushed}
use Rattle.statement_nodes.specs.Actions.{simple_in}
use Rattle.statement_nodes.specs.Walks.{Added, PartAdded, statements_of}
use Rattle.statement_nodes.proofs.Ended.{in_scope}
use Rattle.statement_nodes.proofs.Walked.{both_added, part_by_itself}

-- what a statement does, by its scope
pub pushed_in_scope : (k : ActionKind) (env : Env) (a : Around) (s : Standing) (x : Simple) (d e : Drafted) → env ≡ env_at a s
    → ActionPushed k (simple_in env a s x) d e → ActionPushed k (simple_action a s x) d e
pushed_in_scope k env a s x d e placed h = subst (λ (o : Option Action). ActionPushed k o d e) (sym (in_scope env a s x placed)) h

-- a statement that is a part
pub simple_part_added : (a : Around) (s : Standing) (x : Simple) (place : Place) (now next : ℕ) (d e : Drafted) → place ≡ place_of (statement (simple x))
    → now ≡ next_number s → next ≡ next_number s → Added (unless_none (simple_count x) (one_statement place now (simple_action a s x))) d e
    → Added (statements_of a s next (statement (simple x))) d e
simple_part_added a s x place now next d e place_is now_is next_is h =
    let at : Added (unless_none (simple_count x) (one_statement (place_of (statement (simple x))) now (simple_action a s x))) d e =
    subst (λ (p : Place). Added (unless_none (simple_count x) (one_statement p now (simple_action a s x))) d e) place_is h in
    subst (λ (n : ℕ). Added (statements_of a s n (statement (simple x))) d e) (now_is ∙ sym next_is) at

-- a part that was bound
pub part_added : (a : Around) (s : Standing) (part : Part) (d e : Drafted) → part ≡ s.part → is_built_part a.env.scope part ≡ true
    → ((next : ℕ) → next ≡ next_number s → Added (statements_of a s next part) d e) → PartAdded a s d e
part_added a s part d e is built h = record {
  built = ap (is_built_part a.env.scope) (sym is) ∙ built;
  added =
      subst (λ (o : Option (List Statement)). Added o d e) (sym (part_by_itself a s))
      (subst (λ (p : Part). Added (statements_of a s (next_number s) p) d e) is (h (next_number s) refl));
}

-- ---- single-line Ifs

pub view-SingleLineIf : (if_word : Token) (condition : Expression) (then_word : Token) (then_list : StatementList)
    → statement_view (SingleLineIf if_word condition then_word then_list) ≡ if_then if_word (expression_view condition) then_word (list_view then_list)
view-SingleLineIf if_word condition then_word then_list =
    ap statement_view (sym (rolls-SingleLineIf if_word condition then_word then_list))
    ∙ fold-roll-Statement Next Stmt Stmts next_step statement_step list_step (Statement-F.SingleLineIf if_word condition then_word then_list)

pub view-SingleLineIfElse : (if_word : Token) (condition : Expression) (then_word : Token) (then_list : StatementList) (else_word : Token) (else_list : StatementList)
    → statement_view (SingleLineIfElse if_word condition then_word then_list else_word else_list)
    ≡ if_else if_word (expression_view condition) then_word (list_view then_list) else_word (list_view else_list)
view-SingleLineIfElse if_word condition then_word then_list else_word else_list =
    ap statement_view (sym (rolls-SingleLineIfElse if_word condition then_word then_list else_word else_list))
    ∙ fold-roll-Statement Next Stmt Stmts next_step statement_step list_step (Statement-F.SingleLineIfElse if_word condition then_word then_list else_word else_list)

-- the condition of a single-line If
abbrev tested : Env → Place → Expr → (first other : ℕ) → Option (List Statement)
tested env place e first other = one_statement place first (option_map (λ c. to.test true c first other) (bound_operand env e))

tested_there : (env : Env) (a : Around) (s : Standing) (place : Place) (e : Expr) (first other : ℕ) (d f : Drafted) → env ≡ env_at a s
    → Added (tested env place e first other) d f → Added (tested (env_at a s) place e first other) d f
tested_there env a s place e first other d f placed h = subst (λ (env : Env). Added (tested env place e first other) d f) placed h

-- `If condition Then statements`
pub if_then_added : (env : Env) (a : Around) (s : Standing) (if_word then_word : Token) (e : Expr) (ss : Stmts) (number inside end behind first : ℕ) (d f g : Drafted)
    → env ≡ env_at a s → inside ≡ number + 1 → end ≡ inside + count_list ss
    → ((k : ℕ) → end ≡ inside + k → first ≡ first_or k inside behind)
    → Added (tested env if_word.place e first behind) d f → Added (bound_list a s ss inside behind) f g
    → Added (bound_statement a s (if_then if_word e then_word ss) number behind) d g
if_then_added env a s if_word then_word e ss number inside end behind first d f g placed inside_is end_is first_is test list =
    let suc_is : inside ≡ suc number = omega arith in
    let there : first ≡ first_or (count_list ss) inside behind = first_is (count_list ss) end_is in
    let whole : Added (both (tested (env_at a s) if_word.place e first behind) (bound_list a s ss inside behind)) d g =
    both_added (tested (env_at a s) if_word.place e first behind) (bound_list a s ss inside behind) d f g (tested_there env a s if_word.place e first behind d f placed test) list in
    let at_first : Added (both (tested (env_at a s) if_word.place e (first_or (count_list ss) inside behind) behind) (bound_list a s ss inside behind)) d g =
    subst (λ (n : ℕ). Added (both (tested (env_at a s) if_word.place e n behind) (bound_list a s ss inside behind)) d g) there whole in
    subst (λ (n : ℕ). Added (both (tested (env_at a s) if_word.place e (first_or (count_list ss) n behind) behind) (bound_list a s ss n behind)) d g) suc_is at_first

-- `If condition Then statements Else statements`
pub if_else_added : (env : Env) (a : Around) (s : Standing) (if_word then_word else_word : Token) (e : Expr) (ss es : Stmts) (number inside middle end behind first other : ℕ) (d f g h : Drafted)
    → env ≡ env_at a s → inside ≡ number + 1 → middle ≡ inside + count_list ss → end ≡ middle + count_list es
    → ((k : ℕ) → middle ≡ inside + k → first ≡ first_or k inside behind) → ((k : ℕ) → end ≡ middle + k → other ≡ first_or k middle behind)
    → Added (tested env if_word.place e first other) d f → Added (bound_list a s ss inside behind) f g → Added (bound_list a s es middle behind) g h
    → Added (bound_statement a s (if_else if_word e then_word ss else_word es) number behind) d h
if_else_added env a s if_word then_word else_word e ss es number inside middle end behind first other d f g h placed inside_is middle_is end_is first_is other_is test list others =
    let suc_is : inside ≡ suc number = omega arith in
    let first_there : first ≡ first_or (count_list ss) inside behind = first_is (count_list ss) middle_is in
    let other_there : other ≡ first_or (count_list es) middle behind = other_is (count_list es) end_is in
    let lists : Added (both (bound_list a s ss inside behind) (bound_list a s es middle behind)) f h =
    both_added (bound_list a s ss inside behind) (bound_list a s es middle behind) f g h list others in
    let whole : Added (both (tested (env_at a s) if_word.place e first other) (both (bound_list a s ss inside behind) (bound_list a s es middle behind))) d h =
    both_added (tested (env_at a s) if_word.place e first other) (both (bound_list a s ss inside behind) (bound_list a s es middle behind)) d f h
    (tested_there env a s if_word.place e first other d f placed test) lists in
    let at_first : Added (both (tested (env_at a s) if_word.place e (first_or (count_list ss) inside behind) other) (both (bound_list a s ss inside behind) (bound_list a s es middle behind))) d h =
    subst (λ (n : ℕ). Added (both (tested (env_at a s) if_word.place e n other) (both (bound_list a s ss inside behind) (bound_list a s es middle behind))) d h) first_there whole in
    let at_other : Added (both (tested (env_at a s) if_word.place e (first_or (count_list ss) inside behind) (first_or (count_list es) middle behind)) (both (bound_list a s ss inside behind) (bound_list a s es middle behind))) d h =
    subst (λ (n : ℕ). Added (both (tested (env_at a s) if_word.place e (first_or (count_list ss) inside behind) n) (both (bound_list a s ss inside behind) (bound_list a s es middle behind))) d h) other_there at_first in
    let at_middle : Added (both (tested (env_at a s) if_word.place e (first_or (count_list ss) inside behind) (first_or (count_list es) (inside + count_list ss) behind)) (both (bound_list a s ss inside behind) (bound_list a s es (inside + count_list ss) behind))) d h =
    subst (λ (n : ℕ). Added (both (tested (env_at a s) if_word.place e (first_or (count_list ss) inside behind) (first_or (count_list es) n behind)) (both (bound_list a s ss inside behind) (bound_list a s es n behind))) d h) middle_is at_other in
    subst (λ (n : ℕ). Added (both (tested (env_at a s) if_word.place e (first_or (count_list ss) n behind) (first_or (count_list es) (n + count_list ss) behind)) (both (bound_list a s ss n behind) (bound_list a s es (n + count_list ss) behind))) d h) suc_is at_middle
