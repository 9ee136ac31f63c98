-- Statements and one more, and as a list whose first is written.
use Rattle.std.proofs.Common.{◌≡◌, true, false, List, [], ◌∷◌, ◌++◌, Some, None, refl, ◌∙◌}
use Rattle.std.specs.Prelude.{map}
use Rattle.vba_tree.specs.declared.statement.Statement.{Statement}
use Rattle.vba_tree.specs.declared.statement.NextStatement.{NextStatement}
use Rattle.vba_tree.specs.declared.statement.StatementList.{StatementList, StatementList-F, roll-StatementList, fold_out-StatementList}
use Rattle.vba_tree.specs.Forms.{begins}
use Rattle.vba_tree.specs.Tree.{Stmts}
use Rattle.vba_tree.specs.View.{Next, written, missing, put, put_all, front, list_view, next_view}

pub statements_push : (before : Stmts) (others : List NextStatement) (next : NextStatement)
    → put_all before (map next_view (others ++ next ∷ [])) ≡ put (put_all before (map next_view others)) (next_view next)
statements_push before [] next = refl
statements_push before (other ∷ others) next = statements_push (put before (next_view other)) others next

begins_put : (before : Stmts) (next : Next) → begins (put before next) ≡ begins before
begins_put before (written colon statement) = refl
begins_put before (missing colon) = refl

begins_put_all : (before : Stmts) (others : List Next) → begins (put_all before others) ≡ begins before
begins_put_all before [] = refl
begins_put_all before (next ∷ others) = begins_put_all (put before next) others ∙ begins_put before next

-- what is missing in front doesn't begin
pub none_begins : (others : List NextStatement) → begins (put_all (front None) (map next_view others)) ≡ true → ⊥
none_begins others h =
    let e : begins (put_all (front None) (map next_view others)) ≡ false = begins_put_all (front None) (map next_view others) in
    cc

list_is : (list : StatementList) → list_view list ≡ put_all (front (Some list.first.value)) (map next_view list.others.items)
list_is list = rw fold_out-StatementList refl

-- a list that is made
pub list_made : (r : StatementList-F NextStatement Statement StatementList)
    → list_view (roll-StatementList r) ≡ put_all (front (Some r.first.value)) (map next_view r.others.items)
list_made r = list_is (roll-StatementList r)
