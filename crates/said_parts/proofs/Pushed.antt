-- What is said, one more.
use Rattle.std.proofs.Common.{◌≡◌, Bool, List, [], ◌∷◌, ◌++◌, map, refl, sym, ap, ◌∙◌, append_assoc}
use Rattle.std.specs.Prelude.{Result, Ok, Err, OnOk}
use Rattle.std.proofs.lemmas.List.{append-nil}
use Rattle.std.proofs.lemmas.List.Concat.{flat_map-append}
use Rattle.vba_tree.specs.declared.statement.Statement.{Statement}
use Rattle.vba_tree.specs.declared.statement.StatementList.{StatementList, fold_out-StatementList}
use Rattle.vba_tree.specs.Tree as tree
use Rattle.vba_tree.specs.View.{Next, written, missing, put, put_all, next_view, statement_view, list_view}
use Rattle.binder.specs.Said as plain
use Rattle.said_parts.specs.Statements.{next_said, all_next_said}
use Rattle.said_parts.specs.declared.said.Said.{Said}
use Rattle.said_parts.specs.View.{said_view, all_said}

pub said_more : (said : List Said) (next : Said) → all_said (said ++ next ∷ []) ≡ all_said said ++ said_view next
said_more said next = flat_map-append said_view said (next ∷ []) ∙ ap (λ more. all_said said ++ more) (append-nil (said_view next))

-- statements and one more behind a colon, or none
said_put : (static : Bool) (before : tree.Stmts) (next : Next)
    → plain.said_in_list static (put before next) ≡ plain.said_in_list static before ++ next_said static next
said_put static before (written colon s) = refl
said_put static before (missing colon) = sym (append-nil (plain.said_in_list static before))

said_put_all : (static : Bool) (before : tree.Stmts) (others : List Next)
    → plain.said_in_list static (put_all before others) ≡ plain.said_in_list static before ++ all_next_said static others
said_put_all static before [] = sym (append-nil (plain.said_in_list static before))
said_put_all static before (next ∷ others) =
    said_put_all static (put before next) others
    ∙ rw (said_put static before next) (append_assoc (plain.said_in_list static before) (next_said static next) (all_next_said static others))

list_said : (static : Bool) (list : StatementList)
    → plain.said_in_list static (list_view list)
    ≡ plain.said static (statement_view list.first.value) ++ all_next_said static (map next_view list.others.items)
list_said static list =
    rw fold_out-StatementList (said_put_all static (tree.one (statement_view list.first.value)) (map next_view list.others.items))

-- a list: the first, and the others behind it
pub list_pushed : {T E : Type 0} (result : Result T E) (static : Bool) (old now new : List plain.Said) (statement : Statement) (list : StatementList)
    → statement ≡ list.first.value
    → now ≡ old ++ plain.said static (statement_view statement)
    → OnOk result (new ≡ now ++ all_next_said static (map next_view list.others.items))
    → OnOk result (new ≡ old ++ plain.said_in_list static (list_view list))
list_pushed (Err e) static old now new statement list same is behind = tt
list_pushed (Ok x) static old now new statement list same is behind =
    behind
    ∙ ap (λ said. said ++ all_next_said static (map next_view list.others.items)) (is ∙ ap (λ s. old ++ plain.said static (statement_view s)) same)
    ∙ append_assoc old (plain.said static (statement_view list.first.value)) (all_next_said static (map next_view list.others.items))
    ∙ ap (λ said. old ++ said) (sym (list_said static list))
