-- Statements behind colons are counted one after another.
use Rattle.std.proofs.Common.{◌≡◌, ℕ, ◌+◌, List, [], ◌∷◌, ◌++◌, take, get_or, length, ◌<◌, refl, sym, ap, ◌∙◌, add_assoc, add-zero, arith}
use Rattle.std.specs.Prelude.{map}
use Rattle.std.proofs.lemmas.List.{map-append, take_more}
use Rattle.vba_tree.specs.Tree.{Stmts, one}
use Rattle.vba_tree.specs.View.{Next, written, missing, put, put_all, next_view, statement_view, list_view}
use Rattle.vba_tree.specs.declared.statement.Statement.{Statement}
use Rattle.vba_tree.specs.declared.statement.NextStatement.{NextStatement}
use Rattle.vba_tree.specs.declared.statement.StatementList.{StatementList, fold_out-StatementList}
use Rattle.binder.specs.Numbering.{count, count_list}
use Rattle.statement_numbers.specs.Counts.{next_count, next_counts}

count-put : (before : Stmts) (next : Next) → count_list (put before next) ≡ count_list before + next_count next
count-put before (written colon s) = refl
count-put before (missing colon) = sym (add-zero (count_list before))

pub count-put_all : (before : Stmts) (others : List Next) → count_list (put_all before others) ≡ count_list before + next_counts others
count-put_all before [] = sym (add-zero (count_list before))
count-put_all before (next ∷ others) =
    let here : count_list (put before next) ≡ count_list before + next_count next = count-put before next in
    let there : count_list (put_all (put before next) others) ≡ count_list (put before next) + next_counts others = count-put_all (put before next) others in
    there ∙ (ap (λ n. n + next_counts others) here ∙ add_assoc (count_list before) (next_count next) (next_counts others))

pub counts-append : (xs ys : List Next) → next_counts (xs ++ ys) ≡ next_counts xs + next_counts ys
counts-append [] ys = omega arith
counts-append (x ∷ xs) ys = ap (λ n. next_count x + n) (counts-append xs ys) ∙ sym (add_assoc (next_count x) (next_counts xs) (next_counts ys))

pub counts-one : (xs : List Next) (x : Next) → next_counts (xs ++ x ∷ []) ≡ next_counts xs + next_count x
counts-one xs x = counts-append xs (x ∷ []) ∙ ap (λ n. next_counts xs + n) (add-zero (next_count x))

pub list_counted : (list : StatementList) (statement : Statement) (first others : ℕ)
    → statement ≡ list.first.value
    → first ≡ count (statement_view statement)
    → others ≡ next_counts (map next_view list.others.items)
    → first + others ≡ count_list (list_view list)
list_counted list statement first others same is behind =
    rw (fold_out-StatementList, count-put_all (one (statement_view list.first.value)) (map next_view list.others.items))
    (let front = rw same at is in cc)

pub next_counted : (now more new : ℕ) (others : List NextStatement) (index : ℕ) (next : NextStatement)
    → index < length others → next ≡ get_or others index next
    → now ≡ next_counts (map next_view (take index others))
    → more ≡ next_count (next_view next)
    → new ≡ now + more
    → new ≡ next_counts (map next_view (take (index + 1) others))
next_counted now more new others index next within here was one_more is =
    rw (take_more others index next within, ← here, map-append next_view (take index others) (next ∷ []), counts-one (map next_view (take index others)) (next_view next))
    (cc)
