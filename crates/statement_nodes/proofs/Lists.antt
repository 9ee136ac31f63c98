-- Statements of a line, bound from the left.
use Rattle.std.proofs.Common.{◌≡◌, ℕ, zero, suc, ◌+◌, List, [], ◌∷◌, ◌++◌, add_assoc, append_assoc, add-zero, arith, refl, ◌∙◌, sym, ap}
use Rattle.std.specs.Prelude.{map, Option, Some, None}
use Rattle.std.proofs.lemmas.List.{append-nil}
use Rattle.vba_tree.specs.Tree.{Stmts}
use Rattle.vba_tree.specs.Tree as tree
use Rattle.vba_tree.specs.declared.statement.Statement as line
use Rattle.vba_tree.specs.declared.statement.StatementList.{StatementList, fold_out-StatementList}
use Rattle.vba_tree.specs.View.{Next, written, missing, put, put_all, next_view, statement_view, list_view}
use Rattle.bound_project.specs.Statements.{Statement}
use Rattle.bound_calls.specs.bound_declarations.specs.constant_values.specs.declared_names.specs.binder.specs.Numbering.{Standing, count, count_list}
use Rattle.bound_calls.specs.bound_forms.specs.StatementsBound.{Around, both, first_or, bound_statement, bound_list}
use Rattle.statement_numbers.specs.Counts.{next_count, next_counts}
use Rattle.statement_numbers.proofs.Counted.{list_counted}
use Rattle.bound_project.specs.Drafts.{Drafted}
use Rattle.statement_nodes.specs.Nexts.{bound_next, bound_nexts, OthersWalked}
use Rattle.statement_nodes.specs.Walks.{Added}
use Rattle.statement_nodes.proofs.Walked.{both_empty, both_assoc, both_added}

zero_add : (n : ℕ) → 0 + n ≡ n
zero_add n = omega arith

both_last : (x : Option (List Statement)) → both x (Some []) ≡ x
both_last None = refl
both_last (Some x) = ap Some (append-nil x)

-- the first of statements, or of those behind them
first_or_sum : (k c m b : ℕ) → first_or k m (first_or c (m + k) b) ≡ first_or (k + c) m b
first_or_sum zero c m b = ap (λ n. first_or c n b) (add-zero m) ∙ ap (λ n. first_or n m b) (sym (zero_add c))
first_or_sum (suc k) c m b =
    let more : suc (k + c) ≡ suc k + c = omega arith in
    ap (λ n. first_or n m b) more

pub bound_put_all : (a : Around) (s : Standing) (nexts : List Next) (before : Stmts) (n b : ℕ)
    → bound_list a s (put_all before nexts) n b
    ≡ both (bound_list a s before n (first_or (next_counts nexts) (n + count_list before) b)) (bound_nexts a s nexts (n + count_list before) b)
bound_put_all a s [] before n b = sym (both_last (bound_list a s before n b))
bound_put_all a s (written colon x ∷ others) before n b =
    let middle : ℕ = n + count_list before in
    let c : ℕ = next_counts others in
    let there = bound_put_all a s others (put before (written colon x)) n b in
    let behind : n + (count_list before + count x) ≡ middle + count x = sym (add_assoc n (count_list before) (count x)) in
    there
    ∙ (ap (λ m. both (bound_list a s (put before (written colon x)) n (first_or c m b)) (bound_nexts a s others m b)) behind
    ∙ (sym (both_assoc (bound_list a s before n (first_or (count x) middle (first_or c (middle + count x) b)))
    (bound_statement a s x middle (first_or c (middle + count x) b)) (bound_nexts a s others (middle + count x) b))
    ∙ ap (λ m. both (bound_list a s before n m) (both (bound_statement a s x middle (first_or c (middle + count x) b)) (bound_nexts a s others (middle + count x) b)))
    (first_or_sum (count x) c middle b)))
bound_put_all a s (missing colon ∷ others) before n b =
    let middle : ℕ = n + count_list before in
    let there = bound_put_all a s others (put before (missing colon)) n b in
    there
    ∙ (ap (λ c. both (bound_list a s before n (first_or c middle b)) (bound_nexts a s others middle b)) (sym (zero_add (next_counts others)))
    ∙ (ap (λ m. both (bound_list a s before n (first_or (0 + next_counts others) middle b)) (bound_nexts a s others m b)) (sym (add-zero middle))
    ∙ ap (both (bound_list a s before n (first_or (0 + next_counts others) middle b))) (sym (both_empty (bound_nexts a s others (middle + 0) b)))))

-- no statement, or one, stands between two numbers
pub first_none : (k number end behind : ℕ) → number ≡ end → end ≡ number + k → behind ≡ first_or k number behind
first_none zero number end behind same is = refl
first_none (suc k) number end behind same is = absurd (omega arith)

pub first_some : (k number end behind : ℕ) → (number ≡ end → ⊥) → end ≡ number + k → number ≡ first_or k number behind
first_some zero number end behind apart is = absurd (apart (omega arith))
first_some (suc k) number end behind apart is = refl

joined : (x y z : List Statement) → (x ++ y) ++ z ≡ x ++ (y ++ z)
joined x y z = rw append_assoc

-- before the first behind a colon
pub others_begin : (a : Around) (s : Standing) (all : List Next) (number end behind : ℕ) (d : Drafted) → d.pieces ≡ [] → end ≡ number + next_counts all
    → OthersWalked a s all number behind d all number end behind d
others_begin a s all number end behind d empty is = record {
  made = [];
  is = sym (both_empty (bound_nexts a s all number behind));
  behind_is = refl;
  end_is = is;
  statements = sym (append-nil d.statements);
  bodies = refl;
  pieces = empty;
}

-- the statements of a list are counted
pub counted_apart : (list : StatementList) → count_list (list_view list) ≡ count (statement_view list.first.value) + next_counts (map next_view list.others.items)
counted_apart list = sym (list_counted list list.first.value (count (statement_view list.first.value)) (next_counts (map next_view list.others.items)) refl refl refl)

-- those behind the first one
pub others_counted : (list : StatementList) (x : line.Statement) (number k middle end : ℕ) → x ≡ list.first.value → k ≡ count (statement_view x) → middle ≡ number + k
    → end ≡ number + count_list (list_view list) → end ≡ middle + next_counts (map next_view list.others.items)
others_counted list x number k middle end same k_is middle_is end_is =
    let first : k ≡ count (statement_view list.first.value) = k_is ∙ ap (λ (s : line.Statement). count (statement_view s)) same in
    let apart : count_list (list_view list) ≡ count (statement_view list.first.value) + next_counts (map next_view list.others.items) = counted_apart list in
    omega arith

-- a list is its first statement and those behind colons
pub list_added : (a : Around) (s : Standing) (list : StatementList) (x : line.Statement) (number middle end behind first : ℕ) (d e f : Drafted)
    → x ≡ list.first.value → middle ≡ number + count (statement_view x) → end ≡ middle + next_counts (map next_view list.others.items)
    → ((k : ℕ) → end ≡ middle + k → first ≡ first_or k middle behind)
    → Added (bound_statement a s (statement_view x) number first) d e → Added (bound_nexts a s (map next_view list.others.items) middle behind) e f
    → Added (bound_list a s (list_view list) number behind) d f
list_added a s list x number middle end behind first d e f same middle_is end_is first_is one others =
    let nexts = map next_view list.others.items in
    let there : first ≡ first_or (next_counts nexts) middle behind = first_is (next_counts nexts) end_is in
    let both_are : Added (both (bound_statement a s (statement_view x) number first) (bound_nexts a s nexts middle behind)) d f =
    both_added (bound_statement a s (statement_view x) number first) (bound_nexts a s nexts middle behind) d e f one others in
    rw (fold_out-StatementList, bound_put_all a s nexts (tree.one (statement_view list.first.value)) number behind, ← same, ← middle_is, ← there) both_are

-- behind one that was added
pub others_go_on : (a : Around) (s : Standing) (all : List Next) (number behind : ℕ) (d : Drafted) (next : Next) (left : List Next) (now end behind_now middle first : ℕ) (e f : Drafted)
    → OthersWalked a s all number behind d (next ∷ left) now end behind_now e → middle ≡ now + next_count next
    → ((k : ℕ) → end ≡ middle + k → first ≡ first_or k middle behind_now) → Added (bound_next a s next now first) e f
    → OthersWalked a s all number behind d left middle end behind_now f
others_go_on a s all number behind d next left now end behind_now middle first e f w middle_is first_is x =
    let end_is : end ≡ middle + next_counts left = w.end_is ∙ (sym (add_assoc now (next_count next) (next_counts left)) ∙ ap (λ n. n + next_counts left) (sym middle_is)) in
    let first_there : first ≡ first_or (next_counts left) middle behind = first_is (next_counts left) end_is ∙ ap (first_or (next_counts left) middle) w.behind_is in
    let one : bound_next a s next now (first_or (next_counts left) middle behind) ≡ Some x.made = ap (bound_next a s next now) (sym first_there) ∙ x.is in
    let both_are : bound_nexts a s (next ∷ left) now behind ≡ both (Some x.made) (bound_nexts a s left middle behind) =
    ap (λ m. both (bound_next a s next now (first_or (next_counts left) m behind)) (bound_nexts a s left m behind)) (sym middle_is)
    ∙ ap (λ o. both o (bound_nexts a s left middle behind)) one in
    record {
      made = w.made ++ x.made;
      is = w.is ∙ (ap (both (Some w.made)) both_are ∙ both_assoc (Some w.made) (Some x.made) (bound_nexts a s left middle behind));
      behind_is = w.behind_is;
      end_is = end_is;
      statements = x.statements ∙ (ap (λ xs. xs ++ x.made) w.statements ∙ joined d.statements w.made x.made);
      bodies = x.bodies ∙ w.bodies;
      pieces = x.pieces;
    }

-- behind the last
pub others_end : (a : Around) (s : Standing) (all : List Next) (number behind : ℕ) (d : Drafted) (now end behind_now : ℕ) (e : Drafted)
    → OthersWalked a s all number behind d [] now end behind_now e → Added (bound_nexts a s all number behind) d e
others_end a s all number behind d now end behind_now e w = record {
  made = w.made;
  is = w.is ∙ both_last (Some w.made);
  statements = w.statements;
  bodies = w.bodies;
  pieces = w.pieces;
}
