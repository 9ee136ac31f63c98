-- Statements behind colons declare variables one after another.
use Rattle.std.proofs.Common.{◌≡◌, Bool, true, false, ◌||◌, List, [], ◌∷◌, refl, sym, ap, ◌∙◌}
use Rattle.std.specs.List.{list_any}
use Rattle.std.specs.Prelude.{map}
use Rattle.vba_tree.specs.Tree.{Stmts, one}
use Rattle.vba_tree.specs.View.{Next, written, missing, put, put_all, next_view, statement_view, list_view}
use Rattle.vba_tree.specs.declared.statement.Statement.{Statement}
use Rattle.vba_tree.specs.declared.statement.StatementList.{StatementList, fold_out-StatementList}
use Rattle.constant_values.specs.declared_names.specs.binder.specs.Classes.{list_makes, statement_makes}
use Rattle.bound_declarations.specs.NewWords.{next_makes}

or_none : (b : Bool) → (b || false) ≡ b
or_none true = refl
or_none false = refl

or_both : (a b c : Bool) → ((a || b) || c) ≡ (a || (b || c))
or_both true b c = refl
or_both false b c = refl

made_put : (before : Stmts) (next : Next) → list_makes (put before next) ≡ (list_makes before || next_makes next)
made_put before (written colon s) = refl
made_put before (missing colon) = sym (or_none (list_makes before))

made_put_all : (before : Stmts) (others : List Next) → list_makes (put_all before others) ≡ (list_makes before || list_any next_makes others)
made_put_all before [] = sym (or_none (list_makes before))
made_put_all before (next ∷ others) =
    made_put_all (put before next) others ∙ ap (λ b. b || list_any next_makes others) (made_put before next) ∙ or_both (list_makes before) (next_makes next) (list_any next_makes others)

pub list_made : (list : StatementList) (statement : Statement) (first others : Bool) → statement ≡ list.first.value → first ≡ statement_makes (statement_view statement) → others ≡ list_any next_makes (map next_view list.others.items)
    → (first || others) ≡ list_makes (list_view list)
list_made list statement first others same is behind =
    rw (fold_out-StatementList, made_put_all (one (statement_view list.first.value)) (map next_view list.others.items))
    (ap (λ b. b || others) (is ∙ ap (λ s. statement_makes (statement_view s)) same) ∙ ap (λ b. statement_makes (statement_view list.first.value) || b) behind)
