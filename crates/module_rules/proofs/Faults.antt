-- Where statements break a rule, statement by statement.
use Rattle.std.proofs.Common.{◌≡◌, ℕ, ◌+◌, ◌<◌, List, [], ◌∷◌, ◌++◌, length, take, get_or, map, Option, Some, refl, sym, ap, ◌∙◌, append_assoc, rules}
use Rattle.std.specs.Prelude.{not}
use Rattle.std.proofs.lemmas.List.{append-nil, map-append, take_more}
use Rattle.vba_base.specs.declared.place.Refusal.{Refusal}
use Rattle.vba_lexer.specs.declared.token.Token.{Token}
use Rattle.vba_expression.specs.Tree.{Expr}
use Rattle.vba_expression.specs.View.{view as expression_view}
use Rattle.vba_expression.specs.declared.expression.Expression.{Expression}
use Rattle.vba_tree.specs.declared.statement.Statement.{Statement, the_lemmas}
use Rattle.vba_tree.specs.declared.statement.Statement.TheVariants as statements
use Rattle.vba_tree.specs.declared.statement.NextStatement.{NextStatement}
use Rattle.vba_tree.specs.declared.statement.StatementList.{StatementList, fold_out-StatementList}
use Rattle.vba_tree.specs.Tree as tree
use Rattle.vba_tree.specs.View.{Next, written, missing, put, put_all, next_view, statement_view, list_view}
use Rattle.vba_module.specs.Blocks.{exits_of, exits_of_all}
use Rattle.vba_module.specs.Headers.{value_faults}
use Rattle.vba_module.specs.Misplaced.{place_if}
use Rattle.module_rules.specs.Found.{noted, has_some}
use Rattle.module_rules.specs.Seen.{stack}
use Rattle.module_rules.specs.Statements.{rule_of, faults, all_faults, next_faults, all_next_faults}
use Rattle.module_rules.specs.declared.statements.Check.{Check}
use Rattle.module_rules.specs.declared.statements.Check.TheVariants as check
use Rattle.module_rules.proofs.ExitsFound.{exit_faults_append}
use Rattle.module_rules.proofs.Noted.{noted_append}

-- a statement that is a single-line If with both of its lists
pub two_noted : (sought : Check) (found : Option Refusal) (if_word then_word else_word : Token) (condition : Expr) (ss us : tree.Stmts)
    → noted (rule_of sought) found (faults sought (tree.if_else if_word condition then_word ss else_word us))
    ≡ noted (rule_of sought) (noted (rule_of sought) found (all_faults sought ss)) (all_faults sought us)
two_noted (check.Exits opened) found if_word then_word else_word condition ss us =
    rw (exit_faults_append (stack opened.now) (exits_of_all ss) (exits_of_all us))
    (noted_append 11 found (all_faults (check.Exits opened) ss) (all_faults (check.Exits opened) us))
two_noted check.Body found if_word then_word else_word condition ss us = noted_append 12 found (all_faults check.Body ss) (all_faults check.Body us)
two_noted check.Bounds found if_word then_word else_word condition ss us = noted_append 14 found (all_faults check.Bounds ss) (all_faults check.Bounds us)

faults_put : (sought : Check) (before : tree.Stmts) (next : Next) → all_faults sought (put before next) ≡ all_faults sought before ++ next_faults sought next
faults_put (check.Exits opened) before (written colon s) = exit_faults_append (stack opened.now) (exits_of_all before) (exits_of s)
faults_put check.Body before (written colon s) = refl
faults_put check.Bounds before (written colon s) = refl
faults_put (check.Exits opened) before (missing colon) = sym (append-nil (all_faults (check.Exits opened) before))
faults_put check.Body before (missing colon) = sym (append-nil (all_faults check.Body before))
faults_put check.Bounds before (missing colon) = sym (append-nil (all_faults check.Bounds before))

faults_put_all : (sought : Check) (before : tree.Stmts) (others : List Next)
    → all_faults sought (put_all before others) ≡ all_faults sought before ++ all_next_faults sought others
faults_put_all sought before [] = sym (append-nil (all_faults sought before))
faults_put_all sought before (next ∷ others) =
    faults_put_all sought (put before next) others
    ∙ rw (faults_put sought before next) (append_assoc (all_faults sought before) (next_faults sought next) (all_next_faults sought others))

faults_one : (sought : Check) (s : tree.Stmt) → all_faults sought (tree.one s) ≡ faults sought s
faults_one (check.Exits opened) s = refl
faults_one check.Body s = refl
faults_one check.Bounds s = refl

-- a list: the first, and the others behind it
pub list_noted : (sought : Check) (found now new : Option Refusal) (statement : Statement) (list : StatementList)
    → statement ≡ list.first.value
    → now ≡ noted (rule_of sought) found (faults sought (statement_view statement))
    → new ≡ noted (rule_of sought) now (all_next_faults sought (map next_view list.others.items))
    → new ≡ noted (rule_of sought) found (all_faults sought (list_view list))
list_noted sought found now new statement list same is behind =
    let first = faults_one sought (statement_view list.first.value) in
    rw (
      fold_out-StatementList,
      faults_put_all sought (tree.one (statement_view list.first.value)) (map next_view list.others.items),
      noted_append (rule_of sought) found (all_faults sought (tree.one (statement_view list.first.value))) (all_next_faults sought (map next_view list.others.items)),
      first,
    )
    (let front = rw same at is in cc)

next_faults_more : (sought : Check) (others : List Next) (next : Next) → all_next_faults sought (others ++ next ∷ []) ≡ all_next_faults sought others ++ next_faults sought next
next_faults_more sought [] next = append-nil (next_faults sought next)
next_faults_more sought (other ∷ others) next =
    ap (λ rest. next_faults sought other ++ rest) (next_faults_more sought others next)
    ∙ sym (append_assoc (next_faults sought other) (all_next_faults sought others) (next_faults sought next))

-- one statement more
pub next_noted : (sought : Check) (found now new : Option Refusal) (others : List NextStatement) (index : ℕ) (next : NextStatement)
    → index < length others → next ≡ get_or others index next
    → now ≡ noted (rule_of sought) found (all_next_faults sought (map next_view (take index others)))
    → new ≡ noted (rule_of sought) now (next_faults sought (next_view next))
    → new ≡ noted (rule_of sought) found (all_next_faults sought (map next_view (take (index + 1) others)))
next_noted sought found now new others index next more here was is =
    let seen = map next_view (take index others) in
    rw (
      take_more others index next more,
      ← here,
      map-append next_view (take index others) (next ∷ []),
      next_faults_more sought seen (next_view next),
      noted_append (rule_of sought) found (all_next_faults sought seen) (next_faults sought (next_view next)),
    )
    (cc)

pub value_faults_are : (word : Token) (parameters : List tree.Parameter) → value_faults (Some word) parameters ≡ place_if (not (has_some parameters)) word.place
value_faults_are word [] = refl
value_faults_are word (parameter ∷ parameters) = refl

view_if_else : (if_word then_word else_word : Token) (condition : Expression) (then_list else_list : StatementList)
    → statement_view (statements.SingleLineIfElse if_word condition then_word then_list else_word else_list)
    ≡ tree.if_else if_word (expression_view condition) then_word (list_view then_list) else_word (list_view else_list)
view_if_else if_word then_word else_word condition then_list else_list = search (rules, the_lemmas)

-- a single-line If with both of its lists, one behind the other
pub else_noted : (sought : Check) (found now new : Option Refusal) (if_word then_word else_word : Token) (condition : Expression) (then_list else_list : StatementList)
    → now ≡ noted (rule_of sought) found (all_faults sought (list_view then_list))
    → new ≡ noted (rule_of sought) now (all_faults sought (list_view else_list))
    → new ≡ noted (rule_of sought) found (faults sought (statement_view (statements.SingleLineIfElse if_word condition then_word then_list else_word else_list)))
else_noted sought found now new if_word then_word else_word condition then_list else_list first second =
    rw (view_if_else if_word then_word else_word condition then_list else_list)
    (second
    ∙ ap (λ f. noted (rule_of sought) f (all_faults sought (list_view else_list))) first
    ∙ sym (two_noted sought found if_word then_word else_word (expression_view condition) (list_view then_list) (list_view else_list)))
