-- The tokens of parts, one behind another.
use Rattle.std.proofs.Common.{◌≡◌, ℕ, ◌+◌, ◌<◌, List, [], ◌∷◌, ◌++◌, length, take, get_or, map, Option, Some, None, refl, sym, ◌∙◌, ap, append_assoc}
use Rattle.std.proofs.lemmas.List.{map-append, take_more, append-nil}
use Rattle.std.specs.Option.{option_to_list}
use Rattle.std.specs.Prelude.{Result, Ok, Err, OnOk}
use Rattle.vba_lexer.specs.declared.token.Token.{Token}
use Rattle.vba_words.specs.declared.keyword.Keyword.{Keyword}
use Rattle.vba_words.specs.declared.reading.ReadToken.{ReadToken}
use Rattle.vba_tree.specs.declared.procedure.ProcedureKind.{ProcedureKind}
use Rattle.vba_tree.specs.declared.procedure.ProcedureKind.TheVariants as procedure_kind
use Rattle.vba_tree.specs.declared.simple.ExitKind.{ExitKind}
use Rattle.vba_tree.specs.declared.simple.ExitKind.TheVariants as exit_kind
use Rattle.vba_tree.specs.declared.statement.Statement.{Statement}
use Rattle.vba_tree.specs.declared.statement.NextStatement.{NextStatement}
use Rattle.vba_tree.specs.declared.statement.StatementList.{StatementList, fold_out-StatementList}
use Rattle.vba_tree.specs.Tree as lines
use Rattle.vba_tree.specs.View as views
use Rattle.vba_tree.specs.View.{Next, next_view, statement_view, list_view}
use Rattle.vba_tree.specs.Items.{next_tokens, all_next_tokens}
use Rattle.vba_tree.specs.Spelling.{tokens_of, optional_word, exit_token, kind_token, spell_statement, spell_statements}

pub tokens_of_append : (left right : List ReadToken) → tokens_of (left ++ right) ≡ tokens_of left ++ tokens_of right
tokens_of_append left right = map-append (λ (token : ReadToken). token.token) left right

pub tokens_of_word : (kept : Keyword) (token : Option Token) → tokens_of (optional_word kept token) ≡ option_to_list token
tokens_of_word kept None = refl
tokens_of_word kept (Some token) = refl

pub exit_token_itself : (token : Token) (kind : ExitKind) → (exit_token token kind).token ≡ token
exit_token_itself token exit_kind.Sub = refl
exit_token_itself token exit_kind.Function = refl
exit_token_itself token exit_kind.Property = refl
exit_token_itself token exit_kind.For = refl
exit_token_itself token exit_kind.Do = refl

pub kind_token_itself : (token : Token) (kind : ProcedureKind) → (kind_token token kind).token ≡ token
kind_token_itself token procedure_kind.Sub = refl
kind_token_itself token procedure_kind.Function = refl
kind_token_itself token procedure_kind.Property = refl

spell_next : (before : lines.Stmts) (next : Next) → spell_statements (views.put before next) ≡ spell_statements before ++ next_tokens next
spell_next before (Next.written colon statement) = refl
spell_next before (Next.missing colon) = refl

spell_put_all : (before : lines.Stmts) (others : List Next) → spell_statements (views.put_all before others) ≡ spell_statements before ++ all_next_tokens others
spell_put_all before [] = sym (append-nil (spell_statements before))
spell_put_all before (next ∷ others) =
    spell_put_all (views.put before next) others ∙ rw (spell_next before next) (append_assoc (spell_statements before) (next_tokens next) (all_next_tokens others))

-- a part, and what is behind it
pub part_pushed : {T E : Type 0} (result : Result T E) (before now new : List Token) (part rest : List ReadToken)
    → now ≡ before ++ tokens_of part
    → OnOk result (new ≡ now ++ tokens_of rest)
    → OnOk result (new ≡ before ++ tokens_of (part ++ rest))
part_pushed (Ok value) before now new part rest first behind =
    let assoc = append_assoc before (tokens_of part) (tokens_of rest) in
    rw (tokens_of_append part rest) (cc)
part_pushed (Err error) before now new part rest first behind = behind

-- statements, and others behind them
pub statements_pushed : {T E : Type 0} (result : Result T E) (before now new : List Token) (first : lines.Stmts) (others : List Next)
    → now ≡ before ++ tokens_of (spell_statements first)
    → OnOk result (new ≡ now ++ tokens_of (all_next_tokens others))
    → OnOk result (new ≡ before ++ tokens_of (spell_statements (views.put_all first others)))
statements_pushed result before now new first others is behind =
    rw (spell_put_all first others) (part_pushed result before now new (spell_statements first) (all_next_tokens others) is behind)

-- the same of a list
pub list_pushed : {T E : Type 0} (result : Result T E) (before now new : List Token) (statement : Statement) (list : StatementList)
    → statement ≡ list.first.value
    → now ≡ before ++ tokens_of (spell_statement (statement_view statement))
    → OnOk result (new ≡ now ++ tokens_of (all_next_tokens (map next_view list.others.items)))
    → OnOk result (new ≡ before ++ tokens_of (spell_statements (list_view list)))
list_pushed result before now new statement list same is behind =
    rw fold_out-StatementList
    (statements_pushed result before now new (lines.one (statement_view list.first.value)) (map next_view list.others.items) (rw same at is) behind)

all_next_more : (others : List Next) (next : Next) → all_next_tokens (others ++ next ∷ []) ≡ all_next_tokens others ++ next_tokens next
all_next_more [] next = append-nil (next_tokens next)
all_next_more (other ∷ others) next =
    ap (λ rest. next_tokens other ++ rest) (all_next_more others next) ∙ sym (append_assoc (next_tokens other) (all_next_tokens others) (next_tokens next))

-- one statement more
pub next_step : (before now new : List Token) (others : List NextStatement) (index : ℕ) (next : NextStatement)
    → index < length others → next ≡ get_or others index next
    → now ≡ before ++ tokens_of (all_next_tokens (map next_view (take index others)))
    → new ≡ now ++ tokens_of (next_tokens (next_view next))
    → new ≡ before ++ tokens_of (all_next_tokens (map next_view (take (index + 1) others)))
next_step before now new others index next more here was is =
    let seen = map next_view (take index others) in
    let assoc = append_assoc before (tokens_of (all_next_tokens seen)) (tokens_of (next_tokens (next_view next))) in
    rw (
      take_more others index next more,
      ← here,
      map-append next_view (take index others) (next ∷ []),
      all_next_more seen (next_view next),
      tokens_of_append (all_next_tokens seen) (next_tokens (next_view next)),
    )
    (cc)
