-- Where a tree begins, whatever stands behind it.
use Rattle.std.proofs.Common.{◌≡◌, List, [], ◌∷◌, ◌++◌, Some, None, refl, sym, ap, ◌∙◌, append_assoc}
use Rattle.vba_base.specs.declared.place.Place.{Place}
use Rattle.vba_lexer.specs.declared.token.Token.{Token}
use Rattle.vba_words.specs.declared.mark.Mark.TheVariants as mark
use Rattle.vba_words.specs.declared.reading.ReadToken.{ReadToken}
use Rattle.vba_words.specs.Spelling.{read, marked, naming}
use Rattle.vba_expression.specs.Tree.{Expr, literal, me, name, with_member, member, index, parenthesised, new, type_of, unary, binary}
use Rattle.vba_expression.specs.Spelling.{spell as spell_expression, spell_args, binary_reading}
use Rattle.vba_tree.specs.declared.line.LineLabel.{LineLabel}
use Rattle.vba_tree.specs.declared.line.LineLabel.TheVariants as line_label
use Rattle.vba_tree.specs.Tree.{BlockLine, else_line, Simple, constants, assignment, call, block_line, Stmt, simple, if_then, if_else, Stmts, nothing, one, gap, more}
use Rattle.vba_tree.specs.Spelling.{spell_block_line, spell_simple, spell_statement, spell_statements, spell_line_label}
use Rattle.vba_tree.specs.View.{Next, written, missing, put, put_all}
use Rattle.vba_module.specs.Parts.{nowhere, first_place}
use Rattle.vba_expression.specs.Tokens.{bare}
use Rattle.module_parts.specs.Firsts.{place_of_first}

abbrev place : List ReadToken → Place
place = first_place nowhere

-- tokens begin where the first of them stands
pub first_of_bare : (ts : List ReadToken) → place_of_first (bare ts) ≡ first_place nowhere ts
first_of_bare [] = refl
first_of_bare (t ∷ ts) = refl

-- what these tokens begin begins with them
abbrev Leads : List ReadToken → Type 0
Leads ts = (rest : List ReadToken) → place (ts ++ rest) ≡ place ts

leads_before : (ts us : List ReadToken) → Leads ts → Leads (ts ++ us)
leads_before ts us leads rest =
    ap (first_place nowhere) (append_assoc ts us rest) ∙ leads (us ++ rest) ∙ sym (leads us)

pub expression_front : (e : Expr) (rest : List ReadToken) → first_place nowhere (spell_expression e ++ rest) ≡ first_place nowhere (spell_expression e)
expression_front (literal l) rest = refl
expression_front (me token) rest = refl
expression_front (name x) rest = refl
expression_front (with_member dot x) rest = refl
expression_front (member base dot x) rest =
    leads_before (spell_expression base) (marked dot mark.Dot ∷ naming x ∷ []) (expression_front base) rest
expression_front (index base left arguments right) rest =
    leads_before (spell_expression base) (marked left mark.LeftParenthesis ∷ (spell_args arguments ++ marked right mark.RightParenthesis ∷ []))
    (expression_front base) rest
expression_front (parenthesised left inner right) rest = refl
expression_front (new new_word class) rest = refl
expression_front (type_of type_of_word operand is_word class) rest = refl
expression_front (unary operator token operand) rest = refl
expression_front (binary left operator token right) rest =
    leads_before (spell_expression left) (read token (binary_reading operator) ∷ spell_expression right) (expression_front left) rest

block_front : (line : BlockLine) → Leads (spell_block_line line)
block_front (else_line else_word) rest = refl
block_front other rest = refl

simple_front : (s : Simple) → Leads (spell_simple s)
simple_front (constants None const_word list) rest = refl
simple_front (constants (Some word) const_word list) rest = refl
simple_front (assignment None target equal e) rest =
    leads_before (spell_expression target) (marked equal mark.Equal ∷ spell_expression e) (expression_front target) rest
simple_front (assignment (Some let_word) target equal e) rest = refl
simple_front (call target arguments) rest = leads_before (spell_expression target) (spell_args arguments) (expression_front target) rest
simple_front (block_line line) rest = block_front line rest
simple_front other rest = refl

statement_front : (s : Stmt) → Leads (spell_statement s)
statement_front (simple s) rest = simple_front s rest
statement_front (if_then if_word condition then_word then_list) rest = refl
statement_front (if_else if_word condition then_word then_list else_word else_list) rest = refl

put_front : (before : Stmts) (next : Next) → Leads (spell_statements before)
    → Leads (spell_statements (put before next)) × (place (spell_statements (put before next)) ≡ place (spell_statements before))
put_front before (written colon s) leads =
    let behind = marked colon mark.Colon ∷ spell_statement s in
    (leads_before (spell_statements before) behind leads, leads behind)
put_front before (missing colon) leads =
    let behind = marked colon mark.Colon ∷ [] in
    (leads_before (spell_statements before) behind leads, leads behind)

put_all_front : (before : Stmts) (nexts : List Next) → Leads (spell_statements before)
    → place (spell_statements (put_all before nexts)) ≡ place (spell_statements before)
put_all_front before [] leads = refl
put_all_front before (next ∷ nexts) leads =
    let one_more = put_front before next leads in
    put_all_front (put before next) nexts one_more.0 ∙ one_more.1

-- a line whose first statement is written begins with it
pub first_front : (s : Stmt) (nexts : List Next)
    → first_place nowhere (spell_statements (put_all (one s) nexts)) ≡ first_place nowhere (spell_statement s)
first_front s nexts = put_all_front (one s) nexts (statement_front s)

-- a line whose first statement is missing begins with a colon
pub written_front : (colon : Token) (s : Stmt) (nexts : List Next)
    → first_place nowhere (spell_statements (put_all (more nothing colon s) nexts)) ≡ colon.place
written_front colon s nexts = put_all_front (more nothing colon s) nexts (λ rest. refl)

pub missing_front : (colon : Token) (nexts : List Next)
    → first_place nowhere (spell_statements (put_all (gap nothing colon) nexts)) ≡ colon.place
missing_front colon nexts = put_all_front (gap nothing colon) nexts (λ rest. refl)

-- a line with a label begins with it
pub label_front : (label : LineLabel) (rest : List ReadToken)
    → first_place nowhere (spell_line_label label ++ rest) ≡ first_place nowhere (spell_line_label label)
label_front (line_label.Name x colon) rest = refl
label_front (line_label.Number token number colon) rest = refl
