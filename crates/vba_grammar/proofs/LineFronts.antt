-- Statements are read as statements, by the first words of their line.
use Rattle.std.proofs.lemmas.List.{append-nil}
use Rattle.std.proofs.Common.{◌≡◌, ℕ, Bool, true, false, List, [], ◌∷◌, ◌++◌, Option, Some, None, refl, sym, ap, ◌∙◌, append_assoc}
use Rattle.std.specs.Prelude.{◌||◌, ◌&&◌, if◌then◌else◌, codes}
use Rattle.vba_lexer.specs.declared.token.Token.{Token}
use Rattle.vba_lexer.specs.declared.number.TypeSuffix.{TypeSuffix}
use Rattle.vba_words.specs.declared.identifier.Identifier.{Identifier}
use Rattle.vba_words.specs.declared.keyword.Keyword.TheVariants as keyword
use Rattle.vba_words.specs.declared.mark.Mark.TheVariants as mark
use Rattle.vba_words.specs.declared.reading.Reading.{Reading}
use Rattle.vba_words.specs.declared.reading.Reading.TheVariants as reading
use Rattle.vba_words.specs.declared.reading.ReadToken.{ReadToken}
use Rattle.vba_words.specs.Spelling.{read, word, marked, naming}
use Rattle.vba_expression.specs.declared.operator.UnaryOperator.{UnaryOperator}
use Rattle.vba_expression.specs.declared.operator.UnaryOperator.TheVariants as unary_op
use Rattle.vba_expression.specs.declared.operator.BinaryOperator.{BinaryOperator}
use Rattle.vba_expression.specs.declared.operator.BinaryOperator.TheVariants as op
use Rattle.vba_expression.specs.declared.tree.LiteralValue.{LiteralValue}
use Rattle.vba_expression.specs.declared.tree.LiteralValue.TheVariants as value
use Rattle.vba_expression.specs.declared.tree.TypeQualifier.{TypeQualifier}
use Rattle.vba_expression.specs.Tree.{Expr, literal, me, name, with_member, member, index, parenthesised, new, type_of, unary, binary, Args, no_args, missing, plain, named}
use Rattle.vba_expression.specs.Spelling.{spell as spell_expression, spell_args, comma_tokens, literal_reading, unary_reading, binary_reading, type_name_tokens}
use Rattle.vba_expression.specs.Fitting.{is_place, FitsArgs}
use Rattle.vba_tree.specs.declared.declaration.Access.{Access}
use Rattle.vba_tree.specs.declared.declaration.Access.TheVariants as access
use Rattle.vba_tree.specs.declared.declaration.VariableWord.{VariableWord}
use Rattle.vba_tree.specs.declared.declaration.VariableWord.TheVariants as variable_word
use Rattle.vba_tree.specs.declared.simple.PrintMark.{PrintMark}
use Rattle.vba_tree.specs.declared.simple.PrintMark.TheVariants as print_mark
use Rattle.vba_tree.specs.Tree.{Dims, NewTypeClause, Variable, PrintItem, Simple, variables, constants, assignment, call, end, debug_print, block_line, BlockLine, end_if, end_select, end_with, Stmt, simple, if_then, if_else, Stmts, nothing, one, gap, more}
use Rattle.vba_tree.specs.Spelling.{optional, place_word, print_mark_of, spell_print_items, spell_dims, spell_new_type_clause, spell_variable, spell_constant, spell_others, with_commas, access_keyword, variable_keyword, spell_simple, spell_block_line, spell_statement, spell_statements}
use Rattle.vba_tree.specs.Forms.{is_target, begins_attribute, begins_print, Formed, FormedStatement, FormedStatements}
use Rattle.vba_grammar.specs.Front.{or_else, found_as, is_as, is_colon, begins, token_if, reads}
use Rattle.vba_grammar.specs.Blocks.{is_name}
use Rattle.vba_grammar.specs.Lines.{of_procedure, property_at, kind_at, has_as, end_of, ended, is_static, headed, member_of_type, statements_line, line_of}
use Rattle.vba_grammar.proofs.Binding.{if_not}
use Rattle.vba_grammar.proofs.LabelFronts.{and_not}
use Rattle.vba_grammar.proofs.LineHeads.{same_both}

-- Get, Let or Set could stand here, before a name
abbrev pub is_kind_word : Reading → Bool
is_kind_word (reading.Keyword keyword.Let) = true
is_kind_word (reading.Keyword keyword.Set) = true
is_kind_word (reading.Name x suffix is_bracketed) = true
is_kind_word _ = false

abbrev pub is_kind_front : List ReadToken → Bool
is_kind_front [] = false
is_kind_front (t ∷ ts) = is_kind_word t.reading && begins is_name ts

property_by : (w t : Token) (ts : List ReadToken) (r : Reading) → (is_kind_word r && begins is_name ts) ≡ false → property_at w (read t r ∷ ts) ≡ None
property_by w t ts (reading.Keyword keyword.Let) h = if_not _ _ h refl
property_by w t ts (reading.Keyword keyword.Set) h = if_not _ _ h refl
property_by w t ts (reading.Name x suffix is_bracketed) h = if_not _ _ h refl
property_by w t ts _ h = same_both (begins is_name ts)

pub no_property : (w : Token) (ts : List ReadToken) → is_kind_front ts ≡ false → property_at w ts ≡ None
no_property w [] h = refl
no_property w (t ∷ ts) h = property_by w t.token ts t.reading h

kind_by : (t : Token) (x : List ℕ) (suffix : Option TypeSuffix) (b : Bool) (ts : List ReadToken) → is_kind_front ts ≡ false → kind_at (read t (reading.Name x suffix b) ∷ ts) ≡ None
kind_by t x (Some suffix) b ts h = refl
kind_by t x None true ts h = refl
kind_by t x None false ts h =
    ap (λ o. if reads (codes "property") (reading.Name x None false) then found_as of_procedure o else None) (no_property t ts h)
    ∙ same_both (reads (codes "property") (reading.Name x None false))

pub no_kind : (x : Identifier) (ts : List ReadToken) → is_kind_front ts ≡ false → kind_at (naming x ∷ ts) ≡ None
no_kind x ts h = kind_by x.token x.name x.suffix x.is_bracketed ts h

-- a name first, and no header, no attribute and no member behind it
pub name_line : (x : Identifier) (ts : List ReadToken) → (reads (codes "attribute") (naming x).reading && begins is_name ts) ≡ false → is_kind_front ts ≡ false → has_as ts ≡ false
    → line_of (naming x ∷ ts) ≡ statements_line (naming x ∷ ts)
name_line x ts a k h =
    if_not _ _ a (ap (λ o. headed None None o (naming x ∷ ts)) (no_kind x ts k) ∙ if_not (member_of_type (naming x ∷ ts)) (statements_line (naming x ∷ ts)) h refl)

-- no As and no colon stands in an expression
literal_as : (t : Token) (v : LiteralValue) (rest : List ReadToken) → has_as (read t (literal_reading v) ∷ rest) ≡ has_as rest
literal_as t (value.Number n p) rest = refl
literal_as t (value.Text x) rest = refl
literal_as t value.True rest = refl
literal_as t value.False rest = refl
literal_as t value.Nothing rest = refl
literal_as t value.Null rest = refl
literal_as t value.Empty rest = refl

unary_as : (t : Token) (o : UnaryOperator) (rest : List ReadToken) → has_as (read t (unary_reading o) ∷ rest) ≡ has_as rest
unary_as t unary_op.Minus rest = refl
unary_as t unary_op.Not rest = refl

binary_as : (t : Token) (o : BinaryOperator) (rest : List ReadToken) → has_as (read t (binary_reading o) ∷ rest) ≡ has_as rest
binary_as t op.Power rest = refl
binary_as t op.Multiply rest = refl
binary_as t op.Divide rest = refl
binary_as t op.IntegerDivide rest = refl
binary_as t op.Modulo rest = refl
binary_as t op.Add rest = refl
binary_as t op.Subtract rest = refl
binary_as t op.Join rest = refl
binary_as t op.Equal rest = refl
binary_as t op.NotEqual rest = refl
binary_as t op.Less rest = refl
binary_as t op.Greater rest = refl
binary_as t op.LessEqual rest = refl
binary_as t op.GreaterEqual rest = refl
binary_as t op.Is rest = refl
binary_as t op.And rest = refl
binary_as t op.Or rest = refl
binary_as t op.Xor rest = refl
binary_as t op.Eqv rest = refl
binary_as t op.Imp rest = refl

class_as : (q : Option TypeQualifier) (x : Identifier) (rest : List ReadToken) → has_as (type_name_tokens (record { qualifier = q; name = x }) ++ rest) ≡ has_as rest
class_as None x rest = refl
class_as (Some q) x rest = refl

comma_as : (c : Option Token) (rest : List ReadToken) → has_as (comma_tokens c ++ rest) ≡ has_as rest
comma_as None rest = refl
comma_as (Some c) rest = refl

mutual
  pub expression_as : (e : Expr) (rest : List ReadToken) → has_as (spell_expression e ++ rest) ≡ has_as rest
  expression_as (literal l) rest = literal_as l.token l.value rest
  expression_as (me token) rest = refl
  expression_as (name x) rest = refl
  expression_as (with_member dot x) rest = refl
  expression_as (member base dot x) rest =
      ap has_as (append_assoc (spell_expression base) (marked dot mark.Dot ∷ naming x ∷ []) rest) ∙ expression_as base (marked dot mark.Dot ∷ naming x ∷ rest)
  expression_as (index base left xs right) rest =
      ap has_as (append_assoc (spell_expression base) (marked left mark.LeftParenthesis ∷ (spell_args xs ++ marked right mark.RightParenthesis ∷ [])) rest)
      ∙ (expression_as base ((marked left mark.LeftParenthesis ∷ (spell_args xs ++ marked right mark.RightParenthesis ∷ [])) ++ rest)
      ∙ (ap has_as (append_assoc (spell_args xs) (marked right mark.RightParenthesis ∷ []) rest) ∙ args_as xs (marked right mark.RightParenthesis ∷ rest)))
  expression_as (parenthesised left e right) rest =
      ap has_as (append_assoc (spell_expression e) (marked right mark.RightParenthesis ∷ []) rest) ∙ expression_as e (marked right mark.RightParenthesis ∷ rest)
  expression_as (new w class) rest = class_as class.qualifier class.name rest
  expression_as (type_of w e i class) rest =
      ap has_as (append_assoc (spell_expression e) (word i keyword.Is ∷ type_name_tokens class) rest)
      ∙ (expression_as e ((word i keyword.Is ∷ type_name_tokens class) ++ rest) ∙ class_as class.qualifier class.name rest)
  expression_as (unary o t e) rest = unary_as t o (spell_expression e ++ rest) ∙ expression_as e rest
  expression_as (binary a o t b) rest =
      ap has_as (append_assoc (spell_expression a) (read t (binary_reading o) ∷ spell_expression b) rest)
      ∙ (expression_as a ((read t (binary_reading o) ∷ spell_expression b) ++ rest)
      ∙ (binary_as t o (spell_expression b ++ rest) ∙ expression_as b rest))

  pub args_as : (xs : Args) (rest : List ReadToken) → has_as (spell_args xs ++ rest) ≡ has_as rest
  args_as no_args rest = refl
  args_as (missing before c) rest = ap has_as (append_assoc (spell_args before) (comma_tokens c) rest) ∙ (args_as before (comma_tokens c ++ rest) ∙ comma_as c rest)
  args_as (plain before c e) rest =
      ap has_as (append_assoc (spell_args before) (comma_tokens c ++ spell_expression e) rest)
      ∙ (args_as before ((comma_tokens c ++ spell_expression e) ++ rest)
      ∙ (ap has_as (append_assoc (comma_tokens c) (spell_expression e) rest) ∙ (comma_as c (spell_expression e ++ rest) ∙ expression_as e rest)))
  args_as (named before c x g e) rest =
      ap has_as (append_assoc (spell_args before) (comma_tokens c ++ naming x ∷ marked g mark.ColonEqual ∷ spell_expression e) rest)
      ∙ (args_as before ((comma_tokens c ++ naming x ∷ marked g mark.ColonEqual ∷ spell_expression e) ++ rest)
      ∙ (ap has_as (append_assoc (comma_tokens c) (naming x ∷ marked g mark.ColonEqual ∷ spell_expression e) rest)
      ∙ (comma_as c (naming x ∷ marked g mark.ColonEqual ∷ (spell_expression e ++ rest)) ∙ expression_as e rest)))

optional_as : (o : Option Expr) (rest : List ReadToken) → has_as (optional spell_expression o ++ rest) ≡ has_as rest
optional_as None rest = refl
optional_as (Some e) rest = expression_as e rest

mark_as : (t : Token) (m : PrintMark) (rest : List ReadToken) → has_as (marked t (print_mark_of m) ∷ rest) ≡ has_as rest
mark_as t print_mark.Semicolon rest = refl
mark_as t print_mark.Comma rest = refl

items_as : (items : List PrintItem) (rest : List ReadToken) → has_as (spell_print_items items ++ rest) ≡ has_as rest
items_as [] rest = refl
items_as (item ∷ items) rest =
    mark_as item.mark_token item.mark ((optional spell_expression item.value ++ spell_print_items items) ++ rest)
    ∙ (ap has_as (append_assoc (optional spell_expression item.value) (spell_print_items items) rest)
    ∙ (optional_as item.value (spell_print_items items ++ rest) ∙ items_as items rest))

-- behind a name in an expression no name stands
literal_kind : (v : LiteralValue) → is_kind_word (literal_reading v) ≡ false
literal_kind (value.Number n p) = refl
literal_kind (value.Text x) = refl
literal_kind value.True = refl
literal_kind value.False = refl
literal_kind value.Nothing = refl
literal_kind value.Null = refl
literal_kind value.Empty = refl

unary_kind : (o : UnaryOperator) → is_kind_word (unary_reading o) ≡ false
unary_kind unary_op.Minus = refl
unary_kind unary_op.Not = refl

binary_name : (o : BinaryOperator) → is_name (binary_reading o) ≡ false
binary_name op.Power = refl
binary_name op.Modulo = refl
binary_name op.Is = refl
binary_name op.And = refl
binary_name op.Or = refl
binary_name op.Xor = refl
binary_name op.Eqv = refl
binary_name op.Imp = refl
binary_name _ = refl

pub expression_kind : (e : Expr) (rest : List ReadToken) → begins is_name rest ≡ false → is_kind_front (spell_expression e ++ rest) ≡ false
expression_kind (literal l) rest h = ap (λ b. b && begins is_name rest) (literal_kind l.value)
expression_kind (name x) rest h = h
expression_kind (member base dot x) rest h =
    ap is_kind_front (append_assoc (spell_expression base) (marked dot mark.Dot ∷ naming x ∷ []) rest) ∙ expression_kind base (marked dot mark.Dot ∷ naming x ∷ rest) refl
expression_kind (index base left xs right) rest h =
    ap is_kind_front (append_assoc (spell_expression base) (marked left mark.LeftParenthesis ∷ (spell_args xs ++ marked right mark.RightParenthesis ∷ [])) rest)
    ∙ expression_kind base ((marked left mark.LeftParenthesis ∷ (spell_args xs ++ marked right mark.RightParenthesis ∷ [])) ++ rest) refl
expression_kind (unary o t e) rest h = ap (λ b. b && begins is_name (spell_expression e ++ rest)) (unary_kind o)
expression_kind (binary a o t b) rest h =
    ap is_kind_front (append_assoc (spell_expression a) (read t (binary_reading o) ∷ spell_expression b) rest)
    ∙ expression_kind a ((read t (binary_reading o) ∷ spell_expression b) ++ rest) (binary_name o)
expression_kind _ rest h = refl

pub args_kind : (xs : Args) (rest : List ReadToken) → FitsArgs xs → begins is_name rest ≡ false → is_kind_front rest ≡ false → is_kind_front (spell_args xs ++ rest) ≡ false
args_kind no_args rest f h k = k
args_kind (missing no_args None) rest f h k = k
args_kind (missing before (Some c)) rest f h k =
    ap is_kind_front (append_assoc (spell_args before) (marked c mark.Comma ∷ []) rest) ∙ args_kind before (marked c mark.Comma ∷ rest) f.0 refl refl
args_kind (plain no_args None e) rest f h k = expression_kind e rest h
args_kind (plain before (Some c) e) rest f h k =
    ap is_kind_front (append_assoc (spell_args before) (marked c mark.Comma ∷ spell_expression e) rest)
    ∙ args_kind before (marked c mark.Comma ∷ (spell_expression e ++ rest)) f.0 refl refl
args_kind (named no_args None x g e) rest f h k = refl
args_kind (named before (Some c) x g e) rest f h k =
    ap is_kind_front (append_assoc (spell_args before) (marked c mark.Comma ∷ naming x ∷ marked g mark.ColonEqual ∷ spell_expression e) rest)
    ∙ args_kind before (marked c mark.Comma ∷ naming x ∷ marked g mark.ColonEqual ∷ (spell_expression e ++ rest)) f.0 refl refl
args_kind (missing before None) rest f h k = absurd f.1
args_kind (plain before None e) rest f h k = absurd f.1
args_kind (named before None x g e) rest f h k = absurd f.1

-- a line that begins with a place
place_line : (e : Expr) (rest : List ReadToken) → is_place e ≡ true → (begins_attribute (spell_expression e) && begins is_name rest) ≡ false
    → is_kind_front rest ≡ false → has_as rest ≡ false → line_of (spell_expression e ++ rest) ≡ statements_line (spell_expression e ++ rest)
place_line (me token) rest p a k h = refl
place_line (name x) rest p a k h = name_line x rest a k h
place_line (with_member dot x) rest p a k h = refl
place_line (member base dot x) rest p a k h =
    let same = append_assoc (spell_expression base) (marked dot mark.Dot ∷ naming x ∷ []) rest in
    ap line_of same
    ∙ (place_line base (marked dot mark.Dot ∷ naming x ∷ rest) p (and_not (begins_attribute (spell_expression base)) false refl) refl h ∙ ap statements_line (sym same))
place_line (index base left xs right) rest p a k h =
    let us : List ReadToken = (marked left mark.LeftParenthesis ∷ (spell_args xs ++ marked right mark.RightParenthesis ∷ [])) ++ rest in
    let same = append_assoc (spell_expression base) (marked left mark.LeftParenthesis ∷ (spell_args xs ++ marked right mark.RightParenthesis ∷ [])) rest in
    let no_as : has_as us ≡ false = ap has_as (append_assoc (spell_args xs) (marked right mark.RightParenthesis ∷ []) rest) ∙ (args_as xs (marked right mark.RightParenthesis ∷ rest) ∙ h) in
    ap line_of same ∙ (place_line base us p (and_not (begins_attribute (spell_expression base)) false refl) refl no_as ∙ ap statements_line (sym same))
place_line _ rest p a k h = absurd cc

-- the statement ends before these tokens, and a colon or nothing follows
abbrev pub IsOver : List ReadToken → Type 0
IsOver [] = Unit {0}
IsOver (t ∷ ts) = t.reading ≡ reading.Mark mark.Colon

over_name : (rest : List ReadToken) → IsOver rest → begins is_name rest ≡ false
over_name [] h = refl
over_name (t ∷ ts) h = ap is_name h

over_kind : (rest : List ReadToken) → IsOver rest → is_kind_front rest ≡ false
over_kind [] h = refl
over_kind (t ∷ ts) h = ap (λ r. is_kind_word r && begins is_name ts) h

over_as : (rest : List ReadToken) → IsOver rest → has_as rest ≡ false
over_as [] h = refl
over_as (t ∷ ts) h = ap (λ r. if is_as r then true else if is_colon r then false else has_as ts) h

or_false : (a b : Bool) → (a || b) ≡ false → a ≡ false
or_false true b h = absurd cc
or_false false b h = refl

target_place : (e : Expr) → is_target e ≡ true → is_place e ≡ true
target_place (me token) h = refl
target_place (name x) h = refl
target_place (with_member dot x) h = refl
target_place (member base dot x) h = h
target_place _ h = absurd cc

-- variables behind their word
behind_name : (v : Variable) (ts : List ReadToken) → is_kind_front ts ≡ false → is_kind_front ((optional spell_dims v.dims ++ optional spell_new_type_clause v.type_clause) ++ ts) ≡ false
behind_name v ts h = by_parts v.dims v.type_clause
  where
    by_parts : (dims : Option Dims) (clause : Option NewTypeClause) → is_kind_front ((optional spell_dims dims ++ optional spell_new_type_clause clause) ++ ts) ≡ false
    by_parts None None = h
    by_parts None (Some clause) = refl
    by_parts (Some dims) clause = refl

variable_kind : (v : Variable) (ts : List ReadToken) → is_kind_front ts ≡ false → kind_at (spell_variable v ++ ts) ≡ None
variable_kind v ts h = by_word v.with_events_word
  where
    by_word : (o : Option Token) → kind_at (spell_variable (record { with_events_word = o; name = v.name; dims = v.dims; type_clause = v.type_clause }) ++ ts) ≡ None
    by_word None = no_kind v.name _ (behind_name v ts h)
    by_word (Some w) = refl

variable_static : (v : Variable) (ts : List ReadToken) → token_if is_static (spell_variable v ++ ts) ≡ (None, spell_variable v ++ ts)
variable_static v ts = by_word v.with_events_word
  where
    of : Option Token → List ReadToken
    of o = spell_variable (record { with_events_word = o; name = v.name; dims = v.dims; type_clause = v.type_clause }) ++ ts

    by_word : (o : Option Token) → token_if is_static (of o) ≡ (None, of o)
    by_word None = refl
    by_word (Some w) = refl

others_kind : (others : List (Token × Variable)) (rest : List ReadToken) → is_kind_front rest ≡ false → is_kind_front (spell_others spell_variable mark.Comma others ++ rest) ≡ false
others_kind [] rest h = h
others_kind (other ∷ others) rest h = refl

-- a word of access or Static, and variables
access_line : (t : Token) (kept : VariableWord) (v : Variable) (ts : List ReadToken) → is_kind_front ts ≡ false
    → line_of (word t (variable_keyword kept) ∷ (spell_variable v ++ ts)) ≡ statements_line (word t (variable_keyword kept) ∷ (spell_variable v ++ ts))
access_line t variable_word.Dim v ts h = refl
access_line t variable_word.Public v ts h = simp (variable_static v ts, variable_kind v ts h)
access_line t variable_word.Private v ts h = simp (variable_static v ts, variable_kind v ts h)
access_line t variable_word.Global v ts h = simp (variable_static v ts, variable_kind v ts h)
access_line t variable_word.Static v ts h = simp (variable_kind v ts h)

constant_line : (a : Access) (t w : Token) (ts : List ReadToken) → line_of (word t (access_keyword a) ∷ word w keyword.Const ∷ ts) ≡ statements_line (word t (access_keyword a) ∷ word w keyword.Const ∷ ts)
constant_line access.Public t w ts = refl
constant_line access.Private t w ts = refl
constant_line access.Friend t w ts = refl
constant_line access.Global t w ts = refl

-- End
ended_none : (w : Token) (t : ReadToken) (ts : List ReadToken) → end_of w t.token t.reading ≡ None → ended w (t ∷ ts) ≡ None
ended_none w t [] h = ap (λ o. or_else o None) h
ended_none w t (u ∷ us) h = refl

end_line : (w : Token) (ts : List ReadToken) → ended w ts ≡ None → line_of (word w keyword.End ∷ ts) ≡ statements_line (word w keyword.End ∷ ts)
end_line w ts h = ap (λ o. or_else o (statements_line (word w keyword.End ∷ ts))) h

over_ended : (w : Token) (rest : List ReadToken) → IsOver rest → ended w rest ≡ None
over_ended w [] h = refl
over_ended w (t ∷ ts) h = ended_none w t ts (ap (end_of w t.token) h)

block_line_line : (line : BlockLine) (rest : List ReadToken) → line_of (spell_block_line line ++ rest) ≡ statements_line (spell_block_line line ++ rest)
block_line_line (end_if w t) rest = end_line w (word t keyword.If ∷ rest) (ended_none w (word t keyword.If) rest refl)
block_line_line (end_select w t) rest = end_line w (word t keyword.Select ∷ rest) (ended_none w (word t keyword.Select) rest refl)
block_line_line (end_with w t) rest = end_line w (word t keyword.With ∷ rest) (ended_none w (word t keyword.With) rest refl)
block_line_line _ rest = refl

abbrev debug_name : Token → Identifier
debug_name t = record { token = t; name = codes "debug"; suffix = None; is_bracketed = false }

simple_line : (s : Simple) (rest : List ReadToken) → Formed s → IsOver rest → line_of (spell_simple s ++ rest) ≡ statements_line (spell_simple s ++ rest)
simple_line (variables kept t list) rest f o =
    let same = append_assoc (spell_variable list.first) (spell_others spell_variable mark.Comma list.others) rest in
    let us : List ReadToken = spell_others spell_variable mark.Comma list.others ++ rest in
    ap (λ ts. line_of (word t (variable_keyword kept) ∷ ts)) same
    ∙ (access_line t kept list.first us (others_kind list.others rest (over_kind rest o)) ∙ ap (λ ts. statements_line (word t (variable_keyword kept) ∷ ts)) (sym same))
simple_line (constants None w list) rest f o = refl
simple_line (constants (Some a) w list) rest f o = constant_line a.access a.token w (with_commas spell_constant list ++ rest)
simple_line (assignment None place equal e) rest f o =
    let same = append_assoc (spell_expression place) (marked equal mark.Equal ∷ spell_expression e) rest in
    ap line_of same
    ∙ (place_line place (marked equal mark.Equal ∷ (spell_expression e ++ rest)) f.0.0 (and_not (begins_attribute (spell_expression place)) false refl) refl
    (expression_as e rest ∙ over_as rest o) ∙ ap statements_line (sym same))
simple_line (assignment (Some w) place equal e) rest f o = refl
simple_line (call e xs) rest f o =
    let same = append_assoc (spell_expression e) (spell_args xs) rest in
    let no_attribute = or_false (begins_attribute (spell_expression e)) (begins_print (spell_expression e)) f.3 in
    ap line_of same
    ∙ (place_line e (spell_args xs ++ rest) (target_place e f.0) (ap (λ b. b && begins is_name (spell_args xs ++ rest)) no_attribute)
    (args_kind xs rest f.2.0 (over_name rest o) (over_kind rest o)) (args_as xs rest ∙ over_as rest o) ∙ ap statements_line (sym same))
simple_line (end w) rest f o = end_line w rest (over_ended w rest o)
simple_line (debug_print w dot p first items) rest f o =
    name_line (debug_name w) (marked dot mark.Dot ∷ place_word p (codes "print") ∷ ((optional spell_expression first ++ spell_print_items items) ++ rest))
    (and_not (reads (codes "attribute") (naming (debug_name w)).reading) false refl) refl
    (ap has_as (append_assoc (optional spell_expression first) (spell_print_items items) rest)
    ∙ (optional_as first (spell_print_items items ++ rest) ∙ (items_as items rest ∙ over_as rest o)))
simple_line (block_line line) rest f o = block_line_line line rest
simple_line _ rest f o = refl

statement_is : (s : Stmt) (rest : List ReadToken) → FormedStatement s → IsOver rest → line_of (spell_statement s ++ rest) ≡ statements_line (spell_statement s ++ rest)
statement_is (simple s) rest f o = simple_line s rest f o
statement_is (if_then w e v ss) rest f o = refl
statement_is (if_else w e v ss l us) rest f o = refl

before_is : (ss : Stmts) (c : Token) (rest : List ReadToken) → FormedStatements ss
    → line_of (spell_statements ss ++ marked c mark.Colon ∷ rest) ≡ statements_line (spell_statements ss ++ marked c mark.Colon ∷ rest)
before_is nothing c rest f = refl
before_is (one s) c rest f = statement_is s (marked c mark.Colon ∷ rest) f refl
before_is (gap ss d) c rest f =
    let same = append_assoc (spell_statements ss) (marked d mark.Colon ∷ []) (marked c mark.Colon ∷ rest) in
    ap line_of same ∙ (before_is ss d (marked c mark.Colon ∷ rest) f ∙ ap statements_line (sym same))
before_is (more ss d s) c rest f =
    let same = append_assoc (spell_statements ss) (marked d mark.Colon ∷ spell_statement s) (marked c mark.Colon ∷ rest) in
    ap line_of same ∙ (before_is ss d (spell_statement s ++ marked c mark.Colon ∷ rest) f.0 ∙ ap statements_line (sym same))

-- statements are read as statements
pub statements_is : (ss : Stmts) → FormedStatements ss → line_of (spell_statements ss) ≡ statements_line (spell_statements ss)
statements_is nothing f = refl
statements_is (one s) f =
    let same = append-nil (spell_statement s) in
    ap line_of (sym same) ∙ (statement_is s [] f tt ∙ ap statements_line same)
statements_is (gap ss c) f = before_is ss c [] f
statements_is (more ss c s) f = before_is ss c (spell_statement s) f.0
