-- What the statements of a line begin with, where a label could be read.
use Rattle.std.proofs.lemmas.List.{append-nil}
use Rattle.std.proofs.Common.{◌≡◌, Bool, true, false, List, [], ◌∷◌, ◌++◌, Option, Some, None, refl, sym, ap, ◌∙◌, append_assoc}
use Rattle.std.specs.Prelude.{◌||◌, ◌&&◌}
use Rattle.vba_lexer.specs.declared.token.Token.{Token}
use Rattle.vba_lexer.specs.declared.number.TypeSuffix.{TypeSuffix}
use Rattle.vba_words.specs.declared.identifier.Identifier.{Identifier}
use Rattle.vba_words.specs.declared.mark.Mark.TheVariants as mark
use Rattle.vba_words.specs.declared.reading.Reading.{Reading}
use Rattle.vba_words.specs.declared.reading.Reading.TheVariants as reading
use Rattle.vba_words.specs.declared.reading.ReadToken.{ReadToken}
use Rattle.vba_words.specs.Spelling.{marked, naming}
use Rattle.vba_expression.specs.Tree.{Expr, me, name, with_member, member, index, Args, no_args, missing, plain, named}
use Rattle.vba_expression.specs.Spelling.{spell as spell_expression, spell_args}
use Rattle.vba_expression.specs.Fitting.{is_place, is_lone, FitsArgs}
use Rattle.vba_tree.specs.Tree.{Simple, constants, assignment, call, block_line, BlockLine, if_line, else_line, Stmt, simple, if_then, if_else, Stmts, nothing, one, gap, more}
use Rattle.vba_tree.specs.Spelling.{spell_simple, spell_block_line, spell_statement, spell_statements}
use Rattle.vba_tree.specs.Forms.{is_target, Formed, FormedStatement, FormedStatements}
use Rattle.vba_tree.specs.Fitting.{is_bare, begins_bare, begins_missing}
use Rattle.vba_grammar.specs.Front.{is_colon, begins}
use Rattle.vba_grammar.proofs.ListsComplete.{is_start, expression_front, simple_front}

-- a name without a suffix
abbrev pub is_bare_name : Reading → Bool
is_bare_name (reading.Name x None is_bracketed) = true
is_bare_name _ = false

-- digits alone
abbrev pub is_plain_number : Reading → Bool
is_plain_number (reading.Number number true) = true
is_plain_number _ = false

-- a label could be read here
abbrev pub is_label_front : List ReadToken → Bool
is_label_front [] = false
is_label_front (t ∷ ts) = is_plain_number t.reading || (is_bare_name t.reading && begins is_colon ts)

pub and_false : (b : Bool) → (b && false) ≡ false
and_false true = refl
and_false false = refl

pub and_true : (b : Bool) → (b && true) ≡ b
and_true true = refl
and_true false = refl

pub and_not : (a b : Bool) → b ≡ false → (a && b) ≡ false
and_not a b h = ap (λ c. a && c) h ∙ and_false a

start_no_colon : (r : Reading) → is_start r ≡ true → is_colon r ≡ false
start_no_colon (reading.Mark mark.Colon) h = absurd cc
start_no_colon _ h = refl

pub front_no_colon : (ts : List ReadToken) → begins is_start ts ≡ true → begins is_colon ts ≡ false
front_no_colon [] h = absurd cc
front_no_colon (t ∷ ts) h = start_no_colon t.reading h

-- arguments begin with no colon
pub args_no_colon : (xs : Args) (rest : List ReadToken) → FitsArgs xs → begins is_colon rest ≡ false → begins is_colon (spell_args xs ++ rest) ≡ false
args_no_colon no_args rest f h = h
args_no_colon (missing no_args None) rest f h = h
args_no_colon (missing before (Some c)) rest f h =
    ap (begins is_colon) (append_assoc (spell_args before) (marked c mark.Comma ∷ []) rest) ∙ args_no_colon before (marked c mark.Comma ∷ rest) f.0 refl
args_no_colon (plain no_args None e) rest f h = front_no_colon (spell_expression e ++ rest) (expression_front e rest)
args_no_colon (plain before (Some c) e) rest f h =
    ap (begins is_colon) (append_assoc (spell_args before) (marked c mark.Comma ∷ spell_expression e) rest)
    ∙ args_no_colon before (marked c mark.Comma ∷ (spell_expression e ++ rest)) f.0 refl
args_no_colon (named no_args None x g e) rest f h = refl
args_no_colon (named before (Some c) x g e) rest f h =
    ap (begins is_colon) (append_assoc (spell_args before) (marked c mark.Comma ∷ naming x ∷ marked g mark.ColonEqual ∷ spell_expression e) rest)
    ∙ args_no_colon before (marked c mark.Comma ∷ naming x ∷ marked g mark.ColonEqual ∷ (spell_expression e ++ rest)) f.0 refl
args_no_colon (missing before None) rest f h = absurd f.1
args_no_colon (plain before None e) rest f h = absurd f.1
args_no_colon (named before None x g e) rest f h = absurd f.1

-- there are arguments
abbrev pub is_empty : Args → Bool
is_empty no_args = true
is_empty _ = false

written_no_colon : (xs : Args) (rest : List ReadToken) → FitsArgs xs → is_lone xs ≡ false → is_empty xs ≡ false → begins is_colon (spell_args xs ++ rest) ≡ false
written_no_colon no_args rest f l h = absurd cc
written_no_colon (missing no_args None) rest f l h = absurd cc
written_no_colon (missing before (Some c)) rest f l h =
    ap (begins is_colon) (append_assoc (spell_args before) (marked c mark.Comma ∷ []) rest) ∙ args_no_colon before (marked c mark.Comma ∷ rest) f.0 refl
written_no_colon (plain no_args None e) rest f l h = front_no_colon (spell_expression e ++ rest) (expression_front e rest)
written_no_colon (plain before (Some c) e) rest f l h =
    ap (begins is_colon) (append_assoc (spell_args before) (marked c mark.Comma ∷ spell_expression e) rest)
    ∙ args_no_colon before (marked c mark.Comma ∷ (spell_expression e ++ rest)) f.0 refl
written_no_colon (named no_args None x g e) rest f l h = refl
written_no_colon (named before (Some c) x g e) rest f l h =
    ap (begins is_colon) (append_assoc (spell_args before) (marked c mark.Comma ∷ naming x ∷ marked g mark.ColonEqual ∷ spell_expression e) rest)
    ∙ args_no_colon before (marked c mark.Comma ∷ naming x ∷ marked g mark.ColonEqual ∷ (spell_expression e ++ rest)) f.0 refl
written_no_colon (missing before None) rest f l h = absurd f.1
written_no_colon (plain before None e) rest f l h = absurd f.1
written_no_colon (named before None x g e) rest f l h = absurd f.1

-- a place before what is no colon is no label
pub place_no_label : (e : Expr) (rest : List ReadToken) → is_place e ≡ true → begins is_colon rest ≡ false → is_label_front (spell_expression e ++ rest) ≡ false
place_no_label (me token) rest p h = refl
place_no_label (name x) rest p h = and_not (is_bare_name (reading.Name x.name x.suffix x.is_bracketed)) (begins is_colon rest) h
place_no_label (with_member dot x) rest p h = refl
place_no_label (member base dot x) rest p h =
    ap is_label_front (append_assoc (spell_expression base) (marked dot mark.Dot ∷ naming x ∷ []) rest) ∙ place_no_label base (marked dot mark.Dot ∷ naming x ∷ rest) p refl
place_no_label (index base left xs right) rest p h =
    ap is_label_front (append_assoc (spell_expression base) (marked left mark.LeftParenthesis ∷ (spell_args xs ++ marked right mark.RightParenthesis ∷ [])) rest)
    ∙ place_no_label base ((marked left mark.LeftParenthesis ∷ (spell_args xs ++ marked right mark.RightParenthesis ∷ [])) ++ rest) p refl
place_no_label _ rest p h = absurd cc

bare_by : (x : Identifier) (suffix : Option TypeSuffix) (rest : List ReadToken)
    → (is_bare_name (reading.Name x.name suffix x.is_bracketed) && begins is_colon rest)
    ≡ (is_bare (simple (call (name (record { token = x.token; name = x.name; suffix = suffix; is_bracketed = x.is_bracketed })) no_args)) && begins is_colon rest)
bare_by x None rest = refl
bare_by x (Some suffix) rest = refl

call_label : (e : Expr) (xs : Args) (rest : List ReadToken) → is_target e ≡ true → FitsArgs xs → is_lone xs ≡ false
    → is_label_front (spell_expression e ++ (spell_args xs ++ rest)) ≡ (is_bare (simple (call e xs)) && begins is_colon rest)
call_label (name x) no_args rest t f l = bare_by x x.suffix rest
call_label (name x) (missing before c) rest t f l = and_not _ _ (written_no_colon (missing before c) rest f l refl)
call_label (name x) (plain before c e) rest t f l = and_not _ _ (written_no_colon (plain before c e) rest f l refl)
call_label (name x) (named before c y g e) rest t f l = and_not _ _ (written_no_colon (named before c y g e) rest f l refl)
call_label (me token) xs rest t f l = refl
call_label (with_member dot x) xs rest t f l = refl
call_label (member base dot x) xs rest t f l =
    ap is_label_front (append_assoc (spell_expression base) (marked dot mark.Dot ∷ naming x ∷ []) (spell_args xs ++ rest))
    ∙ place_no_label base (marked dot mark.Dot ∷ naming x ∷ (spell_args xs ++ rest)) t refl
call_label _ xs rest t f l = absurd cc

block_label : (line : BlockLine) (rest : List ReadToken) → is_label_front (spell_block_line line ++ rest) ≡ false
block_label (if_line w e v) rest = refl
block_label _ rest = refl

simple_label : (s : Simple) (rest : List ReadToken) → Formed s → is_label_front (spell_simple s ++ rest) ≡ (is_bare (simple s) && begins is_colon rest)
simple_label (call e xs) rest f =
    ap is_label_front (append_assoc (spell_expression e) (spell_args xs) rest) ∙ call_label e xs rest f.0 f.2.0 f.2.1
simple_label (constants None w list) rest f = refl
simple_label (constants (Some a) w list) rest f = refl
simple_label (assignment None place equal e) rest f =
    ap is_label_front (append_assoc (spell_expression place) (marked equal mark.Equal ∷ spell_expression e) rest)
    ∙ place_no_label place ((marked equal mark.Equal ∷ spell_expression e) ++ rest) f.0.0 refl
simple_label (assignment (Some w) place equal e) rest f = refl
simple_label (block_line line) rest f = block_label line rest
simple_label _ rest f = refl

-- a statement alone before a colon could be a label where it is a bare name
pub statement_label : (s : Stmt) (rest : List ReadToken) → FormedStatement s → is_label_front (spell_statement s ++ rest) ≡ (is_bare s && begins is_colon rest)
statement_label (simple s) rest f = simple_label s rest f
statement_label (if_then w e v ss) rest f = refl
statement_label (if_else w e v ss l us) rest f = refl

bare_more : (ss : Stmts) (c : Token) (s : Stmt) → begins_bare (gap ss c) ≡ begins_bare (more ss c s)
bare_more nothing c s = refl
bare_more (one t) c s = refl
bare_more (gap ss d) c s = refl
bare_more (more ss d t) c s = refl

pub bare_before : (ss : Stmts) (c : Token) (rest : List ReadToken) → FormedStatements ss
    → is_label_front (spell_statements ss ++ marked c mark.Colon ∷ rest) ≡ begins_bare (gap ss c)
bare_before nothing c rest f = refl
bare_before (one s) c rest f = statement_label s (marked c mark.Colon ∷ rest) f ∙ and_true (is_bare s)
bare_before (gap ss d) c rest f =
    ap is_label_front (append_assoc (spell_statements ss) (marked d mark.Colon ∷ []) (marked c mark.Colon ∷ rest)) ∙ bare_before ss d (marked c mark.Colon ∷ rest) f
bare_before (more ss d s) c rest f =
    ap is_label_front (append_assoc (spell_statements ss) (marked d mark.Colon ∷ spell_statement s) (marked c mark.Colon ∷ rest))
    ∙ (bare_before ss d (spell_statement s ++ marked c mark.Colon ∷ rest) f.0 ∙ bare_more ss d s)

-- a label that is a name could be read at the front of a line that begins with a bare name and a colon, and nowhere else
pub label_front : (ss : Stmts) → FormedStatements ss → is_label_front (spell_statements ss) ≡ begins_bare ss
label_front nothing f = refl
label_front (one s) f = ap is_label_front (sym (append-nil (spell_statement s))) ∙ (statement_label s [] f ∙ and_false (is_bare s))
label_front (gap ss c) f = bare_before ss c [] f
label_front (more ss c s) f = bare_before ss c (spell_statement s) f.0 ∙ bare_more ss c s

simple_colon : (s : Simple) (rest : List ReadToken) → begins is_colon (spell_simple s ++ rest) ≡ false
simple_colon (block_line (if_line w e v)) rest = refl
simple_colon (block_line (else_line w)) rest = refl
simple_colon other rest = front_no_colon (spell_simple other ++ rest) (simple_front other rest refl)

pub statement_colon : (s : Stmt) (rest : List ReadToken) → begins is_colon (spell_statement s ++ rest) ≡ false
statement_colon (simple s) rest = simple_colon s rest
statement_colon (if_then w e v ss) rest = refl
statement_colon (if_else w e v ss l us) rest = refl

missing_more : (ss : Stmts) (c : Token) (s : Stmt) → begins_missing (gap ss c) ≡ begins_missing (more ss c s)
missing_more nothing c s = refl
missing_more (one t) c s = refl
missing_more (gap ss d) c s = refl
missing_more (more ss d t) c s = refl

missing_before : (ss : Stmts) (c : Token) (rest : List ReadToken) → begins is_colon (spell_statements ss ++ marked c mark.Colon ∷ rest) ≡ begins_missing (gap ss c)
missing_before nothing c rest = refl
missing_before (one s) c rest = statement_colon s (marked c mark.Colon ∷ rest)
missing_before (gap ss d) c rest =
    ap (begins is_colon) (append_assoc (spell_statements ss) (marked d mark.Colon ∷ []) (marked c mark.Colon ∷ rest)) ∙ missing_before ss d (marked c mark.Colon ∷ rest)
missing_before (more ss d s) c rest =
    ap (begins is_colon) (append_assoc (spell_statements ss) (marked d mark.Colon ∷ spell_statement s) (marked c mark.Colon ∷ rest))
    ∙ (missing_before ss d (spell_statement s ++ marked c mark.Colon ∷ rest) ∙ missing_more ss d s)

-- a colon is first where the first statement is missing
pub colon_front : (ss : Stmts) → begins is_colon (spell_statements ss) ≡ begins_missing ss
colon_front nothing = refl
colon_front (one s) = ap (begins is_colon) (sym (append-nil (spell_statement s))) ∙ statement_colon s []
colon_front (gap ss c) = missing_before ss c []
colon_front (more ss c s) = missing_before ss c (spell_statement s) ∙ missing_more ss c s
