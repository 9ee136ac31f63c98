-- What a fitting list of statements spells is read.
use Rattle.std.proofs.lemmas.List.{append-nil}
use Rattle.std.proofs.Common.{◌≡◌, ℕ, suc, ◌+◌, ◌-◌, ◌≤◌, length, length-append, Bool, true, false, List, [], ◌∷◌, ◌++◌, Some, None, refl, sym, ap, ◌∙◌, arith, append_assoc}
use Rattle.std.specs.Prelude.{◌||◌, ◌&&◌, not, if◌then◌else◌}
use Rattle.vba_lexer.specs.declared.token.Token.{Token}
use Rattle.vba_words.specs.declared.keyword.Keyword.TheVariants as keyword
use Rattle.vba_words.specs.declared.mark.Mark.TheVariants as mark
use Rattle.vba_words.specs.declared.reading.Reading.{Reading}
use Rattle.vba_words.specs.declared.reading.Reading.TheVariants as reading
use Rattle.vba_words.specs.declared.reading.ReadToken.{ReadToken}
use Rattle.vba_words.specs.Spelling.{read, word, marked, naming}
use Rattle.vba_expression.specs.declared.operator.UnaryOperator.{UnaryOperator}
use Rattle.vba_expression.specs.declared.operator.UnaryOperator.TheVariants as unary_op
use Rattle.vba_expression.specs.declared.tree.LiteralValue.{LiteralValue}
use Rattle.vba_expression.specs.declared.tree.LiteralValue.TheVariants as value
use Rattle.vba_expression.specs.Tree.{Expr, literal, member, index, unary, binary}
use Rattle.vba_expression.specs.Spelling.{spell as spell_expression, spell_args, literal_reading, unary_reading, binary_reading}
use Rattle.vba_expression.specs.Fitting.{Fits as ExpressionFits}
use Rattle.vba_expression.proofs.Complete.{level_small}
use Rattle.vba_expression.proofs.Inverses.{again}
use Rattle.vba_tree.specs.declared.declaration.Access.{Access}
use Rattle.vba_tree.specs.declared.declaration.Access.TheVariants as access
use Rattle.vba_tree.specs.declared.declaration.VariableWord.{VariableWord}
use Rattle.vba_tree.specs.declared.declaration.VariableWord.TheVariants as variable_word
use Rattle.vba_tree.specs.Tree.{Simple, variables, constants, assignment, call, block_line, BlockLine, if_line, else_line, Stmt, simple, if_then, if_else, Stmts, nothing, one, gap, more}
use Rattle.vba_tree.specs.Spelling.{access_keyword, variable_keyword, spell_simple, spell_block_line, spell_statement, spell_statements}
use Rattle.vba_tree.specs.Forms.{Formed, begins as has_first, FormedStatement, FormedStatements}
use Rattle.vba_tree.specs.Fitting.{Chosen, ends_in_if, takes_else, list_takes_else, ChosenStatement, ChosenStatements}
use Rattle.vba_grammar.specs.Front.{◌>>=◌, is_colon, is_else, is_then, begins, token_at, whole_at, ends}
use Rattle.vba_grammar.specs.Statements.{simple_at}
use Rattle.vba_grammar.specs.Lists.{Where, at_line, in_list, behind, put, Frame, then_frame, else_frame, State, need, got, with_else, closed, is_else_line, Turn, with_tokens, put_block, behind_then, statement_at, needed, turn, finish, run, statements_of}
use Rattle.vba_grammar.specs.Laws.{is_if_line, SimpleLaws}

-- the first token of a statement, but for If and Else
abbrev pub is_start : Reading → Bool
is_start (reading.Keyword keyword.If) = false
is_start (reading.Keyword keyword.Else) = false
is_start (reading.Mark mark.Colon) = false
is_start other = true

literal_front : (v : LiteralValue) → is_start (literal_reading v) ≡ true
literal_front (value.Number n p) = refl
literal_front (value.Text x) = refl
literal_front value.True = refl
literal_front value.False = refl
literal_front value.Nothing = refl
literal_front value.Null = refl
literal_front value.Empty = refl

unary_front : (o : UnaryOperator) → is_start (unary_reading o) ≡ true
unary_front unary_op.Minus = refl
unary_front unary_op.Not = refl

pub expression_front : (e : Expr) (rest : List ReadToken) → begins is_start (spell_expression e ++ rest) ≡ true
expression_front (literal l) rest = literal_front l.value
expression_front (unary o t e) rest = unary_front o
expression_front (member base dot x) rest =
    ap (begins is_start) (append_assoc (spell_expression base) (marked dot mark.Dot ∷ naming x ∷ []) rest)
    ∙ expression_front base (marked dot mark.Dot ∷ naming x ∷ rest)
expression_front (index base left xs right) rest =
    ap (begins is_start) (append_assoc (spell_expression base) (marked left mark.LeftParenthesis ∷ (spell_args xs ++ marked right mark.RightParenthesis ∷ [])) rest)
    ∙ expression_front base ((marked left mark.LeftParenthesis ∷ (spell_args xs ++ marked right mark.RightParenthesis ∷ [])) ++ rest)
expression_front (binary a o t b) rest =
    ap (begins is_start) (append_assoc (spell_expression a) (read t (binary_reading o) ∷ spell_expression b) rest)
    ∙ expression_front a ((read t (binary_reading o) ∷ spell_expression b) ++ rest)
expression_front other rest = refl

-- the lines of blocks that begin with If or Else
abbrev pub is_word_line : Simple → Bool
is_word_line (block_line (if_line if_word condition then_word)) = true
is_word_line (block_line (else_line else_word)) = true
is_word_line other = false

variable_front : (kept : VariableWord) → is_start (reading.Keyword (variable_keyword kept)) ≡ true
variable_front variable_word.Dim = refl
variable_front variable_word.Public = refl
variable_front variable_word.Private = refl
variable_front variable_word.Global = refl
variable_front variable_word.Static = refl

access_front : (a : Access) → is_start (reading.Keyword (access_keyword a)) ≡ true
access_front access.Public = refl
access_front access.Private = refl
access_front access.Friend = refl
access_front access.Global = refl

block_front : (line : BlockLine) (rest : List ReadToken) → is_word_line (block_line line) ≡ false → begins is_start (spell_block_line line ++ rest) ≡ true
block_front (if_line w e v) rest h = absurd cc
block_front (else_line w) rest h = absurd cc
block_front other rest h = refl

-- what begins a statement: no colon, no Else but that of a block, no If
pub simple_front : (s : Simple) (rest : List ReadToken) → is_word_line s ≡ false → begins is_start (spell_simple s ++ rest) ≡ true
simple_front (variables kept token list) rest h = variable_front kept
simple_front (constants None const_word list) rest h = refl
simple_front (constants (Some a) const_word list) rest h = access_front a.access
simple_front (assignment None place equal e) rest h =
    ap (begins is_start) (append_assoc (spell_expression place) (marked equal mark.Equal ∷ spell_expression e) rest)
    ∙ expression_front place ((marked equal mark.Equal ∷ spell_expression e) ++ rest)
simple_front (assignment (Some let_word) place equal e) rest h = refl
simple_front (call called xs) rest h =
    ap (begins is_start) (append_assoc (spell_expression called) (spell_args xs) rest)
    ∙ expression_front called (spell_args xs ++ rest)
simple_front (block_line line) rest h = block_front line rest h
simple_front other rest h = refl

-- where an Else is a line of a block, a statement ends
ends_by : (t : Token) (ts : List ReadToken) (r : Reading) → (is_colon r || (is_else r && not (is_else_line ts))) ≡ true → ends (read t r ∷ ts) ≡ true
ends_by t ts (reading.Mark mark.Colon) h = refl
ends_by t ts (reading.Keyword keyword.Else) h = refl
ends_by t ts other h = absurd cc

pub ends_of : (ts : List ReadToken) → is_else_line ts ≡ true → ends ts ≡ true
ends_of [] h = refl
ends_of (t ∷ ts) h = ends_by t.token ts t.reading h

start_by : (t : Token) (ts : List ReadToken) (r : Reading) → is_start r ≡ true → (is_colon r || (is_else r && not (is_else_line ts))) ≡ false
start_by t ts (reading.Mark mark.Colon) h = absurd cc
start_by t ts (reading.Keyword keyword.Else) h = absurd cc
start_by t ts other h = refl

pub start_no_line : (ts : List ReadToken) → begins is_start ts ≡ true → is_else_line ts ≡ false
start_no_line [] h = absurd cc
start_no_line (t ∷ ts) h = start_by t.token ts t.reading h

-- behind an Else that begins with a statement, no statement follows
pub statement_front : (s : Stmt) (rest : List ReadToken) → is_else_line rest ≡ true → is_else_line (spell_statement s ++ rest) ≡ false
statement_front (simple (block_line (if_line w e v))) rest h = refl
statement_front (simple (block_line (else_line w))) rest h = ap not h
statement_front (simple other) rest h = start_no_line (spell_simple other ++ rest) (simple_front other rest refl)
statement_front (if_then w e v ss) rest h = refl
statement_front (if_else w e v ss l us) rest h = refl

pub list_front : (ss : Stmts) (rest : List ReadToken) → has_first ss ≡ true → is_else_line rest ≡ true → is_else_line (spell_statements ss ++ rest) ≡ false
list_front nothing rest f h = absurd cc
list_front (one s) rest f h = statement_front s rest h
list_front (gap ss c) rest f h =
    ap is_else_line (append_assoc (spell_statements ss) (marked c mark.Colon ∷ []) rest) ∙ list_front ss (marked c mark.Colon ∷ rest) f refl
list_front (more ss c s) rest f h =
    ap is_else_line (append_assoc (spell_statements ss) (marked c mark.Colon ∷ spell_statement s) rest)
    ∙ list_front ss (marked c mark.Colon ∷ (spell_statement s ++ rest)) f refl

-- where a list begins: a line, or behind Then and Else
abbrev pub start : Bool → Where
start true = at_line
start false = in_list

abbrev pub Starts : Bool → Stmts → Type 0
Starts true ss = Unit {0}
Starts false ss = has_first ss ≡ true

abbrev mutual
  pub after_statement : Stmt → Where → List Frame → State
  after_statement (simple s) place fs = got (put place (simple s)) fs
  after_statement (if_then w e v ss) place fs = after ss false (then_frame place w e v ∷ fs)
  after_statement (if_else w e v ss l us) place fs = after us false (else_frame place w e v ss l ∷ fs)

  pub after : Stmts → Bool → List Frame → State
  after nothing b fs = need (start b) fs
  after (one s) b fs = after_statement s (start b) fs
  after (gap ss c) b fs = need (behind ss c) fs
  after (more ss c s) b fs = after_statement s (behind ss c) fs

-- how many turns a tree takes
abbrev mutual
  pub count_statement : Stmt → ℕ
  count_statement (simple s) = 1
  count_statement (if_then w e v ss) = suc (count ss)
  count_statement (if_else w e v ss l us) = suc (count ss + suc (count us))

  pub count : Stmts → ℕ
  count nothing = 0
  count (one s) = count_statement s
  count (gap ss c) = count ss + 1
  count (more ss c s) = count ss + suc (count_statement s)

pub at_fuel : (n m : ℕ) (s : State) (ts : List ReadToken) → n ≡ m → run n s ts ≡ run m s ts
at_fuel n m s ts e = ap (λ k. run k s ts) e

pub stepped : (n : ℕ) (s s1 : State) (t : ReadToken) (ts us : List ReadToken) → turn s t ts ≡ Some (s1, us) → run (suc n) s (t ∷ ts) ≡ run n s1 us
stepped n s s1 t ts us e = ap (λ o. o >>= run n) e

-- a statement that begins with neither If nor Else
pub needed_plain : (place : Where) (fs : List Frame) (t : ReadToken) (ts : List ReadToken) (r : Reading) → is_start r ≡ true
    → needed place fs t ts r ≡ statement_at place fs (t ∷ ts)
needed_plain place fs t ts (reading.Keyword keyword.If) h = absurd cc
needed_plain place fs t ts (reading.Keyword keyword.Else) h = absurd cc
needed_plain place fs t ts (reading.Mark mark.Colon) h = absurd cc
needed_plain at_line fs t ts other h = refl
needed_plain in_list fs t ts other h = refl
needed_plain (behind ss c) fs t ts other h = refl

pub run_plain : (n : ℕ) (place : Where) (fs : List Frame) (ts : List ReadToken) → begins is_start ts ≡ true
    → run (suc n) (need place fs) ts ≡ (statement_at place fs ts >>= run n)
run_plain n place fs [] h = absurd cc
run_plain n place fs (t ∷ ts) h = ap (λ o. o >>= run n) (needed_plain place fs t ts t.reading h)

-- an Else that no statement follows
pub run_else : (n : ℕ) (place : Where) (fs : List Frame) (w : Token) (ts : List ReadToken) → is_else_line ts ≡ true
    → run (suc n) (need place fs) (word w keyword.Else ∷ ts) ≡ (statement_at place fs (word w keyword.Else ∷ ts) >>= run n)
run_else n at_line fs w ts h = refl
run_else n in_list fs w ts h = refl
run_else n (behind ss c) fs w ts h =
    ap (λ b. (if b then statement_at (behind ss c) fs (word w keyword.Else ∷ ts) else with_tokens ts (with_else (gap ss c) fs w)) >>= run n) h

-- behind Then, by what follows
abbrev pub turned : State → List ReadToken → Turn
turned s ts = Some (s, ts)

if_not : (b : Bool) (x y : State) (ts : List ReadToken) → turned (if b then x else y) ts ≡ turned (if not b then y else x) ts
if_not true x y ts = refl
if_not false x y ts = refl

behind_by : (place : Where) (w : Token) (e : Expr) (v : Token) (fs : List Frame) (t : Token) (ts : List ReadToken) (r : Reading)
    → behind_then place w e v fs (read t r ∷ ts)
    ≡ Some (if (is_colon r || (is_else r && not (is_else_line ts))) then got (put_block place (if_line w e v)) fs else need in_list (then_frame place w e v ∷ fs), read t r ∷ ts)
behind_by place w e v fs t ts (reading.Keyword keyword.Else) =
    if_not (is_else_line ts) (need in_list (then_frame place w e v ∷ fs)) (got (put_block place (if_line w e v)) fs) (word t keyword.Else ∷ ts)
behind_by place w e v fs t ts (reading.Mark mark.Colon) = refl
behind_by place w e v fs t ts other = refl

pub behind_is : (place : Where) (w : Token) (e : Expr) (v : Token) (fs : List Frame) (ts : List ReadToken)
    → behind_then place w e v fs ts
    ≡ Some (if is_else_line ts then got (put_block place (if_line w e v)) fs else need in_list (then_frame place w e v ∷ fs), ts)
behind_is place w e v fs [] = refl
behind_is place w e v fs (t ∷ ts) = behind_by place w e v fs t.token ts t.reading

-- an If up to its Then
abbrev pub then_tokens : Token → Expr → Token → List ReadToken → List ReadToken
then_tokens w e v us = word w keyword.If ∷ (spell_expression e ++ word v keyword.Then ∷ us)

header_run : (n : ℕ) (place : Where) (fs : List Frame) (w : Token) (e : Expr) (v : Token) (us : List ReadToken)
    → whole_at (spell_expression e ++ word v keyword.Then ∷ us) ≡ Some (e, word v keyword.Then ∷ us)
    → run (suc n) (need place fs) (then_tokens w e v us) ≡ (behind_then place w e v fs us >>= run n)
header_run n at_line fs w e v us h = ap (λ o. (o >>= λ c rest. token_at is_then rest >>= λ u bs. behind_then at_line w c u fs bs) >>= run n) h
header_run n in_list fs w e v us h = ap (λ o. (o >>= λ c rest. token_at is_then rest >>= λ u bs. behind_then in_list w c u fs bs) >>= run n) h
header_run n (behind ss k) fs w e v us h = ap (λ o. (o >>= λ c rest. token_at is_then rest >>= λ u bs. behind_then (behind ss k) w c u fs bs) >>= run n) h

pub header_turn : (n : ℕ) (place : Where) (fs : List Frame) (w : Token) (e : Expr) (v : Token) (us : List ReadToken) → ExpressionFits e
    → run (suc n) (need place fs) (then_tokens w e v us)
    ≡ run n (if is_else_line us then got (put_block place (if_line w e v)) fs else need in_list (then_frame place w e v ∷ fs)) us
header_turn n place fs w e v us f =
    header_run n place fs w e v us (again 15 (spell_expression e ++ word v keyword.Then ∷ us) (word v keyword.Then ∷ us) e (record { same = refl; under = level_small e; fits = f; stops = tt }))
    ∙ ap (λ o. o >>= run n) (behind_is place w e v fs us)

-- a line of a block
pub line_turn : (n : ℕ) (place : Where) (fs : List Frame) (w : Token) (e : Expr) (v : Token) (us : List ReadToken) → ExpressionFits e → is_else_line us ≡ true
    → run (suc n) (need place fs) (then_tokens w e v us) ≡ run n (got (put_block place (if_line w e v)) fs) us
line_turn n place fs w e v us f h =
    header_turn n place fs w e v us f
    ∙ ap (λ b. run n (if b then got (put_block place (if_line w e v)) fs else need in_list (then_frame place w e v ∷ fs)) us) h

-- an If with statements
pub opened_turn : (n : ℕ) (place : Where) (fs : List Frame) (w : Token) (e : Expr) (v : Token) (us : List ReadToken) → ExpressionFits e → is_else_line us ≡ false
    → run (suc n) (need place fs) (then_tokens w e v us) ≡ run n (need in_list (then_frame place w e v ∷ fs)) us
opened_turn n place fs w e v us f h =
    header_turn n place fs w e v us f
    ∙ ap (λ b. run n (if b then got (put_block place (if_line w e v)) fs else need in_list (then_frame place w e v ∷ fs)) us) h

pub no_if_of : (s : Simple) → is_word_line s ≡ false → is_if_line s ≡ false
no_if_of (block_line (if_line w e v)) h = absurd cc
no_if_of other h = refl

pub found_turn : (n : ℕ) (s : Simple) (place : Where) (fs : List Frame) (ts rest : List ReadToken) → simple_at ts ≡ Some (s, rest)
    → (statement_at place fs ts >>= run n) ≡ run n (got (put place (simple s)) fs) rest
found_turn n s place fs ts rest h = ap (λ o. (o >>= λ x us. Some (got (put place (simple x)) fs, us)) >>= run n) h

plain_turn : SimpleLaws → (n : ℕ) (s : Simple) (place : Where) (fs : List Frame) (rest : List ReadToken) → is_word_line s ≡ false → Formed s → Chosen s
    → is_else_line rest ≡ true → run (suc n) (need place fs) (spell_simple s ++ rest) ≡ run n (got (put place (simple s)) fs) rest
plain_turn laws n s place fs rest h f c v =
    run_plain n place fs (spell_simple s ++ rest) (simple_front s rest h)
    ∙ found_turn n s place fs (spell_simple s ++ rest) rest (laws.complete s rest (record { formed = f; chosen = c; no_if = no_if_of s h }) (ends_of rest v))

simple_turn : SimpleLaws → (n : ℕ) (s : Simple) (place : Where) (fs : List Frame) (rest : List ReadToken) → Formed s → Chosen s
    → is_else_line rest ≡ true → run (suc n) (need place fs) (spell_simple s ++ rest) ≡ run n (got (put place (simple s)) fs) rest
simple_turn laws n (block_line (if_line w e v)) place fs rest f c h =
    ap (λ z. run (suc n) (need place fs) (word w keyword.If ∷ z)) (append_assoc (spell_expression e) (word v keyword.Then ∷ []) rest)
    ∙ line_turn n place fs w e v rest f h
simple_turn laws n (block_line (else_line w)) place fs rest f c h =
    run_else n place fs w rest h
    ∙ found_turn n (block_line (else_line w)) place fs (word w keyword.Else ∷ rest) rest
    (laws.complete (block_line (else_line w)) rest (record { formed = tt; chosen = tt; no_if = refl }) (ends_of rest h))
simple_turn laws n other place fs rest f c h = plain_turn laws n other place fs rest refl f c h

pub colon : (ss : Stmts) (b : Bool) (n : ℕ) (fs : List Frame) (c : Token) (rest : List ReadToken) → Starts b ss → ends_in_if ss ≡ false
    → run (suc n) (after ss b fs) (marked c mark.Colon ∷ rest) ≡ run n (need (behind ss c) fs) rest
colon nothing true n fs c rest st h = refl
colon nothing false n fs c rest st h = absurd cc
colon (one (simple s)) true n fs c rest st h = refl
colon (one (simple s)) false n fs c rest st h = refl
colon (one (if_then w e v us)) b n fs c rest st h = absurd cc
colon (one (if_else w e v us l vs)) b n fs c rest st h = absurd cc
colon (gap ss k) b n fs c rest st h = refl
colon (more ss k (simple s)) b n fs c rest st h = refl
colon (more ss k (if_then w e v us)) b n fs c rest st h = absurd cc
colon (more ss k (if_else w e v us l vs)) b n fs c rest st h = absurd cc

-- an Else that a statement follows, behind a whole list
pub gap_else : (ss : Stmts) (c : Token) (fs : List Frame) (l : Token) (ts : List ReadToken) → is_else_line ts ≡ false
    → turn (need (behind ss c) fs) (word l keyword.Else) ts ≡ with_tokens ts (with_else (gap ss c) fs l)
gap_else ss c fs l ts h = ap (λ b. if b then statement_at (behind ss c) fs (word l keyword.Else ∷ ts) else with_tokens ts (with_else (gap ss c) fs l)) h

mutual
  else_statement : (s : Stmt) (place : Where) (fs : List Frame) (l : Token) (ts : List ReadToken) → FormedStatement s → takes_else s ≡ false → is_else_line ts ≡ false
      → turn (after_statement s place fs) (word l keyword.Else) ts ≡ with_tokens ts (with_else (put place s) fs l)
  else_statement (simple s) place fs l ts f h k = refl
  else_statement (if_then w e v ss) place fs l ts f h k = absurd cc
  else_statement (if_else w e v ss m us) place fs l ts f h k = else_all us (else_frame place w e v ss m ∷ fs) l ts f.2 f.4 h k

  else_all : (ss : Stmts) (fs : List Frame) (l : Token) (ts : List ReadToken) → has_first ss ≡ true → FormedStatements ss → list_takes_else ss ≡ false → is_else_line ts ≡ false
      → turn (after ss false fs) (word l keyword.Else) ts ≡ with_tokens ts (with_else ss fs l)
  else_all nothing fs l ts st f h k = absurd cc
  else_all (one s) fs l ts st f h k = else_statement s in_list fs l ts f h k
  else_all (gap ss c) fs l ts st f h k = gap_else ss c fs l ts k
  else_all (more ss c s) fs l ts st f h k = else_statement s (behind ss c) fs l ts f.1 h k

pub starts_gap : (b : Bool) (ss : Stmts) (k : Token) → Starts b (gap ss k) → Starts b ss
starts_gap true ss k h = tt
starts_gap false ss k h = h

pub starts_more : (b : Bool) (ss : Stmts) (k : Token) (s : Stmt) → Starts b (more ss k s) → Starts b ss
starts_more true ss k s h = tt
starts_more false ss k s h = h

mutual
  reads_statement : SimpleLaws → (s : Stmt) (place : Where) (fs : List Frame) (n : ℕ) (rest : List ReadToken) → is_else_line rest ≡ true
      → FormedStatement s → ChosenStatement s → run (count_statement s + n) (need place fs) (spell_statement s ++ rest) ≡ run n (after_statement s place fs) rest
  reads_statement laws (simple s) place fs n rest v f c =
      at_fuel (1 + n) (suc n) (need place fs) (spell_simple s ++ rest) (omega arith) ∙ simple_turn laws n s place fs rest f c v
  reads_statement laws (if_then w e t ss) place fs n rest v f c =
      at_fuel (suc (count ss) + n) (suc (count ss + n)) (need place fs) (spell_statement (if_then w e t ss) ++ rest) (omega arith)
      ∙ (ap (λ z. run (suc (count ss + n)) (need place fs) (word w keyword.If ∷ z)) (append_assoc (spell_expression e) (word t keyword.Then ∷ spell_statements ss) rest)
      ∙ (opened_turn (count ss + n) place fs w e t (spell_statements ss ++ rest) f.0 (list_front ss rest f.1 v)
      ∙ reads laws ss false (then_frame place w e t ∷ fs) n rest f.1 v f.2 c))
  reads_statement laws (if_else w e t ss l us) place fs n rest v f c =
      let fs1 : List Frame = then_frame place w e t ∷ fs in let ts : List ReadToken = spell_statements us ++ rest in
      at_fuel (suc (count ss + suc (count us)) + n) (suc (count ss + suc (count us + n))) (need place fs) (spell_statement (if_else w e t ss l us) ++ rest) (omega arith)
      ∙ (ap (λ z. run (suc (count ss + suc (count us + n))) (need place fs) (word w keyword.If ∷ z))
      (append_assoc (spell_expression e) (word t keyword.Then ∷ (spell_statements ss ++ word l keyword.Else ∷ spell_statements us)) rest)
      ∙ (ap (λ z. run (suc (count ss + suc (count us + n))) (need place fs) (then_tokens w e t z)) (append_assoc (spell_statements ss) (word l keyword.Else ∷ spell_statements us) rest)
      ∙ (opened_turn (count ss + suc (count us + n)) place fs w e t (spell_statements ss ++ word l keyword.Else ∷ ts) f.0
      (list_front ss (word l keyword.Else ∷ ts) f.1 (ap not (list_front us rest f.2 v)))
      ∙ (reads laws ss false fs1 (suc (count us + n)) (word l keyword.Else ∷ ts) f.1 (ap not (list_front us rest f.2 v)) f.3 c.1
      ∙ (stepped (count us + n) (after ss false fs1) (need in_list (else_frame place w e t ss l ∷ fs)) (word l keyword.Else) ts ts
      (else_all ss fs1 l ts f.1 f.3 c.0 (list_front us rest f.2 v))
      ∙ reads laws us false (else_frame place w e t ss l ∷ fs) n rest f.2 v f.4 c.2)))))

  reads : SimpleLaws → (ss : Stmts) (b : Bool) (fs : List Frame) (n : ℕ) (rest : List ReadToken) → Starts b ss → is_else_line rest ≡ true
      → FormedStatements ss → ChosenStatements ss → run (count ss + n) (need (start b) fs) (spell_statements ss ++ rest) ≡ run n (after ss b fs) rest
  reads laws nothing b fs n rest st v f c = at_fuel (0 + n) n (need (start b) fs) rest (omega arith)
  reads laws (one s) b fs n rest st v f c = reads_statement laws s (start b) fs n rest v f c
  reads laws (gap ss k) b fs n rest st v f c =
      at_fuel ((count ss + 1) + n) (count ss + suc n) (need (start b) fs) (spell_statements (gap ss k) ++ rest) (omega arith)
      ∙ (ap (run (count ss + suc n) (need (start b) fs)) (append_assoc (spell_statements ss) (marked k mark.Colon ∷ []) rest)
      ∙ (reads laws ss b fs (suc n) (marked k mark.Colon ∷ rest) (starts_gap b ss k st) refl f c.1 ∙ colon ss b n fs k rest (starts_gap b ss k st) c.0))
  reads laws (more ss k s) b fs n rest st v f c =
      at_fuel ((count ss + suc (count_statement s)) + n) (count ss + suc (count_statement s + n)) (need (start b) fs) (spell_statements (more ss k s) ++ rest) (omega arith)
      ∙ (ap (run (count ss + suc (count_statement s + n)) (need (start b) fs)) (append_assoc (spell_statements ss) (marked k mark.Colon ∷ spell_statement s) rest)
      ∙ (reads laws ss b fs (suc (count_statement s + n)) (marked k mark.Colon ∷ (spell_statement s ++ rest)) (starts_more b ss k s st) refl f.0 c.1
      ∙ (colon ss b (count_statement s + n) fs k (spell_statement s ++ rest) (starts_more b ss k s st) c.0
      ∙ reads_statement laws s (behind ss k) fs n rest v f.1 c.2)))

mutual
  ends_statement : (s : Stmt) (place : Where) (fs : List Frame) → FormedStatement s → finish (after_statement s place fs) ≡ Some (closed (put place s) fs)
  ends_statement (simple s) place fs f = refl
  ends_statement (if_then w e v ss) place fs f = ends_all ss (then_frame place w e v ∷ fs) f.1 f.2
  ends_statement (if_else w e v ss l us) place fs f = ends_all us (else_frame place w e v ss l ∷ fs) f.2 f.4

  ends_all : (ss : Stmts) (fs : List Frame) → has_first ss ≡ true → FormedStatements ss → finish (after ss false fs) ≡ Some (closed ss fs)
  ends_all nothing fs st f = absurd cc
  ends_all (one s) fs st f = ends_statement s in_list fs f
  ends_all (gap ss c) fs st f = refl
  ends_all (more ss c s) fs st f = ends_statement s (behind ss c) fs f.1

ends_line : (ss : Stmts) → FormedStatements ss → finish (after ss true []) ≡ Some ss
ends_line nothing f = refl
ends_line (one s) f = ends_statement s at_line [] f
ends_line (gap ss c) f = refl
ends_line (more ss c s) f = ends_statement s (behind ss c) [] f.1

-- each turn takes a token
pub start_long : (ts : List ReadToken) → begins is_start ts ≡ true → 1 ≤ length ts
start_long [] h = absurd cc
start_long (t ∷ ts) h = omega arith

pub back_long : (a b : List ReadToken) (n : ℕ) → n ≤ length b → n ≤ length (a ++ b)
back_long a b n h = omega (arith, length-append a b)

pub both_long : (a b : List ReadToken) (m n : ℕ) → m ≤ length a → n ≤ length b → m + n ≤ length (a ++ b)
both_long a b m n h k = omega (arith, length-append a b)

simple_long : (s : Simple) → 1 ≤ length (spell_simple s)
simple_long (block_line (if_line w e v)) = omega arith
simple_long (block_line (else_line w)) = omega arith
simple_long other = start_long (spell_simple other) (ap (begins is_start) (sym (append-nil (spell_simple other))) ∙ simple_front other [] refl)

mutual
  long_statement : (s : Stmt) → count_statement s ≤ length (spell_statement s)
  long_statement (simple s) = simple_long s
  long_statement (if_then w e v ss) =
      let h = back_long (spell_expression e) (word v keyword.Then ∷ spell_statements ss) (count ss) (let g = long ss in omega arith) in omega arith
  long_statement (if_else w e v ss l us) =
      let k = both_long (spell_statements ss) (word l keyword.Else ∷ spell_statements us) (count ss) (suc (count us)) (long ss) (let g = long us in omega arith) in
      let h = back_long (spell_expression e) (word v keyword.Then ∷ (spell_statements ss ++ word l keyword.Else ∷ spell_statements us)) (count ss + suc (count us)) (omega arith) in omega arith

  pub long : (ss : Stmts) → count ss ≤ length (spell_statements ss)
  long nothing = omega arith
  long (one s) = long_statement s
  long (gap ss c) = both_long (spell_statements ss) (marked c mark.Colon ∷ []) (count ss) 1 (long ss) (omega arith)
  long (more ss c s) = both_long (spell_statements ss) (marked c mark.Colon ∷ spell_statement s) (count ss) (suc (count_statement s)) (long ss) (let g = long_statement s in omega arith)

-- a list that fits is read, in as many turns as there are tokens
pub statements_again : SimpleLaws → (ss : Stmts) → FormedStatements ss → ChosenStatements ss → statements_of (spell_statements ss) ≡ Some ss
statements_again laws ss f c =
    let m : ℕ = length (spell_statements ss) - count ss in
    at_fuel (length (spell_statements ss)) (count ss + m) (need at_line []) (spell_statements ss) (omega (arith, long ss))
    ∙ (ap (run (count ss + m) (need at_line [])) (sym (append-nil (spell_statements ss))) ∙ (reads laws ss true [] m [] tt refl f c ∙ ends_line ss f))
