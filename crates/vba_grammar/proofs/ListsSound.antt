-- What is read of a list of statements fits, and spells its tokens.
use Rattle.std.proofs.lemmas.List.{append-nil}
use Rattle.std.proofs.Common.{◌≡◌, ℕ, zero, suc, length, Bool, true, false, List, [], ◌∷◌, ◌++◌, Option, Some, None, refl, sym, ap, ◌∙◌, subst, arith, append_assoc}
use Rattle.std.specs.Prelude.{if◌then◌else◌}
use Rattle.vba_lexer.specs.declared.token.Token.{Token}
use Rattle.vba_words.specs.declared.keyword.Keyword.TheVariants as keyword
use Rattle.vba_words.specs.declared.mark.Mark.TheVariants as mark
use Rattle.vba_words.specs.declared.reading.Reading.{Reading}
use Rattle.vba_words.specs.declared.reading.Reading.TheVariants as reading
use Rattle.vba_words.specs.declared.reading.ReadToken.{ReadToken}
use Rattle.vba_words.specs.Spelling.{read, word, marked}
use Rattle.vba_expression.specs.Tree.{Expr}
use Rattle.vba_expression.specs.Spelling.{spell as spell_expression}
use Rattle.vba_expression.specs.Fitting.{Fits as ExpressionFits}
use Rattle.vba_expression.proofs.Inverses.{takes}
use Rattle.vba_tree.specs.Tree.{Simple, block_line, if_line, Stmt, simple, if_then, if_else, Stmts, nothing, one, gap, more}
use Rattle.vba_tree.specs.Spelling.{spell_simple, spell_statement, spell_statements}
use Rattle.vba_tree.specs.Forms.{begins as has_first, FormedStatement, FormedStatements}
use Rattle.vba_tree.specs.Fitting.{ends_in_if, takes_else, list_takes_else, ChosenStatement, ChosenStatements}
use Rattle.vba_grammar.specs.Front.{Found, ◌>>=◌, is_then, token_at, whole_at}
use Rattle.vba_grammar.specs.Statements.{simple_at}
use Rattle.vba_grammar.specs.Lists.{Where, at_line, in_list, behind, put, Frame, then_frame, else_frame, State, need, got, with_else, closed, is_else_line, Turn, with_tokens, put_block, behind_then, statement_at, needed, had, turn, finish, run, statements_of}
use Rattle.vba_grammar.specs.Laws.{SimpleLaws}
use Rattle.vba_grammar.proofs.ListsComplete.{turned, behind_is}

abbrev told_where : Where → List ReadToken
told_where at_line = []
told_where in_list = []
told_where (behind ss c) = spell_statements ss ++ marked c mark.Colon ∷ []

abbrev told : Frame → List ReadToken
told (then_frame place w e v) = told_where place ++ word w keyword.If ∷ (spell_expression e ++ word v keyword.Then ∷ [])
told (else_frame place w e v ss l) =
    told_where place ++ word w keyword.If ∷ (spell_expression e ++ word v keyword.Then ∷ (spell_statements ss ++ word l keyword.Else ∷ []))

abbrev frames : List Frame → List ReadToken
frames [] = []
frames (f ∷ fs) = frames fs ++ told f

-- what was read
abbrev so_far : State → List ReadToken
so_far (need place fs) = frames fs ++ told_where place
so_far (got ss fs) = frames fs ++ spell_statements ss

-- a list in an If begins with a statement
abbrev Begun : List Frame → Stmts → Type 0
Begun [] ss = Unit {0}
Begun (f ∷ fs) ss = has_first ss ≡ true

abbrev FitsWhere : List Frame → Where → Type 0
FitsWhere fs in_list = Unit {0}
FitsWhere [] at_line = Unit {0}
FitsWhere (f ∷ fs) at_line = ⊥
FitsWhere fs (behind ss c) = (ends_in_if ss ≡ false) × FormedStatements ss × ChosenStatements ss × Begun fs ss

abbrev FitsFrames : List Frame → Type 0
FitsFrames [] = Unit {0}
FitsFrames (then_frame place w e v ∷ fs) = FitsWhere fs place × FitsFrames fs × ExpressionFits e
FitsFrames (else_frame place w e v ss l ∷ fs) =
    FitsWhere fs place × FitsFrames fs × ExpressionFits e × (list_takes_else ss ≡ false) × (has_first ss ≡ true) × FormedStatements ss × ChosenStatements ss

abbrev FitsState : State → Type 0
FitsState (need place fs) = FitsWhere fs place × FitsFrames fs
FitsState (got ss fs) = (ends_in_if ss ≡ false) × FormedStatements ss × ChosenStatements ss × Begun fs ss × FitsFrames fs

abbrev Told : List ReadToken → Turn → Type 0
Told ts None = Unit {0}
Told ts (Some p) = (so_far p.0 ++ p.1 ≡ ts) × FitsState p.0

put_formed : (fs : List Frame) (place : Where) (s : Stmt) → FitsWhere fs place → FormedStatement s → FormedStatements (put place s)
put_formed fs at_line s w f = f
put_formed fs in_list s w f = f
put_formed fs (behind ss c) s w f = (w.1, f)

put_chosen : (fs : List Frame) (place : Where) (s : Stmt) → FitsWhere fs place → ChosenStatement s → ChosenStatements (put place s)
put_chosen fs at_line s w h = h
put_chosen fs in_list s w h = h
put_chosen fs (behind ss c) s w h = (w.0, w.2, h)

put_begun : (fs : List Frame) (place : Where) (s : Stmt) → FitsWhere fs place → Begun fs (put place s)
put_begun [] place s w = tt
put_begun (f ∷ fs) at_line s w = refl
put_begun (f ∷ fs) in_list s w = refl
put_begun (f ∷ fs) (behind ss c) s w = w.3

put_takes : (place : Where) (s : Stmt) → list_takes_else (put place s) ≡ takes_else s
put_takes at_line s = refl
put_takes in_list s = refl
put_takes (behind ss c) s = refl

put_ends : (place : Where) (s : Simple) → ends_in_if (put place (simple s)) ≡ false
put_ends at_line s = refl
put_ends in_list s = refl
put_ends (behind ss c) s = refl

put_text : (place : Where) (s : Stmt) → spell_statements (put place s) ≡ told_where place ++ spell_statement s
put_text at_line s = refl
put_text in_list s = refl
put_text (behind ss c) s = sym (append_assoc (spell_statements ss) (marked c mark.Colon ∷ []) (spell_statement s))

ends_takes : (ss : Stmts) → ends_in_if ss ≡ false → list_takes_else ss ≡ false
ends_takes nothing h = refl
ends_takes (one (simple s)) h = refl
ends_takes (one (if_then w e v us)) h = absurd cc
ends_takes (one (if_else w e v us l vs)) h = absurd cc
ends_takes (gap ss c) h = refl
ends_takes (more ss c (simple s)) h = refl
ends_takes (more ss c (if_then w e v us)) h = absurd cc
ends_takes (more ss c (if_else w e v us l vs)) h = absurd cc

then_text : (f k e b : List ReadToken) (i t : ReadToken) → f ++ (k ++ i ∷ (e ++ t ∷ b)) ≡ (f ++ (k ++ i ∷ (e ++ t ∷ []))) ++ b
then_text f k e b i t = simp append_assoc

else_text : (f k e a b : List ReadToken) (i t l : ReadToken) → f ++ (k ++ i ∷ (e ++ t ∷ (a ++ l ∷ b))) ≡ (f ++ (k ++ i ∷ (e ++ t ∷ (a ++ l ∷ [])))) ++ b
else_text f k e a b i t l = simp append_assoc

els_text : (f k e a r : List ReadToken) (i t l : ReadToken) → ((f ++ (k ++ i ∷ (e ++ t ∷ (a ++ l ∷ [])))) ++ []) ++ r ≡ ((f ++ (k ++ i ∷ (e ++ t ∷ []))) ++ a) ++ l ∷ r
els_text f k e a r i t l = simp (append_assoc, append-nil)

head_text : (f k e r : List ReadToken) (i t : ReadToken) → ((f ++ (k ++ i ∷ (e ++ t ∷ []))) ++ []) ++ r ≡ (f ++ k) ++ i ∷ (e ++ t ∷ r)
head_text f k e r i t = simp (append_assoc, append-nil)

line_text : (f k e r : List ReadToken) (i t : ReadToken) → (f ++ (k ++ i ∷ (e ++ t ∷ []))) ++ r ≡ (f ++ k) ++ i ∷ (e ++ t ∷ r)
line_text f k e r i t = simp append_assoc

stmt_text : (f k a r : List ReadToken) → (f ++ (k ++ a)) ++ r ≡ (f ++ k) ++ (a ++ r)
stmt_text f k a r = simp append_assoc

gap_text : (f a r : List ReadToken) (c d : ReadToken) → (f ++ ((a ++ c ∷ []) ++ d ∷ [])) ++ r ≡ (f ++ (a ++ c ∷ [])) ++ d ∷ r
gap_text f a r c d = simp append_assoc

colon_text : (f a r : List ReadToken) (c : ReadToken) → (f ++ (a ++ c ∷ [])) ++ r ≡ (f ++ a) ++ c ∷ r
colon_text f a r c = simp append_assoc

told_along : (ts us : List ReadToken) (o : Turn) → ts ≡ us → Told ts o → Told us o
told_along ts us o e t = subst (λ x. Told x o) e t

told_else : (ss : Stmts) (fs : List Frame) (l : Token) (r : List ReadToken) → list_takes_else ss ≡ false → FormedStatements ss → ChosenStatements ss → Begun fs ss → FitsFrames fs
    → Told ((frames fs ++ spell_statements ss) ++ word l keyword.Else ∷ r) (with_tokens r (with_else ss fs l))
told_else ss [] l r h f c b v = tt
told_else ss (then_frame place w e t ∷ fs) l r h f c b v = (
  els_text (frames fs) (told_where place) (spell_expression e) (spell_statements ss) r (word w keyword.If) (word t keyword.Then) (word l keyword.Else),
  (tt, (v.0, v.1, v.2, h, b, f, c)),
)
told_else ss (else_frame place w e t us k ∷ fs) l r h f c b v =
    let s : Stmt = if_else w e t us k ss in
    told_along _ _ (with_tokens r (with_else (put place s) fs l))
    (ap (λ x. (frames fs ++ x) ++ word l keyword.Else ∷ r) (put_text place s)
    ∙ ap (λ x. x ++ word l keyword.Else ∷ r)
    (else_text (frames fs) (told_where place) (spell_expression e) (spell_statements us) (spell_statements ss) (word w keyword.If) (word t keyword.Then) (word k keyword.Else)))
    (told_else (put place s) fs l r (put_takes place s ∙ h) (put_formed fs place s v.0 (v.2, v.4, b, v.5, f)) (put_chosen fs place s v.0 (v.3, v.6, c)) (put_begun fs place s v.0) v.1)

told_found : SimpleLaws → (place : Where) (fs : List Frame) (ts : List ReadToken) (o : Found Simple) → simple_at ts ≡ o → FitsWhere fs place → FitsFrames fs
    → Told ((frames fs ++ told_where place) ++ ts) (o >>= λ s rest. turned (got (put place (simple s)) fs) rest)
told_found laws place fs ts None h w v = tt
told_found laws place fs ts (Some p) h w v =
    let g = laws.sound ts p.1 p.0 h in (
      ap (λ x. (frames fs ++ x) ++ p.1) (put_text place (simple p.0))
          ∙ (stmt_text (frames fs) (told_where place) (spell_simple p.0) p.1 ∙ ap (λ x. (frames fs ++ told_where place) ++ x) (sym g.0)),
      (put_ends place p.0, put_formed fs place (simple p.0) w g.1.formed, put_chosen fs place (simple p.0) w g.1.chosen, put_begun fs place (simple p.0) w, v),
    )

told_statement : SimpleLaws → (place : Where) (fs : List Frame) (ts : List ReadToken) → FitsWhere fs place → FitsFrames fs
    → Told ((frames fs ++ told_where place) ++ ts) (statement_at place fs ts)
told_statement laws place fs ts w v = told_found laws place fs ts (simple_at ts) refl w v

-- behind Then
told_chosen : (b : Bool) (place : Where) (fs : List Frame) (i : Token) (e : Expr) (t : Token) (r : List ReadToken) → ExpressionFits e → FitsWhere fs place → FitsFrames fs
    → Told ((frames fs ++ told_where place) ++ word i keyword.If ∷ (spell_expression e ++ word t keyword.Then ∷ r))
    (turned (if b then got (put_block place (if_line i e t)) fs else need in_list (then_frame place i e t ∷ fs)) r)
told_chosen true place fs i e t r f w v =
    let s : Simple = block_line (if_line i e t) in (
      ap (λ x. (frames fs ++ x) ++ r) (put_text place (simple s)) ∙ line_text (frames fs) (told_where place) (spell_expression e) r (word i keyword.If) (word t keyword.Then),
      (put_ends place s, put_formed fs place (simple s) w f, put_chosen fs place (simple s) w tt, put_begun fs place (simple s) w, v),
    )
told_chosen false place fs i e t r f w v =
    (head_text (frames fs) (told_where place) (spell_expression e) r (word i keyword.If) (word t keyword.Then), (tt, (w, v, f)))

told_then : (place : Where) (fs : List Frame) (i : Token) (e : Expr) (ts : List ReadToken) (t : Token) (r : List ReadToken) (a : Reading)
    → ts ≡ spell_expression e ++ read t a ∷ r → ExpressionFits e → FitsWhere fs place → FitsFrames fs
    → Told ((frames fs ++ told_where place) ++ word i keyword.If ∷ ts) (token_at is_then (read t a ∷ r) >>= λ then_word behind. behind_then place i e then_word fs behind)
told_then place fs i e ts t r (reading.Keyword keyword.Then) q f w v =
    told_along _ _ (behind_then place i e t fs r) (ap (λ x. (frames fs ++ told_where place) ++ word i keyword.If ∷ x) (sym q))
    (subst (Told ((frames fs ++ told_where place) ++ word i keyword.If ∷ (spell_expression e ++ word t keyword.Then ∷ r))) (sym (behind_is place i e t fs r))
    (told_chosen (is_else_line r) place fs i e t r f w v))
told_then place fs i e ts t r other q f w v = tt

told_condition : (place : Where) (fs : List Frame) (i : Token) (e : Expr) (ts r : List ReadToken)
    → ts ≡ spell_expression e ++ r → ExpressionFits e → FitsWhere fs place → FitsFrames fs
    → Told ((frames fs ++ told_where place) ++ word i keyword.If ∷ ts) (token_at is_then r >>= λ then_word behind. behind_then place i e then_word fs behind)
told_condition place fs i e ts [] q f w v = tt
told_condition place fs i e ts (t ∷ r) q f w v = told_then place fs i e ts t.token r t.reading q f w v

told_header : (place : Where) (fs : List Frame) (i : Token) (ts : List ReadToken) (o : Found Expr) → whole_at ts ≡ o → FitsWhere fs place → FitsFrames fs
    → Told ((frames fs ++ told_where place) ++ word i keyword.If ∷ ts)
    (o >>= λ condition rest. token_at is_then rest >>= λ then_word behind. behind_then place i condition then_word fs behind)
told_header place fs i ts None h w v = tt
told_header place fs i ts (Some p) h w v = let g = takes 15 ts p.1 p.0 (omega arith) h in told_condition place fs i p.0 ts p.1 g.same g.fits w v

told_else_if : SimpleLaws → (b : Bool) (ss : Stmts) (c : Token) (fs : List Frame) (l : Token) (ts : List ReadToken) → FitsWhere fs (behind ss c) → FitsFrames fs
    → Told ((frames fs ++ told_where (behind ss c)) ++ word l keyword.Else ∷ ts)
    (if b then statement_at (behind ss c) fs (word l keyword.Else ∷ ts) else with_tokens ts (with_else (gap ss c) fs l))
told_else_if laws true ss c fs l ts w v = told_statement laws (behind ss c) fs (word l keyword.Else ∷ ts) w v
told_else_if laws false ss c fs l ts w v = told_else (gap ss c) fs l ts refl w.1 (w.0, w.2) (gap_begun fs w.3) v
  where
    gap_begun : (fs : List Frame) → Begun fs ss → Begun fs (gap ss c)
    gap_begun [] h = tt
    gap_begun (f ∷ fs) h = h

begun_gap : (fs : List Frame) (ss : Stmts) (c : Token) → Begun fs ss → Begun fs (gap ss c)
begun_gap [] ss c h = tt
begun_gap (f ∷ fs) ss c h = h

begun_nothing : (fs : List Frame) → FitsWhere fs at_line → Begun fs nothing
begun_nothing [] h = tt
begun_nothing (f ∷ fs) h = absurd h

line_colon_text : (f r : List ReadToken) (d : ReadToken) → (f ++ ([] ++ d ∷ [])) ++ r ≡ (f ++ []) ++ d ∷ r
line_colon_text f r d = simp (append_assoc, append-nil)

told_needed : SimpleLaws → (place : Where) (fs : List Frame) (t : Token) (ts : List ReadToken) (r : Reading) → FitsWhere fs place → FitsFrames fs
    → Told ((frames fs ++ told_where place) ++ read t r ∷ ts) (needed place fs (read t r) ts r)
told_needed laws at_line fs t ts (reading.Keyword keyword.If) w v = told_header at_line fs t ts (whole_at ts) refl w v
told_needed laws in_list fs t ts (reading.Keyword keyword.If) w v = told_header in_list fs t ts (whole_at ts) refl w v
told_needed laws (behind ss c) fs t ts (reading.Keyword keyword.If) w v = told_header (behind ss c) fs t ts (whole_at ts) refl w v
told_needed laws (behind ss c) fs t ts (reading.Keyword keyword.Else) w v = told_else_if laws (is_else_line ts) ss c fs t ts w v
told_needed laws (behind ss c) fs t ts (reading.Mark mark.Colon) w v =
    (gap_text (frames fs) (spell_statements ss) ts (marked c mark.Colon) (marked t mark.Colon), ((refl, w.1, (w.0, w.2), begun_gap fs ss c w.3), v))
told_needed laws at_line fs t ts (reading.Mark mark.Colon) w v =
    (line_colon_text (frames fs) ts (marked t mark.Colon), ((refl, tt, tt, begun_nothing fs w), v))
told_needed laws (behind ss c) fs t ts other w v = told_statement laws (behind ss c) fs (read t other ∷ ts) w v
told_needed laws at_line fs t ts other w v = told_statement laws at_line fs (read t other ∷ ts) w v
told_needed laws in_list fs t ts other w v = told_statement laws in_list fs (read t other ∷ ts) w v

told_had : (ss : Stmts) (fs : List Frame) (t : Token) (ts : List ReadToken) (r : Reading) → FitsState (got ss fs)
    → Told ((frames fs ++ spell_statements ss) ++ read t r ∷ ts) (had ss fs (read t r) ts r)
told_had ss fs t ts (reading.Mark mark.Colon) w = (colon_text (frames fs) (spell_statements ss) ts (marked t mark.Colon), ((w.0, w.1, w.2, w.3), w.4))
told_had ss fs t ts (reading.Keyword keyword.Else) w = told_else ss fs t ts (ends_takes ss w.0) w.1 w.2 w.3 w.4
told_had ss fs t ts other w = tt

told_turn : SimpleLaws → (s : State) (t : ReadToken) (ts : List ReadToken) → FitsState s → Told (so_far s ++ t ∷ ts) (turn s t ts)
told_turn laws (need place fs) t ts w = told_needed laws place fs t.token ts t.reading w.0 w.1
told_turn laws (got ss fs) t ts w = told_had ss fs t.token ts t.reading w

-- a fitting list with these tokens
pub record Fitting (ts : List ReadToken) (ss : Stmts) : Type 0 where
  pub text : spell_statements ss ≡ ts
  pub formed : FormedStatements ss
  pub chosen : ChosenStatements ss

closed_along : (ts us : List ReadToken) (ss : Stmts) → ts ≡ us → Fitting ts ss → Fitting us ss
closed_along ts us ss e c = record { text = c.text ∙ e; formed = c.formed; chosen = c.chosen }

told_closed : (ss : Stmts) (fs : List Frame) → FormedStatements ss → ChosenStatements ss → Begun fs ss → FitsFrames fs → Fitting (frames fs ++ spell_statements ss) (closed ss fs)
told_closed ss [] f c b v = record { text = refl; formed = f; chosen = c }
told_closed ss (then_frame place w e t ∷ fs) f c b v =
    let s : Stmt = if_then w e t ss in
    closed_along _ _ (closed (put place s) fs)
    (ap (λ x. frames fs ++ x) (put_text place s) ∙ then_text (frames fs) (told_where place) (spell_expression e) (spell_statements ss) (word w keyword.If) (word t keyword.Then))
    (told_closed (put place s) fs (put_formed fs place s v.0 (v.2, b, f)) (put_chosen fs place s v.0 c) (put_begun fs place s v.0) v.1)
told_closed ss (else_frame place w e t us l ∷ fs) f c b v =
    let s : Stmt = if_else w e t us l ss in
    closed_along _ _ (closed (put place s) fs)
    (ap (λ x. frames fs ++ x) (put_text place s)
    ∙ else_text (frames fs) (told_where place) (spell_expression e) (spell_statements us) (spell_statements ss) (word w keyword.If) (word t keyword.Then) (word l keyword.Else))
    (told_closed (put place s) fs (put_formed fs place s v.0 (v.2, v.4, b, v.5, f)) (put_chosen fs place s v.0 (v.3, v.6, c)) (put_begun fs place s v.0) v.1)

abbrev pub Ended : List ReadToken → Option Stmts → Type 0
Ended ts None = Unit {0}
Ended ts (Some ss) = Fitting ts ss

told_finish : (s : State) → FitsState s → Ended (so_far s) (finish s)
told_finish (got ss fs) w = told_closed ss fs w.1 w.2 w.3 w.4
told_finish (need (behind ss c) fs) w = told_closed (gap ss c) fs w.0.1 (w.0.0, w.0.2) (begun_gap fs ss c w.0.3) w.1
told_finish (need at_line []) w = record { text = refl; formed = tt; chosen = tt }
told_finish (need at_line (f ∷ fs)) w = absurd w.0
told_finish (need in_list fs) w = tt

ended_along : (ts us : List ReadToken) (o : Option Stmts) → ts ≡ us → Ended ts o → Ended us o
ended_along ts us o e t = subst (λ x. Ended x o) e t

told_go : (n : ℕ) (ts : List ReadToken) (o : Turn) → Told ts o → ((s : State) (us : List ReadToken) → FitsState s → Ended (so_far s ++ us) (run n s us)) → Ended ts (o >>= run n)
told_go n ts None t k = tt
told_go n ts (Some p) t k = ended_along _ _ (run n p.0 p.1) t.0 (k p.0 p.1 t.1)

told_run : SimpleLaws → (n : ℕ) (s : State) (ts : List ReadToken) → FitsState s → Ended (so_far s ++ ts) (run n s ts)
told_run laws zero s [] w = ended_along _ _ (finish s) (sym (append-nil (so_far s))) (told_finish s w)
told_run laws (suc n) s [] w = ended_along _ _ (finish s) (sym (append-nil (so_far s))) (told_finish s w)
told_run laws zero s (t ∷ ts) w = tt
told_run laws (suc n) s (t ∷ ts) w = told_go n _ (turn s t ts) (told_turn laws s t ts w) (λ s1 us v. told_run laws n s1 us v)

-- what is read fits, and spells the tokens
pub statements_fit : SimpleLaws → (ts : List ReadToken) → Ended ts (statements_of ts)
statements_fit laws ts = told_run laws (length ts) (need at_line []) ts (tt, tt)

pub statements_take : SimpleLaws → (ts : List ReadToken) (ss : Stmts) → statements_of ts ≡ Some ss → (ts ≡ spell_statements ss) × FormedStatements ss × ChosenStatements ss
statements_take laws ts ss h = let g : Fitting ts ss = subst (Ended ts) h (statements_fit laws ts) in (sym g.text, g.formed, g.chosen)
