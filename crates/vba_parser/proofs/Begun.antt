-- Each list of an If that is open stays begun, turn by turn.
use Rattle.std.proofs.Common.{◌≡◌, Bool, true, false, List, [], ◌∷◌, Option, Some, None, refl, sym, subst}
use Rattle.std.specs.Prelude.{if◌then◌else◌}
use Rattle.vba_lexer.specs.declared.token.Token.{Token}
use Rattle.vba_words.specs.declared.reading.ReadToken.{ReadToken}
use Rattle.vba_expression.specs.Tree.{Expr}
use Rattle.vba_tree.specs.Forms.{begins}
use Rattle.vba_tree.specs.Tree.{Simple, Stmt, simple, block_line, if_line, if_else, Stmts, nothing, gap}
use Rattle.vba_grammar.specs.Front.{Found, ◌>>=◌, is_then, token_at, whole_at}
use Rattle.vba_grammar.specs.Statements.{simple_at}
use Rattle.vba_grammar.specs.Lists.{Where, at_line, in_list, behind, put, put_block, Frame, then_frame, else_frame, State, need, got, with_else, is_else_line, Turn, with_tokens, behind_then, statement_at}
use Rattle.vba_grammar.proofs.ListsComplete.{behind_is}
use Rattle.vba_parser.specs.Begun.{is_begun, AreBegun, IsBegun}
use Rattle.vba_parser.specs.Turns.{is_block_else, if_at, next_list_at, next_place_at, turn_by}
use Rattle.vba_parser.specs.declared.frame.Cut.{Cut}
use Rattle.vba_parser.specs.declared.frame.Cut.TheVariants as cuts

-- what may be unbegun is not inside an If
any_begun : (b : Bool) (fs : List Frame) → AreBegun false fs → AreBegun b fs
any_begun b [] h = tt
any_begun b (then_frame place w e v ∷ fs) h = absurd cc
any_begun b (else_frame place w e v ss l ∷ fs) h = absurd cc

pub put_begun : (place : Where) (s : Stmt) (fs : List Frame) → AreBegun (is_begun place) fs → AreBegun (begins (put place s)) fs
put_begun at_line s fs h = any_begun true fs h
put_begun in_list s fs h = h
put_begun (behind before colon) s fs h = h

-- what a turn leads to is begun
abbrev LeadsBegun : Option State → Type 0
LeadsBegun None = Unit {0}
LeadsBegun (Some s) = IsBegun s

abbrev TurnsBegun : Turn → Type 0
TurnsBegun None = Unit {0}
TurnsBegun (Some r) = IsBegun r.0

else_begun : (ss : Stmts) (fs : List Frame) (l : Token) → AreBegun (begins ss) fs → LeadsBegun (with_else ss fs l)
else_begun ss [] l h = tt
else_begun ss (then_frame place w e v ∷ fs) l h = (refl, h.1)
else_begun ss (else_frame place w e v us m ∷ fs) l h =
    else_begun (put place (if_else w e v us m ss)) fs l (put_begun place (if_else w e v us m ss) fs h.1)

tokens_begun : (o : Option State) (ts : List ReadToken) → LeadsBegun o → TurnsBegun (with_tokens ts o)
tokens_begun None ts h = tt
tokens_begun (Some s) ts h = h

list_begun : (ss : Stmts) (fs : List Frame) (ts : List ReadToken) → AreBegun (begins ss) fs → TurnsBegun (next_list_at ss fs ts)
list_begun ss fs [] h = tt
list_begun ss fs (t ∷ ts) h = tokens_begun (with_else ss fs t.token) ts (else_begun ss fs t.token h)

place_begun : (ss : Stmts) (fs : List Frame) (ts : List ReadToken) → AreBegun (begins ss) fs → TurnsBegun (next_place_at ss fs ts)
place_begun ss fs [] h = tt
place_begun ss fs (t ∷ ts) h = h

statement_begun : (place : Where) (fs : List Frame) (ts : List ReadToken) → AreBegun (is_begun place) fs → TurnsBegun (statement_at place fs ts)
statement_begun place fs ts h = found (simple_at ts)
  where
    found : (o : Found Simple) → TurnsBegun (o >>= λ s rest. Some (got (put place (simple s)) fs, rest))
    found None = tt
    found (Some p) = put_begun place (simple p.0) fs h

then_begun : (b : Bool) (place : Where) (w : Token) (e : Expr) (v : Token) (fs : List Frame) → AreBegun (is_begun place) fs
    → IsBegun (if b then got (put_block place (if_line w e v)) fs else need in_list (then_frame place w e v ∷ fs))
then_begun true place w e v fs h = put_begun place (simple (block_line (if_line w e v))) fs h
then_begun false place w e v fs h = (refl, h)

behind_begun : (place : Where) (w : Token) (e : Expr) (v : Token) (fs : List Frame) (ts : List ReadToken) → AreBegun (is_begun place) fs
    → TurnsBegun (behind_then place w e v fs ts)
behind_begun place w e v fs ts h = subst TurnsBegun (sym (behind_is place w e v fs ts)) (then_begun (is_else_line ts) place w e v fs h)

token_begun : (place : Where) (w : Token) (e : Expr) (fs : List Frame) (o : Found Token) → AreBegun (is_begun place) fs
    → TurnsBegun (o >>= λ then_word behind. behind_then place w e then_word fs behind)
token_begun place w e fs None h = tt
token_begun place w e fs (Some p) h = behind_begun place w e p.0 fs p.1 h

header_begun : (place : Where) (w : Token) (fs : List Frame) (o : Found Expr) → AreBegun (is_begun place) fs
    → TurnsBegun (o >>= λ condition rest. token_at is_then rest >>= λ then_word behind. behind_then place w condition then_word fs behind)
header_begun place w fs None h = tt
header_begun place w fs (Some p) h = token_begun place w p.0 fs (token_at is_then p.1) h

if_begun : (place : Where) (fs : List Frame) (ts : List ReadToken) → AreBegun (is_begun place) fs → TurnsBegun (if_at place fs ts)
if_begun place fs [] h = tt
if_begun place fs (t ∷ ts) h = header_begun place t.token fs (whole_at ts) h

chosen_begun : (b : Bool) (x y : Turn) → TurnsBegun x → TurnsBegun y → TurnsBegun (if b then x else y)
chosen_begun true x y h g = h
chosen_begun false x y h g = g

cut_begun : (cut : Cut) (s : State) (ts : List ReadToken) → IsBegun s → TurnsBegun (turn_by cut s ts)
cut_begun cuts.If (need place fs) ts h = if_begun place fs ts h
cut_begun cuts.Else (need at_line fs) ts h = statement_begun at_line fs ts h
cut_begun cuts.Else (need in_list fs) ts h = statement_begun in_list fs ts h
cut_begun cuts.Else (need (behind ss c) fs) ts h =
    chosen_begun (is_block_else ts) (statement_at (behind ss c) fs ts) (next_list_at (gap ss c) fs ts)
    (statement_begun (behind ss c) fs ts h) (list_begun (gap ss c) fs ts h)
cut_begun cuts.Colon (need at_line fs) ts h = place_begun nothing fs ts h
cut_begun cuts.Colon (need in_list fs) ts h = statement_begun in_list fs ts h
cut_begun cuts.Colon (need (behind ss c) fs) ts h = place_begun (gap ss c) fs ts h
cut_begun cuts.Other (need place fs) ts h = statement_begun place fs ts h
cut_begun cuts.If (got ss fs) ts h = tt
cut_begun cuts.Else (got ss fs) ts h = list_begun ss fs ts h
cut_begun cuts.Colon (got ss fs) ts h = place_begun ss fs ts h
cut_begun cuts.Other (got ss fs) ts h = tt

pub turn_begun : (cut : Cut) (s s1 : State) (ts rest : List ReadToken) → turn_by cut s ts ≡ Some (s1, rest) → IsBegun s → IsBegun s1
turn_begun cut s s1 ts rest e h = subst TurnsBegun e (cut_begun cut s ts h)
