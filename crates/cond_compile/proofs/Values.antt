-- Values are made along with reading as they are of the tree that is read.
use Rattle.std.proofs.Common.{◌≡◌, ℕ, Bool, true, false, List, [], ◌∷◌, Option, Some, None, refl, ap, ◌∙◌}
use Rattle.std.specs.Prelude.{option_map, nat_lt, suc, if◌then◌else◌}
use Rattle.cond_compile.specs.declared.operator.Operator.{Operator}
use Rattle.cond_compile.specs.declared.operator.Operator.TheVariants as op
use Rattle.cond_compile.specs.Evaluation.{Constant, Operand, of_leaf, value_of, values}
use Rattle.cond_compile.specs.Expressions as tree
use Rattle.cond_compile.specs.Expressions.{Expression, operator_level, prefix_level}
use Rattle.cond_compile.specs.Pieces as piece
use Rattle.cond_compile.specs.Pieces.{Piece, is_then}
use Rattle.cond_compile.specs.Reader.{Frame, Binary, Prefixed, Paren, Index, TypeTest, Named, Listed, Waiting, WithMember, NewObject, Member, TypeName, State, Want, Name, Have, Wait, room, reduce, opened, tested, operated, closed, at_operator, at_comma, at_right, want, have, behind_name, wait, step, next, run, whole, finish, with_rest, read, trees, Reading, ToEnd, BeforeThen, Other, reading_of, expression_at}
use Rattle.cond_compile.specs.Seen.{reading_values}
use Rattle.cond_compile.specs.Selection.{in_condition, in_constant}

-- a frame, a wait and a state with the values of their trees
abbrev frame_values : List Constant → Frame Expression → Frame (Option Operand)
frame_values cs (Binary o a) = Binary o (value_of cs a)
frame_values cs (Prefixed p) = Prefixed p
frame_values cs Paren = Paren
frame_values cs (Index f) = Index (value_of cs f)
frame_values cs TypeTest = TypeTest
frame_values cs (Named n) = Named n
frame_values cs (Listed xs) = Listed (value_of cs xs)

abbrev frames_values : List Constant → List (Frame Expression) → List (Frame (Option Operand))
frames_values cs [] = []
frames_values cs (f ∷ fs) = frame_values cs f ∷ frames_values cs fs

abbrev wait_values : List Constant → Waiting Expression → Waiting (Option Operand)
wait_values cs (WithMember apart) = WithMember apart
wait_values cs NewObject = NewObject
wait_values cs (Member e) = Member (value_of cs e)
wait_values cs (TypeName e) = TypeName (value_of cs e)

abbrev state_values : List Constant → State Expression → State (Option Operand)
state_values cs (Want fs) = Want (frames_values cs fs)
state_values cs (Name n fs) = Name n (frames_values cs fs)
state_values cs (Have e fs) = Have (value_of cs e) (frames_values cs fs)
state_values cs (Wait w fs) = Wait (wait_values cs w) (frames_values cs fs)

abbrev pair_values : List Constant → Expression × List (Frame Expression) → Option Operand × List (Frame (Option Operand))
pair_values cs p = (value_of cs p.0, frames_values cs p.1)

abbrev next_values : List Constant → Option (State Expression) → Option (State (Option Operand))
next_values cs None = None
next_values cs (Some s) = Some (state_values cs s)

room_same : (cs : List Constant) (fs : List (Frame Expression)) → room (frames_values cs fs) ≡ room fs
room_same cs [] = refl
room_same cs (Binary o a ∷ fs) = refl
room_same cs (Prefixed p ∷ fs) = refl
room_same cs (Paren ∷ fs) = refl
room_same cs (Index f ∷ fs) = refl
room_same cs (TypeTest ∷ fs) = refl
room_same cs (Named n ∷ fs) = refl
room_same cs (Listed xs ∷ fs) = refl

chosen : (cs : List Constant) (b : Bool) (x : Expression × List (Frame Expression)) (y : Expression × List (Frame Expression)) (z : Option Operand × List (Frame (Option Operand)))
    → z ≡ pair_values cs y → (if b then pair_values cs x else z) ≡ pair_values cs (if b then x else y)
chosen cs true x y z e = refl
chosen cs false x y z e = e

reduce_values : (cs : List Constant) (k : ℕ) (e : Expression) (fs : List (Frame Expression))
    → reduce values k (value_of cs e) (frames_values cs fs) ≡ pair_values cs (reduce trees k e fs)
reduce_values cs k e [] = refl
reduce_values cs k e (Binary o a ∷ fs) = chosen cs (nat_lt k (operator_level o)) (e, Binary o a ∷ fs) _ _ (reduce_values cs k (tree.binary o a e) fs)
reduce_values cs k e (Prefixed p ∷ fs) = chosen cs (nat_lt k (suc (prefix_level p))) (e, Prefixed p ∷ fs) _ _ (reduce_values cs k (tree.prefixed p e) fs)
reduce_values cs k e (Named n ∷ fs) = chosen cs (nat_lt k 15) (e, Named n ∷ fs) _ _ (reduce_values cs k (tree.named n e) fs)
reduce_values cs k e (Listed xs ∷ fs) = chosen cs (nat_lt k 16) (e, Listed xs ∷ fs) _ _ (reduce_values cs k (tree.list xs e) fs)
reduce_values cs k e (Paren ∷ fs) = refl
reduce_values cs k e (Index f ∷ fs) = refl
reduce_values cs k e (TypeTest ∷ fs) = refl

some_if : (cs : List Constant) (b : Bool) (s : State Expression) → (if b then Some (state_values cs s) else None) ≡ next_values cs (if b then Some s else None)
some_if cs true s = refl
some_if cs false s = refl

opened_values : (cs : List Constant) (k : ℕ) (f : Frame Expression) (fs : List (Frame Expression))
    → opened k (frame_values cs f) (frames_values cs fs) ≡ next_values cs (opened k f fs)
opened_values cs k f fs =
    ap (λ r. if nat_lt k r then Some (Want (frame_values cs f ∷ frames_values cs fs)) else None) (room_same cs fs)
    ∙ some_if cs (nat_lt k (room fs)) (Want (f ∷ fs))

tested_values : (cs : List Constant) (o : Operator) (e : Expression) (fs : List (Frame Expression))
    → tested o (value_of cs e) (frames_values cs fs) ≡ next_values cs (tested o e fs)
tested_values cs op.Is e fs = refl
tested_values cs o e fs = refl

operated_values : (cs : List Constant) (o : Operator) (e : Expression) (fs : List (Frame Expression))
    → operated o (value_of cs e) (frames_values cs fs) ≡ next_values cs (operated o e fs)
operated_values cs o e (TypeTest ∷ fs) = tested_values cs o e fs
operated_values cs o e [] = opened_values cs (operator_level o) (Binary o e) []
operated_values cs o e (Binary q a ∷ fs) = opened_values cs (operator_level o) (Binary o e) (Binary q a ∷ fs)
operated_values cs o e (Prefixed p ∷ fs) = opened_values cs (operator_level o) (Binary o e) (Prefixed p ∷ fs)
operated_values cs o e (Paren ∷ fs) = opened_values cs (operator_level o) (Binary o e) (Paren ∷ fs)
operated_values cs o e (Index f ∷ fs) = opened_values cs (operator_level o) (Binary o e) (Index f ∷ fs)
operated_values cs o e (Named n ∷ fs) = opened_values cs (operator_level o) (Binary o e) (Named n ∷ fs)
operated_values cs o e (Listed xs ∷ fs) = opened_values cs (operator_level o) (Binary o e) (Listed xs ∷ fs)

closed_values : (cs : List Constant) (e : Expression) (fs : List (Frame Expression))
    → closed values (value_of cs e) (frames_values cs fs) ≡ next_values cs (closed trees e fs)
closed_values cs e [] = refl
closed_values cs e (Binary o a ∷ fs) = refl
closed_values cs e (Prefixed p ∷ fs) = refl
closed_values cs e (Paren ∷ fs) = refl
closed_values cs e (Index f ∷ fs) = refl
closed_values cs e (TypeTest ∷ fs) = refl
closed_values cs e (Named n ∷ fs) = refl
closed_values cs e (Listed xs ∷ fs) = refl

at_operator_values : (cs : List Constant) (o : Operator) (e : Expression) (fs : List (Frame Expression))
    → at_operator values o (value_of cs e) (frames_values cs fs) ≡ next_values cs (at_operator trees o e fs)
at_operator_values cs o e fs =
    ap (λ p. operated o p.0 p.1) (reduce_values cs (operator_level o) e fs) ∙ operated_values cs o _ _

at_comma_values : (cs : List Constant) (e : Expression) (fs : List (Frame Expression))
    → at_comma values (value_of cs e) (frames_values cs fs) ≡ next_values cs (at_comma trees e fs)
at_comma_values cs e fs =
    ap (λ p. opened 16 (Listed p.0) p.1) (reduce_values cs 16 e fs)
    ∙ opened_values cs 16 (Listed (reduce trees 16 e fs).0) (reduce trees 16 e fs).1

at_right_values : (cs : List Constant) (e : Expression) (fs : List (Frame Expression))
    → at_right values (value_of cs e) (frames_values cs fs) ≡ next_values cs (at_right trees e fs)
at_right_values cs e fs = ap (λ p. closed values p.0 p.1) (reduce_values cs 16 e fs) ∙ closed_values cs _ _

if_room : (cs : List Constant) (b c : Bool) (x : Option (State (Option Operand))) (y : Option (State Expression))
    → b ≡ c → x ≡ next_values cs y → (if b then x else None) ≡ next_values cs (if c then y else None)
if_room cs b true x y e h = ap (λ d. if d then x else None) e ∙ h
if_room cs b false x y e h = ap (λ d. if d then x else None) e

want_values : (cs : List Constant) (fs : List (Frame Expression)) (p : Piece)
    → want values (of_leaf cs) (frames_values cs fs) p ≡ next_values cs (want trees tree.leaf fs p)
want_values cs fs (piece.operator op.Minus) = opened_values cs 2 _ fs
want_values cs fs (piece.operator o) = refl
want_values cs fs piece.not_ = opened_values cs 9 _ fs
want_values cs fs piece.right = if_room cs _ _ _ _ (ap (λ r. nat_lt 15 r) (room_same cs fs)) (at_right_values cs tree.missing fs)
want_values cs fs piece.comma = if_room cs _ _ _ _ (ap (λ r. nat_lt 15 r) (room_same cs fs)) (at_comma_values cs tree.missing fs)
want_values cs fs p = refl

have_values : (cs : List Constant) (e : Expression) (fs : List (Frame Expression)) (p : Piece)
    → have values (value_of cs e) (frames_values cs fs) p ≡ next_values cs (have trees e fs p)
have_values cs e fs (piece.operator o) = at_operator_values cs o e fs
have_values cs e fs piece.right = at_right_values cs e fs
have_values cs e fs piece.comma = at_comma_values cs e fs
have_values cs e fs p = refl

name_values : (cs : List Constant) (n : List ℕ) (fs : List (Frame Expression)) (p : Piece)
    → behind_name values (of_leaf cs) n (frames_values cs fs) p ≡ next_values cs (behind_name trees tree.leaf n fs p)
name_values cs n fs piece.gets = opened_values cs 15 (Named n) fs
name_values cs n fs p = have_values cs (tree.leaf (tree.name n)) fs p

waited_values : (cs : List Constant) (w : Waiting Expression) (fs : List (Frame Expression)) (p : Piece)
    → wait values (wait_values cs w) (frames_values cs fs) p ≡ next_values cs (wait trees w fs p)
waited_values cs (WithMember apart) fs (piece.name n) = refl
waited_values cs NewObject fs (piece.name n) = refl
waited_values cs (Member e) fs (piece.name n) = refl
waited_values cs (TypeName e) fs (piece.name n) = refl
waited_values cs w fs p = refl

step_values : (cs : List Constant) (s : State Expression) (p : Piece)
    → step values (of_leaf cs) (state_values cs s) p ≡ next_values cs (step trees tree.leaf s p)
step_values cs (Want fs) p = want_values cs fs p
step_values cs (Name n fs) p = name_values cs n fs p
step_values cs (Have e fs) p = have_values cs e fs p
step_values cs (Wait w fs) p = waited_values cs w fs p

abbrev run_values_of : List Constant → State Expression × List Piece → State (Option Operand) × List Piece
run_values_of cs r = (state_values cs r.0, r.1)

go : (cs : List Constant) (s : State Expression) (p : Piece) (ps : List Piece) (o : Option (State Expression))
    → ((t : State Expression) → run values (of_leaf cs) (state_values cs t) ps ≡ run_values_of cs (run trees tree.leaf t ps))
    → next (next_values cs o) (λ t. run values (of_leaf cs) t ps) (state_values cs s, p ∷ ps)
    ≡ run_values_of cs (next o (λ t. run trees tree.leaf t ps) (s, p ∷ ps))
go cs s p ps None h = refl
go cs s p ps (Some t) h = h t

run_values : (cs : List Constant) (s : State Expression) (ps : List Piece)
    → run values (of_leaf cs) (state_values cs s) ps ≡ run_values_of cs (run trees tree.leaf s ps)
run_values cs s [] = refl
run_values cs s (p ∷ ps) =
    ap (λ o. next o (λ t. run values (of_leaf cs) t ps) (state_values cs s, p ∷ ps)) (step_values cs s p)
    ∙ go cs s p ps (step trees tree.leaf s p) (λ t. run_values cs t ps)

whole_values : (cs : List Constant) (e : Expression) (fs : List (Frame Expression))
    → whole (value_of cs e) (frames_values cs fs) ≡ option_map (value_of cs) (whole e fs)
whole_values cs e [] = refl
whole_values cs e (f ∷ fs) = refl

finish_values : (cs : List Constant) (s : State Expression)
    → finish values (of_leaf cs) (state_values cs s) ≡ option_map (value_of cs) (finish trees tree.leaf s)
finish_values cs (Have e fs) = ap (λ p. whole p.0 p.1) (reduce_values cs 14 e fs) ∙ whole_values cs _ _
finish_values cs (Name n fs) = ap (λ p. whole p.0 p.1) (reduce_values cs 14 (tree.leaf (tree.name n)) fs) ∙ whole_values cs _ _
finish_values cs (Want fs) = refl
finish_values cs (Wait w fs) = refl

then_values : (cs : List Constant) (b : Bool) (e : Expression)
    → (if b then BeforeThen (value_of cs e) else Other) ≡ reading_values cs (if b then BeforeThen e else Other)
then_values cs true e = refl
then_values cs false e = refl

ends_values : (cs : List Constant) (ps : List Piece) (o : Option Expression)
    → reading_of (with_rest ps (option_map (value_of cs) o)) ≡ reading_values cs (reading_of (with_rest ps o))
ends_values cs ps None = refl
ends_values cs [] (Some e) = refl
ends_values cs (p ∷ []) (Some e) = then_values cs (is_then p) e
ends_values cs (p ∷ q ∷ ps) (Some e) = refl

-- what is read with values is what is read as a tree, with its value
pub read_values : (cs : List Constant) (ps : List Piece)
    → reading_of (read values (of_leaf cs) ps) ≡ reading_values cs (reading_of (expression_at ps))
read_values cs ps =
    ap (λ r. reading_of (with_rest r.1 (finish values (of_leaf cs) r.0))) (run_values cs (Want []) ps)
    ∙ (let r = run trees tree.leaf (Want []) ps in
    ap (λ o. reading_of (with_rest r.1 o)) (finish_values cs r.0) ∙ ends_values cs r.1 (finish trees tree.leaf r.0))

pub condition_of : (cs : List Constant) (r : Reading Expression) → in_condition (reading_values cs r) ≡ option_map (value_of cs) (in_condition r)
condition_of cs (ToEnd e) = refl
condition_of cs (BeforeThen e) = refl
condition_of cs Other = refl

pub constant_of : (cs : List Constant) (r : Reading Expression) → in_constant (reading_values cs r) ≡ option_map (value_of cs) (in_constant r)
constant_of cs (ToEnd e) = refl
constant_of cs (BeforeThen e) = refl
constant_of cs Other = refl
