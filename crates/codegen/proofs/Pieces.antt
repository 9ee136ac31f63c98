-- The code of pieces, and that nothing is lost where no piece is.
use Rattle.std.proofs.Common.{◌≡◌, Bool, true, false, cond, ℕ, zero, suc, ◌+◌, List, [], ◌∷◌, ◌++◌, Option, Some, None, refl, sym, ap, ◌∙◌, arith, append_assoc}
use Rattle.std.specs.Prelude.{◌==◌, bytes_eq}
use Rattle.std.proofs.lemmas.Bool.{and_parts, eqb-true}
use Rattle.std.proofs.lemmas.Slice.Eq.{bytes_eq-Decides}
use Rattle.vba_values.specs.Val.{empty}
use Rattle.bound_project.specs.View.{declared_view}
use Rattle.bound_project.specs.Expressions.{Expr, Exprs, no_exprs, also, given_count, ByName, Lvalue, Args, no_args, operand_type}
use Rattle.bound_project.specs.Pieces.{Argument, place_lent, value_copied, default_taken, values_listed, GivenArgument, place_there, value_there, Sought, Piece, nothing, an_expr, a_place, an_argument, a_member, an_object, a_named_member, a_late, a_given, a_value_shown, a_zone, a_test_begun, a_test_is, a_test_range, a_resize, an_erased, of_value, of_place, of_both, of_test, of_range, of_found, of_place_found, of_value_found, is_member, misfit, of_member, of_member_found, of_object, of_object_found, same_names, same_by_name, is_named_member, of_named, of_named_found, exprs_off, arguments_off, with_argument}
use Rattle.pcode.specs.Instructions.{Instr, Push, Selected, Plain, Fit, Lend, Pack, MemberThere, ObjectThere, NamedThere, FindLate, BindValue, BindPlace, ShowText, IfFits, IfBetween, Redim, EraseAt}
use Rattle.pcode.specs.Code.{count, list_count, expr_code, place_code, args_code, list_code}
use Rattle.pcode.specs.View.{use_view}
use Rattle.codegen.specs.declared.node.Around.{Around}

abbrev pub argument_code : Argument → List Instr
argument_code (place_lent x) = place_code x ++ Lend ∷ []
argument_code (value_copied e of) = expr_code e ++ Fit of ∷ []
argument_code (default_taken v) = Push v ∷ []
argument_code (values_listed es) = list_code es ++ Pack (list_count es) ∷ []

-- a late-bound member is looked up, and an argument of this number is bound
abbrev pub find_code : Sought → List Instr
find_code s = FindLate (use_view s.aim) s.name s.by s.given ∷ []

abbrev pub bound_code : GivenArgument → Sought → ℕ → List Instr
bound_code (place_there x) s i = place_code x ++ BindPlace (use_view s.aim) s.name s.by s.given i ∷ []
bound_code (value_there e) s i = expr_code e ++ BindValue (use_view s.aim) s.name s.by s.given i ∷ []

abbrev pub piece_code : Around → Piece → List Instr
piece_code around nothing = []
piece_code around (an_expr e) = expr_code e
piece_code around (a_place x) = place_code x
piece_code around (an_argument a) = argument_code a
piece_code around (a_member e name given) = expr_code e ++ MemberThere name given ∷ []
piece_code around (a_named_member e name by given) = expr_code e ++ NamedThere name by given ∷ []
piece_code around (a_late e s) = expr_code e ++ find_code s
piece_code around (a_given a s i) = bound_code a s i
piece_code around (an_object e) = expr_code e ++ ObjectThere ∷ []
piece_code around (a_value_shown e) = expr_code e ++ ShowText ∷ []
piece_code around a_zone = Push empty ∷ []
piece_code around a_test_begun = Selected around.header ∷ Plain ∷ []
piece_code around (a_test_is o at e) = Selected around.header ∷ Plain ∷ (expr_code e ++ IfFits o around.compare (declared_view around.of) (operand_type e) around.to ∷ [])
piece_code around (a_test_range a b a_at b_at) =
    Selected around.header ∷ Plain ∷ (expr_code a ++ (expr_code b ++ IfBetween around.compare (declared_view around.of) (operand_type a) (operand_type b) around.to ∷ []))
piece_code around (a_resize x es of) = place_code x ++ (list_code es ++ Redim around.preserve of (list_count es) ∷ [])
piece_code around (an_erased x) = place_code x ++ EraseAt ∷ []

-- of a stack, the lowest first
abbrev pub codes : Around → List Piece → List Instr
codes around [] = []
codes around (p ∷ st) = codes around st ++ piece_code around p

-- no piece of it is a misfit
abbrev pub IsThere : Piece → Type 0
IsThere nothing = ⊥
IsThere p = Unit {0}

abbrev pub AllThere : List Piece → Type 0
AllThere [] = Unit {0}
AllThere (p ∷ st) = IsThere p × AllThere st

-- the pieces of a new stack that fit are those of an old one, with the code behind
abbrev pub Emits : Around → (new old : List Piece) → List Instr → Type 0
Emits around new old is = AllThere new → (codes around new ≡ codes around old ++ is) × AllThere old

-- ---- lists

pub behind : (c : List Instr) (a b d e : List Instr) → d ≡ a ++ e → b ≡ c ++ a → c ++ d ≡ b ++ e
behind c a b d e h k = ap (λ x. c ++ x) h ∙ sym (append_assoc c a e) ∙ ap (λ x. x ++ e) (sym k)

-- one piece before
pub one : (c a is d : List Instr) → d ≡ a ++ is → c ++ d ≡ (c ++ a) ++ is
one c a is d h = ap (λ x. c ++ x) h ∙ sym (append_assoc c a is)

-- two pieces before
pub two : (c a b is d : List Instr) → d ≡ a ++ (b ++ is) → c ++ d ≡ ((c ++ a) ++ b) ++ is
two c a b is d h = one c a (b ++ is) d h ∙ sym (append_assoc (c ++ a) b is)

-- three pieces before
pub three : (c a b e is d : List Instr) → d ≡ a ++ (b ++ (e ++ is)) → c ++ d ≡ (((c ++ a) ++ b) ++ e) ++ is
three c a b e is d h = two c a b (e ++ is) d h ∙ sym (append_assoc ((c ++ a) ++ b) e is)

-- ---- what is made of pieces

pub value_emits : (around : Around) (make : Expr → Piece) (is : List Instr) → ((e : Expr) → piece_code around (make e) ≡ expr_code e ++ is) → (st : List Piece) → Emits around (of_value make st) st is
value_emits around make is h (an_expr e ∷ st) there = (one (codes around st) (expr_code e) is _ (h e), (tt, there.1))
value_emits around make is h st there = absurd there.0

pub place_emits : (around : Around) (make : Lvalue → Piece) (is : List Instr) → ((x : Lvalue) → piece_code around (make x) ≡ place_code x ++ is) → (st : List Piece) → Emits around (of_place make st) st is
place_emits around make is h (a_place x ∷ st) there = (one (codes around st) (place_code x) is _ (h x), (tt, there.1))
place_emits around make is h st there = absurd there.0

pub both_emits : (around : Around) (make : Expr → Expr → Piece) (is : List Instr) → ((a b : Expr) → piece_code around (make a b) ≡ expr_code a ++ (expr_code b ++ is))
    → (st : List Piece) → Emits around (of_both make st) st is
both_emits around make is h (an_expr b ∷ an_expr a ∷ st) there = (two (codes around st) (expr_code a) (expr_code b) is _ (h a b), (tt, (tt, there.1)))
both_emits around make is h st there = absurd there.0

pub test_emits : (around : Around) (make : Expr → Piece) (is : List Instr) → ((e : Expr) → piece_code around (make e) ≡ Selected around.header ∷ Plain ∷ (expr_code e ++ is))
    → (st : List Piece) → Emits around (of_test make st) st is
test_emits around make is h (an_expr e ∷ a_test_begun ∷ st) there =
    (two (codes around st) (Selected around.header ∷ Plain ∷ []) (expr_code e) is _ (h e), (tt, (tt, there.1)))
test_emits around make is h st there = absurd there.0

pub range_emits : (around : Around) (make : Expr → Expr → Piece) (is : List Instr)
    → ((a b : Expr) → piece_code around (make a b) ≡ Selected around.header ∷ Plain ∷ (expr_code a ++ (expr_code b ++ is))) → (st : List Piece) → Emits around (of_range make st) st is
range_emits around make is h (an_expr b ∷ an_expr a ∷ a_test_begun ∷ st) there =
    (three (codes around st) (Selected around.header ∷ Plain ∷ []) (expr_code a) (expr_code b) is _ (h a b), (tt, (tt, (tt, there.1))))
range_emits around make is h st there = absurd there.0

-- ---- values and arguments off the stack

-- what was found, with what was there: the code is that of the stack, and there are so many
abbrev pub ExprsOff : Around → ℕ → List Piece → Exprs → Option (Exprs × List Piece) → Type 0
ExprsOff around n st acc None = Unit {0}
ExprsOff around n st acc (Some (es, rest)) =
    (codes around rest ++ list_code es ≡ codes around st ++ list_code acc) × (list_count es ≡ n + list_count acc) × (AllThere rest → AllThere st)

exprs_more : (around : Around) (n : ℕ) (e : Expr) (st : List Piece) (acc : Exprs) (o : Option (Exprs × List Piece)) → ExprsOff around n st (also e acc) o → ExprsOff around (suc n) (an_expr e ∷ st) acc o
exprs_more around n e st acc None h = tt
exprs_more around n e st acc (Some (es, rest)) h =
    (h.0 ∙ sym (append_assoc (codes around st) (expr_code e) (list_code acc)), omega (arith, h.1), λ there. (tt, h.2 there))

pub exprs_are : (around : Around) (n : ℕ) (st : List Piece) (acc : Exprs) → ExprsOff around n st acc (exprs_off n st acc)
exprs_are around zero st acc = (refl, omega arith, λ there. there)
exprs_are around (suc n) (an_expr e ∷ st) acc = exprs_more around n e st acc (exprs_off n st (also e acc)) (exprs_are around n st (also e acc))
exprs_are around (suc n) st acc = tt

abbrev pub ArgsOff : Around → ℕ → List Piece → Args → Option (Args × List Piece) → Type 0
ArgsOff around n st acc None = Unit {0}
ArgsOff around n st acc (Some (args, rest)) =
    (codes around rest ++ args_code args ≡ codes around st ++ args_code acc) × (count args ≡ n + count acc) × (AllThere rest → AllThere st)

with_code : (a : Argument) (acc : Args) → args_code (with_argument a acc) ≡ argument_code a ++ args_code acc
with_code (place_lent x) acc = sym (append_assoc (place_code x) (Lend ∷ []) (args_code acc))
with_code (value_copied e of) acc = sym (append_assoc (expr_code e) (Fit of ∷ []) (args_code acc))
with_code (default_taken v) acc = refl
with_code (values_listed es) acc = sym (append_assoc (list_code es) (Pack (list_count es) ∷ []) (args_code acc))

with_count : (a : Argument) (acc : Args) → count (with_argument a acc) ≡ suc (count acc)
with_count (place_lent x) acc = refl
with_count (value_copied e of) acc = refl
with_count (default_taken v) acc = refl
with_count (values_listed es) acc = refl

args_more : (around : Around) (n : ℕ) (a : Argument) (st : List Piece) (acc : Args) (o : Option (Args × List Piece)) → ArgsOff around n st (with_argument a acc) o → ArgsOff around (suc n) (an_argument a ∷ st) acc o
args_more around n a st acc None h = tt
args_more around n a st acc (Some (args, rest)) h =
    (h.0 ∙ one (codes around st) (argument_code a) (args_code acc) _ (with_code a acc), omega (arith, h.1, with_count a acc), λ there. (tt, h.2 there))

pub args_are : (around : Around) (n : ℕ) (st : List Piece) (acc : Args) → ArgsOff around n st acc (arguments_off n st acc)
args_are around zero st acc = (refl, omega arith, λ there. there)
args_are around (suc n) (an_argument a ∷ st) acc = args_more around n a st acc (arguments_off n st (with_argument a acc)) (args_are around n st (with_argument a acc))
args_are around (suc n) st acc = tt

-- ---- what is made of them

-- to what ends in no code there is nothing to add
pub append_none : (c : List Instr) → c ++ [] ≡ c
append_none [] = refl
append_none (i ∷ c) = ap (λ x. i ∷ x) (append_none c)

found_off : (around : Around) (n : ℕ) (st : List Piece) (make : Exprs → Piece) (is : ℕ → List Instr) → ((es : Exprs) → piece_code around (make es) ≡ list_code es ++ is (list_count es))
    → (o : Option (Exprs × List Piece)) → ExprsOff around n st no_exprs o → Emits around (of_found make o) st (is n)
found_off around n st make is h None off there = absurd there.0
found_off around n st make is h (Some (es, rest)) off there =
    let k : list_count es ≡ n = omega (arith, off.1) in
    (one (codes around rest) (list_code es) (is (list_count es)) _ (h es) ∙ ap (λ c. c ++ is (list_count es)) (off.0 ∙ append_none (codes around st)) ∙ ap (λ m. codes around st ++ is m) k, off.2 there.1)

pub found_emits : (around : Around) (n : ℕ) (st : List Piece) (make : Exprs → Piece) (is : ℕ → List Instr) → ((es : Exprs) → piece_code around (make es) ≡ list_code es ++ is (list_count es))
    → Emits around (of_found make (exprs_off n st no_exprs)) st (is n)
found_emits around n st make is h = found_off around n st make is h (exprs_off n st no_exprs) (exprs_are around n st no_exprs)

args_off : (around : Around) (n : ℕ) (st : List Piece) (make : Args → Piece) (is : ℕ → List Instr) → ((args : Args) → piece_code around (make args) ≡ args_code args ++ is (count args))
    → (o : Option (Args × List Piece)) → ArgsOff around n st no_args o → Emits around (of_found make o) st (is n)
args_off around n st make is h None off there = absurd there.0
args_off around n st make is h (Some (args, rest)) off there =
    let k : count args ≡ n = omega (arith, off.1) in
    (one (codes around rest) (args_code args) (is (count args)) _ (h args) ∙ ap (λ c. c ++ is (count args)) (off.0 ∙ append_none (codes around st)) ∙ ap (λ m. codes around st ++ is m) k, off.2 there.1)

pub args_emit : (around : Around) (n : ℕ) (st : List Piece) (make : Args → Piece) (is : ℕ → List Instr) → ((args : Args) → piece_code around (make args) ≡ args_code args ++ is (count args))
    → Emits around (of_found make (arguments_off n st no_args)) st (is n)
args_emit around n st make is h = args_off around n st make is h (arguments_off n st no_args) (args_are around n st no_args)

place_off : (around : Around) (n : ℕ) (st : List Piece) (make : Lvalue → Exprs → Piece) (is : ℕ → List Instr)
    → ((x : Lvalue) (es : Exprs) → piece_code around (make x es) ≡ place_code x ++ (list_code es ++ is (list_count es))) → (o : Option (Exprs × List Piece)) → ExprsOff around n st no_exprs o
    → Emits around (of_place_found make o) st (is n)
place_off around n st make is h None off there = absurd there.0
place_off around n st make is h (Some (es, rest)) off there =
    let k : list_count es ≡ n = omega (arith, off.1) in
    let r = place_emits around (λ x. make x es) (list_code es ++ is (list_count es)) (λ x. h x es) rest there in
    (r.0 ∙ sym (append_assoc (codes around rest) (list_code es) (is (list_count es))) ∙ ap (λ c. c ++ is (list_count es)) (off.0 ∙ append_none (codes around st)) ∙ ap (λ m. codes around st ++ is m) k, off.2 r.1)

pub place_found_emits : (around : Around) (n : ℕ) (st : List Piece) (make : Lvalue → Exprs → Piece) (is : ℕ → List Instr)
    → ((x : Lvalue) (es : Exprs) → piece_code around (make x es) ≡ place_code x ++ (list_code es ++ is (list_count es))) → Emits around (of_place_found make (exprs_off n st no_exprs)) st (is n)
place_found_emits around n st make is h = place_off around n st make is h (exprs_off n st no_exprs) (exprs_are around n st no_exprs)

value_off : (around : Around) (n : ℕ) (st : List Piece) (make : Expr → Exprs → Piece) (is : ℕ → List Instr)
    → ((x : Expr) (es : Exprs) → piece_code around (make x es) ≡ expr_code x ++ (list_code es ++ is (list_count es))) → (o : Option (Exprs × List Piece)) → ExprsOff around n st no_exprs o
    → Emits around (of_value_found make o) st (is n)
value_off around n st make is h None off there = absurd there.0
value_off around n st make is h (Some (es, rest)) off there =
    let k : list_count es ≡ n = omega (arith, off.1) in
    let r = value_emits around (λ x. make x es) (list_code es ++ is (list_count es)) (λ x. h x es) rest there in
    (r.0 ∙ sym (append_assoc (codes around rest) (list_code es) (is (list_count es))) ∙ ap (λ c. c ++ is (list_count es)) (off.0 ∙ append_none (codes around st)) ∙ ap (λ m. codes around st ++ is m) k, off.2 r.1)

pub value_found_emits : (around : Around) (n : ℕ) (st : List Piece) (make : Expr → Exprs → Piece) (is : ℕ → List Instr)
    → ((x : Expr) (es : Exprs) → piece_code around (make x es) ≡ expr_code x ++ (list_code es ++ is (list_count es))) → Emits around (of_value_found make (exprs_off n st no_exprs)) st (is n)
value_found_emits around n st make is h = value_off around n st make is h (exprs_off n st no_exprs) (exprs_are around n st no_exprs)

-- ---- members of objects of the host

-- a member that was looked for is the one that is meant
pub member_is : (name other : List ℕ) (given : ℕ) (es : Exprs) → is_member name other given es ≡ true → (name ≡ other) × (given ≡ given_count es)
member_is name other given es h =
    let both = and_parts (bytes_eq name other) (given == given_count es) h in
    ((bytes_eq-Decides name other).0 both.0, eqb-true given (given_count es) both.1)

-- the code of an object whose member was looked for is the one of what is meant
pub member_code : (name other : List ℕ) (given : ℕ) (es : Exprs) (e : Expr) → is_member name other given es ≡ true
    → expr_code e ++ MemberThere name (given_count es) ∷ [] ≡ expr_code e ++ MemberThere other given ∷ []
member_code name other given es e h =
    let same = member_is name other given es h in
    ap (λ l. expr_code e ++ MemberThere l (given_count es) ∷ []) same.0 ∙ ap (λ k. expr_code e ++ MemberThere other k ∷ []) (sym same.1)

member_if : (around : Around) (name other : List ℕ) (given : ℕ) (make : Expr → Exprs → Piece) (es : Exprs) (e : Expr) (is : List Instr)
    → piece_code around (make e es) ≡ expr_code e ++ MemberThere name (given_count es) ∷ is
    → (st : List Piece) (b : Bool) → is_member name other given es ≡ b → Emits around (cond b (make e es ∷ st) misfit) (a_member e other given ∷ st) is
member_if around name other given make es e is h st true k there =
    let looked = MemberThere name (given_count es) ∷ [] in
    let parted : expr_code e ++ (looked ++ is) ≡ (expr_code e ++ looked) ++ is = sym (append_assoc (expr_code e) looked is) in (
      one (codes around st) (expr_code e ++ looked) is _ (h ∙ parted) ∙ ap (λ c. (codes around st ++ c) ++ is) (member_code name other given es e k),
      (tt, there.1),
    )
member_if around name other given make es e is h st false k there = absurd there.0

member_emits : (around : Around) (name : List ℕ) (make : Expr → Exprs → Piece) (es : Exprs) (is : List Instr)
    → ((e : Expr) → piece_code around (make e es) ≡ expr_code e ++ MemberThere name (given_count es) ∷ is) → (st : List Piece) → Emits around (of_member name make es st) st is
member_emits around name make es is h (a_member e other given ∷ st) there = member_if around name other given make es e is (h e) st (is_member name other given es) refl there
member_emits around name make es is h st there = absurd there.0

member_off : (around : Around) (n : ℕ) (st : List Piece) (name : List ℕ) (make : Expr → Exprs → Piece) (is : ℕ → List Instr)
    → ((e : Expr) (es : Exprs) → piece_code around (make e es) ≡ expr_code e ++ MemberThere name (given_count es) ∷ (list_code es ++ is (list_count es)))
    → (o : Option (Exprs × List Piece)) → ExprsOff around n st no_exprs o → Emits around (of_member_found name make o) st (is n)
member_off around n st name make is h None off there = absurd there.0
member_off around n st name make is h (Some (es, rest)) off there =
    let k : list_count es ≡ n = omega (arith, off.1) in
    let r = member_emits around name make es (list_code es ++ is (list_count es)) (λ e. h e es) rest there in
    (r.0 ∙ sym (append_assoc (codes around rest) (list_code es) (is (list_count es))) ∙ ap (λ c. c ++ is (list_count es)) (off.0 ∙ append_none (codes around st)) ∙ ap (λ m. codes around st ++ is m) k, off.2 r.1)

pub member_found_emits : (around : Around) (n : ℕ) (st : List Piece) (name : List ℕ) (make : Expr → Exprs → Piece) (is : ℕ → List Instr)
    → ((e : Expr) (es : Exprs) → piece_code around (make e es) ≡ expr_code e ++ MemberThere name (given_count es) ∷ (list_code es ++ is (list_count es)))
    → Emits around (of_member_found name make (exprs_off n st no_exprs)) st (is n)
member_found_emits around n st name make is h = member_off around n st name make is h (exprs_off n st no_exprs) (exprs_are around n st no_exprs)

-- ---- the same where the last arguments have names

names_same : (xs ys : List (List ℕ)) → same_names xs ys ≡ true → xs ≡ ys
names_same [] [] h = refl
names_same [] (y ∷ ys) h = let e : false ≡ true = h in absurd cc
names_same (x ∷ xs) [] h = let e : false ≡ true = h in absurd cc
names_same (x ∷ xs) (y ∷ ys) h =
    let both = and_parts (bytes_eq x y) (same_names xs ys) h in
    ap (λ l. l ∷ xs) ((bytes_eq-Decides x y).0 both.0) ∙ ap (λ r. y ∷ r) (names_same xs ys both.1)

pub by_name_same : (by how : ByName) → same_by_name by how ≡ true → by ≡ how
by_name_same by how h =
    let both = and_parts (by.before == how.before) (same_names by.names how.names) h in
    let made : ℕ → List (List ℕ) → ByName = λ k names. record { before = k; names = names } in
    ap (λ k. made k by.names) (eqb-true by.before how.before both.0) ∙ ap (made how.before) (names_same by.names how.names both.1)

named_code : (name other : List ℕ) (by how : ByName) (given : ℕ) (es : Exprs) (e : Expr) → is_named_member name other by how given es ≡ true
    → expr_code e ++ NamedThere name by (given_count es) ∷ [] ≡ expr_code e ++ NamedThere other how given ∷ []
named_code name other by how given es e h =
    let both = and_parts (is_member name other given es) (same_by_name by how) h in
    let same = member_is name other given es both.0 in
    ap (λ l. expr_code e ++ NamedThere l by (given_count es) ∷ []) same.0 ∙ ap (λ b. expr_code e ++ NamedThere other b (given_count es) ∷ []) (by_name_same by how both.1)
    ∙ ap (λ k. expr_code e ++ NamedThere other how k ∷ []) (sym same.1)

named_if : (around : Around) (name other : List ℕ) (by how : ByName) (given : ℕ) (make : Expr → Exprs → Piece) (es : Exprs) (e : Expr) (is : List Instr)
    → piece_code around (make e es) ≡ expr_code e ++ NamedThere name by (given_count es) ∷ is
    → (st : List Piece) (b : Bool) → is_named_member name other by how given es ≡ b → Emits around (cond b (make e es ∷ st) misfit) (a_named_member e other how given ∷ st) is
named_if around name other by how given make es e is h st true k there =
    let looked = NamedThere name by (given_count es) ∷ [] in
    let parted : expr_code e ++ (looked ++ is) ≡ (expr_code e ++ looked) ++ is = sym (append_assoc (expr_code e) looked is) in (
      one (codes around st) (expr_code e ++ looked) is _ (h ∙ parted) ∙ ap (λ c. (codes around st ++ c) ++ is) (named_code name other by how given es e k),
      (tt, there.1),
    )
named_if around name other by how given make es e is h st false k there = absurd there.0

named_emits : (around : Around) (name : List ℕ) (by : ByName) (make : Expr → Exprs → Piece) (es : Exprs) (is : List Instr)
    → ((e : Expr) → piece_code around (make e es) ≡ expr_code e ++ NamedThere name by (given_count es) ∷ is) → (st : List Piece) → Emits around (of_named name by make es st) st is
named_emits around name by make es is h (a_named_member e other how given ∷ st) there =
    named_if around name other by how given make es e is (h e) st (is_named_member name other by how given es) refl there
named_emits around name by make es is h st there = absurd there.0

named_off : (around : Around) (n : ℕ) (st : List Piece) (name : List ℕ) (by : ByName) (make : Expr → Exprs → Piece) (is : ℕ → List Instr)
    → ((e : Expr) (es : Exprs) → piece_code around (make e es) ≡ expr_code e ++ NamedThere name by (given_count es) ∷ (list_code es ++ is (list_count es)))
    → (o : Option (Exprs × List Piece)) → ExprsOff around n st no_exprs o → Emits around (of_named_found name by make o) st (is n)
named_off around n st name by make is h None off there = absurd there.0
named_off around n st name by make is h (Some (es, rest)) off there =
    let k : list_count es ≡ n = omega (arith, off.1) in
    let r = named_emits around name by make es (list_code es ++ is (list_count es)) (λ e. h e es) rest there in
    (r.0 ∙ sym (append_assoc (codes around rest) (list_code es) (is (list_count es))) ∙ ap (λ c. c ++ is (list_count es)) (off.0 ∙ append_none (codes around st)) ∙ ap (λ m. codes around st ++ is m) k, off.2 r.1)

pub named_found_emits : (around : Around) (n : ℕ) (st : List Piece) (name : List ℕ) (by : ByName) (make : Expr → Exprs → Piece) (is : ℕ → List Instr)
    → ((e : Expr) (es : Exprs) → piece_code around (make e es) ≡ expr_code e ++ NamedThere name by (given_count es) ∷ (list_code es ++ is (list_count es)))
    → Emits around (of_named_found name by make (exprs_off n st no_exprs)) st (is n)
named_found_emits around n st name by make is h = named_off around n st name by make is h (exprs_off n st no_exprs) (exprs_are around n st no_exprs)

-- ---- procedures of objects

object_emits : (around : Around) (make : Expr → Args → Piece) (args : Args) (is : List Instr) → ((e : Expr) → piece_code around (make e args) ≡ expr_code e ++ ObjectThere ∷ is)
    → (st : List Piece) → Emits around (of_object make args st) st is
object_emits around make args is h (an_object e ∷ st) there =
    let looked = ObjectThere ∷ [] in
    let parted : expr_code e ++ (looked ++ is) ≡ (expr_code e ++ looked) ++ is = sym (append_assoc (expr_code e) looked is) in
    (one (codes around st) (expr_code e ++ looked) is _ (h e ∙ parted), (tt, there.1))
object_emits around make args is h st there = absurd there.0

object_off : (around : Around) (n : ℕ) (st : List Piece) (make : Expr → Args → Piece) (is : ℕ → List Instr)
    → ((e : Expr) (args : Args) → piece_code around (make e args) ≡ expr_code e ++ ObjectThere ∷ (args_code args ++ is (count args)))
    → (o : Option (Args × List Piece)) → ArgsOff around n st no_args o → Emits around (of_object_found make o) st (is n)
object_off around n st make is h None off there = absurd there.0
object_off around n st make is h (Some (args, rest)) off there =
    let k : count args ≡ n = omega (arith, off.1) in
    let r = object_emits around make args (args_code args ++ is (count args)) (λ e. h e args) rest there in
    (r.0 ∙ sym (append_assoc (codes around rest) (args_code args) (is (count args))) ∙ ap (λ c. c ++ is (count args)) (off.0 ∙ append_none (codes around st)) ∙ ap (λ m. codes around st ++ is m) k, off.2 r.1)

pub object_found_emits : (around : Around) (n : ℕ) (st : List Piece) (make : Expr → Args → Piece) (is : ℕ → List Instr)
    → ((e : Expr) (args : Args) → piece_code around (make e args) ≡ expr_code e ++ ObjectThere ∷ (args_code args ++ is (count args)))
    → Emits around (of_object_found make (arguments_off n st no_args)) st (is n)
object_found_emits around n st make is h = object_off around n st make is h (arguments_off n st no_args) (args_are around n st no_args)
