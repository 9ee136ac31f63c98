-- A node takes off the stack just what was put there for it.
use Rattle.std.proofs.Common.{◌≡◌, Bool, true, false, cond, ℕ, zero, suc, ◌+◌, List, [], ◌∷◌, ◌++◌, length, map, Option, Some, None, refl, sym, ap, ◌∙◌, arith}
use Rattle.std.specs.Prelude.{◌==◌, ◌&&◌, bytes_eq}
use Rattle.std.proofs.lemmas.Bool.{eq-eqb}
use Rattle.std.proofs.lemmas.Slice.Eq.{bytes_eq-Decides}
use Rattle.bound_project.specs.Expressions.{Expr, Exprs, no_exprs, given_count, ByName, Args, no_args, Given, none_given, Prints, no_prints}
use Rattle.bound_project.specs.Statements.{Action}
use Rattle.bound_project.specs.declared.node.LateName.{LateName}
use Rattle.bound_project.specs.declared.node.LateUse.{LateUse}
use Rattle.bound_project.specs.declared.node.LateUse.TheVariants.{Reading, Assigning, Setting}
use Rattle.bound_project.specs.Pieces.{Argument, GivenArgument, place_there, value_there, Sought, Tables, Piece, an_expr, an_argument, a_member, a_named_member, a_late, a_given, is_member, same_names, same_by_name, same_use, same_flags, same_sought, is_named_member, is_late, of_member_found, of_named_found, of_late_found, misfit, exprs_off, arguments_off, given_off, prints_off, with_given, which_there, flags, flags_in, order_in}
use Rattle.bound_project.specs.Bodies.{late_found}
use Rattle.bound_project.specs.Lists.{above, args_before, args_of, exprs_before, exprs_of, given_pieces, given_before, given_of, item_piece, print_item, prints_before, prints_of}

-- one more piece on top
pub above_push : (ps : List Piece) (p : Piece) (st : List Piece) → above (ps ++ p ∷ []) st ≡ p ∷ above ps st
above_push [] p st = refl
above_push (q ∷ ps) p st = above_push ps p (q ∷ st)

pub args_taken : (args : List Argument) (n : ℕ) (st : List Piece) (acc : Args) → arguments_off (length args + n) (above (map an_argument args) st) acc ≡ arguments_off n st (args_before args acc)
args_taken [] n st acc = let e : 0 + n ≡ n = omega arith in ap (λ m. arguments_off m st acc) e
args_taken (a ∷ args) n st acc =
    let e : length (a ∷ args) + n ≡ length args + suc n = omega arith in
    ap (λ m. arguments_off m (above (map an_argument args) (an_argument a ∷ st)) acc) e ∙ args_taken args (suc n) (an_argument a ∷ st) acc

pub args_are : (args : List Argument) (st : List Piece) → arguments_off (length args) (above (map an_argument args) st) no_args ≡ Some (args_of args, st)
args_are args st =
    let e : length args ≡ length args + 0 = omega arith in
    ap (λ m. arguments_off m (above (map an_argument args) st) no_args) e ∙ args_taken args 0 st no_args

pub exprs_taken : (es : List Expr) (n : ℕ) (st : List Piece) (acc : Exprs) → exprs_off (length es + n) (above (map an_expr es) st) acc ≡ exprs_off n st (exprs_before es acc)
exprs_taken [] n st acc = let e : 0 + n ≡ n = omega arith in ap (λ m. exprs_off m st acc) e
exprs_taken (v ∷ es) n st acc =
    let e : length (v ∷ es) + n ≡ length es + suc n = omega arith in
    ap (λ m. exprs_off m (above (map an_expr es) (an_expr v ∷ st)) acc) e ∙ exprs_taken es (suc n) (an_expr v ∷ st) acc

pub exprs_are : (es : List Expr) (st : List Piece) → exprs_off (length es) (above (map an_expr es) st) no_exprs ≡ Some (exprs_of es, st)
exprs_are es st =
    let e : length es ≡ length es + 0 = omega arith in
    ap (λ m. exprs_off m (above (map an_expr es) st) no_exprs) e ∙ exprs_taken es 0 st no_exprs

item_taken : (o : Option Expr) (n : ℕ) (st : List Piece) (acc : Prints) → prints_off (suc n) (item_piece o ∷ st) acc ≡ prints_off n st (print_item o acc)
item_taken None n st acc = refl
item_taken (Some e) n st acc = refl

pub prints_taken : (items : List (Option Expr)) (n : ℕ) (st : List Piece) (acc : Prints) → prints_off (length items + n) (above (map item_piece items) st) acc ≡ prints_off n st (prints_before items acc)
prints_taken [] n st acc = let e : 0 + n ≡ n = omega arith in ap (λ m. prints_off m st acc) e
prints_taken (o ∷ items) n st acc =
    let e : length (o ∷ items) + n ≡ length items + suc n = omega arith in
    ap (λ m. prints_off m (above (map item_piece items) (item_piece o ∷ st)) acc) e ∙ prints_taken items (suc n) (item_piece o ∷ st) acc ∙ item_taken o n st (prints_before items acc)

pub prints_are : (items : List (Option Expr)) (st : List Piece) → prints_off (length items) (above (map item_piece items) st) no_prints ≡ Some (prints_of items, st)
prints_are items st =
    let e : length items ≡ length items + 0 = omega arith in
    ap (λ m. prints_off m (above (map item_piece items) st) no_prints) e ∙ prints_taken items 0 st no_prints

-- a member is the one of its own name
pub is_itself : (name : List ℕ) (es : Exprs) → is_member name name (given_count es) es ≡ true
is_itself name es = ap (λ b. b && (given_count es == given_count es)) ((bytes_eq-Decides name name).1 refl) ∙ eq-eqb (given_count es) (given_count es) refl

pub member_put : (name : List ℕ) (make : Expr → Exprs → Piece) (object : Expr) (es : List Expr) (st : List Piece)
    → of_member_found name make (exprs_off (length es) (above (map an_expr es) (a_member object name (given_count (exprs_of es)) ∷ st)) no_exprs) ≡ make object (exprs_of es) ∷ st
member_put name make object es st =
    ap (λ o. of_member_found name make o) (exprs_are es (a_member object name (given_count (exprs_of es)) ∷ st))
    ∙ ap (λ b. cond b (make object (exprs_of es) ∷ st) misfit) (is_itself name (exprs_of es))

-- and one whose arguments are named is named as it is
pub names_are : (xs : List (List ℕ)) → same_names xs xs ≡ true
names_are [] = refl
names_are (x ∷ xs) = ap (λ b. b && same_names xs xs) ((bytes_eq-Decides x x).1 refl) ∙ names_are xs

pub by_name_is : (by : ByName) → same_by_name by by ≡ true
by_name_is by = ap (λ b. b && same_names by.names by.names) (eq-eqb by.before by.before refl) ∙ names_are by.names

pub is_named_itself : (name : List ℕ) (by : ByName) (es : Exprs) → is_named_member name name by by (given_count es) es ≡ true
is_named_itself name by es = ap (λ b. b && same_by_name by by) (is_itself name es) ∙ by_name_is by

pub named_put : (name : List ℕ) (by : ByName) (make : Expr → Exprs → Piece) (object : Expr) (es : List Expr) (st : List Piece)
    → of_named_found name by make (exprs_off (length es) (above (map an_expr es) (a_named_member object name by (given_count (exprs_of es)) ∷ st)) no_exprs) ≡ make object (exprs_of es) ∷ st
named_put name by make object es st =
    ap (λ o. of_named_found name by make o) (exprs_are es (a_named_member object name by (given_count (exprs_of es)) ∷ st))
    ∙ ap (λ b. cond b (make object (exprs_of es) ∷ st) misfit) (is_named_itself name by (exprs_of es))

-- ---- late-bound members

-- as many as there are arguments
pub flags_count : (n : ℕ) (ks : List ℕ) → length (flags n ks) ≡ n
flags_count zero ks = refl
flags_count (suc n) [] = ap suc (flags_count n [])
flags_count (suc n) (k ∷ ks) = ap suc (flags_count n ks)

pub flags_are : (xs : List Bool) → same_flags xs xs ≡ true
flags_are [] = refl
flags_are (true ∷ xs) = flags_are xs
flags_are (false ∷ xs) = flags_are xs

use_is : (aim : LateUse) → same_use aim aim ≡ true
use_is Reading = refl
use_is Assigning = refl
use_is Setting = refl

-- what is looked up is looked up by itself
pub sought_is : (s : Sought) → same_sought s s ≡ true
sought_is s =
    let by = same_by_name s.by s.by && same_flags s.given s.given in
    ap (λ b. b && (bytes_eq s.name s.name && by)) (use_is s.aim) ∙ ap (λ b. b && by) ((bytes_eq-Decides s.name s.name).1 refl)
    ∙ ap (λ b. b && same_flags s.given s.given) (by_name_is s.by) ∙ flags_are s.given

pub is_late_itself : (s : Sought) (given : Given) → s.given ≡ which_there given → is_late s s given ≡ true
is_late_itself s given same = ap (λ b. b && same_flags s.given (which_there given)) (sought_is s) ∙ ap (λ l. same_flags l (which_there given)) same ∙ flags_are (which_there given)

given_itself : (s : Sought) (i : ℕ) → (same_sought s s && (i == i)) ≡ true
given_itself s i = ap (λ b. b && (i == i)) (sought_is s) ∙ eq-eqb i i refl

pub given_taken : (s : Sought) (args : List GivenArgument) (i : ℕ) (st : List Piece) (acc : Given) → given_off s (length args + i) (above (given_pieces s i args) st) acc ≡ given_off s i st (given_before args acc)
given_taken s [] i st acc = let e : 0 + i ≡ i = omega arith in ap (λ m. given_off s m st acc) e
given_taken s (a ∷ args) i st acc =
    let e : length (a ∷ args) + i ≡ length args + suc i = omega arith in
    ap (λ m. given_off s m (above (given_pieces s (suc i) args) (a_given a s i ∷ st)) acc) e ∙ given_taken s args (suc i) (a_given a s i ∷ st) acc
    ∙ ap (λ b. cond b (given_off s i st (with_given a (given_before args acc))) None) (given_itself s i)

pub given_are : (s : Sought) (args : List GivenArgument) (st : List Piece) → given_off s (length args) (above (given_pieces s 0 args) st) none_given ≡ Some (given_of args, st)
given_are s args st =
    let e : length args ≡ length args + 0 = omega arith in
    ap (λ m. given_off s m (above (given_pieces s 0 args) st) none_given) e ∙ given_taken s args 0 st none_given

which_count : (args : List GivenArgument) → length (which_there (given_of args)) ≡ length args
which_count [] = refl
which_count (place_there x ∷ args) = ap suc (which_count args)
which_count (value_there e ∷ args) = ap suc (which_count args)

-- an order that tells which of the arguments are given tells how many they are
pub given_counted : (t : Tables) (m : LateName) (args : List GivenArgument) → flags_in t m ≡ which_there (given_of args) → m.arguments ≡ length args
given_counted t m args same = sym (flags_count m.arguments (order_in t m.given)) ∙ ap length same ∙ which_count args

pub late_is : (s : Sought) (make : Expr → Given → Piece) (n : ℕ) (object : Expr) (args : List GivenArgument) (st : List Piece) → n ≡ length args → s.given ≡ which_there (given_of args)
    → of_late_found s make (given_off s n (above (given_pieces s 0 args) (a_late object s ∷ st)) none_given) ≡ make object (given_of args) ∷ st
late_is s make n object args st count same =
    let all = above (given_pieces s 0 args) (a_late object s ∷ st) in
    ap (λ m. of_late_found s make (given_off s m all none_given)) count ∙ ap (λ o. of_late_found s make o) (given_are s args (a_late object s ∷ st))
    ∙ ap (λ b. cond b (make object (given_of args) ∷ st) misfit) (is_late_itself s (given_of args) same)

-- and of an assignment
pub late_action : (s : Sought) (make : Expr → Given → Expr → Action) (n : ℕ) (object value : Expr) (args : List GivenArgument) → n ≡ length args → s.given ≡ which_there (given_of args)
    → late_found s make (given_off s n (above (given_pieces s 0 args) (a_late object s ∷ an_expr value ∷ [])) none_given) ≡ Some (make object (given_of args) value)
late_action s make n object value args count same =
    let st = a_late object s ∷ an_expr value ∷ [] in
    ap (λ m. late_found s make (given_off s m (above (given_pieces s 0 args) st) none_given)) count ∙ ap (λ o. late_found s make o) (given_are s args st)
    ∙ ap (λ b. cond b (Some (make object (given_of args) value)) None) (is_late_itself s (given_of args) same)
