-- Serves the code: lists of pieces that were put one after another, and what is made of them.
use Rattle.std.specs.Prelude.{ℕ, suc, List, [], ◌∷◌, Option, Some, None}
use Rattle.bound_project.specs.Expressions.{Expr, Exprs, no_exprs, also, Args, no_args, Given, none_given, Prints, no_prints, shown, zone}
use Rattle.bound_project.specs.Pieces.{Argument, GivenArgument, Sought, Piece, a_given, a_value_shown, a_zone, with_argument, with_given}

-- these pieces, the last one on top
abbrev pub above : List Piece → List Piece → List Piece
above [] st = st
above (p ∷ ps) st = above ps (p ∷ st)

abbrev pub args_before : List Argument → Args → Args
args_before [] acc = acc
args_before (a ∷ args) acc = with_argument a (args_before args acc)

abbrev pub args_of : List Argument → Args
args_of args = args_before args no_args

abbrev pub exprs_before : List Expr → Exprs → Exprs
exprs_before [] acc = acc
exprs_before (e ∷ es) acc = also e (exprs_before es acc)

abbrev pub exprs_of : List Expr → Exprs
exprs_of es = exprs_before es no_exprs

-- arguments of a late-bound member that is looked up so, from this number on
abbrev pub given_pieces : Sought → (first : ℕ) → List GivenArgument → List Piece
given_pieces s i [] = []
given_pieces s i (a ∷ args) = a_given a s i ∷ given_pieces s (suc i) args

abbrev pub given_before : List GivenArgument → Given → Given
given_before [] acc = acc
given_before (a ∷ args) acc = with_given a (given_before args acc)

abbrev pub given_of : List GivenArgument → Given
given_of args = given_before args none_given

-- an item of Debug.Print: a value, or a comma
abbrev pub item_piece : Option Expr → Piece
item_piece None = a_zone
item_piece (Some e) = a_value_shown e

abbrev pub print_item : Option Expr → Prints → Prints
print_item None ps = zone ps
print_item (Some e) ps = shown e ps

abbrev pub prints_before : List (Option Expr) → Prints → Prints
prints_before [] acc = acc
prints_before (o ∷ items) acc = print_item o (prints_before items acc)

abbrev pub prints_of : List (Option Expr) → Prints
prints_of items = prints_before items no_prints
