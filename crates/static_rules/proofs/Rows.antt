-- Worked rows: where results are Doubles, what is marked, and which comes first.
use Rattle.std.specs.Prelude.{◌≡◌, ℕ, pos, false, true, List, [], ◌∷◌, codes, Some, None, refl}
use Rattle.vba_base.specs.declared.place.Place.{Place}
use Rattle.vba_base.specs.declared.place.Refusal.{Refusal}
use Rattle.vba_values.specs.declared.types.OpKind.{OpKind}
use Rattle.vba_values.specs.declared.types.OpKind.TheVariants as op
use Rattle.vba_values.specs.declared.types.Compare.TheVariants.{Binary}
use Rattle.vba_values.specs.declared.types.WholeKind.TheVariants as kind
use Rattle.vba_values.specs.Types.{Declared}
use Rattle.vba_values.specs.Types as type
use Rattle.vba_values.specs.Val.{whole, text}
use Rattle.bound_project.specs.Expressions.{local, Variable, Expr, expr, constant, load, unary, binary, call, variable, no_args, by_copy, no_exprs, also, item, no_prints, shown, marked}
use Rattle.bound_project.specs.Statements.{Action, assign, print, for_to, case_of, no_tests, test_is, test_range}
use Rattle.bound_project.specs.Project.{Project, Body, nowhere}
use Rattle.static_rules.specs.Broken.{action_broken, first_broken}

abbrev at : (line column : ℕ) → Place
at line column = record { «module» = 1; line = line; column = column }

-- S24 is broken there
abbrev double : (line column : ℕ) → Refusal
double line column = record { rule = 24; place = at line column }

abbrev at_in : (number column : ℕ) → Place
at_in number column = record { «module» = number; line = 2; column = column }

-- a number, a text, and a variable
abbrev n : Expr
n = expr (constant (whole kind.Integer (pos 2))) nowhere type.integer type.integer

abbrev word : Expr
word = expr (constant (text (codes "a"))) nowhere type.text type.text

abbrev of_type : Declared → Variable
of_type of = record { storage = local 1; of = of; bounded = false }

abbrev v : Declared → Expr
v of = expr (load (variable (of_type of))) nowhere of of

-- an operator at this column
abbrev two : (column : ℕ) → OpKind → Declared → Expr → Expr → Expr
two column o of a b = expr (binary o Binary a b) (at 2 column) of of

abbrev minus : (column : ℕ) → Expr → Expr
minus column a = expr (unary op.Neg a) (at 2 column) type.variant type.variant

abbrev show : Expr → Action
show a = print (shown a no_prints) true

-- Debug.Print "a" * 2
product : action_broken (show (two 17 op.Mul type.variant word n)) ≡ double 2 17 ∷ []
product = refl

-- Debug.Print "a" + "a"; and with Currency, and with a Variant
sums : action_broken (show (two 17 op.Add type.text word word)) ≡ []
sums = refl

amounts : action_broken (show (two 17 op.Sub type.currency (v type.currency) word)) ≡ []
amounts = refl

variants : action_broken (show (two 17 op.Mul type.variant (v type.variant) word)) ≡ []
variants = refl

-- Debug.Print -"a" * 2: the minus has no type, and the product is a Variant
negated : action_broken (show (two 18 op.Mul type.variant (minus 13 word) n)) ≡ double 2 13 ∷ []
negated = refl

-- Debug.Print "a" < 2
compared : action_broken (show (two 17 op.Lt type.variant word n)) ≡ double 2 17 ∷ []
compared = refl

-- a("a" - "a") = F("a" * 2): the value comes first
parts : action_broken (assign (item (of_type (type.array_of type.long)) (also (two 7 op.Sub type.variant word word) no_exprs))
    (expr (call 1 (by_copy (two 24 op.Mul type.variant word n) type.long no_args)) nowhere type.long type.long))
    ≡ double 2 24 ∷ double 2 7 ∷ []
parts = refl

-- For i = "a" To "a" Step "a", and For i = 1 To 2
loop_of_texts : action_broken (for_to (of_type type.integer) Binary word word word (at 2 16) (Some (at 2 25)) 1 3) ≡ double 2 16 ∷ double 2 25 ∷ double 2 25 ∷ []
loop_of_texts = refl

loop_of_numbers : action_broken (for_to (of_type type.integer) Binary n n n (at 2 14) None 1 3) ≡ []
loop_of_numbers = refl

-- Case "a", Is < "a", 1 To "a" of a number
tests : action_broken (case_of (test_is op.Eq (at 2 6) word (test_is op.Lt (at 2 14) word (test_range n word (at 2 21) (at 2 26) no_tests))) 0 type.integer Binary 2 3)
    ≡ double 2 6 ∷ double 2 14 ∷ double 2 26 ∷ []
tests = refl

-- what breaks a rule, with what it is written with: F(v, "a" * 2) at column 9, where the value comes first
marks : action_broken (show (expr (marked (record { rule = 26; place = at 2 9 }) (also (v type.long) (also (two 16 op.Mul type.variant word n) no_exprs))) (at 2 9) type.variant type.variant))
    ≡ double 2 16 ∷ record { rule = 26; place = at 2 9 } ∷ []
marks = refl

-- the least rule of a project by module and place, and of one place by its number
abbrev mark : (rule : ℕ) → Place → Body
mark rule place = record { statements = record { action = show (expr (marked (record { rule = rule; place = place }) no_exprs) place type.variant type.variant); place = nowhere; next = 1 } ∷ []; blocks = [] }

abbrev body : Place → Body
body place = record { statements = record { action = show (expr (binary op.Mul Binary word n) place type.variant type.variant); place = nowhere; next = 1 } ∷ []; blocks = [] }

abbrev project : List Body → Project
project bodies = record { declared = record { modules = []; types = []; classes = []; shared = []; procedures = [] }; bodies = bodies; startup = 0 }

least : first_broken (project (body (at_in 2 1) ∷ body (at_in 1 9) ∷ body (at_in 1 7) ∷ [])) ≡ Some (record { rule = 24; place = at_in 1 7 })
least = refl

of_one_place : first_broken (project (mark 26 (at_in 1 7) ∷ mark 25 (at_in 1 7) ∷ mark 34 (at_in 1 7) ∷ mark 25 (at_in 1 8) ∷ [])) ≡ Some (record { rule = 25; place = at_in 1 7 })
of_one_place = refl

nothing_broken : first_broken (project []) ≡ None
nothing_broken = refl
