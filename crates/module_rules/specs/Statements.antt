-- Serves the code: what is looked for in statements, in single-line Ifs too.
use Rattle.std.specs.Prelude.{ℕ, Bool, true, false, List, [], ◌∷◌, ◌++◌}
use Rattle.vba_base.specs.declared.place.Place.{Place}
use Rattle.vba_expression.specs.Fitting.{is_none}
use Rattle.vba_expression.specs.Tree.{Expr, name}
use Rattle.vba_tree.specs.Tree.{Stmt, Stmts}
use Rattle.vba_tree.specs.View.{Next, written, missing}
use Rattle.vba_module.specs.Blocks.{Kind, Role, stands, exit_faults, exits_of, exits_of_all}
use Rattle.vba_module.specs.Misplaced.{statement_place, in_body, in_list}
use Rattle.vba_module.specs.Headers.{statement_faults, list_faults}
use Rattle.module_rules.specs.Seen.{stack}
use Rattle.module_rules.specs.declared.statements.Check.{Check}
use Rattle.module_rules.specs.declared.statements.Check.TheVariants as check

-- the rule that is broken
abbrev pub rule_of : Check → ℕ
rule_of (check.Exits opened) = 11
rule_of check.Body = 12
rule_of check.Bounds = 14

-- the places in a statement
abbrev pub faults : Check → Stmt → List Place
faults (check.Exits opened) s = exit_faults (stack opened.now) (exits_of s)
faults check.Body s = in_body (statement_place s) true s
faults check.Bounds s = statement_faults s

-- the places in statements
abbrev pub all_faults : Check → Stmts → List Place
all_faults (check.Exits opened) ss = exit_faults (stack opened.now) (exits_of_all ss)
all_faults check.Body ss = in_list ss
all_faults check.Bounds ss = list_faults ss

-- the places behind a colon
abbrev pub next_faults : Check → Next → List Place
next_faults sought (written colon s) = faults sought s
next_faults sought (missing colon) = []

abbrev pub all_next_faults : Check → List Next → List Place
all_next_faults sought [] = []
all_next_faults sought (next ∷ others) = next_faults sought next ++ all_next_faults sought others

-- the Exits of what brackets nothing
abbrev pub exits_in : Role → List (Kind × Place)
exits_in (stands exits) = exits
exits_in other = []

-- a name without a suffix
abbrev pub is_plain_name : Expr → Bool
is_plain_name (name identifier) = is_none identifier.suffix
is_plain_name other = false
