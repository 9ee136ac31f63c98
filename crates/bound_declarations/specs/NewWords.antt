-- Serves the code: variables that are declared As New.
use Rattle.std.specs.Prelude.{Bool, false, List}
use Rattle.std.specs.List.{list_any}
use Rattle.vba_tree.specs.Tree.{Variable}
use Rattle.vba_tree.specs.View.{Next, written, missing}
use Rattle.constant_values.specs.declared_names.specs.binder.specs.Classes.{is_new_clause, statement_makes}

-- whether one of variables is declared so
abbrev pub any_new : List Variable → Bool
any_new vs = list_any (λ (v : Variable). is_new_clause v.type_clause) vs

-- whether one is behind a colon
abbrev pub next_makes : Next → Bool
next_makes (written colon s) = statement_makes s
next_makes (missing colon) = false
