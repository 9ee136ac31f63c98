use Rattle.std.proofs.Common.{true, refl, sym, ap, ◌∙◌, ◌||◌}
use Rattle.std.specs.List.{list_any}
use Rattle.std.specs.Prelude.{map}
use Rattle.vba_tree.specs.View.{next_view, statement_view}
use Rattle.constant_values.specs.declared_names.specs.binder.specs.Classes.{statement_makes}
use Rattle.bound_declarations.specs.NewWords.{next_makes}
use Rattle.bound_declarations.proofs.NewWords.{list_made}
use Rattle.bound_declarations.proofs.new_words.+makes.Goals as goal

pub list_makes-returns-then-statement_makes : goal.list_makes-returns-then-statement_makes
list_makes-returns-then-statement_makes t c =
    list_made c.args.list.now c.deref.result.now true (list_any next_makes (map next_view c.args.list.now.others.items)) c.deref.ensures (sym c.if-statement_makes.true ∙ c.statement_makes.ensures) refl

pub list_makes-returns : goal.list_makes-returns
list_makes-returns t c =
    ap (λ b. b || c.others_make.result) (sym c.if-statement_makes.false) ∙ list_made c.args.list.now c.deref.result.now c.statement_makes.result c.others_make.result c.deref.ensures c.statement_makes.ensures c.others_make.ensures
