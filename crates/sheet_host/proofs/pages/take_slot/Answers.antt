use Rattle.std.proofs.Common.{rules, None, sym, ap, subst, ◌∙◌}
use Rattle.std.specs.Prelude.{IsTrue, is_some}
use Rattle.sheet_host.specs.Pages.{cells_of_slots, AllOfPage}
use Rattle.sheet_host.proofs.Changes.{own_insert, cells_insert, none_from, some_cond}
use Rattle.sheet_host.proofs.pages.take_slot.Goals as goal

pub returns-in_ok-insert-clause-page : goal.returns-in_ok-insert-clause-page
returns-in_ok-insert-clause-page c = λ number is was. record {
  rising = c.in_ok-insert.ensures.ordered;
  own = subst (AllOfPage number) (sym c.in_ok-insert.ensures.entries) (own_insert number (c.args.row, c.args.column) c.args.page.now.entries None (sym is) c.requires was.own);
}

pub returns-in_ok-insert-clause-same : goal.returns-in_ok-insert-clause-same
returns-in_ok-insert-clause-same c =
    ap cells_of_slots c.in_ok-insert.ensures.entries
    ∙ cells_insert (c.args.row, c.args.column) c.args.page.now.entries (none_from _ c.contains_key.result c.contains_key.ensures (search rules))

pub returns-in_ok-insert-clause-keeps : goal.returns-in_ok-insert-clause-keeps
returns-in_ok-insert-clause-keeps c = λ q has. subst (λ o. IsTrue (is_some o)) (sym (c.in_ok-insert.ensures.updates.0 q)) (some_cond _ _ _ has)
