use Rattle.std.proofs.Common.{Some, sym, subst}
use Rattle.sheet_host.specs.Pages.{AllOfPage}
use Rattle.sheet_host.proofs.Changes.{own_insert}
use Rattle.sheet_host.proofs.pages.put_slot.Goals as goal

pub returns-in-Some-Some-clause-page : goal.returns-in-Some-Some-clause-page
returns-in-Some-Some-clause-page c = λ number is was. record {
  rising = c.in_ok-insert.ensures.ordered;
  own = subst (AllOfPage number) (sym c.in_ok-insert.ensures.entries) (own_insert number (c.args.row, c.args.column) c.args.page.now.entries (Some c.args.value) (sym is) c.requires was.own);
}

pub returns-clause-page : goal.returns-clause-page
returns-clause-page c = λ number is was. record {
  rising = c.in_ok-insert.ensures.ordered;
  own = subst (AllOfPage number) (sym c.in_ok-insert.ensures.entries) (own_insert number (c.args.row, c.args.column) c.args.page.now.entries (Some c.args.value) (sym is) c.requires was.own);
}
