use Rattle.std.proofs.Common.{sym, ap, ◌∙◌}
use Rattle.std.specs.Prelude.{bytes_eq, position}
use Rattle.sheet_host.specs.Books.{Sheets, sheet_at_place, sheet_named}
use Rattle.sheet_host.proofs.Shelves.{place_same}
use Rattle.sheet_host.proofs.book.Book.sheet_named.Goals as goal

pub returns-in-Some : goal.returns-in-Some
returns-in-Some c =
    ap sheet_at_place (sym c.in-Some.is ∙ c.place_of.ensures ∙ ap (λ all. position (λ sheet. bytes_eq sheet.name c.args.name.now) all) c.deref.ensures.value
    ∙ place_same c.args.name.now c.self.inside.sheets.items c.self.invariant.names)
    ∙ ap (λ (book : Sheets). sheet_named book c.args.name.now) c.self.view_is

pub returns-in-None : goal.returns-in-None
returns-in-None c =
    ap sheet_at_place (sym c.in-None.is ∙ c.place_of.ensures ∙ ap (λ all. position (λ sheet. bytes_eq sheet.name c.args.name.now) all) c.deref.ensures.value
    ∙ place_same c.args.name.now c.self.inside.sheets.items c.self.invariant.names)
    ∙ ap (λ (book : Sheets). sheet_named book c.args.name.now) c.self.view_is
