use Rattle.std.proofs.Common.{ap₂, ◌∙◌, ℕ, ◌+◌}
use Rattle.std.specs.BTreeMap.Range.{entries_between}
use Rattle.std.specs.Ordering.{nat_cmp}
use Rattle.std.specs.declared.ops.Bound.TheVariants.{Included, Excluded}
use Rattle.sheet_host.specs.Search.{first_among_pages}
use Rattle.sheet_host.proofs.Searches.{first_written_is}
use Rattle.sheet_host.proofs.filled.first_written.Goals as goal

pub returns-then-search : goal.returns-then-search
returns-then-search c =
    first_written_is c.args.pages.now.entries c.args.search c.first_in_pages.result c.requires.pages
    (c.first_in_pages.ensures
    ∙ ap₂ (λ (first last : ℕ). first_among_pages c.args.search (entries_between nat_cmp (Included first) (Excluded (last + 1)) c.args.pages.now.entries)) c.page_of-first.ensures c.page_of-end.ensures)
