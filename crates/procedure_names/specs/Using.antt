-- Serves the code: names of a procedure by what declares them.
use Rattle.std.specs.Prelude.{option_map}
use Rattle.vba_tree.specs.View.{type_clause_view}
use Rattle.declared_names.specs.binder.specs.Names as names
use Rattle.declared_names.specs.View.{local_view, use_view}
use Rattle.procedure_names.specs.declared.using.Using.{Using}
use Rattle.procedure_names.specs.declared.using.Using.TheVariants as using

abbrev pub using_view : Using → names.Using
using_view (using.Declaration l) = names.by_declaration (local_view l)
using_view (using.ReDim x clause) = names.by_redim x.now (option_map type_clause_view clause.now)
using_view (using.Use u) = names.by_use (use_view u.how) u.name.now
