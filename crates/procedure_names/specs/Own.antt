-- Serves the code: the names of a body.
use Rattle.std.specs.Prelude.{◌++◌, List, [], is_some}
use Rattle.declared_names.specs.binder.specs.Declarations.{Local, Written, header_names}
use Rattle.declared_names.specs.binder.specs.Names.{Using, arranged, declared_here}
use Rattle.declared_names.specs.binder.specs.Scopes.{Scope}
use Rattle.procedure_names.specs.Added.{known_in}

-- the names of a body in a scope where those of the header and those that the body declares are known
abbrev pub own_names : Scope → Written → List Using → List Local
own_names s p us = arranged (is_some p.static_word) (known_in (record s { locals = header_names p ++ declared_here us })) us [] us
