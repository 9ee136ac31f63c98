-- Serves the code: an array of a ReDim from a bracket on.
use Rattle.std.specs.Prelude.{List, [], ◌∷◌, Option, Some, None, option_map, if◌then◌else◌}
use Rattle.vba_lexer.specs.declared.token.Token.{Token}
use Rattle.vba_words.specs.declared.reading.ReadToken.{ReadToken}
use Rattle.vba_expression.specs.Tree.{Expr}
use Rattle.vba_tree.specs.Tree as tree
use Rattle.vba_tree.specs.View.{listed_view, dim_view, type_clause_view}
use Rattle.vba_grammar.specs.Front.{Found, ◌>>=◌, is_as, is_left, is_right, token_at, part_if, commas_at}
use Rattle.vba_grammar.specs.Clauses.{dim_at, type_clause_at, item_ends}
use Rattle.vba_grammar.specs.Statements.{array_here}
use Rattle.vba_statements.specs.declared.redim.Bounds.{Bounds as Declared}

-- the bounds, the closing bracket and the type
abbrev pub Bounds : Type 0
Bounds = tree.Listed tree.Dim × Token × Option tree.TypeClause

abbrev pub bounds_view : Declared → Bounds
bounds_view b = (listed_view dim_view b.dims, b.right, option_map type_clause_view b.type_clause)

-- the bounds and the type of an array, behind its place and bracket
abbrev pub bounds_at : List ReadToken → Found Bounds
bounds_at ts =
    commas_at dim_at ts >>= λ dims rest. token_at is_right rest >>= λ right rest2. part_if is_as type_clause_at rest2 >>= λ clause rest3.
    if item_ends rest3 then Some ((dims, right, clause), rest3) else None

-- a place behind which nothing stands
abbrev pub only_place : Found Expr → Option Expr
only_place None = None
only_place (Some (place, [])) = Some place
only_place (Some (place, t ∷ rest)) = None

-- an array of its place and its bounds
abbrev pub with_bounds : Token → Found Bounds → Option Expr → Found tree.ReDimArray
with_bounds left None place = None
with_bounds left (Some found) None = None
with_bounds left (Some found) (Some place) =
    Some (record { place = place; left = left; dims = found.0.0; right = found.0.1; type_clause = found.0.2 }, found.1)

-- an array whose place is all that stands before the bracket at the front
abbrev pub array_from : List ReadToken → List ReadToken → Found tree.ReDimArray
array_from before ts = token_at is_left ts >>= array_here before
