-- Serves the code: what the parts of constants and parameters stand for, and where a length is parted from a value.
use Rattle.std.specs.Prelude.{Bool, false, ◌&&◌, List, [], ◌∷◌, Option, Some, None, option_map, if◌then◌else◌}
use Rattle.vba_words.specs.declared.identifier.Identifier.{Identifier}
use Rattle.vba_words.specs.declared.reading.ReadToken.{ReadToken}
use Rattle.vba_expression.specs.Tree.{Expr}
use Rattle.vba_expression.specs.View.{view}
use Rattle.vba_tree.specs.Tree as tree
use Rattle.vba_tree.specs.View.{type_clause_view, default_view}
use Rattle.vba_grammar.specs.Front.{Found, ◌>>=◌, found_as, is_as, is_equal, part_if}
use Rattle.vba_grammar.specs.Clauses as clauses
use Rattle.vba_grammar.specs.Clauses.{halves, is_fixed, type_clause_at, default_at}
use Rattle.vba_clauses.specs.declared.halves.Halves.{Halves}
use Rattle.vba_clauses.specs.declared.values.FixedWords.{FixedWords}
use Rattle.vba_clauses.specs.declared.values.Valued.{Valued}

abbrev pub halves_view : Halves → Expr × tree.DefaultValue
halves_view h = (view h.length, default_view h.default)

abbrev pub words_view : FixedWords → clauses.FixedWords
words_view words = record { as_word = words.as_word; string_word = words.string_word; times = words.times }

abbrev pub valued_view : Valued → clauses.Valued
valued_view valued = (option_map type_clause_view valued.type_clause, option_map default_view valued.default)

-- the halves before and behind the first token behind, where it is `=`
abbrev pub halves_between : List ReadToken → List ReadToken → Found (Expr × tree.DefaultValue)
halves_between before [] = None
halves_between before (t ∷ ts) = if is_equal t.reading then halves before t.token ts else None

-- `As String *` stands at the front
abbrev pub has_fixed_clause : List ReadToken → Bool
has_fixed_clause [] = false
has_fixed_clause (t ∷ ts) = is_as t.reading && is_fixed ts

-- a type clause and a value, each where it is written
abbrev pub unfixed_at : List ReadToken → Found clauses.Valued
unfixed_at ts =
    part_if is_as type_clause_at ts >>= λ clause rest. found_as (λ default. (clause, default)) (part_if is_equal default_at rest)

-- a constant, where its value is written
abbrev pub with_value : Identifier → clauses.Valued → Option tree.Constant
with_value name valued = at valued.1
  where
    at : Option tree.DefaultValue → Option tree.Constant
    at None = None
    at (Some default) =
        Some (record { name = name; type_clause = valued.0; equal = default.equal; value = default.value })
